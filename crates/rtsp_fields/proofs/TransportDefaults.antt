-- A Transport value of one alternative that names no channels.
use Rattle.std.proofs.Common.{◌≡◌, ℕ, ◌-◌, true, List, [], ◌∷◌, ◌++◌, All, codes, flat_map, length, get_or}
use Rattle.std.proofs.Common.{slice_range, take, refl, sym, ap, subst, ◌∙◌, arith, inr}
use Rattle.std.specs.List.{list_all}
use Rattle.std.proofs.lemmas.Bool.{and_from}
use Rattle.std.proofs.lemmas.List.{take_all, append-nil}
use Rattle.std.proofs.lemmas.List.Elements.{All-head, All-tail}
use Rattle.std.proofs.lemmas.List.Folds.{list_all-append}
use Rattle.rtsp_fields.specs.Laws.{IsOtherParameter, IsPlayParameter, IsSpelling}
use Rattle.rtsp_fields.specs.SeparatedParts.{HasNone, IsPart, NoPart}
use Rattle.rtsp_fields.specs.Transports.{AsksOtherDelivery, NamesChannels, IsDelivery, IsTransport, part_word}
use Rattle.rtsp_fields.specs.declared.transports.Channels.{Channels}
use Rattle.rtsp_fields.proofs.SeparatedTexts.{text_of, other_than, none_from, part_first, part_whole, none_more}
use Rattle.rtsp_fields.proofs.SeparatedTexts.{none_whole, slice_first}
use Rattle.rtsp_fields.proofs.TransportSpellings.{IsPlainPart, plain_part, protocol_word, spelled_free}
use Rattle.rtsp_fields.proofs.TransportTexts.{first_letter, names_none}

-- a part and those after it
joined : List ℕ → List (List ℕ) → List ℕ
joined part [] = part
joined part (next ∷ more) = text_of 59 part (joined next more)

joined_is : (part : List ℕ) (parts : List (List ℕ)) → joined part parts ≡ part ++ flat_map (λ p. codes ";" ++ p) parts
unfolding joined text_of
joined_is part [] = sym (append-nil part)
joined_is part (next ∷ more) = ap (λ l. part ++ 59 ∷ l) (joined_is next more)

no_semicolon : (part : List ℕ) → IsPlainPart part → HasNone 59 part 0 (length part)
no_semicolon part other = none_from 59 part other.no_semicolon

-- one part, which is no such text
record IsOnePart (P : List ℕ → Type 0) (part : List ℕ) : Type 0 where
  no_semicolon : HasNone 59 part 0 (length part)
  isnt : ¬ P part

-- none of the parts is such a text
none_of : {part : List ℕ} (P : List ℕ → Type 0) → ((part : List ℕ) → IsPlainPart part → ¬ P part) →
    (parts : List (List ℕ)) → IsOnePart P part →
    All IsPlainPart parts → NoPart 59 (joined part parts) P
unfolding joined
none_of {part} P is_other [] one all = none_whole 59 part P one.no_semicolon one.isnt
none_of P is_other (next ∷ more) one all =
    let other = All-head IsPlainPart next more all in
    none_more P one.no_semicolon one.isnt
    (none_of P is_other more (record { no_semicolon = no_semicolon next other; isnt = is_other next other })
    (All-tail IsPlainPart next more all))

first_of : (part : List ℕ) (parts : List (List ℕ)) → HasNone 59 part 0 (length part)
    → IsPart 59 (joined part parts) 0 (length part)
unfolding joined
first_of part [] none = part_whole 59 part none
first_of part (next ∷ more) none = part_first 59 part (joined next more) none

front_of : (part : List ℕ) (parts : List (List ℕ)) → slice_range (joined part parts) 0 (length part) ≡ part
unfolding joined
front_of part [] = take_all (length part - 0) part (omega arith)
front_of part (next ∷ more) = slice_first 59 part (joined next more)

no_comma : (part : List ℕ) (parts : List (List ℕ)) → list_all (other_than 44) part ≡ true
    → All IsPlainPart parts → list_all (other_than 44) (joined part parts) ≡ true
unfolding joined text_of other_than
no_comma part [] none all = none
no_comma part (next ∷ more) none all =
    list_all-append (other_than 44) part (59 ∷ joined next more)
    ∙ and_from (list_all (other_than 44) part) (list_all (other_than 44) (59 ∷ joined next more)) none
    (no_comma next more (All-head IsPlainPart next more all).no_comma (All-tail IsPlainPart next more all))

abbrev default : Channels
default = record { media = 0; control = 1 }

-- the protocol of a value is spelled in some way, and its other parts ask for nothing else
record IsPlainValue (protocol : List ℕ) (parts : List (List ℕ)) : Type 0 where
  spelling : IsSpelling (codes "rtp/avp/tcp") protocol
  all : All IsPlainPart parts

protocol_free : (protocol : List ℕ) → IsSpelling (codes "rtp/avp/tcp") protocol
    → HasNone 59 protocol 0 (length protocol)
unfolding other_than
protocol_free protocol s = none_from 59 protocol (spelled_free 59 (codes "rtp/avp/tcp") protocol (refl, refl) refl s)

comma_free : (protocol : List ℕ) → IsSpelling (codes "rtp/avp/tcp") protocol → list_all (other_than 44) protocol ≡ true
unfolding other_than
comma_free protocol s = spelled_free 44 (codes "rtp/avp/tcp") protocol (refl, refl) refl s

taken : (protocol : List ℕ) (parts : List (List ℕ)) → IsPlainValue protocol parts
    → IsDelivery (joined protocol parts) default
taken protocol parts v =
    let word = protocol_word protocol v.spelling in
    let first : get_or (part_word protocol) 0 0 ≡ 114 = ap (λ (l : List ℕ). get_or l 0 0) word in
    let width : length protocol - 0 ≡ length protocol = omega arith in
    let front : take (length protocol) (joined protocol parts) ≡ protocol =
    ap (λ n. take n (joined protocol parts)) (sym width) ∙ front_of protocol parts in
    let free = protocol_free protocol v.spelling in
    record {
      end = length protocol;
      first = first_of protocol parts free;
      protocol = ap part_word front ∙ word;
      plain = none_of AsksOtherDelivery (λ part other. other.plain) parts
          (record { no_semicolon = free; isnt = first_letter protocol 114 first (omega arith) }) v.all;
      has = inr (record {
        none = none_of NamesChannels (λ part other. other.nameless) parts
            (record { no_semicolon = free; isnt = names_none protocol 114 first (omega arith) }) v.all;
        media = refl;
        control = refl;
      });
    }

plain_read : (protocol : List ℕ) (parts : List (List ℕ)) → IsPlainValue protocol parts
    → IsTransport (protocol ++ flat_map (λ p. codes ";" ++ p) parts) default
plain_read protocol parts v =
    let text = joined protocol parts in
    let whole : slice_range text 0 (length text) ≡ text = take_all (length text - 0) text (omega arith) in
    subst (λ (t : List ℕ). IsTransport t default) (joined_is protocol parts) (record {
      from = 0;
      to = length text;
      part = part_whole 44 text (none_from 44 text (no_comma protocol parts (comma_free protocol v.spelling) v.all));
      taken = subst (λ (t : List ℕ). IsDelivery t default) (sym whole) (taken protocol parts v);
      first = λ k end below p. absurd (omega (arith, below));
    })

all_plain : (parts : List (List ℕ)) → All IsPlayParameter parts → All IsPlainPart parts
all_plain parts all = λ k part within. plain_part (get_or parts k part) (all k part within)

-- the words of a value in any case, with blanks around its parts
pub spelled_read : (protocol : List ℕ) (parts : List (List ℕ)) → IsSpelling (codes "rtp/avp/tcp") protocol
    → All IsPlayParameter parts → IsTransport (protocol ++ flat_map (λ p. codes ";" ++ p) parts) default
spelled_read protocol parts spelling all =
    plain_read protocol parts (record { spelling = spelling; all = all_plain parts all })

-- the channels are 0 and 1
pub default_read : (parts : List (List ℕ)) → All IsOtherParameter parts
    → IsTransport (codes "RTP/AVP/TCP" ++ flat_map (λ p. codes ";" ++ p) parts) default
default_read parts all =
    spelled_read (codes "RTP/AVP/TCP") parts (record {
      front = [];
      letters = codes "RTP/AVP/TCP";
      back = [];
      text_is = refl;
      front_is_blank = refl;
      back_is_blank = refl;
      same = refl;
    }) (λ k part within. inr (inr (all k part within)))
