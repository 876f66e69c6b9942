-- A Transport value of one alternative, put together, is read back.
use Rattle.std.proofs.Common.{◌≡◌, ◌≢◌, ℕ, ◌+◌, ◌-◌, ◌<◌, ◌≤◌, true, false, List, [], ◌∷◌, ◌++◌, length, take, get_or}
use Rattle.std.proofs.Common.{slice_range, reverse, codes, decimal, refl, sym, ap, subst, ◌∙◌, arith, inl, inr}
use Rattle.std.proofs.lemmas.Bool.{cond-false, and_from}
use Rattle.std.specs.List.{list_all}
use Rattle.std.specs.Char.{is_ascii_digit}
use Rattle.std.proofs.lemmas.Fmt.{digits_decimal, decimal_nonempty}
use Rattle.std.proofs.lemmas.List.{take_all, length-append, length-reverse, get_or-append-add, get_or-reverse}
use Rattle.std.proofs.lemmas.List.{append_assoc, reverse-reverse}
use Rattle.std.proofs.lemmas.List.Folds.{list_all-append}
use Rattle.vod_base.specs.Blanks.{is_blank, without_leading_blanks, without_blanks}
use Rattle.vod_base.proofs.TextLemmas.{written_read}
use Rattle.vod_base.proofs.DigitLemmas.{is_digit_at, decimal_numerals}
use Rattle.rtsp_fields.specs.SeparatedParts.{HasNone, Begins, in_lower_case}
use Rattle.rtsp_fields.specs.Transports.{IsPair, AreChannels, AsksOtherDelivery, NamesChannels, AreNamed, IsDelivery}
use Rattle.rtsp_fields.specs.Transports.{IsTransport, part_word, after_name}
use Rattle.vod_base.specs.Limits.{WritesNumber}
use Rattle.rtsp_fields.specs.declared.transports.Channels.{Channels}
use Rattle.rtsp_fields.proofs.SeparatedTexts.{text_of, long_of, part_later, part_first, part_whole, slice_first}
use Rattle.rtsp_fields.proofs.SeparatedTexts.{slice_later, none_more, none_whole, none_before, other_than, none_from}
use Rattle.rtsp_fields.proofs.SeparatedTexts.{kind_other}

-- ---- a text that neither begins nor ends with a blank

pub bare_front : (text : List ℕ) → 0 < length text → is_blank (get_or text 0 0) ≡ false → without_leading_blanks text ≡
    text
bare_front [] some other = refl
bare_front (x ∷ text) some other = cond-false (is_blank x) (without_leading_blanks text) (x ∷ text) other

pub bare : (text : List ℕ) → 0 < length text → is_blank (get_or text 0 0) ≡ false
    → is_blank (get_or text (length text - 1) 0) ≡ false → without_blanks text ≡ text
bare text some first last =
    let back : get_or (reverse text) 0 0 ≡ get_or text (length text - 1) 0 =
    get_or-reverse text 0 0 some
    ∙ ap (λ n. get_or text n 0) (let e : length text - 1 - 0 ≡ length text - 1 = omega arith in e) in
    ap (λ l. reverse (without_leading_blanks (reverse l))) (bare_front text some first)
    ∙ ap reverse (bare_front (reverse text) (omega (arith, some, length-reverse text)) (ap is_blank back ∙ last))
    ∙ reverse-reverse text

digit_blank : (b : ℕ) → is_ascii_digit b ≡ true → is_blank b ≡ false
digit_blank b digit = grind arith

-- ---- the value

-- what stands after `interleaved=`: numbers of these channels, with neither `;` nor `,` nor a blank at the end
record AreWritten (numbers : List ℕ) (channels : Channels) : Type 0 where
  no_semicolon : list_all (other_than 59) numbers ≡ true
  no_comma : list_all (other_than 44) numbers ≡ true
  some : 0 < length numbers
  no_blank : is_blank (get_or numbers (length numbers - 1) 0) ≡ false
  are : AreChannels numbers channels

named : List ℕ → List ℕ
named numbers = codes "interleaved=" ++ numbers

value : List ℕ → List ℕ
value numbers = text_of 59 (codes "RTP/AVP/TCP") (text_of 59 (codes "unicast") (named numbers))

-- no part has `;`, and the value no `,`
named_none : (numbers : List ℕ) (channels : Channels) → AreWritten numbers channels
    → HasNone 59 (named numbers) 0 (length (named numbers))
unfolding named other_than
named_none numbers channels w =
    none_from 59 (named numbers) (list_all-append (other_than 59) (codes "interleaved=") numbers
    ∙ and_from (list_all (other_than 59) (codes "interleaved=")) (list_all (other_than 59) numbers) refl w.no_semicolon)

value_none : (numbers : List ℕ) (channels : Channels) → AreWritten numbers channels
    → HasNone 44 (value numbers) 0 (length (value numbers))
unfolding value named text_of other_than
value_none numbers channels w =
    none_from 44 (value numbers) (list_all-append (other_than 44) (codes "RTP/AVP/TCP;unicast;interleaved=") numbers
    ∙ and_from (list_all (other_than 44) (codes "RTP/AVP/TCP;unicast;interleaved="))
    (list_all (other_than 44) numbers) refl w.no_comma)

pub protocol_none : HasNone 59 (codes "RTP/AVP/TCP") 0 (length (codes "RTP/AVP/TCP"))
unfolding other_than
protocol_none = none_from 59 (codes "RTP/AVP/TCP") refl

unicast_none : HasNone 59 (codes "unicast") 0 (length (codes "unicast"))
unfolding other_than
unicast_none = none_from 59 (codes "unicast") refl

-- what a part that begins with another letter isn't
pub first_letter : (part : List ℕ) (c : ℕ) → get_or (part_word part) 0 0 ≡ c → c ≢ 109 → ¬ AsksOtherDelivery part
first_letter part c is other = go
  where
    go : AsksOtherDelivery part → ⊥
    go (inl e) = other (sym is ∙ ap (λ (l : List ℕ). get_or l 0 0) e)
    go (inr e) = other (sym is ∙ begins (part_word part) e.0)
      where
        begins : (text : List ℕ) → Begins (codes "mode=") text → get_or text 0 0 ≡ 109
        begins [] b = absurd (let e : 0 ≡ 5 = ap length b in omega (arith, e))
        begins (x ∷ text) b = ap (λ (l : List ℕ). get_or l 0 0) b

pub names_none : (part : List ℕ) (c : ℕ) → get_or (part_word part) 0 0 ≡ c → c ≢ 105 → ¬ NamesChannels part
names_none part c is other = λ names. other (sym is ∙ begins (part_word part) names)
  where
    begins : (text : List ℕ) → Begins (codes "interleaved=") text → get_or text 0 0 ≡ 105
    begins [] b = absurd (let e : 0 ≡ 12 = ap length b in omega (arith, e))
    begins (x ∷ text) b = ap (λ (l : List ℕ). get_or l 0 0) b

-- the part with the channels has no blanks around it
named_long : (numbers : List ℕ) → length (named numbers) ≡ 12 + length numbers
unfolding named
named_long numbers = length-append (codes "interleaved=") numbers

named_first : (numbers : List ℕ) → is_blank (get_or (named numbers) 0 0) ≡ false
unfolding named
named_first numbers = refl

named_last : (numbers : List ℕ) (channels : Channels) → AreWritten numbers channels
    → is_blank (get_or (named numbers) (length (named numbers) - 1) 0) ≡ false
unfolding named
named_last numbers channels w =
    let place : length (named numbers) - 1 ≡ 12 + (length numbers - 1) = omega (arith, named_long numbers, w.some) in
    ap (λ k. is_blank (get_or (named numbers) k 0)) place
    ∙ ap is_blank (get_or-append-add (codes "interleaved=") numbers (length numbers - 1) 0) ∙ w.no_blank

named_bare : (numbers : List ℕ) (channels : Channels) → AreWritten numbers channels
    → without_blanks (named numbers) ≡ named numbers
named_bare numbers channels w =
    bare (named numbers) (omega (arith, named_long numbers)) (named_first numbers) (named_last numbers channels w)

named_word : (numbers : List ℕ) (channels : Channels) → AreWritten numbers channels
    → part_word (named numbers) ≡ in_lower_case (named numbers)
named_word numbers channels w = ap in_lower_case (named_bare numbers channels w)

named_names : (numbers : List ℕ) (channels : Channels) → AreWritten numbers channels → NamesChannels (named numbers)
unfolding named
named_names numbers channels w =
    subst (λ (l : List ℕ). Begins (codes "interleaved=") l) (sym (named_word numbers channels w)) refl

named_plain : (numbers : List ℕ) (channels : Channels) → AreWritten numbers channels
    → ¬ AsksOtherDelivery (named numbers)
unfolding named
named_plain numbers channels w =
    first_letter (named numbers) 105 (ap (λ (l : List ℕ). get_or l 0 0) (named_word numbers channels w)) (omega arith)

after_named : (numbers : List ℕ) → after_name (named numbers) ≡ numbers
unfolding named
after_named numbers =
    take_all (length (codes "interleaved=" ++ numbers) - 12) numbers (omega (arith, named_long numbers))

rest_of : List ℕ → List ℕ
rest_of numbers = text_of 59 (codes "unicast") (named numbers)

are_named : (numbers : List ℕ) (channels : Channels) → AreWritten numbers channels → AreNamed (value numbers) channels
unfolding value rest_of
are_named numbers channels w =
    let I = named numbers in
    let U = rest_of numbers in
    let last = part_whole 59 I (named_none numbers channels w) in
    let middle = part_later 59 (codes "unicast") I 0 (length I) last in
    let to = 7 + 1 + length I in
    let is : slice_range (value numbers) (11 + 1 + (7 + 1 + 0)) (11 + 1 + to) ≡ I =
    slice_later 59 (codes "RTP/AVP/TCP") U (7 + 1 + 0) to (omega arith)
    ∙ slice_later 59 (codes "unicast") I 0 (length I) (omega arith)
    ∙ take_all (length I - 0) I (omega arith) in
    record {
      from = 11 + 1 + (7 + 1 + 0);
      to = 11 + 1 + to;
      part = part_later 59 (codes "RTP/AVP/TCP") U (7 + 1 + 0) to middle;
      names = subst NamesChannels (sym is) (named_names numbers channels w);
      first = none_before NamesChannels protocol_none (names_none (codes "RTP/AVP/TCP") 114 refl (omega arith))
          (none_before {c = 59} {a = codes "unicast"} {rest = I} {at = 0} NamesChannels unicast_none
          (names_none (codes "unicast") 117 refl (omega arith)) (λ k end below p. absurd (omega (arith, below))));
      are = subst (λ (t : List ℕ). AreChannels (after_name (without_blanks t)) channels) (sym is)
          (subst (λ (t : List ℕ). AreChannels (after_name t) channels) (sym (named_bare numbers channels w))
          (subst (λ (t : List ℕ). AreChannels t channels) (sym (after_named numbers)) w.are));
    }

taken : (numbers : List ℕ) (channels : Channels) → AreWritten numbers channels → IsDelivery (value numbers) channels
unfolding value rest_of
taken numbers channels w = record {
  end = 11;
  first = part_first 59 (codes "RTP/AVP/TCP") (rest_of numbers) protocol_none;
  protocol = ap part_word (slice_first 59 (codes "RTP/AVP/TCP") (rest_of numbers));
  plain = none_more AsksOtherDelivery protocol_none (first_letter (codes "RTP/AVP/TCP") 114 refl (omega arith))
      (none_more AsksOtherDelivery unicast_none (first_letter (codes "unicast") 117 refl (omega arith))
      (none_whole 59 (named numbers) AsksOtherDelivery (named_none numbers channels w)
      (named_plain numbers channels w)));
  has = inl (are_named numbers channels w);
}

-- one alternative that can be taken is the value's
pub alone : (text : List ℕ) (channels : Channels) → HasNone 44 text 0 (length text) → IsDelivery text channels
    → IsTransport text channels
alone text channels none is =
    let whole : slice_range text 0 (length text) ≡ text = take_all (length text - 0) text (omega arith) in
    record {
      from = 0;
      to = length text;
      part = part_whole 44 text none;
      taken = subst (λ (t : List ℕ). IsDelivery t channels) (sym whole) is;
      first = λ k end below p. absurd (omega (arith, below));
    }

written_read_back : (numbers : List ℕ) (channels : Channels) → AreWritten numbers channels
    → IsTransport (codes "RTP/AVP/TCP;unicast;interleaved=" ++ numbers) channels
unfolding value named text_of
written_read_back numbers channels w =
    alone (value numbers) channels (value_none numbers channels w) (taken numbers channels w)

-- ---- the numbers of channels

digits : (n : ℕ) → n ≤ 255 → list_all is_ascii_digit (decimal n) ≡ true
digits n small = digits_decimal decimal_numerals n (omega (arith, small))

number_free : (c n : ℕ) → is_ascii_digit c ≡ false → n ≤ 255 → list_all (other_than c) (decimal n) ≡ true
number_free c n no_digit small = kind_other is_ascii_digit c (decimal n) no_digit (digits n small)

dash_other : (c : ℕ) → c ≢ 45 → other_than c 45 ≡ true
unfolding other_than
dash_other c dash = grind arith

-- a byte that stands in no pair of numbers
record IsSeparator (c : ℕ) : Type 0 where
  no_digit : is_ascii_digit c ≡ false
  no_dash : c ≢ 45

pair_free : {c : ℕ} (m n : ℕ) → IsSeparator c → m ≤ 255 → n ≤ 255
    → list_all (other_than c) (decimal m ++ 45 ∷ decimal n) ≡ true
pair_free {c} m n separator small fits =
    list_all-append (other_than c) (decimal m) (45 ∷ decimal n)
    ∙ and_from (list_all (other_than c) (decimal m)) (list_all (other_than c) (45 ∷ decimal n))
    (number_free c m separator.no_digit small)
    (and_from (other_than c 45) (list_all (other_than c) (decimal n)) (dash_other c separator.no_dash)
    (number_free c n separator.no_digit fits))

number_some : (n : ℕ) → n ≤ 255 → 0 < length (decimal n)
number_some n small = decimal_nonempty n (omega (arith, small))

-- a number after other bytes ends with no blank
last_digit : (front : List ℕ) (n : ℕ) → n ≤ 255
    → is_blank (get_or (front ++ decimal n) (length (front ++ decimal n) - 1) 0) ≡ false
last_digit front n fits =
    let some = number_some n fits in
    let place : length (front ++ decimal n) - 1 ≡ length front + (length (decimal n) - 1) =
    omega (arith, length-append front (decimal n), some) in
    ap (λ k. is_blank (get_or (front ++ decimal n) k 0)) place
    ∙ ap is_blank (get_or-append-add front (decimal n) (length (decimal n) - 1) 0)
    ∙ digit_blank (get_or (decimal n) (length (decimal n) - 1) 0)
    (is_digit_at (decimal n) (length (decimal n) - 1) (digits n fits) (omega (arith, some)))

within : (most n : ℕ) → n ≤ most → most ≤ 255 → WritesNumber 0 most (decimal n) n
within most n fits few =
    record { is_number = written_read 0 n (omega (arith, fits, few)); above = omega arith; below = fits }

pair : (m n : ℕ) → m ≤ 255 → n ≤ 255 → m ≢ n → IsPair (decimal m ++ 45 ∷ decimal n) (record { media = m; control = n })
unfolding text_of
pair m n small fits differ =
    let text = text_of 45 (decimal m) (decimal n) in
    let dash = length (decimal m) in
    let none : HasNone 45 (decimal m) 0 dash = none_from 45 (decimal m) (number_free 45 m refl small) in
    let part = part_first 45 (decimal m) (decimal n) none in
    let long = long_of 45 (decimal m) (decimal n) in
    let first : take dash text ≡ decimal m =
    ap (λ k. take k text) (let e : dash ≡ dash - 0 = omega arith in e) ∙ slice_first 45 (decimal m) (decimal n) in
    let last : slice_range text (dash + 1) (length text) ≡ decimal n =
    ap (λ k. slice_range text (dash + 1) k) long
    ∙ ap (λ k. slice_range text k (dash + 1 + length (decimal n))) (let e : dash + 1 ≡ dash + 1 + 0 = omega arith in e)
    ∙ slice_later 45 (decimal m) (decimal n) 0 (length (decimal n)) (omega arith)
    ∙ take_all (length (decimal n) - 0) (decimal n) (omega arith) in
    record {
      dash = dash;
      is_dash = part.end;
      inside = omega (arith, long);
      media = subst (λ (t : List ℕ). WritesNumber 0 255 t m) (sym first) (within 255 m small (omega arith));
      control = subst (λ (t : List ℕ). WritesNumber 0 255 t n) (sym last) (within 255 n fits (omega arith));
      differ = differ;
    }

-- two channels
pub transport_read : (media control : ℕ) → media ≤ 255 → control ≤ 255 → media ≢ control →
    IsTransport (codes "RTP/AVP/TCP;unicast;interleaved=" ++ (decimal media ++ 45 ∷ decimal control))
    (record { media = media; control = control })
transport_read m n small fits differ =
    let whole : (decimal m ++ 45 ∷ []) ++ decimal n ≡ decimal m ++ 45 ∷ decimal n =
    append_assoc (decimal m) (45 ∷ []) (decimal n) in
    written_read_back (decimal m ++ 45 ∷ decimal n) (record { media = m; control = n }) (record {
      no_semicolon = pair_free m n (record { no_digit = refl; no_dash = omega arith }) small fits;
      no_comma = pair_free m n (record { no_digit = refl; no_dash = omega arith }) small fits;
      some = omega (arith, length-append (decimal m) (45 ∷ decimal n));
      no_blank = subst (λ (l : List ℕ). is_blank (get_or l (length l - 1) 0) ≡ false) whole
          (last_digit (decimal m ++ 45 ∷ []) n fits);
      are = inl (pair m n small fits differ);
    })

-- one channel, which means the next one too
pub single_read : (media : ℕ) → media ≤ 254
    → IsTransport (codes "RTP/AVP/TCP;unicast;interleaved=" ++ decimal media)
    (record { media = media; control = media + 1 })
single_read m small =
    let fits : m ≤ 255 = omega (arith, small) in
    written_read_back (decimal m) (record { media = m; control = m + 1 }) (record {
      no_semicolon = number_free 59 m refl fits;
      no_comma = number_free 44 m refl fits;
      some = number_some m fits;
      no_blank = last_digit [] m fits;
      are = inr (record { media = within 254 m small (omega arith); control = refl });
    })
