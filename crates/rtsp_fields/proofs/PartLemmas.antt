-- What the parts of a Transport header come to.
use Rattle.std.proofs.Common.{◌≡◌, ◌≢◌, ℕ, ◌+◌, ◌<◌, ◌≤◌, List, length, take, refl, sym, ◌∙◌, ap, subst, arith, inl}
use Rattle.std.proofs.Common.{inr, slice_range, codes, MatchOption, Option, Some, None}
use Rattle.std.proofs.lemmas.List.{length-map, length-take}
use Rattle.std.proofs.lemmas.Option.{same_Some}
use Rattle.vod_base.specs.Blanks.{without_blanks}
use Rattle.rtsp_fields.specs.SeparatedParts.{IsPartEnd, NoPart, Begins, in_lower_case}
use Rattle.vod_base.specs.Limits.{WritesNumber}
use Rattle.rtsp_fields.specs.Transports.{IsPair, IsSingle, AreChannels, part_word, AsksOtherDelivery, NamesChannels}
use Rattle.rtsp_fields.specs.Transports.{HasChannels, AreNamed, IsDelivery, CanBeTaken, IsTransport, after_name}
use Rattle.rtsp_fields.specs.declared.transports.Channels.{Channels}
use Rattle.rtsp_fields.proofs.PartPlaces.{FirstPart, NextPart, end_once, first_once, found_part}

-- a pair, cut at its dash
pub record IsPairAt (text : List ℕ) (dash : ℕ) (channels : Channels) : Type 0 where
  pub media : WritesNumber 0 255 (take dash text) channels.media
  pub control : WritesNumber 0 255 (slice_range text (dash + 1) (length text)) channels.control
  pub inside : dash < length text
  pub differ : channels.media ≢ channels.control

pub pair_at : {text : List ℕ} {dash : ℕ} {channels : Channels} → IsPartEnd 45 text 0 dash → IsPair text channels
    → IsPairAt text dash channels
pair_at {text} {channels} e p =
    let same = end_once p.is_dash e in
    subst (λ (d : ℕ). IsPairAt text d channels) same
    (record { media = p.media; control = p.control; inside = p.inside; differ = p.differ })

-- one text writes one number
pub within_once : {low high : ℕ} {text : List ℕ} {a b : ℕ} → WritesNumber low high text a → WritesNumber low high text b
    → a ≡ b
within_once {a} {b} x y = same_Some a b (sym x.is_number ∙ y.is_number)

-- no pair, and one number or not
pub pair_or_single : (o : Option Channels) (text : List ℕ) → ((channels : Channels) → ¬ IsPair text channels) →
    MatchOption o ((channels : Channels) → ¬ IsSingle text channels) (IsSingle text)
    → MatchOption o ((channels : Channels) → ¬ AreChannels text channels) (AreChannels text)
pair_or_single None text none h =
    λ channels are. elim are [ inl pair ↦ none channels pair | inr single ↦ h channels single ]
pair_or_single (Some channels) text none h = inr h

-- a text that begins with the name has its bytes
pub name_within : (part : List ℕ) → Begins (codes "interleaved=") (in_lower_case part) → 12 ≤ length part
name_within part b = let e = simp (length-map, length-take) at (ap length b) in omega (arith, e)

-- the first part that names channels gives them
abbrev pub named_part : {text : List ℕ} {channels : Channels} → AreNamed text channels → FirstPart NamesChannels 59 text
named_part x = record { from = x.from; to = x.to; part = x.part; holds = x.names; first = x.first }

named_channels : {text : List ℕ} (o : Option Channels) (f : FirstPart NamesChannels 59 text) →
    MatchOption o
    ((channels : Channels) →
    ¬ AreChannels (after_name (without_blanks (slice_range text f.from f.to))) channels)
    (AreChannels (after_name (without_blanks (slice_range text f.from f.to)))) →
    MatchOption o ((channels : Channels) → ¬ HasChannels text channels) (HasChannels text)
named_channels {text} None f h = λ channels has. elim has [
  | inl named ↦
      let same = first_once NamesChannels (named_part named) f in
      let P : ℕ → Type 0 = λ n. AreChannels (after_name (without_blanks (slice_range text n named.to))) channels in
      let Q : ℕ → Type 0 = λ n. AreChannels (after_name (without_blanks (slice_range text f.from n))) channels in
      h channels (subst Q same.1 (subst P same.0 named.are))
  | inr default ↦ default.none f.from f.to f.part f.holds
]
named_channels {text} (Some channels) f h =
    inl (record { from = f.from; to = f.to; part = f.part; names = f.holds; first = f.first; are = h })

pub channels_found : {text : List ℕ} (o : Option Channels) (n : NextPart NamesChannels 59 text) → NamesChannels n.part →
    MatchOption o
    ((channels : Channels) →
    ¬ AreChannels (after_name (without_blanks n.part)) channels)
    (AreChannels (after_name (without_blanks n.part))) →
    MatchOption o ((channels : Channels) → ¬ HasChannels text channels) (HasChannels text)
channels_found o n names are =
    let found = found_part n names in
    named_channels o found.0
    (subst (λ (t : List ℕ). MatchOption o
    ((channels : Channels) → ¬ AreChannels (after_name (without_blanks t)) channels)
    (AreChannels (after_name (without_blanks t)))) found.1 are)

-- no alternative with another first part can be taken
pub other_protocol : (text : List ℕ) (end : ℕ) (channels : Channels) → IsPartEnd 59 text 0 end
    → (part_word (take end text) ≢ codes "rtp/avp/tcp") → IsDelivery text channels → ⊥
other_protocol text end channels e other t =
    let same : t.end ≡ end = end_once t.first.end e in
    let P : ℕ → Type 0 = λ n. part_word (take n text) ≡ codes "rtp/avp/tcp" in
    other (subst P same t.protocol)

-- an alternative with that first part and no other part is taken with its channels
pub taken_channels : {text : List ℕ} {end : ℕ} (o : Option Channels) → IsPartEnd 59 text 0 end →
    part_word (take end text) ≡ codes "rtp/avp/tcp" → NoPart 59 text AsksOtherDelivery →
    MatchOption o ((channels : Channels) → ¬ HasChannels text channels) (HasChannels text)
    → MatchOption o ((channels : Channels) → ¬ IsDelivery text channels) (IsDelivery text)
taken_channels {text} {end} None e protocol plain h = λ channels t. h channels t.has
taken_channels {text} {end} (Some channels) e protocol plain h =
    record { end = end; first = record { start = inl refl; end = e }; protocol = protocol; plain = plain; has = h }

pub not_taken : (text : List ℕ) → ((channels : Channels) → ¬ IsDelivery text channels) → ¬ CanBeTaken text
not_taken text none = λ t. none t.0 t.1

pub no_transport : (value : List ℕ) (channels : Channels) → NoPart 44 value CanBeTaken → IsTransport value channels → ⊥
no_transport value channels none t = none t.from t.to t.part (channels, t.taken)

pub transport_found : {value : List ℕ} {channels : Channels} (n : NextPart CanBeTaken 44 value) →
    IsDelivery n.part channels → IsTransport value channels
transport_found {channels = channels} n taken =
    let found = found_part n (channels, taken) in
    record {
      from = found.0.from;
      to = found.0.to;
      part = found.0.part;
      taken = subst (λ (t : List ℕ). IsDelivery t channels) found.1 taken;
      first = found.0.first;
    }
