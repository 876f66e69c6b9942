-- A text has one meaning.
use Rattle.std.proofs.Common.{◌≡◌, ◌≢◌, ℕ, ◌+◌, ◌<◌, ◌≤◌, ◌⊎◌, List, length, take, get_or, refl, sym, ◌∙◌, ap, subst}
use Rattle.std.proofs.Common.{arith, inl, inr, slice_range, Option, Some, None, true, nat_lt, ltb-true}
use Rattle.std.specs.List.{list_all}
use Rattle.std.specs.Int.{IsInRange}
use Rattle.std.specs.Char.{is_ascii_digit}
use Rattle.std.proofs.lemmas.Bool.{and_parts}
use Rattle.std.proofs.lemmas.Str.Parse.{not_in_digits}
use Rattle.vod_base.specs.Blanks.{without_blanks}
use Rattle.vod_base.specs.Numbers.{is_decimal}
use Rattle.rtsp_fields.specs.NptTimes.{IsDigits, IsClock, AreSeconds, IsFraction, IsTime}
use Rattle.rtsp_fields.specs.Ranges.{IsOrigin, IsLimit, IsSpan}
use Rattle.rtsp_fields.specs.Transports.{IsPair, IsSingle, AreChannels, NamesChannels, HasChannels, IsDelivery}
use Rattle.rtsp_fields.specs.Transports.{CanBeTaken, IsTransport, after_name}
use Rattle.rtsp_fields.specs.Urls.{NamesFilm}
use Rattle.rtsp_fields.specs.declared.transports.Channels.{Channels}
use Rattle.rtsp_fields.specs.declared.ranges.Origin.{Origin}
use Rattle.rtsp_fields.specs.declared.ranges.Origin.TheVariants.{Now, At}
use Rattle.rtsp_fields.specs.declared.ranges.Span.{Span}
use Rattle.std.proofs.lemmas.List.{length-take, take-take, get_or-take}
use Rattle.std.proofs.Math.Nat.{min-le_left}
use Rattle.vod_base.proofs.DigitLemmas.{decimal_numerals}
use Rattle.rtsp_text.proofs.NumberTexts.{number_read}
use Rattle.rtsp_fields.proofs.PartPlaces.{end_once, first_once}
use Rattle.rtsp_fields.proofs.PartLemmas.{IsPairAt, named_part, pair_at, within_once}
use Rattle.rtsp_fields.proofs.ClockTimes.{clock_at, value_once}

-- a decimal text has no byte of another kind
pub no_other_byte : (text : List ℕ) (c i : ℕ) → is_decimal text ≡ true → ¬ (IsInRange 48 57 c) → i < length text
    → get_or text i 0 ≢ c
no_other_byte text c i decimal other inside =
    not_in_digits decimal_numerals text c
    (and_parts (nat_lt 0 (length text)) (list_all is_ascii_digit text) decimal).1 other i inside

-- digits aren't a clock time
pub digits_no_clock : (text : List ℕ) (a b : ℕ) → IsDigits 9 text a → IsClock text b → ⊥
digits_no_clock text a b d clock =
    let inside : clock.first < length text = omega (arith, clock.minutes_end.after, clock.at.inside) in
    no_other_byte text 58 clock.first d.decimal (λ r. omega (arith, r)) inside (clock.hours_end.ends inside)

pub clock_once : (text : List ℕ) (a b : ℕ) → IsClock text a → IsClock text b → a ≡ b
clock_once text a b x y =
    let at = clock_at (record { hours_end = y.hours_end; minutes_end = y.minutes_end }) x in
    let hours : x.hours ≡ y.hours = value_once 5 _ _ _ at.are_hours y.at.are_hours in
    let minutes : x.minutes ≡ y.minutes = value_once 2 _ _ _ at.are_minutes y.at.are_minutes in
    let rest : x.rest ≡ y.rest = value_once 2 _ _ _ at.are_seconds y.at.are_seconds in
    omega (arith, hours, minutes, rest, x.seconds_are, y.seconds_are)

pub seconds_once : (text : List ℕ) (a b : ℕ) → AreSeconds text a → AreSeconds text b → a ≡ b
seconds_once text a b (inl x) (inl y) = value_once 9 text a b x y
seconds_once text a b (inl x) (inr y) = absurd (digits_no_clock text a b x y)
seconds_once text a b (inr x) (inl y) = absurd (digits_no_clock text b a y x)
seconds_once text a b (inr x) (inr y) = clock_once text a b x y

part_once : (text : List ℕ) (point a b : ℕ) →
    ((point ≡ length text) × (a ≡ 0))
    ⊎ ((point < length text) × IsFraction (slice_range text (point + 1) (length text)) a) →
    ((point ≡ length text) × (b ≡ 0))
    ⊎ ((point < length text) × IsFraction (slice_range text (point + 1) (length text)) b) → a ≡ b
part_once text point a b (inl x) (inl y) = x.1 ∙ sym y.1
part_once text point a b (inl x) (inr y) = omega (arith, x.0, y.0)
part_once text point a b (inr x) (inl y) = omega (arith, x.0, y.0)
part_once text point a b (inr x) (inr y) = x.1.value ∙ sym y.1.value

pub time_once : (text : List ℕ) (a b : ℕ) → IsTime text a → IsTime text b → a ≡ b
time_once text a b x y =
    let point : x.point ≡ y.point = end_once x.point_is y.point_is in
    let W : ℕ → Type 0 = λ n. AreSeconds (take n text) x.seconds in
    let seconds : x.seconds ≡ y.seconds =
    seconds_once (take y.point text) x.seconds y.seconds (subst W point x.whole) y.whole in
    let P : ℕ → Type 0 =
    λ n. ((n ≡ length text) × (x.fraction ≡ 0))
    ⊎ ((n < length text) × IsFraction (slice_range text (n + 1) (length text)) x.fraction) in
    let fraction : x.fraction ≡ y.fraction =
    part_once text y.point x.fraction y.fraction (subst P point x.part) y.part in
    omega (arith, seconds, fraction, x.nanoseconds_are, y.nanoseconds_are)

-- digits begin with a digit
first_digit : (text : List ℕ) (n : ℕ) → is_decimal (take n text) ≡ true → ¬ (IsInRange 48 57 (get_or text 0 0)) → ⊥
first_digit text n decimal other =
    let some : 0 < length (take n text) =
    ltb-true 0 (length (take n text))
    (and_parts (nat_lt 0 (length (take n text))) (list_all is_ascii_digit (take n text)) decimal).0 in
    let many : 0 < n = omega (arith, length-take n text, some, min-le_left n (length text)) in
    no_other_byte (take n text) (get_or text 0 0) 0 decimal other some (get_or-take n text 0 0 many)

-- a time begins with a digit
pub no_time : (text : List ℕ) (n : ℕ) → ¬ (IsInRange 48 57 (get_or text 0 0)) → IsTime text n → ⊥
no_time text n other t = elim t.whole [
  | inl digits ↦ first_digit text t.point digits.decimal other
  | inr clock ↦
      let within : clock.first ≤ t.point =
      omega (arith, clock.hours_end.within, length-take t.point text, min-le_left t.point (length text)) in
      let P : List ℕ → Type 0 = λ ds. is_decimal ds ≡ true in
      first_digit text clock.first (subst P (take-take _ t.point text within) clock.at.are_hours.decimal) other
]

origin_once : (text : List ℕ) (a b : Origin) → IsOrigin text a → IsOrigin text b → a ≡ b
origin_once text Now Now x y = refl
origin_once text Now (At n) x y = absurd (no_time text n (rw x (λ r. omega (arith, r))) y)
origin_once text (At n) Now x y = absurd (no_time text n (rw y (λ r. omega (arith, r))) x)
origin_once text (At n) (At m) x y = ap (λ k. At k) (time_once text n m x y)

limit_once : (text : List ℕ) (a b : Option ℕ) → IsLimit text a → IsLimit text b → a ≡ b
limit_once text None None x y = refl
limit_once text None (Some n) x y = absurd (no_time text n (rw x (λ r. omega (arith, r))) y)
limit_once text (Some n) None x y = absurd (no_time text n (rw y (λ r. omega (arith, r))) x)
limit_once text (Some n) (Some m) x y = ap (λ k. Some k) (time_once text n m x y)

pub span_once : (value : List ℕ) (a b : Span) → IsSpan value a → IsSpan value b → a ≡ b
span_once value a b x y =
    let dash : x.dash ≡ y.dash = end_once x.is_dash y.is_dash in
    let F : ℕ → Type 0 = λ n. IsOrigin (slice_range value 4 n) a.from in
    let from : a.from ≡ b.from = origin_once (slice_range value 4 y.dash) a.from b.from (subst F dash x.from) y.from in
    let T : ℕ → Type 0 = λ n. IsLimit (slice_range value (n + 1) (length value)) a.to in
    let to : a.to ≡ b.to =
    limit_once (slice_range value (y.dash + 1) (length value)) a.to b.to (subst T dash x.to) y.to in
    let S : Origin → Span = λ o. record { from = o; to = a.to } in
    let U : Option ℕ → Span = λ o. record { from = b.from; to = o } in
    ap S from ∙ ap U to

same_channels : (a b : Channels) → a.media ≡ b.media → a.control ≡ b.control → a ≡ b
same_channels a b media control =
    let M : ℕ → Channels = λ n. record { media = n; control = a.control } in
    let C : ℕ → Channels = λ n. record { media = b.media; control = n } in
    ap M media ∙ ap C control

-- one number has no dash
not_both_forms : (text : List ℕ) (a b : Channels) → IsPair text a → IsSingle text b → ⊥
not_both_forms text a b pair single =
    no_other_byte text 45 pair.dash (number_read text b.media single.media.is_number).0 (λ r. omega (arith, r))
    pair.inside (pair.is_dash.ends pair.inside)

channels_once : (text : List ℕ) (a b : Channels) → AreChannels text a → AreChannels text b → a ≡ b
channels_once text a b (inl x) (inl y) =
    let p : IsPairAt text y.dash a = pair_at y.is_dash x in
    same_channels a b (within_once p.media y.media)
    (within_once p.control y.control)
channels_once text a b (inl x) (inr y) = absurd (not_both_forms text a b x y)
channels_once text a b (inr x) (inl y) = absurd (not_both_forms text b a y x)
channels_once text a b (inr x) (inr y) =
    let media : a.media ≡ b.media = within_once x.media y.media in
    same_channels a b media (x.control ∙ ap (λ n. n + 1) media ∙ sym y.control)

has_once : (text : List ℕ) (a b : Channels) → HasChannels text a → HasChannels text b → a ≡ b
has_once text a b (inl x) (inl y) =
    let same = first_once NamesChannels (named_part x) (named_part y) in
    let P : ℕ → Type 0 = λ n. AreChannels (after_name (without_blanks (slice_range text n x.to))) a in
    let Q : ℕ → Type 0 = λ n. AreChannels (after_name (without_blanks (slice_range text y.from n))) a in
    channels_once (after_name (without_blanks (slice_range text y.from y.to))) a b
    (subst Q same.1 (subst P same.0 x.are)) y.are
has_once text a b (inl x) (inr y) = absurd (y.none x.from x.to x.part x.names)
has_once text a b (inr x) (inl y) = absurd (x.none y.from y.to y.part y.names)
has_once text a b (inr x) (inr y) = same_channels a b (x.media ∙ sym y.media) (x.control ∙ sym y.control)

pub transport_once : (value : List ℕ) (a b : Channels) → IsTransport value a → IsTransport value b → a ≡ b
transport_once value a b x y =
    let same = first_once CanBeTaken
    (record { from = x.from; to = x.to; part = x.part; holds = (a, x.taken); first = x.first })
    (record { from = y.from; to = y.to; part = y.part; holds = (b, y.taken); first = y.first }) in
    let P : ℕ → Type 0 = λ n. IsDelivery (slice_range value n x.to) a in
    let Q : ℕ → Type 0 = λ n. IsDelivery (slice_range value y.from n) a in
    has_once (slice_range value y.from y.to) a b (subst Q same.1 (subst P same.0 x.taken)).has y.taken.has

pub name_once : (path a b : List ℕ) → NamesFilm path a → NamesFilm path b → a ≡ b
name_once path a b x y =
    let end : x.end ≡ y.end = end_once x.is_end y.is_end in
    x.name_is ∙ ap (slice_range path 1) end ∙ sym y.name_is
