-- Clock times and fractions of a second, at the places where they are cut.
use Rattle.std.proofs.Common.{◌≡◌, ℕ, ◌+◌, ◌^◌, ◌<◌, ◌⊎◌, List, length, take, sym, ◌∙◌, subst, arith}
use Rattle.std.proofs.Common.{inl, inr, slice_range, MatchOption, Option, Some, None}
use Rattle.std.proofs.lemmas.Bool.{cases_order}
use Rattle.rtsp_fields.specs.SeparatedParts.{IsPartEnd}
use Rattle.rtsp_fields.specs.NptTimes.{IsDigits, IsClock, IsClockAt, AreSeconds, IsFraction, IsTime}
use Rattle.rtsp_fields.proofs.PartPlaces.{end_once}

-- the first two colons, or the text's end
pub record AreColons (text : List ℕ) (first second : ℕ) : Type 0 where
  pub hours_end : IsPartEnd 58 text 0 first
  pub minutes_end : IsPartEnd 58 text (first + 1) second

-- a clock time, cut at its colons
pub clock_at : {text : List ℕ} {first second seconds : ℕ} → AreColons text first second →
    (clock : IsClock text seconds) → IsClockAt text first second clock.hours clock.minutes clock.rest
clock_at {text} {first} {second} colons clock =
    let same : clock.first ≡ first = end_once clock.hours_end colons.hours_end in
    let E : ℕ → Type 0 = λ n. IsPartEnd 58 text (n + 1) clock.second in
    let same_second : clock.second ≡ second = end_once (subst E same clock.minutes_end) colons.minutes_end in
    let C : ℕ → Type 0 = λ n. IsClockAt text n clock.second clock.hours clock.minutes clock.rest in
    subst (λ (n : ℕ). IsClockAt text first n clock.hours clock.minutes clock.rest) same_second (subst C same clock.at)

-- the part ends before the text does
pub inside_text : {text : List ℕ} {from to : ℕ} → IsPartEnd 58 text from to → (to ≡ length text → ⊥) → to < length text
inside_text {text} {to = to} e other =
    elim (cases_order to (length text)) [
      | inl same ↦ absurd (other same)
      | inr (inl less) ↦ less
      | inr (inr more) ↦ omega (arith, more, e.within)
    ]

-- a text writes one number
pub value_once : (most : ℕ) (text : List ℕ) (a b : ℕ) → IsDigits most text a → IsDigits most text b → a ≡ b
value_once most text a b x y = x.value ∙ sym y.value

-- no seconds as such, and a clock time or not
pub digits_or_clock : (o : Option ℕ) (text : List ℕ) → ((n : ℕ) → ¬ IsDigits 9 text n) →
    MatchOption o ((n : ℕ) → ¬ IsClock text n) (λ n. IsClock text n × (n < 10 ^ 13)) →
    MatchOption o ((n : ℕ) → ¬ AreSeconds text n) (λ n. AreSeconds text n × (n < 10 ^ 13))
digits_or_clock None text none h = λ n are. elim are [ inl digits ↦ none n digits | inr clock ↦ h n clock ]
digits_or_clock (Some n) text none h = (inr h.0, h.1)

-- a time, cut at its point
pub record IsTimeAt (text : List ℕ) (point : ℕ) : Type 0 where
  pub seconds : ℕ
  pub fraction : ℕ
  pub whole : AreSeconds (take point text) seconds
  pub part : ((point ≡ length text) × (fraction ≡ 0))
      ⊎ ((point < length text) × IsFraction (slice_range text (point + 1) (length text)) fraction)

pub time_at : {text : List ℕ} {point n : ℕ} → IsPartEnd 46 text 0 point → IsTime text n → IsTimeAt text point
time_at {text} e t =
    subst (IsTimeAt text) (end_once t.point_is e)
    (record { seconds = t.seconds; fraction = t.fraction; whole = t.whole; part = t.part })

pub no_fraction : {text : List ℕ} {point : ℕ} → point < length text →
    ((f : ℕ) → ¬ IsFraction (slice_range text (point + 1) (length text)) f) → IsTimeAt text point → ⊥
no_fraction inside none at =
    elim at.part [ inl whole ↦ omega (arith, inside, whole.0) | inr part ↦ none at.fraction part.1 ]
