-- The refusals exclude one another, and acceptance excludes them all.
use Rattle.std.proofs.Common.{◌≡◌, ℕ, List, refl, sym, ap, ◌∙◌, arith, inl, inr}
use Rattle.std.proofs.lemmas.Bool.{cases_lt}
use Rattle.wire_curve.specs.declared.film.Timing.{Timing}
use Rattle.wire_curve.specs.declared.film.CurveFault.{CurveFault}
use Rattle.wire_curve.specs.declared.film.CurveFault.TheVariants.{NoPictures, TooManySlots, BufferTooSmall}
use Rattle.wire_curve.specs.FilmCurves.{bytes_used_in}
use Rattle.wire_curve.specs.CurveFaults.{IsAccepted, HasCurveFault}

pub accepted-no_fault : (sizes : List ℕ) (timing : Timing) (fault : CurveFault) → IsAccepted sizes timing
    → HasCurveFault sizes timing fault → ⊥
accepted-no_fault sizes timing NoPictures ok none = omega (arith, ok.some_picture)
accepted-no_fault sizes timing (TooManySlots slots) ok many = omega (arith, ok.few_slots, many.1, many.2)
accepted-no_fault sizes timing (BufferTooSmall slot used least) ok small =
    let over = small.2 in omega (arith, over.above_buffer, over.used_is, ok.buffer_holds slot over.in_range)

-- two first slots are one
pub HasCurveFault-unique : (sizes : List ℕ) (timing : Timing) (one other : CurveFault) → HasCurveFault sizes timing one
    → HasCurveFault sizes timing other → one ≡ other
HasCurveFault-unique sizes timing NoPictures NoPictures a b = refl
HasCurveFault-unique sizes timing NoPictures (TooManySlots slots) a b = absurd (omega (arith, b.0))
HasCurveFault-unique sizes timing NoPictures (BufferTooSmall slot used least) a b = absurd (omega (arith, b.0))
HasCurveFault-unique sizes timing (TooManySlots slots) NoPictures a b = absurd (omega (arith, a.0))
HasCurveFault-unique sizes timing (TooManySlots slots) (TooManySlots slots') a b = ap TooManySlots (a.1 ∙ sym b.1)
HasCurveFault-unique sizes timing (TooManySlots slots) (BufferTooSmall slot used least) a b =
    absurd (omega (arith, a.1, a.2, b.1))
HasCurveFault-unique sizes timing (BufferTooSmall slot used least) NoPictures a b = absurd (omega (arith, a.0))
HasCurveFault-unique sizes timing (BufferTooSmall slot used least) (TooManySlots slots) a b =
    absurd (omega (arith, b.1, b.2, a.1))
HasCurveFault-unique sizes timing (BufferTooSmall slot used least) (BufferTooSmall slot' used' least') a b =
    let one = a.2 in
    let other = b.2 in
    let same_slot : slot ≡ slot' =
    elim (cases_lt slot' slot) [
      | inl lt ↦ absurd (omega (arith, one.first slot' lt, other.above_buffer, other.used_is))
      | inr low ↦ elim (cases_lt slot slot') [
        | inl lt ↦ absurd (omega (arith, other.first slot lt, one.above_buffer, one.used_is))
        | inr high ↦ omega (arith, low, high)
      ]
    ] in
    let same_used : used ≡ used' = one.used_is ∙ (ap (bytes_used_in sizes timing) same_slot ∙ sym other.used_is) in
    let above = other.greatest one.reached.0 one.reached.1 in
    let below = one.greatest other.reached.0 other.reached.1 in
    let same_least : least ≡ least' = omega (arith, above, below, one.reached.2, other.reached.2) in
    cc
