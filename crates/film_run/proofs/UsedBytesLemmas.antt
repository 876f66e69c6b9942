-- What is used before a slot, by the first pictures.
use Rattle.std.proofs.Common.{◌≡◌, ℕ, ◌+◌, ◌<◌, ◌≤◌, List, length, take, sum, inl, inr, arith}
use Rattle.std.proofs.Math.Nat.{le_refl}
use Rattle.std.proofs.lemmas.Bool.{cases_lt}
use Rattle.vod_base.proofs.PrefixSums.{sum-take-rises}
use Rattle.wire_curve.specs.declared.film.Timing.{Timing}
use Rattle.wire_curve.specs.FilmCurves.{due_slot, used_before}
use Rattle.wire_curve.specs.PlayedPictures.{AreUsedBefore as UsedPictures}
use Rattle.wire_curve.proofs.PlayedPictureLemmas.{some_before, used_of_first}
use Rattle.wire_curve.proofs.SlotUsageLemmas.{due_rises}

-- at most the first n pictures are used before slot t
pub record IsUnusedFrom (sizes : List ℕ) (timing : Timing) (t n : ℕ) : Type 0 where
  pub some : 1 ≤ timing.slot_units
  pub fits : n ≤ length sizes
  pub unused : t ≤ due_slot timing n

-- the first pictures are used before a slot, and the next one isn't
pub used-front : {sizes : List ℕ} {timing : Timing} {t n : ℕ} → IsUnusedFrom sizes timing t n
    → ((k : ℕ) → k < n → due_slot timing k < t) → used_before sizes timing t ≡ timing.played + sum (take n sizes)
used-front {sizes} {timing} {t} {n} is used = used_of_first sizes timing n t (record {
  within = is.fits;
  used = used;
  unused = λ k le _. let rises = due_rises timing n k is.some le in omega (arith, rises, is.unused);
})

-- the bytes used before slot t are those of its first m pictures, and no other picture is used
record AreFirstUsed (sizes : List ℕ) (timing : Timing) (t m : ℕ) : Type 0 where
  pub is : used_before sizes timing t ≡ timing.played + sum (take m sizes)
  pub are : UsedPictures sizes timing m t

first-used : (sizes : List ℕ) (timing : Timing) (t : ℕ) → 1 ≤ timing.slot_units
    → (m : ℕ) × AreFirstUsed sizes timing t m
first-used sizes timing t some =
    let first = some_before sizes timing t some in
    (first.0, record { is = used_of_first sizes timing first.0 t first.1; are = first.1 })

-- at least the first n pictures are used before slot t
pub record AreUsedBefore (sizes : List ℕ) (timing : Timing) (t n : ℕ) : Type 0 where
  pub some : 1 ≤ timing.slot_units
  pub fits : n ≤ length sizes
  pub used : (k : ℕ) → k < n → due_slot timing k < t

-- so they count
pub used-least : {sizes : List ℕ} {timing : Timing} {t n : ℕ} → AreUsedBefore sizes timing t n
    → timing.played + sum (take n sizes) ≤ used_before sizes timing t
used-least {sizes} {timing} {t} {n} it =
    let first = first-used sizes timing t it.some in
    let m = first.0 in
    elim (cases_lt m n) [
      | inl less ↦ absurd (let by = it.used m less in
          let not = first.1.are.unused m (le_refl m) (omega (arith, less, it.fits)) in omega (arith, by, not))
      | inr le ↦ (let more = sum-take-rises sizes n m le in omega (arith, first.1.is, more))
    ]

-- only the first pictures are
pub used-most : {sizes : List ℕ} {timing : Timing} {t n : ℕ} → IsUnusedFrom sizes timing t n
    → used_before sizes timing t ≤ timing.played + sum (take n sizes)
used-most {sizes} {timing} {t} {n} it =
    let first = first-used sizes timing t it.some in
    elim (cases_lt n first.0) [
      | inl less ↦ absurd (let by = first.1.are.used n less in omega (arith, by, it.unused))
      | inr le ↦ (let more = sum-take-rises sizes first.0 n le in omega (arith, first.1.is, more))
    ]
