-- Where groups begin, in units of 1/360,000 second.
use Rattle.std.proofs.Common.{◌≡◌, ℕ, ◌*◌, ◌/◌, ◌^◌, ◌≤◌, ◌⊎◌, List, length, inl, inr, arith}
use Rattle.std.proofs.Math.Nat.{mul-le-mul_right, div-mul-le_self}
use Rattle.std.proofs.lemmas.Bool.{cases_lt}
use Rattle.std.proofs.lemmas.Nat.{le-div, mul-le}
use Rattle.mpeg_scan.specs.declared.units.Unit.{Unit as PictureUnit}
use Rattle.film_run.specs.Seeks.{IsAfter, IsBefore, IsGroupBy, IsGroupFrom, IsPlaceAfter, StartsGroup}

-- no unit begins later than this
pub begins-small : (unit picture_units : ℕ) → unit ≤ 4194304 → picture_units ≤ 360000 → unit * picture_units ≤ 2 ^ 42
begins-small unit picture_units few fits =
    let most = mul-le unit picture_units 4194304 360000 few fits in omega (arith, most)

-- the last group of pictures that begins at a unit or before it, and the first one that begins at one or after it
pub record IsLastGroup (units : List PictureUnit) (place k : ℕ) : Type 0 where
  pub starts : StartsGroup units k
  pub within : k ≤ place
  pub greatest : (other : ℕ) → StartsGroup units other → other ≤ place → other ≤ k

pub record IsFirstGroup (units : List PictureUnit) (place k : ℕ) : Type 0 where
  pub from : place ≤ k
  pub group : StartsGroup units k ⊎ (k ≡ length units)
  pub least : (other : ℕ) → StartsGroup units other → place ≤ other → k ≤ other

pub group-by : {units : List PictureUnit} {picture_units time begin k : ℕ} → length units ≤ 4194304
    → 1 ≤ picture_units → picture_units ≤ 360000
    → IsBefore time begin → IsLastGroup units (begin / picture_units) k → IsGroupBy units picture_units time k
group-by {picture_units} {begin} {k} few some fits before found =
    let starts = found.starts in
    let product = mul-le-mul_right {m = k} {n = begin / picture_units} picture_units found.within in
    let floor = div-mul-le_self begin picture_units in
    record {
      group = starts;
      by_then = before.by_then (k * picture_units)
          (begins-small k picture_units (omega (arith, starts.within)) fits) (omega arith);
      last = λ other its by_then.
          found.greatest other its (le-div other begin picture_units some
          (before.all (other * picture_units) (begins-small other picture_units (omega (arith, its.within)) fits)
          by_then));
    }

pub group-from : {units : List PictureUnit} {picture_units time end after place k : ℕ} → length units ≤ 4194304
    → picture_units ≤ 360000
    → IsAfter time end → IsPlaceAfter (length units) after end picture_units place → IsFirstGroup units place k
    → IsGroupFrom units picture_units time after k
group-from {picture_units} {time} {end} {place} {k} few fits later its found = record {
  later = omega (arith, its.later, found.from);
  group = found.group;
  from_then = λ inside early.
      let product = mul-le-mul_right {m = place} {n = k} picture_units found.from in
      let begins = its.begins (omega (arith, found.from)) in
      let from = later.from_then (k * picture_units) (begins-small k picture_units (omega arith) fits) (omega arith) in
      omega arith;
  first = λ other past starts from.
      let small = begins-small other picture_units (omega (arith, starts.within)) fits in
      let at : time * 360000 ≤ other * picture_units * 1000000000 =
      elim (cases_lt (other * picture_units * 1000000000) (time * 360000))
      [ inl less ↦ absurd (from less) | inr more ↦ more ] in
      found.least other starts (its.least other past starts.within (later.all (other * picture_units) small at));
}
