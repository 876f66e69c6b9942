-- The head of a film's first unit holds all of its sequence header.
use Rattle.std.proofs.Common.{◌≡◌, ℕ, ◌+◌, ◌≤◌, ◌⊎◌, List, [], ◌∷◌, Some, None, length, slice_get, sym, inl, inr, refl}
use Rattle.std.proofs.Common.{◌∙◌, arith}
use Rattle.mpeg_scan.specs.declared.codes.Code.{Code}
use Rattle.mpeg_scan.specs.declared.units.Unit.{Unit as PictureUnit}
use Rattle.mpeg_scan.specs.declared.films.Film.{Film}
use Rattle.mpeg_scan.specs.StartCodes.{read_after, codes_of}
use Rattle.mpeg_scan.specs.CodePlaces.{HasCode}
use Rattle.mpeg_scan.specs.FilmFaults.{end_fault, first_fault}
use Rattle.mpeg_scan.specs.PartTiling.{first_of}
use Rattle.mpeg_scan.proofs.FirstUnitLemmas.{chained-first, long-header}
use Rattle.mpeg_scan.proofs.CodePlaceLemmas.{codes-stand}
use Rattle.mpeg_scan.proofs.CodeSpacingLemmas.{Spaced, all-below, placed-codes}
use Rattle.mpeg_scan.proofs.FilmBoundLemmas.{older-judged}
use Rattle.mpeg_scan.proofs.PartTilingLemmas.{first-is}
use Rattle.mpeg_scan.proofs.ScanStepLemmas.{accepted-older, accepted-whole, otherwise-first}
use Rattle.mpeg_scan.proofs.StandardLemmas.{film-standard}
use Rattle.mpeg_scan.proofs.UnitLayoutLemmas.{film-chained}

-- a code after the first one stands 12 bytes after it, or later
later-far : (c d : Code) (past : List Code) → Spaced (c ∷ (d ∷ past)) → first_fault (c ∷ (d ∷ past)) ≡ None
    → first_of (d ∷ past) + 12 ≤ c.place
later-far c d [] spaced accepted =
    long-header None d c.place (first-is d (accepted-older c (d ∷ []) accepted)) (older-judged c (d ∷ []) accepted)
later-far c d (e ∷ past) spaced accepted =
    omega (
      arith,
      later-far d e past spaced.1 (accepted-older c (d ∷ (e ∷ past)) accepted),
      all-below (d ∷ (e ∷ past)) spaced.1 spaced.0 d.place d.value (inl (refl, refl)),
    )

-- so does each code that is no sequence header
codes-far : (past : List Code) → Spaced past → first_fault past ≡ None → (place value : ℕ) → HasCode place value past
    → (value ≡ 0xb3) ⊎ (first_of past + 12 ≤ place)
codes-far [] spaced accepted place value has = absurd has
codes-far (c ∷ []) spaced accepted place value (inl new) = inl (sym new.1 ∙ first-is c accepted)
codes-far (c ∷ []) spaced accepted place value (inr old) = absurd old
codes-far (c ∷ (d ∷ past)) spaced accepted place value (inl new) =
    inr (omega (arith, new.0, later-far c d past spaced accepted))
codes-far (c ∷ (d ∷ past)) spaced accepted place value (inr old) =
    codes-far (d ∷ past) spaced.1 (accepted-older c (d ∷ past) accepted) place value old

-- the head of the first unit has the 12 bytes of its sequence header
pub first-head : (film : Film) (unit : PictureUnit) → slice_get film.units.items 0 ≡ Some unit
    → unit.from + 12 ≤ unit.head_end
first-head film unit is =
    let bytes = film.bytes.items in
    let r = read_after [] bytes in
    let past = codes_of r in
    let accepted = otherwise-first (first_fault past) (end_fault past (length r))
    (accepted-whole r film.grammar.accepted) in
    let ends = (film-standard film.grammar 0 unit is).head_ends in
    let has = (codes-stand bytes unit.head_end ends.0).1 ends.1.0 in
    let from : unit.from ≡ first_of past =
    chained-first (first_of past) (length bytes) film.units.items unit is
    (film-chained bytes film.rate film.units.items film.slice_starts.items film.grammar) in
    elim (codes-far past (placed-codes r).spaced accepted unit.head_end ends.0 has) [
      | inl header ↦ absurd (omega (arith, header, ends.1.1.1))
      | inr far ↦ omega (arith, from, far)
    ]
