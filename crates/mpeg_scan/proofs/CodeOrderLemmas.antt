-- Codes stand in their order, and units are numbered in theirs.
use Rattle.std.proofs.Common.{ℕ, Bool, true, false, cond, eqb, ◌&&◌, ◌+◌, ◌≡◌, List, [], ◌∷◌, Some}
use Rattle.std.proofs.Common.{None, IsSome, length, sym, refl, subst}
use Rattle.std.proofs.lemmas.Bool.{eqb-true, and_parts}
use Rattle.mpeg_scan.specs.declared.codes.Code.{Code}
use Rattle.mpeg_scan.specs.declared.units.Unit.{Unit as PictureUnit}
use Rattle.mpeg_scan.specs.StartCodes.{read_after, codes_of}
use Rattle.mpeg_scan.specs.Calls.{Call, head_call, slice_call, unit_call, all_calls}
use Rattle.mpeg_scan.specs.UnitNumbering.{Count, counts_after, group_of, no_count}
use Rattle.mpeg_scan.specs.Films.{IsFilm, units_in}
use Rattle.mpeg_scan.specs.StandardUnits.{AreFalling, ArePresented}
use Rattle.mpeg_scan.proofs.CodeSpacingLemmas.{Spaced, all-below, placed-codes}
use Rattle.mpeg_scan.proofs.UnitNumberingLemmas.{film-numbered}

codes-fall : (past : List Code) (at : ℕ) → Spaced past → AreFalling past
codes-fall [] at spaced = tt
codes-fall (c ∷ past) at spaced = (all-below past spaced.1 spaced.0, codes-fall past c.place spaced.1)

pub codes-falling : (r : List ℕ) → AreFalling (codes_of r)
codes-falling r = codes-fall (codes_of r) (length r) (placed-codes r).spaced

count-fits : (b : Bool) (k : Count) (calls : List Call) → IsSome (counts_after (cond b (Some k) None) calls)
    → (b ≡ true) × IsSome (counts_after (Some k) calls)
count-fits true k calls e = (refl, e)
count-fits false k [] e = cc
count-fits false k (call ∷ calls) e = cc

counts-present : (calls : List Call) (k : Count) → IsSome (counts_after (Some k) calls)
    → ArePresented k.units k.before_group (units_in calls)
counts-present [] k some = tt
counts-present (head_call from to ∷ calls) k some = counts-present calls k some
counts-present (slice_call from to ∷ calls) k some = counts-present calls (record k { slices = k.slices + 1 }) some
counts-present (unit_call unit ∷ calls) k some =
    let next : Count = record { units = k.units + 1; slices = k.slices; before_group = group_of k unit } in
    let fits = count-fits
    (eqb (unit.first_slice + unit.slices) k.slices
    && eqb unit.presentation (group_of k unit + unit.temporal)) next calls some in
    let shown = (and_parts (eqb (unit.first_slice + unit.slices) k.slices)
    (eqb unit.presentation (group_of k unit + unit.temporal)) fits.0).1 in
    (eqb-true unit.presentation (group_of k unit + unit.temporal) shown, counts-present calls next fits.1)

pub film-presented : (bytes : List ℕ) (rate : ℕ) (units : List PictureUnit) (starts : List ℕ)
    → IsFilm bytes rate units starts → ArePresented 0 0 units
film-presented bytes rate units starts film =
    let r = read_after [] bytes in
    subst (λ (l : List PictureUnit). ArePresented 0 0 l) (sym film.units)
    (counts-present (all_calls r) no_count (film-numbered r film.accepted))
