use Rattle.std.proofs.Common.{[], ◌∷◌, sym, ◌∙◌}
use Rattle.std.proofs.lemmas.List.{append-nil}
use Rattle.mpeg_scan.specs.Calls.{slice_call}
use Rattle.mpeg_scan.specs.Films.{units_in}
use Rattle.mpeg_scan.proofs.FilmLemmas.{units_in-append}
use Rattle.inputs.proofs.collectors.UnitListFound.slice.Goals as goal

pub returns-clause-heard : goal.returns-clause-heard
returns-clause-heard c =
    λ calls h. h ∙ sym (units_in-append calls (slice_call c.args._from c.args._to ∷ []) ∙ append-nil (units_in calls))
