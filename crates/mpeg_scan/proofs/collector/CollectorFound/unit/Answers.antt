use Rattle.std.proofs.Common.{List, [], ◌∷◌, ◌++◌, sym, ap, ◌∙◌}
use Rattle.std.proofs.lemmas.List.{append-nil}
use Rattle.mpeg_scan.specs.declared.units.Unit.{Unit as PictureUnit}
use Rattle.mpeg_scan.specs.Calls.{unit_call}
use Rattle.mpeg_scan.specs.Films.{slices_in}
use Rattle.mpeg_scan.proofs.FilmLemmas.{units_in-append, slices_in-append}
use Rattle.mpeg_scan.proofs.collector.CollectorFound.unit.Goals as goal

pub returns : goal.returns
returns c =
    λ calls h. (
      c.in_ok-push.ensures.items ∙ ap (λ (l : List PictureUnit). l ++ c.args.unit ∷ []) h.0
          ∙ sym (units_in-append calls (unit_call c.args.unit ∷ [])),
      h.1 ∙ sym (slices_in-append calls (unit_call c.args.unit ∷ []) ∙ append-nil (slices_in calls)),
    )
