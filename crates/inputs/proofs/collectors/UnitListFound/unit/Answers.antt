use Rattle.std.proofs.Common.{List, [], ◌∷◌, ◌++◌, sym, ap, ◌∙◌}
use Rattle.mpeg_scan.specs.declared.units.Unit.{Unit as PictureUnit}
use Rattle.mpeg_scan.specs.Calls.{unit_call}
use Rattle.mpeg_scan.proofs.FilmLemmas.{units_in-append}
use Rattle.inputs.proofs.collectors.UnitListFound.unit.Goals as goal

pub returns : goal.returns
returns c = λ calls h.
    c.in_ok-push.ensures.items ∙ ap (λ (l : List PictureUnit). l ++ c.args.unit ∷ []) h
    ∙ sym (units_in-append calls (unit_call c.args.unit ∷ []))
