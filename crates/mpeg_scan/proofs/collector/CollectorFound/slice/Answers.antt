use Rattle.std.proofs.Common.{ℕ, List, [], ◌∷◌, ◌++◌, sym, ap, ◌∙◌}
use Rattle.std.proofs.lemmas.List.{append-nil}
use Rattle.mpeg_scan.specs.Calls.{slice_call}
use Rattle.mpeg_scan.specs.Films.{units_in}
use Rattle.mpeg_scan.proofs.FilmLemmas.{units_in-append, slices_in-append}
use Rattle.mpeg_scan.proofs.collector.CollectorFound.slice.Goals as goal

pub returns-clause-heard : goal.returns-clause-heard
returns-clause-heard c =
    λ calls h. (
      h.0 ∙ sym (units_in-append calls (slice_call c.args.from c.args._to ∷ []) ∙ append-nil (units_in calls)),
      c.in_ok-push.ensures.items ∙ ap (λ (l : List ℕ). l ++ c.args.from ∷ []) h.1
          ∙ sym (slices_in-append calls (slice_call c.args.from c.args._to ∷ [])),
    )
