use Rattle.std.proofs.Common.{◌<◌, ◌∙◌, [], ◌∷◌, ◌++◌, length, sym, ap, arith}
use Rattle.film_run.specs.Runs.{sizes_between}
use Rattle.film_run.proofs.SumLemmas.{between-more}
use Rattle.film_run.proofs.plans.rest_sizes.Goals as goal

pub loop-unit-preserved : goal.loop-unit-preserved
loop-unit-preserved g c =
    let sizes = g.U.Units.sizes c.args.units.now in
    let inside : c.loop-unit.unit < length sizes = omega arith in
    let more = between-more sizes c.args.run.now.from_unit c.loop-unit.unit c.loop-unit.invariant.order inside in
    record {
      order = omega arith;
      items =
          c.in_ok-push.ensures.items
          ∙ ap (λ l. l ++ c.wire_size.result ∷ []) c.loop-unit.invariant.items
          ∙ ap (λ x. sizes_between sizes c.args.run.now.from_unit c.loop-unit.unit ++ x ∷ []) c.wire_size.ensures
          ∙ sym more;
    }
