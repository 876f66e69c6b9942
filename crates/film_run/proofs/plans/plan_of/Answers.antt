use Rattle.std.proofs.Common.{rules, ◌∙◌}
use Rattle.film_run.specs.Plans.{IsPlanOf, rest_sizes, timing_of}
use Rattle.film_run.proofs.CurveLemmas.{IsPlayable, limits, keeps-to, best-of, taut-for, total-of-rest}
use Rattle.film_run.proofs.plans.plan_of.Goals as goal
use Rattle.film_run.proofs.plans.plan_of.Goals.{After-count-count}

playable : (g : _) (c : After-count-count g)
    → IsPlayable (g.U.Units.sizes c.args.units.now) c.args.playback.now c.args.run.now
playable g c = assumption (c.requires, c.count-count.ensures)

pub film_curves-requires : goal.film_curves-requires
film_curves-requires g c =
    rw (c.deref.ensures.value, c.in_ok-sizes.ensures, c.timing_of.ensures)
    (limits (playable g (goal.at.film_curves-requires g c).After-count-count))

pub returns-in-Ok : goal.returns-in-Ok
returns-in-Ok g c =
    let sizes = g.U.Units.sizes c.args.units.now in
    let playback = c.args.playback.now in
    let run = c.args.run.now in
    let rest = rest_sizes sizes run in
    let timing = timing_of playback run in
    let within = limits (playable g (goal.at.returns-in-Ok g c).After-count-count) in
    let is : IsPlanOf sizes playback run c.in-Ok.plan =
    rw (c.deref.ensures.value, c.in_ok-sizes.ensures, c.timing_of.ensures) at
    (taut-for (c.in_ok-curves.ensures.accepted, c.in_ok-curves.ensures.curves) c.in-Ok.ensures.taut) in
    record {
      plan = is;
      bytes = (keeps-to rest timing c.in-Ok.plan within is).bytes ∙ total-of-rest sizes playback run c.requires.run;
      best = best-of rest timing c.in-Ok.plan within is;
      refused = search rules;
    }
