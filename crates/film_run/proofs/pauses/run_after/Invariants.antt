use Rattle.std.proofs.Common.{◌≡◌, ◌-◌, ◌<◌, ◌≤◌, ℕ}
use Rattle.wire_curve.specs.FilmCurves.{due_slot}
use Rattle.film_run.specs.Plans.{timing_of}
use Rattle.film_run.specs.Runs.{bytes_between}
use Rattle.film_run.proofs.HaltLemmas.{IsHalting}
use Rattle.film_run.proofs.pauses.run_after.Given as goal

abbrev pub invariant-loop-left : goal.invariant-loop-left
invariant-loop-left g l = record {
  halting : IsHalting (record {
    sizes = g.U.Units.sizes l.units;
    playback = l.playback;
    run = l.run;
    plan = l.plan;
    last = l.fn.last;
    keep = l.keep;
  });
  first_is : l.left.first_unit ≡ l.run.first_unit;
  end_is : l.left.end_unit ≡ l.run.end_unit;
  sent_is : l.left.sent ≡ l.run.sent;
  from : l.run.from_unit ≤ l.left.from_unit;
  rest : l.left.from_unit < l.run.end_unit;
  played : l.left.played ≡ bytes_between (g.U.Units.sizes l.units) l.run.first_unit l.left.from_unit;
  used : (unit : ℕ) → l.run.from_unit ≤ unit → unit < l.left.from_unit
      → due_slot (timing_of l.playback l.run) (unit - l.run.from_unit) < l.stop;
}

abbrev pub decreases-loop-left : goal.decreases-loop-left
decreases-loop-left g l = l.run.end_unit - l.left.from_unit
