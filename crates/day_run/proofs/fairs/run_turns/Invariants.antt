use Rattle.std.proofs.Common.{◌≤◌, ◌*◌}
use Rattle.film_make.specs.Generator.{words_left}
use Rattle.day_run.specs.BookingBalance.{IsReady}
use Rattle.day_run.specs.FairProgress.{AreTurnResults, IsFitting}
use Rattle.day_run.specs.MachineState.{IsKept, IsDayMachine, link_on, day_state_of}
use Rattle.day_run.proofs.fairs.run_turns.Given as goal

abbrev pub invariant-loop-turn : goal.invariant-loop-turn
invariant-loop-turn l = record {
  machine : IsDayMachine l.machine;
  ready : IsReady (day_state_of l.machine);
  kept : IsKept l.initial.machine l.machine;
  heard : l.machine.heard ≤ 3 * l.turn;
  fitting : IsFitting l.machine.heard l.counts;
  come : AreTurnResults (link_on l.initial.machine) (words_left l.initial.draws) (words_left l.draws) l.turn l.counts
      (day_state_of l.machine);
}
