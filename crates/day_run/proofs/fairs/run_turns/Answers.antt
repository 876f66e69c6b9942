use Rattle.std.proofs.Common.{ap, sym, subst, refl, arith}
use Rattle.film_make.specs.Generator.{words_left}
use Rattle.day_run.specs.Days.{DayState, SharedLink}
use Rattle.day_run.specs.FairProgress.{IsTurnResult, drawn_to}
use Rattle.day_run.specs.MachineState.{day_state_of}
use Rattle.day_run.proofs.FairLines.{come-next, ready-morning}
use Rattle.day_run.proofs.fairs.run_turns.Goals as goal

pub loop-turn-init : goal.loop-turn-init
loop-turn-init c =
    let old = c.args.machine.now in
    let heard = ap (λ (m : DayState). m.heard) c.requires.morning in
    record {
      machine = c.requires.machine;
      ready = ready-morning (day_state_of old) c.requires.morning;
      kept = record { link = refl; steps = refl; media = refl };
      heard = omega (arith, heard);
      fitting = record { last_is = sym heard; full = omega arith; sent = omega arith; booked = omega arith };
      come = grind arith;
    }

pub loop-turn-preserved : goal.loop-turn-preserved
loop-turn-preserved c =
    let inv = c.loop-turn.invariant in
    let ran = c.in_ok-run_turn.ensures in
    let old = drawn_to (words_left c.loop-turn.draws) c.loop-turn.counts (day_state_of c.loop-turn.machine) in
    let new = drawn_to (words_left c.run_turn.new.draws) c.run_turn.new.counts (day_state_of c.run_turn.new.machine) in
    record {
      machine = ran.machine;
      ready = ran.ready;
      kept = grind arith;
      heard = omega (arith, ran.heard, inv.heard);
      fitting = ran.fitting;
      come = come-next old new inv.come (subst (λ (l : SharedLink). IsTurnResult l old new) inv.kept.link ran.turned)
          ran.fitting.last_is;
    }
