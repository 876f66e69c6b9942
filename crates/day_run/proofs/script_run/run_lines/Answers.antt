use Rattle.std.proofs.Common.{ℕ, List, ◌+◌, take, get_or, sym, subst, refl, arith, ◌≡◌}
use Rattle.std.proofs.lemmas.List.{take_more}
use Rattle.day_script.specs.declared.scripts.Line.TheVariants.{Play}
use Rattle.day_script.specs.Scripts.{AreClients, latest_slot, slot_after}
use Rattle.day_run.specs.Days.{IsLine, SharedLink}
use Rattle.day_run.specs.MachineState.{HasRun, link_on, day_state_of}
use Rattle.day_script.proofs.Places.{Place}
use Rattle.day_run.proofs.ScriptLines.{LastLine, run-next}
use Rattle.day_script.proofs.ScriptLines.{clients-more}
use Rattle.std.proofs.lemmas.Grind.{common_steps}
use Rattle.day_script.specs.declared.scripts.Line.{Line}
use Rattle.day_run.proofs.script_run.run_lines.Goals as goal

-- the slot that was received last, after one line more
heard-next : {heard next : ℕ} (lines : List Line) (place : Place lines)
    → next ≡ slot_after heard (get_or lines place.index place.none) → heard ≡ latest_slot (take place.index lines)
    → next ≡ latest_slot (take (place.index + 1) lines)
heard-next {next} lines place n h = grind (arith, common_steps)

pub loop-line-preserved : goal.loop-line-preserved
loop-line-preserved c =
    let inv = c.loop-line.invariant in
    let ran = c.in_ok-run_line.ensures in
    let lines = c.args.lines.now in
    let i = c.loop-line.line-index in
    let place : Place lines = record { index = i; none = Play 0 0 0 0; inside = omega arith } in
    let old = day_state_of c.loop-line.machine in
    let new = day_state_of c.run_line.new.machine in
    let line = get_or lines i place.none in
    let last : LastLine = record {
      link = link_on c.args.machine.now;
      line = line;
      text = ran.line.text;
      old = old;
      new = new;
      is = subst (λ (l : SharedLink). IsLine l line old new ran.line.text) inv.kept.link ran.line.is;
    } in
    record {
      machine = ran.machine;
      kept = grind arith;
      heard = heard-next lines place ran.heard inv.heard;
      clients = subst AreClients (sym (take_more lines i _ place.inside))
          (clients-more _ inv.clients c.run_line.ensures.client);
      run = subst (λ (t : List ℕ). HasRun last.link (take (i + 1) lines) t new) (sym ran.line.after_is)
          (run-next last lines place refl inv.run);
    }
