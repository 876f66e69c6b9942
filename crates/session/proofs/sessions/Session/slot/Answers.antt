use Rattle.std.proofs.Common.{arith, refl, ◌+◌, sym, subst, rules}
use Rattle.session.proofs.SharedTerms.{AwaitsNoAnswer}
use Rattle.session.proofs.StepInvariantLemmas.{ReceivedSlot, carried_kept, done_before, nothing_of, reply_kept}
use Rattle.session.proofs.StepInvariantLemmas.{slot_kept, step_kept}
use Rattle.session.proofs.sessions.Session.slot.Goals.{After-send_due, then-replied, else-replied}
use Rattle.session.proofs.sessions.Session.slot.Goals as goal

-- the slot is in the session's order, and what was due in it was sent, or a send failed
received : (g : _) (c : After-send_due g) → ReceivedSlot c.self.inside
received g c = record {
  kept = c.self.invariant;
  none = nothing_of c.self.inside.awaited (subst AwaitsNoAnswer (sym c.self.view_is) c.requires.rest);
  heard = c.replace-before.new.dest;
  late = c.self.inside.late + c.missed_slots.result;
  slots = (search rules, search rules);
  state = c.send_due.new.state;
  carried = c.send_due.ensures.carried;
}

pub invariant_of-self-in_default-send_due : goal.invariant_of-self-in_default-send_due
unfolding received
invariant_of-self-in_default-send_due g c =
    let slot = received g (goal.at.invariant_of-self-in_default-send_due g c).After-send_due in
    step_kept slot.kept refl (search (arith, carried_kept))

pub invariant_of-self-2 : goal.invariant_of-self-2
unfolding received
invariant_of-self-2 g c =
    let slot : ReceivedSlot c.self.inside = received g (goal.at.invariant_of-self-2 g c).After-send_due in
    let awaited = c.finish.new.awaited in
    elim c.if-replied.branch [
      | then-replied w ↦
          rw (w.self-inside-is, w.settle.ensures)
          (reply_kept w.after_reply-self-inside.result (slot_kept slot awaited c.in-Ok.ensures.even
          (done_before slot.state awaited (rw (w.self-inside-is, w.settle.ensures) at c.finish.ensures.halt)))
          w.after_reply-self-inside.ensures.tearing w.after_reply-self-inside.ensures.torn)
      | else-replied w ↦
          rw w.self-inside-is
          (slot_kept slot awaited c.in-Ok.ensures.even (rw w.self-inside-is at c.finish.ensures.halt))
    ]
