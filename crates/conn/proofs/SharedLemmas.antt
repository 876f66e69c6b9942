-- Lemmas that the proofs of several functions name together.
use Rattle.station.proofs.SameSeats.{seat_none}
use Rattle.conn.proofs.CourseSteps.{run_none, slot_broken}
use Rattle.conn.proofs.ElementPrefixes.{cuts_none, cuts_on, cuts_same}
use Rattle.conn.proofs.FaultCounts.{counted_end, counted_fault, counted_none, counted_on, counted_same}
use Rattle.conn.proofs.ReservationSteps.{gone_on, gone_still, held_none, held_same, kept_due, kept_moved, kept_none}
use Rattle.conn.proofs.ReservationSteps.{kept_on}

-- on what is kept and what was split, and on the link's count of faults, where a call of it may have failed
pub ruleset count_steps = (
  kept_none,
  kept_on,
  kept_moved,
  counted_none,
  counted_same,
  counted_end,
  counted_fault,
  counted_on,
  cuts_none,
  cuts_same,
  cuts_on,
  slot_broken,
)

-- on what a connection makes of the journal, as a slot is processed
pub ruleset slot_steps = (gone_still, gone_on, held_same, kept_due)

-- at its end
pub ruleset close_steps = (gone_still, held_none, seat_none)

-- event after event
pub ruleset event_steps = (kept_none, kept_on, counted_same, counted_fault, counted_on, run_none)
