use Rattle.std.proofs.Common.{arith, rules, refl, ap, sym, ◌∙◌}
use Rattle.conn.specs.ReservationInvariant.{open_play_of}
use Rattle.conn.specs.InputSteps.{Entered}
use Rattle.conn.proofs.Outcomes.{noted_entry}
use Rattle.conn.proofs.ReservationSteps.{at_halt, gone_entry}
use Rattle.conn.proofs.connections.Connection.halt.Goals as goal

pub returns-in-Some-clause-kept : goal.returns-in-Some-clause-kept
returns-in-Some-clause-kept g c = record {
  seat = c.halt-place.ensures.same;
  quiet = search rules;
  gone = gone_entry _ (sym c.replace.ensures.value ∙ c.in-Some.is) c.halt-place.ensures.made.mine
      c.halted.ensures.handed.receipts
      (at_halt c.in-Some.booking.number ∙ ap open_play_of (sym c.replace.ensures.after));
}

pub returns-in-Some-clause-answered : goal.returns-in-Some-clause-answered
returns-in-Some-clause-answered g c = record {
  outcome = Entered _;
  answered = grind arith;
  noted = noted_entry (record {
    call = record { kept = c.holds.ensures.kept; also = c.halt-place.ensures.kept; same = c.halt-place.ensures.same };
    maker = refl;
    made = c.halt-place.ensures.made;
  });
}
