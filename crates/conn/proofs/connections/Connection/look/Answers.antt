use Rattle.std.proofs.Common.{arith, refl, rules}
use Rattle.std.proofs.lemmas.Grind.{common_steps}
use Rattle.conn.specs.InputSteps.{Entered, WasFull}
use Rattle.conn.proofs.Outcomes.{noted_entry}
use Rattle.conn.proofs.ReservationSteps.{at_look, gone_entry, gone_none, held_at_look}
use Rattle.conn.proofs.connections.Connection.look.Goals as goal

pub returns-in-Ok-clause-kept : goal.returns-in-Ok-clause-kept
returns-in-Ok-clause-kept g c = record {
  seat = search rules;
  quiet = search (rules, held_at_look);
  gone = gone_entry _ refl c.in-Ok.ensures.made.mine c.looked.ensures.handed.receipts
      (at_look c.args.self.now.booking _ _ _ _ _);
}

pub returns-in-Err-clause-kept : goal.returns-in-Err-clause-kept
returns-in-Err-clause-kept g c = grind (arith, gone_none)

pub returns-in-Ok-clause-answered : goal.returns-in-Ok-clause-answered
returns-in-Ok-clause-answered g c = record {
  outcome = Entered _;
  answered = (refl, c.looked.ensures.exact);
  noted = noted_entry (record {
    call = record { kept = c.holds.ensures.kept; also = c.look.ensures.kept; same = c.look.ensures.same };
    maker = refl;
    made = c.in-Ok.ensures.made;
  });
}

pub returns-in-Err-clause-answered : goal.returns-in-Err-clause-answered
returns-in-Err-clause-answered g c = record {
  outcome = WasFull 1 c.in-Err.full.entries c.in-Err.full.live;
  answered = (c.full.ensures.exact, refl);
  noted = grind (arith, common_steps);
}
