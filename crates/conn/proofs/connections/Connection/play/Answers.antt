use Rattle.std.proofs.Common.{arith, refl, rules}
use Rattle.conn.proofs.Outcomes.{IsAsking, answered_admitted, answered_refused, kept_admitted, kept_refused}
use Rattle.conn.proofs.connections.Connection.play.Goals as goal
use Rattle.conn.proofs.connections.Connection.play.Goals.{After-play}

-- what is known once the station answered
asking : (g : _) (c : After-play g) → IsAsking c.args.seat.now c.play.new.seat c.args.self.now
asking g c = grind arith

pub returns-in-Ok-clause-kept : goal.returns-in-Ok-clause-kept
returns-in-Ok-clause-kept g c =
    kept_admitted (asking g (goal.at.returns-in-Ok-clause-kept g c).After-play) c.heard_slot.result c.args.plan
    c.in-Ok.booking c.in-Ok.ensures.made c.in-Ok.ensures.open (grind arith) (grind arith) c.hold.ensures

pub returns-in-Err-clause-kept : goal.returns-in-Err-clause-kept
returns-in-Err-clause-kept g c =
    kept_refused (asking g (goal.at.returns-in-Err-clause-kept g c).After-play) c.heard_slot.result c.args.plan
    c.in-Err.refused c.in-Err.ensures.refused c.hear_refusal.ensures.handed c.hear_refusal.ensures.open refl

pub returns-in-Ok-clause-answered : goal.returns-in-Ok-clause-answered
returns-in-Ok-clause-answered g c =
    answered_admitted (asking g (goal.at.returns-in-Ok-clause-answered g c).After-play) c.args.plan c.in-Ok.booking
    (rw c.heard_slot.ensures.slot at c.in-Ok.ensures.made) (search rules) (grind arith) c.admitted.ensures.play
    (search rules)

pub returns-in-Err-clause-answered : goal.returns-in-Err-clause-answered
returns-in-Err-clause-answered g c =
    answered_refused (asking g (goal.at.returns-in-Err-clause-answered g c).After-play) c.in-Err.refused
    (rw c.heard_slot.ensures.slot at c.in-Err.ensures.refused) c.hear_refusal.ensures.exact
