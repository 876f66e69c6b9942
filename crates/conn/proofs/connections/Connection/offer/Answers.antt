use Rattle.std.proofs.Common.{arith, refl, rules}
use Rattle.std.proofs.lemmas.Grind.{common_steps}
use Rattle.conn.specs.InputSteps.{Offered}
use Rattle.conn.proofs.connections.Connection.offer.Goals as goal

pub returns-clause-answered : goal.returns-clause-answered
returns-clause-answered g c = record {
  outcome = Offered c.args.self.now.session.heard _;
  answered = (refl, search rules, c.offered.ensures.exact, refl);
  noted = grind (arith, common_steps);
}
