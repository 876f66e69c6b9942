use Rattle.std.proofs.Common.{arith}
use Rattle.session.proofs.sessions.Session.describe.Goals as goal

pub returns-clause-exact : goal.returns-clause-exact
returns-clause-exact c = rw (← c.self.view_is) (record {
  stored = c.stored_at-stored.result.now;
  at = c.stored_at-stored.ensures.film;
  reply = search arith;
})
