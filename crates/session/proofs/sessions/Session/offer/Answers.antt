use Rattle.session.proofs.sessions.Session.offer.Goals as goal

pub offer_ready-requires-clause-paused : goal.offer_ready-requires-clause-paused
offer_ready-requires-clause-paused c = rw (← c.self.view_is) (rw c.in-Ready.is at c.self.invariant.state).1
