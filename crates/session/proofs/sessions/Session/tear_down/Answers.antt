use Rattle.std.proofs.Common.{arith, sym, subst}
use Rattle.session.proofs.SharedTerms.{CanHandleRequest, Torn}
use Rattle.session.proofs.StepInvariantLemmas.{halt_asked}
use Rattle.session.proofs.sessions.Session.tear_down.Goals as goal

pub ask_halt-requires : goal.ask_halt-requires
ask_halt-requires c = let hear = rw (← c.self.view_is) at c.requires.hear in grind arith

pub invariant_of-self-2 : goal.invariant_of-self-2
invariant_of-self-2 c =
    rw c.set.ensures (halt_asked Torn c.self.invariant
    (subst CanHandleRequest (sym c.self.view_is) c.requires.hear) c.in-Some.ensures.halted tt)
