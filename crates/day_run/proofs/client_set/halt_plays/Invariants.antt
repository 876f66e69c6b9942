use Rattle.day_run.proofs.ClientSweepLemmas.{AreHaltedTo}
use Rattle.day_run.proofs.client_set.halt_plays.Given as goal

abbrev pub invariant-loop-maker : goal.invariant-loop-maker
invariant-loop-maker l = AreHaltedTo l.which l.maker l.initial.book l.book l.initial.clients l.clients
