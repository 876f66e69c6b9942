use Rattle.std.proofs.lemmas.Grind.{common_steps}
use Rattle.std.proofs.Common.{map, arith}
use Rattle.day_run.specs.Clients.{state_of}
use Rattle.day_run.proofs.ScriptLines.{halt_entries-sent}
use Rattle.day_run.proofs.ClientSweepLemmas.{slot-moment}
use Rattle.day_run.proofs.machine.DayMachine.slot.Goals as goal

pub returns-clause-moment : goal.returns-clause-moment
returns-clause-moment c =
    slot-moment _ _ c.halt_plays.new.clients _ c.args.self.now.clients.ok.0 c.deref_mut.ensures.value
    c.deref_mut-2.ensures.value (omega arith) c.requires.machine.timed c.step_clients-sent.ensures.steps
    c.halt_plays.ensures.entries c.halt_plays.ensures.states
    (halt_entries-sent c.args.slot 0 (map state_of c.args.self.now.clients.items))

pub halt_plays-requires-clause-sound : goal.halt_plays-requires-clause-sound
halt_plays-requires-clause-sound c = grind (arith, common_steps)

pub returns-clause-machine : goal.returns-clause-machine
returns-clause-machine c = grind (arith, common_steps)
