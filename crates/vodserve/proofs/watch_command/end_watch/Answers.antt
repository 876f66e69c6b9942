use Rattle.std.proofs.Common.{refl}
use Rattle.cli_errors.specs.declared.errors.CliError.TheVariants.{Refused}
use Rattle.vodserve.proofs.watch_command.end_watch.Goals as goal

pub returns-in-Done-clause-ends : goal.returns-in-Done-clause-ends
returns-in-Done-clause-ends g c = rw c.in-Done.is c.end_with_meter.ensures.says

pub returns-in-Fault-clause-ends : goal.returns-in-Fault-clause-ends
returns-in-Fault-clause-ends g c =
    rw c.in-Fault.is
    (Refused c.args.film c.refusal_of-refusal.result, ((refl, c.refusal_of-refusal.ensures), c.end_with.ensures.fails))

pub returns-in-LinkFault-clause-ends : goal.returns-in-LinkFault-clause-ends
returns-in-LinkFault-clause-ends g c = rw c.in-LinkFault.is c.end_with-in-LinkFault.ensures.fails

pub returns-in-SinkFault-clause-ends : goal.returns-in-SinkFault-clause-ends
returns-in-SinkFault-clause-ends g c = rw c.in-SinkFault.is c.end_with-in-SinkFault.ensures.fails

pub returns-in-NoMemory-clause-ends : goal.returns-in-NoMemory-clause-ends
returns-in-NoMemory-clause-ends g c = rw c.in-NoMemory.is c.end_with-in-NoMemory.ensures.fails
