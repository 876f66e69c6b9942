use Rattle.std.proofs.Common.{sym, ◌∙◌}
use Rattle.sys_demux.proofs.FedBytesLemmas.{ended_refused, ended_system, end_shown}
use Rattle.sys_demux.proofs.unwrapper.Unwrapper.finish.Goals as goal

pub returns-in-None-clause-end : goal.returns-in-None-clause-end
returns-in-None-clause-end c = λ seen video was. ended_system was.reached (sym c.end_fault.ensures ∙ c.in-None.is)

pub returns-in-Some-clause-end : goal.returns-in-Some-clause-end
returns-in-Some-clause-end c = λ seen video was.
    ended_refused c.args.self.now.sound was.reached (sym c.end_fault.ensures ∙ c.in-Some.is)

pub returns-in-Some-clause-only : goal.returns-in-Some-clause-only
returns-in-Some-clause-only c =
    λ shown. end_shown c.args.self.now.place c.args.self.now.item c.in-Some.fault
    (sym c.end_fault.ensures ∙ c.in-Some.is) shown
