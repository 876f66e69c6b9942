use Rattle.std.proofs.Common.{arith}
use Rattle.slot_calendar.proofs.CapacitySteps.{capacity-before, capacity-last}
use Rattle.slot_calendar.proofs.profiles.span_at.Goals as goal

pub returns-then-step-slot-clause-here : goal.returns-then-step-slot-clause-here
returns-then-step-slot-clause-here c =
    let i = c.loop-step in
    capacity-before c.requires (omega arith)
    (record { begun = i.invariant.begun; bytes_are = i.invariant.bytes_are }) (omega arith) (omega arith) (omega arith)

pub returns-then-step-slot-clause-same : goal.returns-then-step-slot-clause-same
returns-then-step-slot-clause-same c = λ u from less.
    let i = c.loop-step in
    capacity-before c.requires (omega arith)
    (record { begun = i.invariant.begun; bytes_are = i.invariant.bytes_are }) (omega arith) from less

pub returns-clause-here : goal.returns-clause-here
returns-clause-here c =
    let i = c.loop-step in
    capacity-last c.requires (omega arith) (record { begun = i.invariant.begun; bytes_are = i.invariant.bytes_are })
    (omega arith)

pub returns-clause-same : goal.returns-clause-same
returns-clause-same c = λ u from less.
    let i = c.loop-step in
    capacity-last c.requires (omega arith)
    (record { begun = i.invariant.begun; bytes_are = i.invariant.bytes_are }) from
