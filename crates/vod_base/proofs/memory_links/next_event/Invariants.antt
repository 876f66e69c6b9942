use Rattle.std.proofs.Common.{◌≡◌, ◌-◌, length}
use Rattle.vod_base.specs.MemoryLinks.{left_from, without_empty_front}
use Rattle.vod_base.proofs.memory_links.next_event.Given as goal

-- the events that were passed over had no bytes left
abbrev pub invariant-loop-bytes : goal.invariant-loop-bytes
invariant-loop-bytes l =
    without_empty_front (left_from l.events l.front)
    ≡ without_empty_front (left_from l.events l.initial.front)

abbrev pub decreases-loop-bytes : goal.decreases-loop-bytes
decreases-loop-bytes l = length l.events - l.front.event
