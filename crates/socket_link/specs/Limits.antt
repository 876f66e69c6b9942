-- When a connection is given up, by the readings of the clock among the calls of its socket.
use Rattle.std.specs.Prelude.{ℕ, ◌-◌, Bool, false, ◌||◌, nat_le, List, [], ◌∷◌, Option, Some, None}
use Rattle.std.specs.Prelude.{unwrap_or}
use Rattle.socket_link.specs.declared.sockets.Purpose.{Purpose}
use Rattle.socket_link.specs.declared.sockets.Purpose.TheVariants.{Accept, Slot, Idle, Patience}
use Rattle.socket_link.specs.declared.sockets.Purpose.TheVariants.{End}
use Rattle.socket_link.specs.declared.limits.TheConstants.{STUCK_LIMIT, FIRST_SEND_LIMIT}
use Rattle.socket_link.specs.declared.limits.TheConstants.{IDLE_LIMIT}
use Rattle.socket_link.specs.declared.limits.Watch.{Watch}
use Rattle.socket_link.specs.Calls.{SocketCall, GaveBytes, TookBytes, ReadClock}

-- before the first reading
abbrev pub no_watch : Watch
no_watch = record { latest = 0; active = 0; unanswered = None; stuck = None }

-- After a reading. One at the accept begins anew. One after a write that took nothing begins to
-- count,
-- unless it counts already.
abbrev pub clocked : Watch → Purpose → ℕ → Watch
clocked w Accept time = record {
  latest = time;
  active = time;
  unanswered = Some time;
  stuck = None;
}
clocked w Slot time = record w { latest = time }
clocked w Idle time = record w { latest = time }
clocked w Patience time = record w { latest = time; stuck = Some (unwrap_or w.stuck time) }
clocked w End time = record w { latest = time }

-- after a call: bytes that came or were taken count as activity at the latest reading
abbrev pub watched : Watch → SocketCall → Watch
watched w (GaveBytes bytes) = record w { active = w.latest }
watched w (TookBytes bytes) = record w { active = w.latest; unanswered = None; stuck = None }
watched w (ReadClock purpose time) = clocked w purpose time
watched w _ = w

-- after all these calls
abbrev pub watch_of : Watch → List SocketCall → Watch
watch_of w [] = w
watch_of w (call ∷ calls) = watch_of (watched w call) calls

-- whether so long has passed at `time` since a reading, if there is one
abbrev pub has_passed : ℕ → Option ℕ → ℕ → Bool
has_passed limit None time = false
has_passed limit (Some since) time = nat_le limit (time - since)

-- Whether a reading shows that a limit is reached. An idle reading: nothing was sent since the
-- accept, or
-- no byte came or was taken, for too long. A patience reading: the peer took nothing for too long.
abbrev pub is_overdue : Watch → Purpose → ℕ → Bool
is_overdue w Accept time = false
is_overdue w Slot time = false
is_overdue w Idle time = has_passed FIRST_SEND_LIMIT w.unanswered time || has_passed IDLE_LIMIT
    (Some w.active) time
is_overdue w Patience time = has_passed STUCK_LIMIT w.stuck time
is_overdue w End time = false

-- whether a call shows that a limit is reached
abbrev pub reaches_limit : Watch → SocketCall → Bool
reaches_limit w (ReadClock purpose time) = is_overdue w purpose time
reaches_limit w _ = false

-- whether one of the calls does
abbrev pub reached_limit : Watch → List SocketCall → Bool
reached_limit w [] = false
reached_limit w (call ∷ calls) = reaches_limit w call || reached_limit (watched w call) calls
