-- What plays book on a link. A play is a plan that begins at a slot and ends after its first `keep`
-- bytes.
use Rattle.std.specs.Prelude.{ℕ, ◌+◌, ◌-◌, min, List, take, sum, sum_by}
use Rattle.plan_cert.specs.declared.Segment.{Segment}
use Rattle.plan_cert.specs.PlanSlots.{plan_slots, total_bytes}

-- the bytes that a plan which begins at slot `start` has sent before slot t: none up to its start,
-- all of them from its end on
abbrev pub sent_before : List Segment → ℕ → ℕ → ℕ
sent_before segments start t = sum (take (t - start) (plan_slots segments))

-- the bytes that it sends in slot t
abbrev pub asked_at : List Segment → ℕ → ℕ → ℕ
asked_at segments start t = sent_before segments start (t + 1) - sent_before segments start t

-- the bytes that it sends in slot t after its first `keep` bytes
abbrev pub released_at : List Segment → ℕ → ℕ → ℕ → ℕ
released_at segments start keep t =
    (sent_before segments start (t + 1) - keep) - (sent_before segments start t - keep)

pub record Play : Type 0 where
  pub start : ℕ
  pub segments : List Segment
  pub keep : ℕ

-- a play that keeps all its bytes
abbrev pub whole_play : ℕ → List Segment → Play
whole_play start segments =
    record { start = start; segments = segments; keep = total_bytes segments }

-- a play that was stopped early
abbrev pub truncated_play : ℕ → List Segment → ℕ → Play
truncated_play start segments keep = record { start = start; segments = segments; keep = keep }

-- the bytes that a play books in slot t
abbrev pub share_at : ℕ → Play → ℕ
share_at t play =
    min (sent_before play.segments play.start (t
    + 1)) play.keep - min (sent_before play.segments play.start t) play.keep

-- the bytes that all plays of a list book in slot t
abbrev pub booked_by : List Play → ℕ → ℕ
booked_by plays t = sum_by (share_at t) plays
