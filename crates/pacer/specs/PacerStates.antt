-- Sending by a plan: what is due through each slot, and what was sent.
use Rattle.std.specs.Prelude.{ℕ, ◌≡◌, ◌+◌, ◌-◌, ◌^◌, ◌≤◌, min, max, nat_lt, ◌==◌, ◌&&◌, Bool}
use Rattle.std.specs.Prelude.{if◌then◌else◌, List, length, take, sum, Option, Some, None}
use Rattle.film_frames.specs.Tracks.{framed_bytes, IsBoundary}
use Rattle.plan_cert.specs.declared.Segment.{Segment}
use Rattle.plan_cert.specs.PlanSlots.{plan_slots, total_bytes}
use Rattle.plan_cert.specs.Plan.{IsPlan}
use Rattle.pacer.specs.Boundaries.{boundary_from, bytes_between}

-- A track that is sent by a plan. Bytes count from the plan's first one.
pub record PacerState : Type 0 where
  -- the frames and reports of the track, and the place in it of the plan's first byte
  pub pieces : List (List ℕ)
  pub before : ℕ
  pub plan : List Segment
  -- the plan's first slot
  pub start : ℕ
  -- the bytes that may become due: all of the plan until a halt is asked
  pub keep : ℕ
  -- how many of the plan's slots were stepped, with those that were missed before them
  pub passed : ℕ
  -- the bytes that are due, and those that were sent
  pub due : ℕ
  pub sent : ℕ

-- how many slots of a plan there are through its slot of that number, where one is named
abbrev pub slots_through : Option ℕ → ℕ
slots_through None = 0
slots_through (Some slot) = slot + 1

-- the bytes of a plan's first slots
abbrev pub first_slots : List Segment → ℕ → ℕ
first_slots plan slots = sum (take slots (plan_slots plan))

-- a pacing in which nothing was stepped
abbrev pub new_pacer_state : List (List ℕ) → ℕ → List Segment → ℕ → PacerState
new_pacer_state pieces before plan start = record {
  pieces = pieces;
  before = before;
  plan = plan;
  start = start;
  keep = total_bytes plan;
  passed = 0;
  due = 0;
  sent = 0;
}

-- a pacing with so much to be sent, after this last slot, with so much due and sent
abbrev pub with_progress : PacerState → ℕ → Option ℕ → ℕ → ℕ → PacerState
with_progress p keep last due sent =
    record p { keep = keep; passed = slots_through last; due = due; sent = sent }

-- what is true for every pacing
pub record IsPacerState (p : PacerState) : Type 0 where
  pub plan : IsPlan p.plan
  pub whole : p.before + total_bytes p.plan ≡ length (framed_bytes p.pieces)
  pub short : length (framed_bytes p.pieces) ≤ 2 ^ 64 - 1
  -- both ends of what is sent are boundaries
  pub begins : IsBoundary p.pieces p.before
  pub ends : IsBoundary p.pieces (p.before + p.keep)
  pub most : p.keep ≤ total_bytes p.plan
  -- due are the bytes of the slots that were passed, and none past what is kept
  pub due : p.due ≡ min (first_slots p.plan p.passed) p.keep
  pub sent : p.sent ≤ p.due

-- how many of the plan's slots there are through a slot of the link
abbrev pub slots_by : PacerState → ℕ → ℕ
slots_by p slot = slot + 1 - p.start

-- what is due once a slot was stepped: what the plan has through it or what is kept, if that is
-- less; it never falls
abbrev pub due_by : PacerState → ℕ → ℕ
due_by p slot = max p.due (min (first_slots p.plan (slots_by p slot)) p.keep)

-- the pacing once a slot was stepped, before anything is sent for it
abbrev pub at_slot : ℕ → PacerState → PacerState
at_slot slot p = record p { passed = max p.passed (slots_by p slot); due = due_by p slot }

-- the first boundary at or after what was sent
abbrev pub next_boundary : PacerState → ℕ
next_boundary p = boundary_from p.pieces (p.before + p.sent) - p.before

-- where a sending of what is due ends: with a stop at the first boundary that it reaches
abbrev pub step_end : Bool → PacerState → ℕ
step_end stop p = if stop then min p.due (next_boundary p) else p.due

-- the pacing after a step
abbrev pub after_step : Bool → ℕ → PacerState → PacerState
after_step stop slot p = record (at_slot slot p) { sent = step_end stop (at_slot slot p) }

-- the bytes from one place of the plan up to another
abbrev pub plan_bytes : PacerState → ℕ → ℕ → List ℕ
plan_bytes p from to = bytes_between p.pieces (p.before + from) (p.before + to)

-- whether what was sent ends at a boundary
abbrev pub stands_at_boundary : PacerState → Bool
stands_at_boundary p = next_boundary p == p.sent

-- whether a slot of the plan was stepped and all that is kept was sent
abbrev pub is_done : PacerState → Bool
is_done p = nat_lt 0 p.passed && (p.sent == p.keep)
