-- What each slot of a plan brings, in the plan's own words.
use Rattle.std.specs.Prelude.{ℕ, ◌≡◌, ◌+◌, ◌-◌, ◌<◌, ◌≤◌, ◌↔◌, ◌++◌, min, false, true, drop}
use Rattle.std.specs.Prelude.{slice_index}
use Rattle.film_frames.specs.Tracks.{IsBoundary, IsBoundaryAfter, framed_bytes}
use Rattle.plan_cert.specs.PlanSlots.{plan_slots, sum_through, total_bytes}
use Rattle.pacer.specs.PacerStates.{IsPacerState, PacerState, at_slot, after_step, is_done}
use Rattle.pacer.specs.PacerStates.{plan_bytes, stands_at_boundary}

-- a fact of each pacing and each slot of the link
abbrev pub OfSteps : (PacerState → ℕ → Type 0) → Type 0
OfSteps Fact = (p : PacerState) (slot : ℕ) → IsPacerState p → Fact p slot

-- a slot before the plan's start brings nothing
abbrev pub SendsNothing : PacerState → ℕ → Type 0
SendsNothing p slot = slot < p.start → at_slot slot p ≡ p

-- no slot after this one was stepped, and the plan has begun by then
pub record IsLatest (p : PacerState) (slot : ℕ) : Type 0 where
  pub begun : p.start ≤ slot
  pub latest : p.passed ≤ slot - p.start + 1

-- Once a slot was stepped, exactly what the plan has from its start through that slot is due, or
-- what is kept of it, if that is less; and so much was sent. Missed slots are made up.
pub record IsSentThrough (p : PacerState) (slot : ℕ) (new : PacerState) : Type 0 where
  pub due : new.due ≡ min (sum_through p.plan (slot - p.start)) p.keep
  pub sent : new.sent ≡ new.due

abbrev pub SendsThrough : PacerState → ℕ → Type 0
SendsThrough p slot = IsLatest p slot → IsSentThrough p slot (after_step false slot p)

-- the plan's slots up to this one were stepped, and no later one; no halt was asked
pub record IsUpTo (p : PacerState) (slot : ℕ) : Type 0 where
  pub begun : p.start ≤ slot
  pub passed : p.passed ≡ slot - p.start
  pub whole : p.keep ≡ total_bytes p.plan
  pub even : p.sent ≡ p.due

-- the next slot brings the bytes of that slot of the plan, and the one after it is then the next
pub record IsNextSent (p : PacerState) (slot : ℕ) (new : PacerState) : Type 0 where
  pub bytes : new.sent ≡ p.sent + slice_index (plan_slots p.plan) (slot - p.start)
  pub next : IsUpTo new (slot + 1)

abbrev pub SendsNext : PacerState → ℕ → Type 0
SendsNext p slot = IsUpTo p slot → IsNextSent p slot (after_step false slot p)

-- a step with a stop sends as much as one without, but nothing past the first boundary at or after
-- what was sent
abbrev pub StopsAtBoundary : PacerState → ℕ → Type 0
StopsAtBoundary p slot =
    (place : ℕ) → IsBoundaryAfter p.pieces (p.before + p.sent) (p.before + place)
    → (after_step true slot p).sent ≡ min (after_step false slot p).sent place

-- the bytes of two parts of a plan, one after the other, are those of both
abbrev pub DoPartsJoin : PacerState → Type 0
DoPartsJoin p =
    (from at to : ℕ) → from ≤ at → at ≤ to →
    plan_bytes p from at ++ plan_bytes p at to ≡ plan_bytes p from to

-- all bytes of a plan are those of the track from the plan's first one on
abbrev pub SendsTheTrack : PacerState → Type 0
SendsTheTrack p = plan_bytes p 0 (total_bytes p.plan) ≡ drop p.before (framed_bytes p.pieces)

-- what was sent ends at a boundary of the track
abbrev pub IsBoundaryExact : PacerState → Type 0
IsBoundaryExact p = (stands_at_boundary p ≡ true) ↔ IsBoundary p.pieces (p.before + p.sent)

-- a slot of the plan was stepped, and nothing that is kept is still to be sent
pub record IsPlayedOut (p : PacerState) : Type 0 where
  pub begun : 1 ≤ p.passed
  pub none_left : p.keep - p.sent ≡ 0

abbrev pub IsDoneExact : PacerState → Type 0
IsDoneExact p = (is_done p ≡ true) ↔ IsPlayedOut p
