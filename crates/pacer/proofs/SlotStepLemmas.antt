-- What each slot brings.
use Rattle.std.proofs.Common.{◌≡◌, ℕ, ◌+◌, ◌-◌, ◌≤◌, List, length, sum, min, max, slice_index, refl}
use Rattle.std.proofs.Common.{sym, ap, ◌∙◌, arith, inl, inr}
use Rattle.std.proofs.lemmas.Bool.{cases_lt}
use Rattle.std.proofs.lemmas.List.{take_all}
use Rattle.std.proofs.lemmas.List.Sums.{sum_by_more, sum_by-take-le}
use Rattle.film_frames.specs.Tracks.{framed_bytes}
use Rattle.plan_cert.specs.declared.Segment.{Segment}
use Rattle.plan_cert.specs.Plan.{IsPlan}
use Rattle.plan_cert.specs.PlanSlots.{plan_slots, sum_through, total_bytes}
use Rattle.plan_cert.proofs.SlotSums.{length-plan_slots, slot-past, sum-plan_slots}
use Rattle.pacer.specs.Boundaries.{boundary_from}
use Rattle.pacer.specs.PacerStates.{IsPacerState, PacerState, due_by, first_slots, slots_by}
use Rattle.pacer.specs.Laws.{SendsNothing, IsLatest, SendsNext, SendsThrough, StopsAtBoundary}
use Rattle.pacer.proofs.PacerStateLemmas.{boundary-is, first-slots-rise}

pub brings-nothing : (p : PacerState) (slot : ℕ) → IsPacerState p → SendsNothing p slot
brings-nothing p slot is = λ before.
    let none : slots_by p slot ≡ 0 = omega arith in
    let passed : max p.passed (slots_by p slot) ≡ p.passed = omega arith in
    let bytes : first_slots p.plan (slots_by p slot) ≡ 0 = ap (first_slots p.plan) none in
    let due : due_by p slot ≡ p.due = omega arith in
    ap (λ n. record p { passed = n; due = due_by p slot }) passed ∙ ap (λ n. record p { due = n }) due

-- what is due after the latest slot
due-through : (p : PacerState) (slot : ℕ) → IsPacerState p → IsLatest p slot
    → due_by p slot ≡ min (sum_through p.plan (slot - p.start)) p.keep
due-through p slot is at =
    let begun = at.begun in
    let same : slots_by p slot ≡ slot - p.start + 1 = omega arith in
    let bytes : first_slots p.plan (slots_by p slot) ≡ sum_through p.plan (slot - p.start) =
    ap (first_slots p.plan) same in
    let rise = first-slots-rise p.plan p.passed (slot - p.start + 1) at.latest in
    omega (arith, bytes, rise, is.due)

pub sends-through : (p : PacerState) (slot : ℕ) → IsPacerState p → SendsThrough p slot
sends-through p slot is = λ at. record { due = due-through p slot is at; sent = refl }

-- one slot more of a plan
one-more : (plan : List Segment) (t : ℕ) → sum_through plan t ≡ first_slots plan t + slice_index (plan_slots plan) t
one-more plan t =
    elim (cases_lt t (length (plan_slots plan))) [
      | inl inside ↦ sum_by_more (λ x. x) (plan_slots plan) t 0 inside
      | inr past ↦
          let all = ap sum (take_all (t + 1) (plan_slots plan) (omega arith)) in
          let same = ap sum (take_all t (plan_slots plan) past) in
          let none = slot-past plan t (omega (arith, past, length-plan_slots plan)) in
          omega (arith, all, same, none)
    ]

-- a plan's first slots have no more than all of its bytes
pub most-slots : (plan : List Segment) (t : ℕ) → IsPlan plan → first_slots plan t ≤ total_bytes plan
most-slots plan t is = omega (arith, sum_by-take-le (λ x. x) (plan_slots plan) t, sum-plan_slots plan is.no_empty)

pub sends-next : (p : PacerState) (slot : ℕ) → IsPacerState p → SendsNext p slot
sends-next p slot is = λ at.
    let begun = at.begun in
    let due = due-through p slot is (record { begun = begun; latest = omega (arith, at.passed) }) in
    let before : p.due ≡ first_slots p.plan (slot - p.start) =
    omega (arith, is.due, ap (first_slots p.plan) at.passed, at.whole, most-slots p.plan (slot - p.start) is.plan) in
    let more = one-more p.plan (slot - p.start) in
    let most = most-slots p.plan (slot - p.start + 1) is.plan in
    record {
      bytes = omega (arith, due, before, more, most, at.whole, at.even);
      next =
          record {
            begun = omega (arith, begun);
            passed = omega
                (arith, at.passed, begun);
            whole = at.whole;
            even = refl;
          };
    }

pub stops-at-boundary : (p : PacerState) (slot : ℕ) → IsPacerState p → StopsAtBoundary p slot
stops-at-boundary p slot is = λ place at.
    let within : p.before + p.sent ≤ length (framed_bytes p.pieces) =
    omega (arith, is.sent, is.due, is.most, is.whole) in
    let same = boundary-is p.pieces (p.before + p.sent) (p.before + place) within at in
    let next : place ≡ boundary_from p.pieces (p.before + p.sent) - p.before = omega (arith, same) in
    ap (λ n. min (due_by p slot) n) (sym next)
