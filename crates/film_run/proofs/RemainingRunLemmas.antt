-- What a halt leaves is one run, and one that can be played.
use Rattle.std.proofs.Common.{◌≡◌, ℕ, ◌+◌, ◌-◌, ◌<◌, ◌≤◌, List, Option, Some, None, length, sym, ap, ◌∙◌, inl, inr}
use Rattle.std.proofs.Common.{arith}
use Rattle.std.proofs.lemmas.Bool.{cases_lt}
use Rattle.plan_cert.specs.declared.Segment.{Segment}
use Rattle.plan_cert.specs.PlanSlots.{sum_through, total_bytes, total_slots}
use Rattle.wire_curve.specs.FilmCurves.{due_slot, slot_count, used_before}
use Rattle.wire_curve.proofs.SlotUsageLemmas.{used_before-all}
use Rattle.film_run.specs.declared.runs.Run.{Run}
use Rattle.film_run.specs.declared.plans.Playback.{Playback}
use Rattle.film_run.specs.Runs.{bytes_between}
use Rattle.film_run.specs.Plans.{rest_sizes, timing_of}
use Rattle.film_run.specs.Pauses.{IsHalt, IsRemainingRun, IsStop, ReachesAt}
use Rattle.film_run.specs.Laws.{ContinuesThePlan, IsSending, LeavesRun}
use Rattle.film_run.proofs.SumLemmas.{length-between}
use Rattle.film_run.proofs.CurveLemmas.{total-of-rest}
use Rattle.film_run.proofs.HaltLemmas.{HaltedPlay, IsHalting, left-run}
use Rattle.film_run.proofs.PlanLemmas.{sending-keeps}

reaches-once : (plan : List Segment) (bytes one other : ℕ) → ReachesAt plan bytes one → ReachesAt plan bytes other
    → one ≤ other
reaches-once plan bytes one other is its =
    elim (cases_lt other one) [
      | inl less ↦ let h = is.not_before other less in absurd (omega (arith, h, its.reached))
      | inr more ↦ more
    ]

abbrev run-with : ℕ → ℕ → ℕ → ℕ → ℕ → Run
run-with first end from sent played =
    record { first_unit = first; end_unit = end; from_unit = from; sent = sent; played = played }

pub run-same : {one other : Run} → one.first_unit ≡ other.first_unit → one.end_unit ≡ other.end_unit
    → one.from_unit ≡ other.from_unit
    → one.sent ≡ other.sent → one.played ≡ other.played → one ≡ other
run-same {one} {other} first end from sent played =
    let a : one ≡ run-with other.first_unit one.end_unit one.from_unit one.sent one.played =
    ap (λ n. run-with n one.end_unit one.from_unit one.sent one.played) first in
    let b = ap (λ n. run-with other.first_unit n one.from_unit one.sent one.played) end in
    let c = ap (λ n. run-with other.first_unit other.end_unit n one.sent one.played) from in
    let d = ap (λ n. run-with other.first_unit other.end_unit other.from_unit n one.played) sent in
    let e : run-with other.first_unit other.end_unit other.from_unit other.sent one.played ≡ other =
    ap (λ n. run-with other.first_unit other.end_unit other.from_unit other.sent n) played in
    a ∙ b ∙ c ∙ d ∙ e

pub left-one : {sizes : List ℕ} {playback : Playback} {run left other : Run} {plan : List Segment} {last : Option ℕ}
    {keep : ℕ}
    → IsRemainingRun sizes playback run plan last keep left → IsRemainingRun sizes playback run plan last keep other →
    other ≡ left
left-one {sizes} {playback} {run} {plan} {last} {keep} is its =
    let stops = stop-one last its.stop_is is.stop_is in
    let below = from-once is its in
    let above = from-once its is in
    run-same (its.first_is ∙ sym is.first_is) (its.end_is ∙ sym is.end_is) (omega arith) (its.sent_is ∙ sym is.sent_is)
    (its.played_is ∙ ap (used_before (rest_sizes sizes run) (timing_of playback run)) stops ∙ sym is.played_is)
  where
    -- there is one slot of the stop
    stop-one : (last : Option ℕ) {one other : ℕ} → IsStop plan last keep one → IsStop plan last keep other → one ≡ other
    stop-one None is its = is ∙ sym its
    stop-one (Some last) is its =
        let below = reaches-once plan keep is.0 its.0 is.1.0 its.1.0 in
        let above = reaches-once plan keep its.0 is.0 its.1.0 is.1.0 in
        omega (arith, below, above, is.1.1, its.1.1)

    from-once : {a b : Run} → IsRemainingRun sizes playback run plan last keep a
        → IsRemainingRun sizes playback run plan last keep b → a.from_unit ≤ b.from_unit
    from-once {a} {b} is its =
        let stops = stop-one last is.stop_is its.stop_is in
        elim (cases_lt b.from_unit a.from_unit) [
          | inl less ↦ absurd (omega (arith, is.used b.from_unit its.not_back less, its.unused, stops))
          | inr more ↦ more
        ]

-- a plan of some slots has sent all its bytes by the end of the last one
record HasSentAll (plan : List Segment) : Type 0 where
  pub some : 0 < total_slots plan
  pub end : total_bytes plan ≤ sum_through plan (total_slots plan - 1)

-- the slot of the stop is one of the plan
stop-inside : {stop : ℕ} (plan : List Segment) (last : Option ℕ) (keep : ℕ) → HasSentAll plan
    → IsHalt plan last keep × IsStop plan last keep stop → stop < total_slots plan
stop-inside plan None keep all stops = omega (arith, all.some, stops.1)
stop-inside {stop} plan (Some last) keep all stops =
    let halt = stops.0 in
    let is = stops.1 in
    elim (cases_lt (total_slots plan - 1) is.0) [
      | inl past ↦ let h = is.1.0.not_before (total_slots plan - 1) past in absurd (omega (arith, h, all.end, halt.2))
      | inr within ↦ omega (arith, halt.0, is.1.1)
    ]

-- the plan of a playable run has sent all its bytes by the end of its last slot
all-sent : {sizes : List ℕ} {playback : Playback} {run : Run} {plan : List Segment}
    → IsSending sizes playback run plan → HasSentAll plan
all-sent {sizes} {playback} {run} {plan} is =
    let rest = rest_sizes sizes run in
    let timing = timing_of playback run in
    let keeps = sending-keeps sizes playback run plan is in
    let n = slot_count rest timing in
    let above = keeps.above (n - 1) (omega arith) in
    let last_slot : n - 1 ≡ total_slots plan - 1 = omega (arith, keeps.slots) in
    let whole_use =
    used_before-all rest timing is.can_play.playback_is.some_slot_units is.plan_is.accepted.some_picture in
    let last_place : n - 1 + 1 ≡ n = omega arith in
    let use_at = ap (used_before rest timing) last_place in
    let sum_at = ap (sum_through plan) last_slot in
    record { some = omega (arith, keeps.slots); end = omega (arith, above, whole_use, use_at, sum_at, keeps.bytes) }

pub halted-plays : (sizes : List ℕ) (playback : Playback) (run : Run) (plan : List Segment)
    → IsSending sizes playback run plan
    → LeavesRun sizes playback run plan
halted-plays sizes playback run plan is = λ last keep left halt its.
    let can = is.can_play in
    let rest = rest_sizes sizes run in
    let keeps = sending-keeps sizes playback run plan is in
    let count = length-between sizes run.from_unit run.end_unit can.run_is.within in
    let inside = stop-inside plan last keep (all-sent is) (halt, its.stop_is) in
    let within : left.from_unit < run.end_unit =
    elim (cases_lt left.from_unit run.end_unit) [
      | inl less ↦ less
      | inr past ↦
          let used = its.used (run.end_unit - 1) (omega (arith, can.run_is.rest)) (omega (arith, can.run_is.rest)) in
          let last_picture : (run.end_unit - 1) - run.from_unit ≡ length rest - 1 = omega (arith, count) in
          let same = ap (due_slot (timing_of playback run)) last_picture in
          absurd (omega (arith, used, same, keeps.slots, inside))
    ] in
    let play : HaltedPlay =
    record { sizes = sizes; playback = playback; run = run; plan = plan; last = last; keep = keep } in
    let h : IsHalting play =
    record { can = assumption (can, can.sizes_are); planned = is.plan_is; halt = halt } in
    let whole = left-run h its inside within in
    record { sizes_are = can.sizes_are; playback_is = can.playback_is; run_is = whole.0; fits = whole.1 }

pub goes-on-after : (sizes : List ℕ) (playback : Playback) (run : Run) (plan : List Segment)
    → IsSending sizes playback run plan
    → ContinuesThePlan sizes playback run plan
goes-on-after sizes playback run plan is = λ last keep left rest halt its next_is.
    let next : IsSending sizes playback left rest =
    record { can_play = halted-plays sizes playback run plan is last keep left halt its; plan_is = next_is } in
    let first = (sending-keeps sizes playback run plan is).bytes
    ∙ total-of-rest sizes playback run is.can_play.run_is in
    let second = (sending-keeps sizes playback left rest next).bytes
    ∙ total-of-rest sizes playback left next.can_play.run_is in
    let all : bytes_between sizes left.first_unit left.end_unit ≡ bytes_between sizes run.first_unit run.end_unit =
    ap (λ f. bytes_between sizes f left.end_unit) its.first_is
    ∙ ap (λ e. bytes_between sizes run.first_unit e) its.end_is in
    omega (arith, first, second, all, its.sent_is)
