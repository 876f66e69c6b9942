-- What a halt leaves: what was sent is ahead of what was played, and the rest fits in the buffer.
use Rattle.std.proofs.Common.{◌≡◌, ℕ, ◌+◌, ◌-◌, ◌<◌, ◌≤◌, List, Option, Some, None, length, sym, ap, subst}
use Rattle.std.proofs.Common.{◌∙◌, inl, inr, arith}
use Rattle.std.proofs.lemmas.Bool.{cases_lt}
use Rattle.plan_cert.specs.declared.Segment.{Segment}
use Rattle.plan_cert.specs.PlanSlots.{sum_through, total_bytes, total_slots}
use Rattle.plan_cert.proofs.PlanSlotLemmas.{sum_through_rises}
use Rattle.wire_curve.specs.declared.film.Timing.{Timing}
use Rattle.wire_curve.specs.FilmCurves.{IsWithinLimits, due_slot, used_before}
use Rattle.wire_curve.proofs.SlotUsageLemmas.{used_before-none}
use Rattle.vod_base.specs.declared.limits.TheConstants.{MAX_BYTES}
use Rattle.film_run.specs.declared.runs.Run.{Run}
use Rattle.film_run.specs.declared.plans.Playback.{Playback}
use Rattle.film_run.specs.Runs.{Fits, IsRun, bytes_between}
use Rattle.film_run.specs.Plans.{IsPlanOf, rest_sizes, timing_of}
use Rattle.film_run.specs.Pauses.{IsHalt, IsRemainingRun, IsStop}
use Rattle.film_run.proofs.CurveLemmas.{IsPlayable, KeepsTo, keeps-to, limits, total-of-rest}
use Rattle.film_run.proofs.SumLemmas.{bytes-first, bytes-join, bytes-most, length-between}
use Rattle.film_run.proofs.UsedBytesLemmas.{IsUnusedFrom, used-front}

pub halt-within : (plan : List Segment) (last : Option ℕ) (keep : ℕ) → IsHalt plan last keep → keep ≤ total_bytes plan
halt-within plan None keep halt = omega arith
halt-within plan (Some last) keep halt = halt.2

-- a play by a plan for pictures of these sizes, up to the slot of a stop
pub record StoppedPlay : Type 0 where
  pub sizes : List ℕ
  pub timing : Timing
  pub plan : List Segment
  pub keep : ℕ
  pub stop : ℕ

-- it is halted, and the slot of the stop is one of the plan
pub record StopsWithin (play : StoppedPlay) (last : Option ℕ) : Type 0 where
  pub limits : IsWithinLimits play.sizes play.timing
  pub keeps : KeepsTo play.sizes play.timing play.plan
  pub halt : IsHalt play.plan last play.keep
  pub stop_is : IsStop play.plan last play.keep play.stop
  pub inside : play.stop < total_slots play.plan

-- what was played was sent
pub stop-ahead : (play : StoppedPlay) (last : Option ℕ) → StopsWithin play last
    → used_before play.sizes play.timing play.stop ≤ play.timing.sent + play.keep
stop-ahead play None stops =
    let first = ap (used_before play.sizes play.timing) stops.stop_is in
    omega (arith, first, used_before-none play.sizes play.timing, stops.limits.played_was_sent)
stop-ahead play (Some last) stops =
    let is = stops.stop_is in
    let inside : stop < total_slots plan = stops.inside in
    elim (cases_lt 0 stop) [
      | inl some ↦
          let t = stop - 1 in
          let back : t + 1 ≡ stop = omega arith in
          let above : used_before sizes timing stop ≤ timing.sent + sum_through plan t =
          subst (λ u. used_before sizes timing u ≤ timing.sent + sum_through plan t) back
          (stops.keeps.above t (omega (arith, stops.keeps.slots))) in
          elim (cases_lt t is.0) [
            | inl before ↦ let less = is.1.0.not_before t before in omega arith
            | inr from ↦ omega (arith, sum_through_rises plan t last (omega (arith, is.1.1)), stops.halt.1)
          ]
      | inr none ↦
          let first : used_before sizes timing stop ≡ used_before sizes timing 0 =
          ap (used_before sizes timing) (omega arith) in
          omega (arith, first, used_before-none sizes timing, stops.limits.played_was_sent)
    ]
  where
    open play use {sizes, timing, plan, stop}

-- what was sent and isn't played fits in the buffer
pub stop-fits : (play : StoppedPlay) (last : Option ℕ) → StopsWithin play last
    → play.timing.sent + play.keep ≤ used_before play.sizes play.timing play.stop + play.timing.buffer
stop-fits play None stops =
    let first = ap (used_before play.sizes play.timing) stops.stop_is in
    omega (arith, first, used_before-none play.sizes play.timing, stops.limits.sent_fits_buffer)
stop-fits play (Some last) stops =
    let is = stops.stop_is in
    let inside = stops.inside in
    let below = stops.keeps.below play.stop (omega (arith, inside, stops.keeps.slots)) in
    let rises = sum_through_rises play.plan is.0 play.stop (omega (arith, is.1.1)) in
    omega (arith, is.1.0.reached, below, rises)

-- a run's play by a plan, that is halted
pub record HaltedPlay : Type 0 where
  pub sizes : List ℕ
  pub playback : Playback
  pub run : Run
  pub plan : List Segment
  pub last : Option ℕ
  pub keep : ℕ

pub record IsHalting (play : HaltedPlay) : Type 0 where
  pub can : IsPlayable play.sizes play.playback play.run
  pub planned : IsPlanOf play.sizes play.playback play.run play.plan
  pub halt : IsHalt play.plan play.last play.keep

pub halting-keeps : {play : HaltedPlay} → IsHalting play
    → KeepsTo (rest_sizes play.sizes play.run) (timing_of play.playback play.run) play.plan
halting-keeps {play} h =
    keeps-to (rest_sizes play.sizes play.run) (timing_of play.playback play.run) play.plan (limits h.can) h.planned

-- what is kept is of the run
pub kept-whole : {play : HaltedPlay} → IsHalting play
    → play.run.sent + play.keep ≤ bytes_between play.sizes play.run.first_unit play.run.end_unit
kept-whole {play} h = omega (
  arith,
  halt-within play.plan play.last play.keep h.halt,
  (halting-keeps h).bytes,
  total-of-rest play.sizes play.playback play.run h.can.is,
)

pub kept-small : {play : HaltedPlay} → IsHalting play → play.run.sent + play.keep ≤ MAX_BYTES
kept-small {play} h = omega (
  arith,
  kept-whole h,
  bytes-most play.sizes play.run.first_unit play.run.end_unit (omega (arith, h.can.is.order, h.can.is.rest)),
  h.can.small,
)

-- a unit that is used before the plan's last slot isn't the last one
pub goes-on : {play : HaltedPlay} (from : ℕ) → IsHalting play → play.run.from_unit ≤ from → from < play.run.end_unit
    → due_slot (timing_of play.playback play.run) (from - play.run.from_unit) + 1 < total_slots play.plan
    → from + 1 < play.run.end_unit
goes-on {play} from h order within used =
    let count = length-between play.sizes run.from_unit run.end_unit h.can.is.within in
    let keeps = halting-keeps h in
    elim (cases_lt (from + 1) run.end_unit) [
      | inl less ↦ less
      | inr end ↦
          let last_picture : from - run.from_unit ≡ length (rest_sizes play.sizes run) - 1 = omega arith in
          let same = ap (due_slot (timing_of play.playback run)) last_picture in
          absurd (omega (arith, same, keeps.slots))
    ]
  where
    open play use {run}

-- the pictures before unit `from` are used before slot `stop`, and it isn't
pub record IsPlayedTo (playback : Playback) (run : Run) (from stop : ℕ) : Type 0 where
  pub not_back : run.from_unit ≤ from
  pub within : from < run.end_unit
  pub used : (unit : ℕ) → run.from_unit ≤ unit → unit < from → due_slot (timing_of playback run) (unit - run.from_unit)
      < stop
  pub unused : stop ≤ due_slot (timing_of playback run) (from - run.from_unit)

-- the bytes that were played
pub played-by : {play : HaltedPlay} {from stop : ℕ} → IsHalting play → IsPlayedTo play.playback play.run from stop
    → bytes_between play.sizes play.run.first_unit from
    ≡ used_before (rest_sizes play.sizes play.run) (timing_of play.playback play.run) stop
played-by {play} {from} {stop} h played =
    let is = h.can.is in
    let order : run.from_unit ≤ from = played.not_back in
    let within : from < run.end_unit = played.within in
    let n = from - run.from_unit in
    let count = length-between sizes run.from_unit run.end_unit is.within in
    let its = λ (k : ℕ) (lt : k < n).
    let back : (run.from_unit + k) - run.from_unit ≡ k = omega arith in
    subst (λ u. due_slot (timing_of playback run) u < stop) back
    (played.used (run.from_unit + k) (omega arith) (omega arith)) in
    let unused : IsUnusedFrom (rest_sizes sizes run) (timing_of playback run) stop n =
    record { some = h.can.plays.some_slot_units; fits = omega (arith, count); unused = played.unused } in
    let front = used-front unused its in
    let first = bytes-first sizes run.from_unit run.end_unit n (omega arith) in
    let end : run.from_unit + n ≡ from = omega arith in
    let same = ap (bytes_between sizes run.from_unit) end in
    omega (arith, front, first, same, is.played_is, bytes-join sizes run.first_unit run.from_unit from is.order order)
  where
    open play use {sizes, playback, run}

-- what is left is a run
pub left-run : {play : HaltedPlay} {left : Run} → IsHalting play
    → (its : IsRemainingRun play.sizes play.playback play.run play.plan play.last play.keep left)
    → its.stop < total_slots play.plan → left.from_unit < play.run.end_unit
    → IsRun play.sizes left × Fits play.playback.buffer left
left-run {play} {left} h its inside rest =
    let stopped : StoppedPlay = record {
      sizes = rest_sizes sizes run;
      timing = timing_of play.playback run;
      plan = play.plan;
      keep = play.keep;
      stop = its.stop;
    } in
    let stops : StopsWithin stopped play.last = record {
      limits = limits h.can;
      keeps = halting-keeps h;
      halt = h.halt;
      stop_is = its.stop_is;
      inside = inside;
    } in
    let to : IsPlayedTo play.playback run left.from_unit its.stop =
    record { not_back = its.not_back; within = rest; used = its.used; unused = its.unused } in
    let used_is = played-by h to in
    let first_is = its.first_is in
    let end_is = its.end_is in
    let all : bytes_between sizes left.first_unit left.end_unit ≡ bytes_between sizes run.first_unit run.end_unit =
    ap (λ f. bytes_between sizes f left.end_unit) first_is ∙ ap (λ e. bytes_between sizes run.first_unit e) end_is in
    let front = ap (λ f. bytes_between sizes f left.from_unit) first_is in (
      record {
        order = omega (arith, h.can.is.order, first_is, its.not_back);
        rest = omega (arith, rest, end_is);
        within = omega (arith, h.can.is.within, end_is);
        played_is = its.played_is ∙ sym used_is ∙ sym front;
        ahead = omega (arith, stop-ahead stopped play.last stops, its.played_is, its.sent_is);
        whole = omega (arith, kept-whole h, all, its.sent_is);
      },
      omega (arith, stop-fits stopped play.last stops, its.played_is, its.sent_is),
    )
  where
    open play use {sizes, run}
