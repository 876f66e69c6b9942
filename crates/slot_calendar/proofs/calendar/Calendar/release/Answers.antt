use Rattle.std.proofs.Common.{◌≡◌, ◌≤◌, ◌+◌, ℕ, arith, refl, sym, ap, ◌∙◌}
use Rattle.slot_calendar.specs.Plays.{Play, released_at, truncated_play}
use Rattle.slot_calendar.specs.Totals.{ring_slots, total_at}
use Rattle.slot_calendar.specs.Calendars.{CalendarState, booked_at}
use Rattle.slot_calendar.proofs.SegmentRoom.{IsPastEnd, cut-none}
use Rattle.slot_calendar.proofs.PlayShares.{HasCut, stands-cut}
use Rattle.slot_calendar.proofs.calendar.Calendar.release.Goals as goal

pub returns-then-saturating_sub-lt-RING_SLOTS-clause-stands :
    goal.returns-then-saturating_sub-lt-RING_SLOTS-clause-stands
returns-then-saturating_sub-lt-RING_SLOTS-clause-stands c = λ before after stands. (
    let old : CalendarState = c.args.self.now in
    let new : CalendarState =
    record { first = c.settle.new.self.first; steps = c.self.inside.profile; totals = c.settle.new.self.totals } in
    let first : c.self.inside.ring.first ≡ old.first = ap (λ e. e.first) c.self.view_is in
    let settled : (t : ℕ) → booked_at new t
    ≡ total_at c.release_segments.new.ring.first c.release_segments.new.ring.totals t =
    λ t. ap (λ n. total_at n c.settle.new.self.totals t) c.settle.ensures.now
    ∙ ap (λ l. total_at c.release_segments.new.ring.first l t) c.settle.ensures.totals in
    let cut : HasCut = record {
      old = old;
      new = new;
      play = truncated_play c.args.start c.args.plan.now c.args.keep;
      first_is = c.settle.ensures.now ∙ c.release_segments.ensures.now ∙ first;
      totals = λ t from. ap (λ n. n + released_at c.args.plan.now c.args.start c.args.keep t) (settled t)
          ∙ ap (λ s. total_at c.release_segments.new.ring.first c.release_segments.new.ring.totals t
          + released_at s c.args.start c.args.keep t) (sym c.segments-segments.ensures.value)
          ∙ c.release_segments.ensures.totals t (omega (arith, from, first))
          ∙ ap (λ e. booked_at e t) c.self.view_is;
    } in
    stands-cut cut before after stands
    )

pub returns-else-saturating_sub-lt-RING_SLOTS-clause-stands :
    goal.returns-else-saturating_sub-lt-RING_SLOTS-clause-stands
returns-else-saturating_sub-lt-RING_SLOTS-clause-stands c = λ before after stands. (
    let old : CalendarState = c.args.self.now in
    let first : c.self.inside.ring.first ≡ old.first = ap (λ e. e.first) c.self.view_is in
    let past : (u : ℕ) → old.first + ring_slots ≤ u → booked_at old u ≡ 0 =
    λ u more. sym (ap (λ e. booked_at e u) c.self.view_is) ∙ c.now.ensures.past u (omega (arith, first, more)) in
    let past_end : old.first + ring_slots ≤ c.args.start =
    omega (arith, first, c.now.ensures.value, c.saturating_sub.ensures, c.if-saturating_sub-lt-RING_SLOTS.false) in
    let play : Play = truncated_play c.args.start c.args.plan.now c.args.keep in
    let past_all : IsPastEnd old play = record { after = past_end; past = past; booked = c.requires.booked } in
    let cut : HasCut = record {
      old = old;
      new = old;
      play = play;
      first_is = refl;
      totals = λ t from. (let none = cut-none t past_all from in omega (arith, none));
    } in
    stands-cut cut before after stands
    )
