use Rattle.std.proofs.Common.{◌≡◌, ◌+◌, arith, ap, subst, ◌∙◌}
use Rattle.slot_calendar.specs.Plays.{asked_at}
use Rattle.slot_calendar.specs.Totals.{total_at}
use Rattle.slot_calendar.specs.Calendars.{CalendarState, booked_at, IsCalendar}
use Rattle.slot_calendar.proofs.CapacitySteps.{capacity-most}
use Rattle.slot_calendar.proofs.PlayShares.{stands-push}
use Rattle.slot_calendar.proofs.calendar.Calendar.book.Goals as goal

pub book_segments-requires-clause-fits : goal.book_segments-requires-clause-fits
book_segments-requires-clause-fits c = λ t from. (
    let old : CalendarState = c.args.self.now in
    let is : IsCalendar old = subst IsCalendar c.self.view_is c.self.invariant.calendar_is in
    let first : c.self.inside.ring.first ≡ old.first = ap (λ e. e.first) c.self.view_is in
    let fits = c.requires.room.each t (omega (arith, from, first)) in
    let small = capacity-most old.steps t is.profile in
    let totals : total_at c.self.inside.ring.first c.self.inside.ring.totals t ≡ booked_at old t =
    ap (λ e. booked_at e t) c.self.view_is in
    let asked : asked_at c.segments.result.now c.args.start t ≡ asked_at c.args.plan.now c.args.start t =
    ap (λ s. asked_at s c.args.start t) c.segments.ensures.value in
    omega (arith, fits, small, totals, asked)
    )

pub returns-clause-stands : goal.returns-clause-stands
returns-clause-stands c = λ plays stands. (
    let old : CalendarState = c.args.self.now in
    let new : CalendarState =
    record {
      first = c.book_segments.new.ring.first;
      steps = c.self.inside.profile;
      totals = c.book_segments.new.ring.totals;
    } in
    let first : c.self.inside.ring.first ≡ old.first = ap (λ e. e.first) c.self.view_is in
    stands-push c.args.plan.now c.args.start (c.book_segments.ensures.now ∙ first)
    (λ t from. c.book_segments.ensures.totals t (omega (arith, from, first))
    ∙ ap (λ s. total_at c.self.inside.ring.first c.self.inside.ring.totals t + asked_at s c.args.start t)
    c.segments.ensures.value
    ∙ ap (λ e. booked_at e t + asked_at c.args.plan.now c.args.start t) c.self.view_is)
    stands
    )
