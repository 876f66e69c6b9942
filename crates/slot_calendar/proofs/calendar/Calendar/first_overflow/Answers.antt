use Rattle.std.proofs.Common.{◌≡◌, ◌+◌, List, [], ◌∷◌, get_or, take, arith, ap, subst, inl, inr}
use Rattle.std.proofs.lemmas.Bool.{cases_lt}
use Rattle.std.proofs.lemmas.List.{take_all}
use Rattle.plan_cert.specs.declared.Segment.{Segment}
use Rattle.plan_cert.specs.PlanSlots.{total_slots}
use Rattle.slot_calendar.specs.Profiles.{capacity_at}
use Rattle.slot_calendar.specs.Calendars.{CalendarState, booked_at, IsCalendar, FitsIn, HasRoom, IsOverflowIn}
use Rattle.slot_calendar.specs.Calendars.{IsFirstOverflow}
use Rattle.slot_calendar.proofs.PlanSlots.{asked-after, from-next, no_segment, segment-at}
use Rattle.slot_calendar.proofs.SegmentRoom.{fits-next, first-overflow}
use Rattle.slot_calendar.proofs.calendar.Calendar.first_overflow.Goals as goal

pub returns-in-Some : goal.returns-in-Some
returns-in-Some c =
    let i = c.loop-segment in
    let old : CalendarState = c.args.self.now in
    let segments = c.segments-segments.result.now in
    let s : Segment = get_or segments i.segment-index no_segment in
    let over = c.in-Some.over in
    let at = segment-at c.args.start segments i.segment-index (omega arith) i.invariant.from_is in
    let Q : CalendarState → Type 0 =
    λ e. IsOverflowIn i.from (i.from + s.slots) (booked_at e) (capacity_at e.steps) i.from (s ∷ []) over in
    let P : List Segment → Type 0 =
    λ l. IsFirstOverflow old.first (booked_at old) (capacity_at old.steps) c.args.start l over in
    subst P c.segments-segments.ensures.value
    (first-overflow old at (omega (arith, i.invariant.from_is, c.requires.after)) i.invariant.fits
    (subst Q c.self.view_is c.in-Some.ensures))

pub loop-segment-preserved : goal.loop-segment-preserved
loop-segment-preserved c =
    let i = c.loop-segment in
    let old : CalendarState = c.args.self.now in
    let segments = c.segments-segments.result.now in
    let s : Segment = get_or segments i.segment-index no_segment in
    let at = segment-at c.args.start segments i.segment-index (omega arith) i.invariant.from_is in
    let Q : CalendarState → Type 0 =
    λ e. FitsIn i.from (i.from + s.slots) (booked_at e) (capacity_at e.steps) i.from (s ∷ []) in
    record {
      from_is = from-next at;
      fits = fits-next old at i.invariant.fits
          (subst Q c.self.view_is c.in_default.ensures);
    }

pub returns : goal.returns
returns c =
    let i = c.loop-segment in
    let old : CalendarState = c.args.self.now in
    let segments = c.segments-segments.result.now in
    let is : IsCalendar old = subst IsCalendar c.self.view_is c.self.invariant.calendar_is in
    let all : total_slots (take i.segment-index segments) ≡ total_slots segments =
    ap total_slots (take_all i.segment-index segments c.loop-segment-test.false) in
    let P : List Segment → Type 0 = λ l. HasRoom old.first (booked_at old) (capacity_at old.steps) c.args.start l in
    subst P c.segments-segments.ensures.value
    (record {
      each = λ u from. elim (cases_lt u i.from) [
        | inl before ↦ i.invariant.fits u from before
        | inr after ↦ (
            let none = asked-after segments c.args.start u (omega (arith, i.invariant.from_is, all, after)) in
            omega (arith, none, is.within u from)
            )
      ];
    })
