-- Whether a plan fits, segment after segment.
use Rattle.std.proofs.Common.{◌≡◌, ◌≤◌, ◌+◌, ℕ, [], ◌∷◌, arith, sym, ◌∙◌, inl, inr}
use Rattle.std.proofs.lemmas.Bool.{cases_lt}
use Rattle.slot_calendar.specs.declared.calendar.Overflow.{Overflow}
use Rattle.slot_calendar.specs.Profiles.{capacity_at}
use Rattle.slot_calendar.specs.Plays.{Play, released_at}
use Rattle.slot_calendar.specs.Calendars.{CalendarState, booked_at, FitsIn, IsOverflowIn, IsFirstOverflow}
use Rattle.slot_calendar.specs.Totals.{ring_slots}
use Rattle.slot_calendar.proofs.PlanSlots.{SegmentFrom, asked-in, cut-before}

-- it fits into the slots of one segment more
pub fits-next : (calendar : CalendarState) (at : SegmentFrom)
    → FitsIn calendar.first at.from (booked_at calendar) (capacity_at calendar.steps) at.start at.segments
    → FitsIn at.from (at.from + at.s.slots) (booked_at calendar) (capacity_at calendar.steps) at.from (at.s ∷ [])
    → FitsIn calendar.first (at.from + at.s.slots) (booked_at calendar)
    (capacity_at calendar.steps) at.start at.segments
fits-next calendar at before here = λ u since less.
    elim (cases_lt u at.from) [
      | inl earlier ↦ before u since earlier
      | inr begun ↦ (
          let asked = asked-in u at begun less in
          omega (arith, asked, here u begun less)
          )
    ]

-- its first overflow is that of the first segment that has one
pub first-overflow : (calendar : CalendarState) (at : SegmentFrom) {over : Overflow} → calendar.first ≤ at.from
    → FitsIn calendar.first at.from (booked_at calendar) (capacity_at calendar.steps) at.start at.segments
    → IsOverflowIn at.from (at.from + at.s.slots) (booked_at calendar) (capacity_at calendar.steps) at.from (at.s ∷ [])
    over
    → IsFirstOverflow calendar.first (booked_at calendar) (capacity_at calendar.steps) at.start at.segments over
first-overflow calendar at {over} later before here =
    let asked = asked-in over.slot at here.first.begun here.inside in
    record {
      begun = omega (arith, later, here.first.begun);
      overflows = omega (arith, asked, here.first.overflows);
      least = λ u since less. elim (cases_lt u at.from) [
        | inl earlier ↦ before u since earlier
        | inr begun ↦ (
            let same = asked-in u at begun (omega (arith, less, here.inside)) in
            omega (arith, same, here.first.least u begun less)
            )
      ];
      booked_is = here.first.booked_is;
      asked_is = here.first.asked_is ∙ sym asked;
    }

-- a play that begins after the calendar's end, where nothing is booked
pub record IsPastEnd (calendar : CalendarState) (play : Play) : Type 0 where
  pub after : calendar.first + ring_slots ≤ play.start
  pub past : (u : ℕ) → calendar.first + ring_slots ≤ u → booked_at calendar u ≡ 0
  pub booked : (u : ℕ) → calendar.first ≤ u → released_at play.segments play.start play.keep u ≤ booked_at calendar u

-- nothing is left to give back of it
pub cut-none : {calendar : CalendarState} {play : Play} (t : ℕ) → IsPastEnd calendar play → calendar.first ≤ t
    → released_at play.segments play.start play.keep t ≡ 0
cut-none {play} t is from =
    elim (cases_lt t play.start) [
      | inl before ↦ cut-before play.segments play.start play.keep t before
      | inr begun ↦ omega (arith, is.booked t from, is.past t (omega (arith, is.after, begun)))
    ]
