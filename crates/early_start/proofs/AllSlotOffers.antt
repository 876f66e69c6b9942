-- What is found in a calendar is found among the plays that it represents, in all slots.
use Rattle.std.proofs.Common.{ℕ, ◌<◌, List, Option, Some, None, length, arith}
use Rattle.plan_cert.specs.declared.Segment.{Segment}
use Rattle.slot_calendar.specs.Calendars.{CalendarState}
use Rattle.slot_calendar.specs.Plays.{Play, booked_by}
use Rattle.slot_calendar.specs.Profiles.{capacity_at}
use Rattle.slot_calendar.proofs.AllSlotOverflow.{StandsWithin, overflow_everywhere, room_everywhere}
use Rattle.early_start.specs.StartSearch.{CanStart, IsOffer, IsOfferIn, IsStart, IsStartIn, Offers}

pub offer_everywhere : {calendar : CalendarState} {plays : List Play} {segments : List Segment} {first : ℕ} {found :
    Offers}
    → StandsWithin (capacity_at calendar.steps) calendar plays → calendar.first < first
    → IsOfferIn calendar segments first found
    → IsOffer 0 (booked_by plays) (capacity_at calendar.steps) segments first found
offer_everywhere {calendar} {plays} {segments} {first} {found} its after offer = record {
  refusals = record {
    starts = offer.refusals.starts;
    refused = λ i none inside.
        overflow_everywhere its (omega (arith, offer.refusals.starts i none inside, after))
        (offer.refusals.refused i none inside);
  };
  start = start_everywhere found.start offer.start;
}
  where
    start_everywhere : (start : Option ℕ) → IsStartIn calendar segments first found.wait (length found.tried) start →
        IsStart (CanStart 0 (booked_by plays) (capacity_at calendar.steps) segments) first found.wait
        (length found.tried) start
    start_everywhere None is = is
    start_everywhere (Some start) is = (is.0, is.1, room_everywhere its (omega (arith, is.1, after)) is.2)
