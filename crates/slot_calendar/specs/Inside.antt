-- How a calendar is kept: a profile, and a ring whose blocks all have their greatest totals.
use Rattle.std.specs.Prelude.{◌≡◌, None}
use Rattle.slot_calendar.specs.Calendars.{IsCalendar}
pub use Rattle.slot_calendar.specs.Calendars.{CalendarState}
use Rattle.slot_calendar.specs.declared.calendar.Calendar.TheInside.{Inside}

abbrev pub calendar_state : Inside → CalendarState
calendar_state calendar =
    record { first = calendar.ring.first; steps = calendar.profile; totals = calendar.ring.totals }

pub record IsCalendarInside (calendar : Inside) : Type 0 where
  pub settled : calendar.ring.stale ≡ None
  pub calendar_is : IsCalendar (calendar_state calendar)
