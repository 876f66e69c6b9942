-- How a book is kept: the journal with a calendar that has booked what its plays book, and the
-- number of open plays.
use Rattle.std.specs.Prelude.{ℕ, ◌≡◌, ◌≤◌, List}
use Rattle.slot_calendar.specs.Calendars.{CalendarState, Represents}
use Rattle.admission.specs.declared.book.TheConstants.{MAX_ENTRIES}
use Rattle.admission.specs.declared.entries.Entry.{Entry}
use Rattle.admission.specs.Machine.{State, plays_of}
use Rattle.admission.specs.Histories.{IsLegal, open_count, state_after}
use Rattle.admission.specs.Books.{places_taken}

-- a calendar has come to the state's now and has booked what its plays book
pub record MatchesState (calendar : CalendarState) (state : State) : Type 0 where
  pub now : calendar.first ≡ state.now
  pub stands : Represents calendar (plays_of state)

-- what is true for each book; the journal has room for all entries without memory
pub record IsBookKept (calendar : CalendarState) (entries : List Entry) (limit count room : ℕ)
    : Type 0 where
  pub legal : IsLegal calendar.steps entries
  pub follows : MatchesState calendar (state_after entries)
  pub count_is : count ≡ open_count entries
  pub within : places_taken entries ≤ limit
  pub few : limit ≤ MAX_ENTRIES
  pub reserved : limit ≤ room
