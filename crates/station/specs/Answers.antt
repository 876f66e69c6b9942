-- What a station answers.
use Rattle.std.specs.Prelude.{◌≡◌, ℕ, ◌+◌, ◌<◌, ◌≤◌, List, [], ◌∷◌, ◌++◌, length}
use Rattle.plan_cert.specs.declared.Segment.{Segment}
use Rattle.admission.specs.declared.entries.Answer.{Answer}
use Rattle.admission.specs.declared.entries.Answer.TheVariants.{Overflow}
use Rattle.admission.specs.declared.entries.Command.{Command}
use Rattle.admission.specs.declared.entries.Entry.{Entry}
use Rattle.admission.specs.Machine.{IsAnswer}
use Rattle.admission.specs.Books.{places_taken}
use Rattle.admission.specs.Histories.{open_count, state_after}
use Rattle.station.specs.declared.answers.PlayRefused.{PlayRefused}
use Rattle.station.specs.declared.answers.PlayRefused.TheVariants.{JournalFull}
use Rattle.station.specs.declared.answers.PlayRefused.TheVariants.{Overflow as PlayOverflow}
use Rattle.station.specs.Ledgers.{play_of}
use Rattle.station.specs.Seats.{SeatState}

-- The seat's call made this entry: it stands at `place`, the last of what the seat has seen, and is
-- answered as the machine answers in the state after the entries before it. The journal had room
-- for `more` entries beside those for the halts of its open plays.
pub record HasMadeEntry (old new : SeatState) (more : ℕ) (command : Command) (place : ℕ)
    (answer : Answer) : Type 0 where
  pub before : List Entry
  pub place_is : place ≡ length before
  pub seen : new.seen ≡
      before ++ record { maker = old.number; command = command; answer = answer } ∷ []
  pub answer_is : IsAnswer old.steps (state_after before) command answer
  pub mine : new.mine ≡
      old.mine ++ record {
        place = place;
        entry = record { maker = old.number; command = command; answer = answer };
      } ∷ []
  pub room : places_taken before + more ≤ old.limit

-- The journal had no room for `more` entries beside those for the halts of its open plays; these
-- are its two numbers.
pub record IsFull (old new : SeatState) (more entries live : ℕ) : Type 0 where
  pub mine : new.mine ≡ old.mine
  pub entries_are : entries ≡ length new.seen
  pub open_is : live ≡ open_count new.seen
  pub full : old.limit < entries + live + more

-- why a play is refused
abbrev pub IsSeatRefused : SeatState → SeatState → ℕ → List Segment → PlayRefused → Type 0
IsSeatRefused old new heard asked (JournalFull plan entries live) = (plan ≡ asked)
    × IsFull old new 2 entries live
IsSeatRefused old new heard asked (PlayOverflow place slot booked bytes) =
    HasMadeEntry old new 2 (play_of heard asked) place (Overflow slot booked bytes)
