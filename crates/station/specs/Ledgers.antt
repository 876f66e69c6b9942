-- What a call at the book leaves of it.
use Rattle.std.specs.Prelude.{◌≡◌, ℕ, ◌+◌, ◌<◌, ◌≤◌, min, List, length}
use Rattle.vod_base.specs.declared.links.TheConstants.{LATEST_SLOT}
use Rattle.plan_cert.specs.declared.Segment.{Segment}
use Rattle.admission.specs.declared.entries.Answer.{Answer}
use Rattle.admission.specs.declared.entries.Answer.TheVariants.{Overflow}
use Rattle.admission.specs.declared.entries.Command.{Command}
use Rattle.admission.specs.declared.entries.Command.TheVariants.{Look, Play}
use Rattle.admission.specs.Books.{IsNoted, Journal, places_taken}
use Rattle.admission.specs.declared.entries.Entry.{Entry}
use Rattle.admission.specs.Histories.{booked_after, open_count, state_after}
use Rattle.admission.specs.Machine.{start_after}
use Rattle.slot_calendar.specs.declared.profiles.CapStep.{CapStep}
use Rattle.slot_calendar.specs.Profiles.{capacity_at}
use Rattle.early_start.specs.StartSearch.{IsOffer, Offers}
use Rattle.station.specs.declared.answers.Offered.{Offered}
use Rattle.station.specs.declared.answers.PlayRefused.{PlayRefused}
use Rattle.station.specs.declared.answers.PlayRefused.TheVariants.{JournalFull}
use Rattle.station.specs.declared.answers.PlayRefused.TheVariants.{Overflow as PlayOverflow}

-- the command of a play that was asked for in a slot that was received
abbrev pub play_of : ℕ → List Segment → Command
play_of heard plan = Play (min heard LATEST_SLOT) plan

-- the command of a look at a slot
abbrev pub look_at : ℕ → Command
look_at slot = Look (min slot LATEST_SLOT)

-- an entry was made, while the journal had room for `more` entries beside those for the halts of
-- its open plays
pub record IsEntered (old new : Journal) (maker more : ℕ) (command : Command) (place : ℕ)
    (answer : Answer) : Type 0 where
  pub noted : IsNoted old maker command (record { place = place; answer = answer }) new
  pub room : places_taken old.entries + more ≤ old.limit

-- no entry was made, since the journal had no room for `more` entries beside those; these are its
-- two numbers
pub record IsFullFor (old new : Journal) (more entries live : ℕ) : Type 0 where
  pub left : new ≡ old
  pub entries_are : entries ≡ length old.entries
  pub open_is : live ≡ open_count old.entries
  pub full : old.limit < entries + live + more

-- why a play is refused
abbrev pub IsPlayRefused : Journal → Journal → ℕ → ℕ → List Segment → PlayRefused → Type 0
IsPlayRefused old new maker heard asked (JournalFull plan entries live) = (plan ≡ asked)
    × IsFullFor old new 2 entries live
IsPlayRefused old new maker heard asked (PlayOverflow place slot booked bytes) =
    IsEntered old new maker 2 (play_of heard asked) place (Overflow slot booked bytes)

-- an offer in the state after these entries: the earliest start within its wait, from the slot
-- after the last one received and after now on
pub record IsOffered (steps : List CapStep) (entries : List Entry) (heard : ℕ)
    (plan : List Segment) (told : Offered) (found : Offers) : Type 0 where
  pub seen_is : told.seen ≡ length entries
  pub first_is : told.first ≡ start_after (state_after entries) (min heard LATEST_SLOT)
  pub offer : IsOffer 0 (booked_after entries) (capacity_at steps) plan told.first found
