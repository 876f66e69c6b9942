-- A book: the journal of one machine, with room for a limited number of entries.
use Rattle.std.specs.Prelude.{ℕ, ◌≡◌, ◌+◌, List, [], ◌∷◌, ◌++◌, length}
use Rattle.slot_calendar.specs.declared.profiles.CapStep.{CapStep}
use Rattle.admission.specs.declared.entries.Command.{Command}
use Rattle.admission.specs.declared.entries.Entry.{Entry}
use Rattle.admission.specs.declared.entries.Full.{Full}
use Rattle.admission.specs.declared.entries.Noted.{Noted}
use Rattle.admission.specs.Machine.{IsAnswer}
use Rattle.admission.specs.Histories.{IsLegal, open_count, state_after}

-- what contracts see of a book: the steps of the link's capacity, the most entries, and the entries
pub record Journal : Type 0 where
  pub steps : List CapStep
  pub limit : ℕ
  pub entries : List Entry

-- the entries that were made, and one for the halt of each open play
abbrev pub places_taken : List Entry → ℕ
places_taken entries = length entries + open_count entries

-- an entry was made: the machine's answer in the state after the entries before it, at the next
-- place, and nothing else was changed
pub record IsNoted (old : Journal) (maker : ℕ) (command : Command) (noted : Noted) (new : Journal)
    : Type 0 where
  pub place_is : noted.place ≡ length old.entries
  pub answer_is : IsAnswer old.steps (state_after old.entries) command noted.answer
  pub journal_is : new ≡ record {
    steps = old.steps;
    limit = old.limit;
    entries = old.entries
        ++ record { maker = maker; command = command; answer = noted.answer } ∷ [];
  }
  pub legal : IsLegal new.steps new.entries

-- the numbers of a journal that has no room
pub record IsFull (journal : Journal) (full : Full) : Type 0 where
  pub entries_are : full.entries ≡ length journal.entries
  pub open_is : full.live ≡ open_count journal.entries
