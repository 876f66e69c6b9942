-- What a day's journal says: whose its entries are, that each play is halted, and how full it is.
use Rattle.std.specs.Prelude.{ℕ, ◌≡◌, ◌+◌, ◌<◌, ◌≤◌, ◌++◌, List, All, codes, count_by, decimal}
use Rattle.std.specs.Prelude.{length, slice_index_or, take, true}
use Rattle.admission.specs.declared.entries.Entry.{Entry}
use Rattle.admission.specs.Histories.{IsHalt, is_halt, state_after}
use Rattle.admission.specs.Machine.{CanHalt}
use Rattle.plan_cert.specs.PlanSlots.{total_bytes}
use Rattle.day_run.specs.ClientStates.{ClientPlay, is_playing}
use Rattle.day_run.specs.Days.{SharedLink, DayState}
use Rattle.day_script.specs.declared.scripts.Line.{Line}
use Rattle.day_script.specs.declared.scripts.Line.TheVariants.{Play, Pause, Resume, Look, Slot}
use Rattle.day_script.specs.declared.scripts.Line.TheVariants.{Offer}

-- one entry was made, by this maker, or none
pub record IsMadeBy (maker : ℕ) (old new : DayState) : Type 0 where
  pub made : List Entry
  pub entries_are : new.entries ≡ old.entries ++ made
  pub few : length made ≤ 1
  pub makers : All (λ (e : Entry). e.maker ≡ maker) made

-- halts were made, and no other entry
pub record AreHaltsMade (old new : DayState) : Type 0 where
  pub made : List Entry
  pub entries_are : new.entries ≡ old.entries ++ made
  pub halts : All (λ (e : Entry). is_halt e.command ≡ true) made

-- the maker of the entries that a line makes: the client that asks, and 0 for a look; a slot makes
-- halts alone, and an offer makes no entry
abbrev pub HasItsMaker : Line → DayState → DayState → Type 0
HasItsMaker (Play client source buffer delay) old new = IsMadeBy client old new
HasItsMaker (Pause client) old new = IsMadeBy client old new
HasItsMaker (Resume client) old new = IsMadeBy client old new
HasItsMaker (Look slot) old new = IsMadeBy 0 old new
HasItsMaker (Slot slot) old new = AreHaltsMade old new
HasItsMaker (Offer client source buffer delay wait) old new = new ≡ old

-- the play of a client that plays: its entry is the client's, and it can be halted with any bytes
-- of its plan, as an open play can
pub record IsOpenPlayOf (entries : List Entry) (client : ℕ) (play : ClientPlay) : Type 0 where
  pub maker : (none : Entry) → (slice_index_or entries play.number none).maker ≡ client
  pub open_is : (keep : ℕ) → keep ≤ total_bytes play.plan →
      CanHalt (state_after entries) play.number keep

-- one entry halts this play, and no other does; it is by the maker of the play
pub record IsHaltedOnce (entries : List Entry) (number : ℕ) : Type 0 where
  pub place : ℕ
  pub keep : ℕ
  pub halt : IsHalt entries place number keep
  pub only : (i kept : ℕ) → IsHalt entries i number kept → i ≡ place
  pub own : (none : Entry) → (slice_index_or entries place none).maker ≡
      (slice_index_or entries number none).maker

-- the entries that a line may need: one for a look, and one with another for its halt for a play
abbrev pub places_needed : Line → ℕ
places_needed (Look slot) = 1
places_needed _ = 2

-- a line says that the journal is full
abbrev pub SaysFull : List ℕ → Type 0
SaysFull text = take 15 text ≡ codes "refused journal"

-- the journal has no room for so many entries more beside those for the halts of the plays that go
-- on; the text says how many entries it has, and how many clients play
pub record IsFullJournal (link : SharedLink) (needed : ℕ) (moment : DayState) (text : List ℕ)
    : Type 0 where
  pub full : link.limit < length moment.entries + count_by is_playing moment.states + needed
  pub text_is : text ≡ codes "refused journal entries=" ++ decimal (length moment.entries)
      ++ codes " open=" ++ decimal (count_by is_playing moment.states) ++ codes "\n"
