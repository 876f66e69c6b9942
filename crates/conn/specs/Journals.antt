-- The station's answers to a connection, as a journal has them.
use Rattle.std.specs.Prelude.{◌≡◌, ℕ, ◌+◌, ◌<◌, ◌≤◌, min, List, [], ◌∷◌, length, take}
use Rattle.std.specs.Prelude.{slice_index_or}
use Rattle.vod_base.specs.declared.links.TheConstants.{LATEST_SLOT}
use Rattle.slot_calendar.specs.declared.profiles.CapStep.{CapStep}
use Rattle.slot_calendar.specs.Profiles.{capacity_at}
use Rattle.admission.specs.declared.entries.Command.{Command}
use Rattle.admission.specs.declared.entries.Command.TheVariants.{Play, Halt, Look}
use Rattle.admission.specs.declared.entries.Entry.{Entry}
use Rattle.admission.specs.Histories.{booked_after, open_count, state_after}
use Rattle.admission.specs.Machine.{start_after}
use Rattle.admission.specs.Makers.{PlacedEntry}
use Rattle.early_start.specs.StartSearch.{IsOffer}
use Rattle.session_records.specs.declared.notes.OfferNote.{OfferNote}
use Rattle.station.specs.Seats.{SeatState}
use Rattle.conn.specs.InputSteps.{Outcome, Unasked, Entered, WasFull, Offered}

-- a journal's terms, and the maker of a connection's entries: the steps of the link's capacity, and
-- the most entries
pub record Terms : Type 0 where
  pub steps : List CapStep
  pub limit : ℕ
  pub maker : ℕ

abbrev pub terms_of : SeatState → Terms
terms_of seat = record { steps = seat.steps; limit = seat.limit; maker = seat.number }

-- how many more entries a command needs room for, beside those for the halts of the open plays: a
-- play's own and its halt's, a look's own, and for a halt none
abbrev pub entries_needed : Command → ℕ
entries_needed (Play slot plan) = 2
entries_needed (Look slot) = 1
entries_needed (Halt number keep) = 0

-- after its first entries a journal has room for so many more, beside those for the halts of its
-- open plays
abbrev pub HasRoomAt : Terms → List Entry → ℕ → ℕ → Type 0
HasRoomAt terms journal place more = place + open_count (take place journal) + more ≤ terms.limit

-- an entry stands in a journal, at its place, which is from a place on, and there was room for it
pub record StandsIn (terms : Terms) (journal : List Entry) (from : ℕ) (placed : PlacedEntry)
    : Type 0 where
  pub after : from ≤ placed.place
  pub within : placed.place < length journal
  pub entry : (none : Entry) → slice_index_or journal placed.place none ≡ placed.entry
  pub maker_is : placed.entry.maker ≡ terms.maker
  pub room : HasRoomAt terms journal placed.place (entries_needed placed.entry.command)

-- a prefix of the journal had no room for so many more entries, beside those for the halts of its
-- open plays: these are its two numbers
pub record IsFullIn (limit : ℕ) (journal : List Entry) (from more entries live : ℕ) : Type 0 where
  pub after : from ≤ entries
  pub within : entries ≤ length journal
  pub open_is : live ≡ open_count (take entries journal)
  pub full : limit < entries + live + more

-- an offer is the one that is made in the state after a prefix of the journal, from the slot after
-- the last one received and after now on
pub record IsOfferedIn (steps : List CapStep) (journal : List Entry) (from slot : ℕ)
    (note : OfferNote) : Type 0 where
  pub after : from ≤ note.seen
  pub within : note.seen ≤ length journal
  pub first_is : note.first ≡
      start_after (state_after (take note.seen journal)) (min slot LATEST_SLOT)
  pub offer : IsOffer 0 (booked_after (take note.seen journal)) (capacity_at steps)
      note.plan note.first note.offers

-- the answers agree with a journal, one after another, from a place on
abbrev pub AgreeWith : Terms → List Entry → ℕ → List Outcome → Type 0
AgreeWith terms journal from [] = from ≤ length journal
AgreeWith terms journal from (Unasked ∷ outcomes) = AgreeWith terms journal from outcomes
AgreeWith terms journal from (Entered placed ∷ outcomes) =
    StandsIn terms journal from placed
    × AgreeWith terms journal (placed.place + 1) outcomes
AgreeWith terms journal from (WasFull more entries live ∷ outcomes) =
    IsFullIn terms.limit journal from more entries live
    × AgreeWith terms journal entries outcomes
AgreeWith terms journal from (Offered at_slot note ∷ outcomes) =
    IsOfferedIn terms.steps journal from at_slot note × AgreeWith terms journal note.seen outcomes
