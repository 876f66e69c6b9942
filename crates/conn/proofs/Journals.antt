-- The station's answers agree with each longer journal, and with one another.
use Rattle.std.proofs.lemmas.Grind.{common_steps}
use Rattle.std.proofs.Common.{◌≡◌, ℕ, ◌+◌, ◌≤◌, ◌++◌, List, [], ◌∷◌, length, take, ◌∙◌, arith}
use Rattle.std.proofs.lemmas.List.{append-nil}
use Rattle.std.proofs.Math.Nat.{le_refl}
use mathlib.Core.List.{IsPrefix}
use Rattle.admission.specs.declared.entries.Entry.{Entry}
use Rattle.admission.specs.Histories.{open_count}
use Rattle.admission.specs.Makers.{PlacedEntry}
use Rattle.session_records.specs.declared.notes.OfferNote.{OfferNote}
use Rattle.station.specs.Seats.{IsSameSeat, SeatState}
use Rattle.station.proofs.LongerJournals.{prefix_at, prefix_take}
use Rattle.conn.specs.Journals.{AgreeWith, IsFullIn, IsOfferedIn, StandsIn, Terms, terms_of}
use Rattle.conn.specs.InputSteps.{Outcome, Unasked, Entered, WasFull, Offered}

prefix_length : (journal longer : List Entry) → IsPrefix journal longer → length journal ≤ length longer
prefix_length journal longer prefix = grind (arith, common_steps)

-- a journal with its terms, and a longer one that begins with it; and a place, with one that is no later
pub record LongerJournal : Type 0 where
  pub terms : Terms
  pub journal : List Entry
  pub longer : List Entry
  pub prefix : IsPrefix journal longer
  pub low : ℕ
  pub from : ℕ
  pub below : low ≤ from

-- from a place on
abbrev pub from_place : LongerJournal → ℕ → LongerJournal
from_place grown place = record grown { low = place; from = place; below = le_refl place }

-- a journal is no shorter than itself, and may be read from an earlier place on
abbrev pub same_journal : Terms → List Entry → (low from : ℕ) → low ≤ from → LongerJournal
same_journal terms journal low from below = record {
  terms = terms;
  journal = journal;
  longer = journal;
  prefix = ([], append-nil journal);
  low = low;
  from = from;
  below = below;
}

stands_longer : (grown : LongerJournal) (placed : PlacedEntry)
    → StandsIn grown.terms grown.journal grown.from placed → StandsIn grown.terms grown.longer grown.low placed
stands_longer grown placed stands =
    let inside : placed.place ≤ length journal = omega (arith, stands.within) in
    let same : open_count (take placed.place longer)
    ≡ open_count (take placed.place journal) = rw
    (prefix_take journal longer prefix placed.place inside) in record {
      after = omega (arith, below, stands.after);
      within = omega (arith, stands.within, prefix_length journal longer prefix);
      entry = λ none. prefix_at journal longer prefix placed.place none stands.within ∙ stands.entry none;
      maker_is = stands.maker_is;
      room = omega (arith, stands.room, same);
    }
  where
    open grown use {journal, longer, prefix, below}

full_longer : (grown : LongerJournal) (more entries live : ℕ)
    → IsFullIn grown.terms.limit grown.journal grown.from more entries live
    → IsFullIn grown.terms.limit grown.longer grown.low more entries live
full_longer grown more entries live full = grind (arith, common_steps)

offered_longer : (grown : LongerJournal) (slot : ℕ) (note : OfferNote)
    → IsOfferedIn grown.terms.steps grown.journal grown.from slot note
    → IsOfferedIn grown.terms.steps grown.longer grown.low slot note
offered_longer grown slot note offered = grind (arith, common_steps)

-- answers that agree with a journal agree with a longer one, from an earlier place on, and so do these and more
agree_by : (grown : LongerJournal) (first more : List Outcome) → AgreeWith grown.terms grown.journal grown.from first
    → ((low : ℕ) → low ≤ length grown.journal → AgreeWith grown.terms grown.longer low more)
    → AgreeWith grown.terms grown.longer grown.low (first ++ more)
agree_by grown [] more agree later = later grown.low (omega (arith, grown.below, agree))
agree_by grown (Unasked ∷ first) more agree later = agree_by grown first more agree later
agree_by grown (Entered placed ∷ first) more agree later =
    (stands_longer grown placed agree.0, agree_by (from_place grown (placed.place + 1)) first more agree.1 later)
agree_by grown (WasFull asked entries live ∷ first) more agree later =
    (full_longer grown asked entries live agree.0, agree_by (from_place grown entries) first more agree.1 later)
agree_by grown (Offered slot note ∷ first) more agree later =
    (offered_longer grown slot note agree.0, agree_by (from_place grown note.seen) first more agree.1 later)

pub agree_longer : (grown : LongerJournal) (outcomes : List Outcome)
    → AgreeWith grown.terms grown.journal grown.from outcomes → AgreeWith grown.terms grown.longer grown.low outcomes
agree_longer grown outcomes agree = rw append-nil at (agree_by grown outcomes [] agree
    (λ low below. omega (arith, below, prefix_length grown.journal grown.longer grown.prefix)))

pub agree_then : (grown : LongerJournal) (first more : List Outcome)
    → AgreeWith grown.terms grown.journal grown.from first
    → AgreeWith grown.terms grown.longer (length grown.journal) more
    → AgreeWith grown.terms grown.longer grown.low (first ++ more)
agree_then grown first more agree later = agree_by grown first more agree
    (λ low below. agree_longer (same_journal grown.terms grown.longer low (length grown.journal) below) more later)

-- ---- a seat

pub terms_same : (a b : SeatState) → IsSameSeat a b → terms_of b ≡ terms_of a
terms_same a b same = grind arith
