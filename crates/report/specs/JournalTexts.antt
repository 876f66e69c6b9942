-- The text of a journal: the lines of its entries, in their order.
use Rattle.std.specs.Prelude.{ℕ, ◌≡◌, ◌+◌, ◌<◌, List, [], ◌∷◌, ◌++◌, flat_map, length}
use Rattle.std.specs.Prelude.{slice_index_or}
use Rattle.admission.specs.declared.entries.Entry.{Entry}
use Rattle.report.specs.EntryLines.{entry_line}

-- the lines of entries, of which the first stands at a place
abbrev pub journal_text : ℕ → List Entry → List ℕ
journal_text place [] = []
journal_text place (entry ∷ entries) = entry_line place entry ++ journal_text (place + 1) entries

-- The text consists of lines in a row, one for each entry and in the order of entries, and of
-- nothing else: line i is that of entry i, at the place `from + i`.
pub record IsJournalText (from : ℕ) (entries : List Entry) (text : List ℕ) : Type 0 where
  pub lines : List (List ℕ)
  pub count_is : length lines ≡ length entries
  pub each : (i : ℕ) (none : Entry) → i < length entries →
      slice_index_or lines i [] ≡ entry_line (from + i) (slice_index_or entries i none)
  pub text_is : text ≡ flat_map (λ line. line) lines
