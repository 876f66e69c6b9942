-- The large day that a number draws: 16 traces, and then turns, in each of which the link may come
-- to a later slot and one client does something. The words are those of the number's generator; n
-- modulo a word's range is what a draw gives.
use Rattle.std.specs.Prelude.{ℕ, zero, suc, ◌+◌, ◌-◌, ◌%◌, ◌≡◌, ◌==◌, max, Bool, true, false}
use Rattle.std.specs.Prelude.{if◌then◌else◌, List, [], ◌∷◌, Option, Some, None, codes, count_by}
use Rattle.std.specs.Prelude.{fold, length, map, sum_by, take}
use Rattle.std.specs.List.{range_with_len}
use Rattle.std.specs.Str.{bytes_eq}
use Rattle.film_make.specs.Generator.{words_after, words_of}
use Rattle.film_make.specs.Trace.{sizes_of}
use Rattle.slot_calendar.specs.declared.profiles.CapStep.{CapStep}
use Rattle.admission.specs.declared.entries.Answer.{Answer}
use Rattle.admission.specs.declared.entries.Answer.TheVariants.{Overflow, Halted}
use Rattle.admission.specs.declared.entries.Entry.{Entry}
use Rattle.admission.specs.Histories.{is_admission, state_after}
use Rattle.admission.specs.Machine.{booked_in}
use Rattle.day_script.specs.declared.fair_totals.FairTotals.{FairTotals}
use Rattle.day_script.specs.declared.fair_totals.EntryCounts.{EntryCounts}
use Rattle.day_script.specs.declared.scripts.Line.{Line}
use Rattle.day_script.specs.declared.scripts.Line.TheVariants as lines
use Rattle.admission.specs.declared.book.TheConstants.{MAX_ENTRIES}
use Rattle.day_run.specs.declared.fairs.TheConstants.{BUFFER_SIZES, LEAST_BUFFER, SLOT_UNITS}
use Rattle.day_run.specs.Days.{IsLine, IsTold, SharedLink, DayState, at_slot, booked_up_to}
use Rattle.day_run.specs.Days.{first_moment, last_journal, state_at, sent_up_to}
use Rattle.day_script.specs.LineTexts.{fair_text}
use Rattle.day_run.specs.ClientStates.{ClientState, Idle, Playing, Pausing, Paused, trace_content}

-- ---- the traces
-- a trace by the next words: the number of its pictures, 100 to 200, and then their sizes
abbrev pub picture_count : (ℕ → ℕ) → ℕ
picture_count words = 100 + words 0 % 101

abbrev pub trace_drawn : (ℕ → ℕ) → List ℕ
trace_drawn words = sizes_of (words_after 1 words) (picture_count words)

-- the words that k traces leave
unfoldable pub after_traces : ℕ → (ℕ → ℕ) → ℕ → ℕ
after_traces zero words = words
after_traces (suc k) words =
    words_after (picture_count (after_traces k words)) (words_after 1 (after_traces k words))

-- the first k traces
abbrev pub traces_drawn : ℕ → (ℕ → ℕ) → List (List ℕ)
traces_drawn k words = map (λ i. trace_drawn (after_traces i words)) (range_with_len 0 k)

-- a link of that capacity with 16 traces to play, in slots of 40 ms, and the longest journal
abbrev pub fair_link : List CapStep → (ℕ → ℕ) → SharedLink
fair_link steps words = record {
  steps = steps;
  limit = MAX_ENTRIES;
  slot_units = SLOT_UNITS;
  media = map (trace_content SLOT_UNITS) (traces_drawn 16 words);
}

-- ---- the turns
-- a turn as it came: the moments before it, after its slot, and at its end, and what the client was
-- answered
pub record FairTurn : Type 0 where
  pub old : DayState
  pub mid : DayState
  pub new : DayState
  pub text : List ℕ

-- the link comes to a slot that is so many later, if it is
abbrev pub at_later : DayState → ℕ → DayState
at_later moment later = if later == 0 then moment else at_slot moment (moment.heard + later)

-- What a client does follows from its state: it plays one of the traces with a drawn buffer and
-- start delay; it pauses; nothing, as its pause isn't done; or it goes on.
abbrev pub line_drawn : (ℕ → ℕ) → ℕ → ClientState → Option Line
line_drawn words client Idle =
    Some (lines.Play client (words 0 % 16) (LEAST_BUFFER + words 1 % BUFFER_SIZES) (words 2 % 26))
line_drawn words client (Playing play) = Some (lines.Pause client)
line_drawn words client (Pausing stop rest) = None
line_drawn words client (Paused rest) = Some (lines.Resume client)

-- such a line is run, or nothing is done
abbrev pub IsDone : SharedLink → Option Line → DayState → DayState → List ℕ → Type 0
IsDone link (Some line) old new text = IsLine link line old new text
IsDone link None old new text = IsTold [] old new text

-- the words that are drawn for it
abbrev pub words_for : ClientState → ℕ
words_for Idle = 3
words_for (Playing play) = 0
words_for (Pausing stop rest) = 0
words_for (Paused rest) = 0

-- the client of a turn, its state when it is drawn, and what it then does
abbrev pub client_of : (ℕ → ℕ) → ℕ
client_of words = words 1 % 256

abbrev pub state_in : (ℕ → ℕ) → FairTurn → ClientState
state_in words turn = state_at turn.mid (client_of words)

abbrev pub line_in : (ℕ → ℕ) → FairTurn → Option Line
line_in words turn = line_drawn (words_after 2 words) (client_of words) (state_in words turn)

-- a turn by the next words: how many slots later, 0 to 3, and one of 256 clients
pub record IsTurn (link : SharedLink) (words : ℕ → ℕ) (turn : FairTurn) : Type 0 where
  pub slot : turn.mid ≡ at_later turn.old (words 0 % 4)
  pub done : IsDone link (line_in words turn) turn.mid turn.new turn.text

-- the words that a turn leaves
abbrev pub after_turn : (ℕ → ℕ) → FairTurn → ℕ → ℕ
after_turn words turn = words_after (2 + words_for (state_in words turn)) words

-- turns one after the other
abbrev pub AreTurns : SharedLink → (ℕ → ℕ) → List FairTurn → DayState → DayState → Type 0
AreTurns link words [] old new = new ≡ old
AreTurns link words (turn ∷ turns) old new =
    (turn.old ≡ old) × (IsTurn link words turn
    × AreTurns link (after_turn words turn) turns turn.new new)

-- ---- what is printed
-- the bytes sent in a turn's slots, those booked there, and the most in one of them
abbrev pub turn_sent : FairTurn → ℕ
turn_sent turn = sent_up_to turn.old turn.mid.heard

abbrev pub turn_booked : FairTurn → ℕ
turn_booked turn = booked_up_to turn.old turn.mid.heard

abbrev pub most_up_to : DayState → ℕ → ℕ
most_up_to moment slot =
    fold max 0 (map (booked_in (state_after moment.entries)) (range_with_len (moment.heard
    + 1) (slot - moment.heard)))

abbrev pub turn_peak : FairTurn → ℕ
turn_peak turn = most_up_to turn.old turn.mid.heard

-- a client was answered that the journal is full
abbrev pub is_full_line : List ℕ → Bool
is_full_line text = bytes_eq (take 15 text) (codes "refused journal")

abbrev pub is_refused : FairTurn → Bool
is_refused turn = is_full_line turn.text

-- the turns, those in which a full journal refused a play, the last slot, all bytes that were sent,
-- all that were booked in the slots up to it, and the most in one of these
abbrev pub counts_of : List FairTurn → DayState → FairTotals
counts_of turns evening = record {
  turns = length turns;
  full = count_by is_refused turns;
  last = evening.heard;
  sent = sum_by turn_sent turns;
  booked = sum_by turn_booked turns;
  peak = fold max 0 (map turn_peak turns);
}

-- the entries of a journal that are plays that were refused because capacity ran out, and halts
abbrev pub is_overflow : Answer → Bool
is_overflow (Overflow slot booked asked) = true
is_overflow _ = false

abbrev pub is_halted : Answer → Bool
is_halted Halted = true
is_halted _ = false

abbrev pub entry_counts_of : List Entry → EntryCounts
entry_counts_of entries = record {
  admitted = count_by (λ (e : Entry). is_admission e.answer) entries;
  overflows = count_by (λ (e : Entry). is_overflow e.answer) entries;
  halted = count_by (λ (e : Entry). is_halted e.answer) entries;
}

-- A number's day of so many turns: the journal, which at the end has the halts of the plays that
-- are open, and the one line that is printed.
pub record IsFair (steps : List CapStep) (number plays : ℕ) (text : List ℕ)
    (journal : List Entry) : Type 0 where
  pub turns : List FairTurn
  pub evening : DayState
  pub count : length turns ≡ plays
  pub run : AreTurns (fair_link steps (words_of number)) (after_traces 16 (words_of number)) turns
      first_moment evening
  pub journal_is : journal ≡ last_journal evening
  pub text_is : text ≡ fair_text (counts_of turns evening) (entry_counts_of journal)
