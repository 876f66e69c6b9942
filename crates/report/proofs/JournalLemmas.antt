-- The text of a journal, line by line.
use Rattle.std.proofs.Common.{ℕ, zero, suc, ◌+◌, ◌<◌, ◌≤◌, ◌≡◌, Err, List, [], ◌∷◌, ◌++◌, drop, flat_map, get_or}
use Rattle.std.proofs.Common.{length, append_assoc, append-nil, sym, ap, subst, refl, ◌∙◌, arith}
use Rattle.std.proofs.lemmas.List.{drop_all, drop_more, get_or-drop, length-drop}
use Rattle.vod_base.specs.declared.errors.NoMemory.{NoMemory}
use Rattle.admission.specs.declared.entries.Entry.{Entry}
use Rattle.vod_base.specs.Appends.{IsAppended}
use Rattle.report.specs.EntryLines.{entry_line}
use Rattle.report.specs.JournalTexts.{IsJournalText, journal_text}
use Rattle.report.specs.AnswerKinds.{AreOfKind, IsOfKind}
use Rattle.vod_base.proofs.AppendLemmas.{appended_as, both, cut_before, then_appended}

-- the lines of entries, each by itself
abbrev lines_at : ℕ → List Entry → List (List ℕ)
lines_at place [] = []
lines_at place (entry ∷ entries) = entry_line place entry ∷ lines_at (place + 1) entries

count_of : (place : ℕ) (entries : List Entry) → length (lines_at place entries) ≡ length entries
count_of place [] = refl
count_of place (entry ∷ entries) = ap suc (count_of (place + 1) entries)

line_of : (place : ℕ) (entries : List Entry) (i : ℕ) (none : Entry) → i < length entries →
    get_or (lines_at place entries) i [] ≡ entry_line (place + i) (get_or entries i none)
line_of place [] i none inside = absurd (omega (arith, inside))
line_of place (entry ∷ entries) zero none inside =
    let here : place ≡ place + 0 = omega arith in
    ap (λ n. entry_line n entry) here
line_of place (entry ∷ entries) (suc i) none inside =
    let next : place + 1 + i ≡ place + suc i = omega arith in
    line_of (place + 1) entries i none (omega (arith, inside)) ∙ ap (λ n. entry_line n (get_or entries i none)) next

text_of : (place : ℕ) (entries : List Entry)
    → journal_text place entries ≡ flat_map (λ line. line) (lines_at place entries)
text_of place [] = refl
text_of place (entry ∷ entries) = ap (λ (l : List ℕ). entry_line place entry ++ l) (text_of (place + 1) entries)

pub journal_told : (place : ℕ) (entries : List Entry) → IsJournalText place entries (journal_text place entries)
journal_told place entries = record {
  lines = lines_at place entries;
  count_is = count_of place entries;
  each = line_of place entries;
  text_is = text_of place entries;
}

-- the entries from a place on, which have answers of their kinds as all of them have
pub kinds_from : (entries : List Entry) (from : ℕ) → AreOfKind entries → AreOfKind (drop from entries)
kinds_from entries from kinds i none inside =
    let within : from + i < length entries = omega (arith, inside, length-drop from entries) in
    subst (λ (e : Entry). IsOfKind e.command e.answer) (sym (get_or-drop from entries i none))
    (kinds (from + i) none within)

pub kind_at : (entries : List Entry) (i : ℕ) (entry : Entry) → AreOfKind entries → i < length entries
    → entry ≡ get_or entries i entry → IsOfKind entry.command entry.answer
kind_at entries i entry kinds inside at =
    subst (λ (e : Entry). IsOfKind e.command e.answer) (sym at) (kinds i entry inside)

-- what was appended so far of the text of entries, of which the first stands at `from`: the lines of the first `passed`
pub record HasAppended (entries : List Entry) (from passed : ℕ) (before after : List ℕ) : Type 0 where
  pub done : List ℕ
  pub after_is : after ≡ before ++ done
  pub whole : done ++ journal_text (from + passed) (drop passed entries) ≡ journal_text from entries

pub none_yet : (entries : List Entry) (from : ℕ) (before : List ℕ) → HasAppended entries from 0 before before
none_yet entries from before = record {
  done = [];
  after_is = sym (append-nil before);
  whole = let at : from + 0 ≡ from = omega arith in ap (λ n. journal_text n entries) at;
}

-- the next line, and those after it
text_next : (entries : List Entry) (from i : ℕ) (entry : Entry) → i < length entries → entry ≡ get_or entries i entry →
    journal_text (from + i) (drop i entries)
    ≡ entry_line (from + i) entry ++ journal_text (from + (i + 1)) (drop (i + 1) entries)
text_next entries from i entry inside at =
    let next : from + i + 1 ≡ from + (i + 1) = omega arith in
    ap (journal_text (from + i)) (drop_more entries i entry inside)
    ∙ ap (λ (e : Entry). entry_line (from + i) e ++ journal_text (from + i + 1) (drop (i + 1) entries)) (sym at)
    ∙ ap (λ n. entry_line (from + i) entry ++ journal_text n (drop (i + 1) entries)) next

-- what was appended so far, and the next entry
pub record NextLine : Type 0 where
  pub entries : List Entry
  pub from : ℕ
  pub passed : ℕ
  pub before : List ℕ
  pub mid : List ℕ
  pub entry : Entry
  pub so_far : HasAppended entries from passed before mid
  pub inside : passed < length entries
  pub at : entry ≡ get_or entries passed entry

-- a line more
pub one_more : {after : List ℕ} (next : NextLine) → after ≡ next.mid ++ entry_line (next.from + next.passed) next.entry
    → HasAppended next.entries next.from (next.passed + 1) next.before after
one_more next is =
    let line = entry_line (from + passed) entry in
    let rest = journal_text (from + (passed + 1)) (drop (passed + 1) entries) in
    record {
      done = so_far.done ++ line;
      after_is = both before so_far.done line so_far.after_is is;
      whole = append_assoc so_far.done line rest
          ∙ ap (λ (l : List ℕ). so_far.done ++ l) (sym (text_next entries from passed entry inside at)) ∙ so_far.whole;
    }
  where
    open next use {entries, from, passed, before, entry, so_far, inside, at}

-- a prefix of the next line is one of the text
pub line_cut : {after : List ℕ} {e : NoMemory} (next : NextLine)
    → IsAppended next.mid (entry_line (next.from + next.passed) next.entry) after (Err e)
    → IsAppended next.before (journal_text next.from next.entries) after (Err e)
line_cut next cut =
    appended_as (ap (λ (l : List ℕ). so_far.done ++ l) (sym (text_next entries from passed entry inside at))
    ∙ so_far.whole)
    (then_appended so_far.done so_far.after_is
    (cut_before (journal_text (from + (passed + 1)) (drop (passed + 1) entries)) cut))
  where
    open next use {entries, from, passed, entry, so_far, inside, at}

-- after the last line
pub all_appended : {entries : List Entry} {from passed : ℕ} {before after : List ℕ} →
    HasAppended entries from passed before after → length entries ≤ passed → after ≡ before ++ journal_text from entries
all_appended {entries = entries} {from = from} {passed = passed} {before = before} so_far past =
    let none : journal_text (from + passed) (drop passed entries) ≡ [] =
    ap (journal_text (from + passed)) (drop_all passed entries past) in
    so_far.after_is
    ∙ ap (λ (l : List ℕ). before ++ l)
    (sym (append-nil so_far.done) ∙ ap (λ (l : List ℕ). so_far.done ++ l) (sym none) ∙ so_far.whole)
