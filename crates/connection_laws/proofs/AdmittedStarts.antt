-- In which slots a connection asks for plays, and in which slots its plays begin.
use Rattle.std.proofs.lemmas.Grind.{common_steps}
use Rattle.std.specs.Prelude.{⊤, All}
use Rattle.std.specs.List.{fold}
use Rattle.std.proofs.Common.{◌≡◌, ℕ, zero, suc, ◌+◌, ◌^◌, ◌≤◌, ◌++◌, List, ◌∷◌, max, take, arith, refl, map, []}
use Rattle.std.proofs.lemmas.List.Elements.{All-get_or, All-head, All-nil, All-tail, All-take, All-weaker}
use Rattle.connection_laws.proofs.Terms.{Stored, Admitted, Command, PlacedEntry, Settings, SessionState, AwaitedAnswer}
use Rattle.connection_laws.proofs.Terms.{Wish, Activity, HasDone, doings_outcomes, Ending, ending_outcomes, entries_in}
use Rattle.connection_laws.proofs.Terms.{round_outcomes, rounds_outcomes, Outcome, Unasked, Entered, WasFull, Offered}
use Rattle.connection_laws.proofs.Terms.{ending_rounds, ConnReport, IsAskedFor, Course, askings_of, course_plays}
use Rattle.connection_laws.proofs.Terms.{StationRequest, Asks, FilmPlay, plays_of, outcome_of}
use Rattle.slot_calendar.specs.declared.profiles.CapStep.{CapStep}
use Rattle.admission.specs.declared.entries.Entry.{Entry}
use Rattle.admission.specs.Histories.{IsLegal, asked_in, latest_asked, state_after}
use Rattle.admission.specs.Machine.{IsAnswer, State}
use Rattle.admission.proofs.HistoryPrefixes.{legal-take, no_entry}
use Rattle.admission.proofs.PlayCounts.{tally}
use Rattle.conn.specs.Agreement.{Visit}
use Rattle.conn.specs.Journals.{AgreeWith, StandsIn, Terms}
use Rattle.connection_laws.specs.StartRanges.{AreMadeByConnections, IsCourseIn, IsMadeByConnection, StartsInRange}
use Rattle.connection_laws.proofs.BookedPlays.{course_outcomes, outcomes_in}
use Rattle.connection_laws.proofs.CourseTurns.{IsKeptByDoings, doings_kept, turns_told}
use Rattle.connection_laws.proofs.CourseInduction.{begin_of}
use Rattle.conn.proofs.StationAnswers.{FinishesAs}
use Rattle.connection_laws.proofs.Lists.{Each, each_append, each_front, each_rest, joins_parts}

-- ---- the entries among what the station answered
abbrev InEntry : (PlacedEntry → Type 0) → Outcome → Type 0
InEntry P (Entered placed) = P placed
InEntry P _ = ⊤

abbrev InEntries : (PlacedEntry → Type 0) → List Outcome → Type 0
InEntries P = Each (InEntry P)

all_entries : (P : PlacedEntry → Type 0) (outcomes : List Outcome) → InEntries P outcomes → All P (entries_in outcomes)
all_entries P [] are = All-nil P
all_entries P (Entered placed ∷ outcomes) are = grind (arith, all_entries P outcomes are.1)
all_entries P (_ ∷ outcomes) are = all_entries P outcomes are.1

-- ---- in which slots a connection asks
abbrev AsksInRange : PlacedEntry → Type 0
AsksInRange placed = asked_in placed.entry.command ≤ 2 ^ 62

finish_range : {s new : SessionState} {asks : AwaitedAnswer} {halt : Outcome} → FinishesAs s asks halt new
    → InEntry AsksInRange halt
finish_range given = grind arith

range_kept : IsKeptByDoings (λ old turns new. InEntries AsksInRange (map outcome_of turns))
range_kept = grind (arith, common_steps, finish_range)

-- a connection asks for no play in a slot after 2^62
pub asked_range : {films : List Stored} {settings : Settings} {words : List ℕ} {doings : Activity} {report : ConnReport}
    → HasDone films settings words doings report → All AsksInRange (entries_in (doings_outcomes doings))
asked_range {doings = doings} done =
    all_entries AsksInRange (doings_outcomes doings)
    (rw (turns_told done) at (doings_kept done range_kept))

-- ---- the latest slot in which a play was asked for
abbrev later : ℕ → Entry → ℕ
later latest e = max latest (asked_in e.command)

later_all : (base : ℕ) (xs : List Entry)
    → (base ≤ fold later base xs) × All (λ (e : Entry). asked_in e.command ≤ fold later base xs) xs
later_all base [] = (omega arith, All-nil (λ (e : Entry). asked_in e.command ≤ base))
later_all base (x ∷ xs) = let all = later_all (later base x) xs in (omega (arith, all.0), grind (arith, all.0, all.1))

later_most : (most base : ℕ) (xs : List Entry) → base ≤ most → All (λ (e : Entry). asked_in e.command ≤ most) xs
    → fold later base xs ≤ most
later_most most base [] few all = few
later_most most base (x ∷ xs) few all =
    let P : Entry → Type 0 = λ (e : Entry). asked_in e.command ≤ most in
    later_most most (later base x) xs (omega (arith, few, All-head P x xs all)) (All-tail P x xs all)

-- in a journal that connections made, no play was asked for in a slot after 2^62
pub latest_range : (journal : List Entry) → AreMadeByConnections journal → latest_asked journal ≤ 2 ^ 62
latest_range journal made = later_most (2 ^ 62) 0 journal (omega arith)
    (All-weaker IsMadeByConnection (λ (e : Entry). asked_in e.command ≤ 2 ^ 62)
    (λ e is. grind (arith, entries_in (doings_outcomes is.doings), doings_outcomes is.doings, asked_range is.done))
    journal made)

-- ---- where plays begin
abbrev IsNext : List Entry → ℕ → Type 0
IsNext journal start = (1 ≤ start) × (start ≤ latest_asked journal + 1)

abbrev StartsNext : List Entry → PlacedEntry → Type 0
StartsNext journal placed = (start : ℕ) → placed.entry.answer ≡ Admitted start → IsNext journal start

answer_start : (steps : List CapStep) (state : State) (command : Command) (start : ℕ)
    → IsAnswer steps state command (Admitted start) → start ≡ max state.now (asked_in command) + 1
answer_start steps state command start given = grind arith

module _ (terms : Terms) (journal : List Entry) (legal : IsLegal terms.steps journal) where
  stands_next : (from : ℕ) (placed : PlacedEntry) → StandsIn terms journal from placed → StartsNext journal placed
  stands_next from placed stands = λ start same.
      let before = take placed.place journal in
      let answered = rw (stands.entry no_entry) at (legal.each placed.place no_entry stands.within) in
      let is = answer_start terms.steps (state_after before) placed.entry.command start (rw same at answered) in
      let now = (tally terms.steps before (legal-take terms.steps journal placed.place legal)).1 in
      let P : Entry → Type 0 = λ e. asked_in e.command ≤ latest_asked journal in
      let all : All P journal = (later_all 0 journal).1 in
      let few : latest_asked before ≤ latest_asked journal = later_most (latest_asked journal) 0 before (omega arith)
      (All-take P placed.place journal all) in
      let own = rw (stands.entry no_entry) at (All-get_or P journal placed.place no_entry stands.within all) in
      (omega (arith, is), omega (arith, is, now, few, own))

  agree_next : (from : ℕ) (outcomes : List Outcome) → AgreeWith terms journal from outcomes
      → InEntries (StartsNext journal) outcomes
  agree_next from [] agree = tt
  agree_next from (Unasked ∷ outcomes) agree = (tt, agree_next from outcomes agree)
  agree_next from (Entered placed ∷ outcomes) agree =
      (stands_next from placed agree.0, agree_next (placed.place + 1) outcomes agree.1)
  agree_next from (WasFull more entries live ∷ outcomes) agree = (tt, agree_next entries outcomes agree.1)
  agree_next from (Offered at_slot note ∷ outcomes) agree = (tt, agree_next note.seen outcomes agree.1)

ending_entries : (P : PlacedEntry → Type 0) (ending : Ending) → InEntries P (ending_outcomes ending)
    → InEntries P (rounds_outcomes (ending_rounds ending))
ending_entries P ending given = search (arith, each_append, each_front)

plays_start : (journal : List Entry) (askings : List StationRequest) → InEntries (StartsNext journal)
    (outcomes_in askings) → All (λ (play : FilmPlay). IsNext journal play.start) (plays_of askings)
plays_start journal [] next = All-nil (λ (play : FilmPlay). IsNext journal play.start)
plays_start journal (Asks asked outcome ∷ askings) next = grind (arith, plays_start journal askings next.1)

-- each play of a connection begins in a slot after 0, and in the slot after the latest one in which a play was asked
-- for at the latest
pub course_starts : (visit : Visit) (terms : Terms) (journal : List Entry) (course : Course)
    → IsCourseIn visit terms journal course
    → All (λ play. (1 ≤ play.start) × (play.start ≤ latest_asked journal + 1)) (course_plays course)
course_starts visit terms journal course is =
    let doings = is.agrees.doings in
    let P = InEntry (StartsNext journal) in
    let rounds = rounds_outcomes doings.rounds in
    let ending = ending_outcomes doings.ending in
    let all = agree_next terms journal is.agrees.legal 0 (doings_outcomes doings) is.agrees.agree in
    let part = each_front P (rounds ++ ending) (doings.halt ∷ []) all in
    let last = ending_entries (StartsNext journal) doings.ending (each_rest P rounds ending part) in
    let joined = joins_parts rounds_outcomes (record { one = round_outcomes; none = refl; more = λ x xs. refl })
    doings.rounds (ending_rounds doings.ending) in
    let these : InEntries (StartsNext journal) (rounds_outcomes course.rounds) =
    rw (is.course_is.rounds_are, joined) (each_append P rounds _ (each_front P rounds ending part) last) in
    let first = begin_of course in
    plays_start journal (askings_of first course.rounds course.last course.follows)
    (rw (course_outcomes first course.last course.rounds course.follows) these)

pub course_range : (visit : Visit) (terms : Terms) (journal : List Entry) (course : Course)
    → IsCourseIn visit terms journal course → latest_asked journal ≤ 2 ^ 62 → All StartsInRange (course_plays course)
course_range visit terms journal course is few = grind (arith, course_starts visit terms journal course is)

-- so does the play of a film that was asked for, where connections made the journal
pub asked_start : {wish : Wish} {stored : Stored} {course : Course} (asked : IsAskedFor wish stored course)
    (visit : Visit) (terms : Terms) (journal : List Entry) → IsCourseIn visit terms journal course
    → AreMadeByConnections journal → StartsInRange asked.play
asked_start {wish} {stored} {course} asked visit terms journal is made =
    let all = course_range visit terms journal course is (latest_range journal made) in
    All-head StartsInRange asked.play asked.others (rw asked.plays at all)
