-- One induction over what a connection does, from its first event to its end, and the slots that it missed.
use Rattle.std.proofs.Common.{◌≡◌, ℕ, ◌++◌, true, List, ◌∷◌, map, length, ap, refl, ◌∙◌, ◌+◌, arith, []}
use Rattle.std.proofs.lemmas.Grind.{common_steps}
use Rattle.std.proofs.lemmas.List.{map-append}
use Rattle.connection_laws.proofs.Terms.{Stored, Settings, Nothing, can_reply, sent_reply, after_slot, SessionState}
use Rattle.connection_laws.proofs.Terms.{open_of, awaited_answer, Ending, AtElement, InReply, Round, Runs}
use Rattle.connection_laws.proofs.Terms.{ending_outcomes, round_outcomes, rounds_outcomes, takings_outcomes}
use Rattle.connection_laws.proofs.Terms.{HasFailedInSlot, Outcome, Unasked, Stage, ElementStep, Passed, Answered}
use Rattle.connection_laws.proofs.Terms.{TakesAll, after_reply, HasHeard, ConnReport, Activity, HasDone}
use Rattle.connection_laws.proofs.Terms.{doings_outcomes, first_stage, StationCall, outcome_of, station_call}
use Rattle.session.specs.SlotSteps.{start_in}
use Rattle.conn.specs.EventSteps.{Overfull, InSlot, RunsAll}
use Rattle.connection_laws.specs.Notes.{asking_at, ending_calls, round_calls, rounds_calls, taken_calls, station_calls}
use Rattle.connection_laws.specs.Notes.{ending_missed, missed_by, rounds_missed}
use Rattle.connection_laws.proofs.CourseSteps.{Stands, course_stands, round_stands, first_stands}
use Rattle.connection_laws.proofs.RequestEffects.{answered_after}
use Rattle.connection_laws.proofs.CourseInduction.{follows_all}
use Rattle.session.proofs.StepInvariantLemmas.{nothing_of}
use Rattle.conn.proofs.ReplyContents.{CourseEnd}
use Rattle.connection_laws.proofs.StationAnswers.{closing, closes_as}
use Rattle.session_laws.proofs.SlotCountLemmas.{missed_is}
use Rattle.connection_laws.proofs.KeptParts.{LastingPart, finish_keeps, request_keeps, takes_keep}
use Rattle.conn.proofs.StationAnswers.{FinishesAs, ComesAs, BytesCame, SlotCame, comes_as}

-- a relation between a session, what the station is asked and answers, and the session after it, which each doing of
-- the session satisfies
pub record IsKeptByDoings (R : SessionState → List StationCall → SessionState → Type 0) : Type 0 where
  pub none : (s : SessionState) → R s [] s
  pub joins : (a b c : SessionState) (xs ys : List StationCall) → R a xs b → R b ys c → R a (xs ++ ys) c
  pub request : (old new : SessionState) (message : List ℕ) (outcome : Outcome)
      (heard : HasHeard old message outcome new) → R old (station_call heard.asking outcome ∷ []) new
  pub reply : (s : SessionState) → R s [] (sent_reply s)
  pub slot : (s : SessionState) (slot : ℕ) → R s [] (after_slot s slot)
  pub finish : (halt : Outcome) (s new : SessionState) → FinishesAs s (awaited_answer s) halt new
      → R s (station_call s halt ∷ []) new
  pub bytes : (s : SessionState) → R s (station_call s Unasked ∷ []) s
  pub failed : (old new : Stage) (slot : ℕ) (front : List ℕ) → HasFailedInSlot old slot front new
      → R old.session [] new.session
  pub lost : (s : SessionState) → R s [] (record s { lost = true })
  pub close : (halt : Outcome) (last closed : SessionState) → FinishesAs last (closing (open_of last)) halt closed
      → last.awaited ≡ Nothing → R last (station_call last halt ∷ []) closed

module _ {R : SessionState → List StationCall → SessionState → Type 0} (kept : IsKeptByDoings R) where
  came : {old opened : Stage} {round : Round} → ComesAs old round opened
      → R old.session (station_call (asking_at old.session round.event) round.halt ∷ []) opened.session
  came {old} BytesCame = kept.bytes old.session
  came {old} (SlotCame {slot = slot} {halt = halt} {new = new} finish) =
      kept.joins _ _ _ _ _ (kept.slot old.session slot) (kept.finish halt (after_slot old.session slot) new finish)

  still : (old new : Stage) → new ≡ old → R old.session [] new.session
  still old new is = rw is (kept.none old.session)

  taken : (old new : Stage) (takings : List ElementStep) (takes : TakesAll old takings new)
      → R old.session (taken_calls old takings new takes) new.session
  taken old new [] takes = still old new takes
  taken old new (Passed n ∷ takings) takes =
      rw (← (ap (λ (s : Stage). s.session) takes.1.0.2)) (taken takes.0 new takings takes.1.1)
  taken old new (Answered message outcome parts ∷ takings) takes =
      let replied = takes.1.0 in
      let s : SessionState = replied.answered in
      let one : R old.session (station_call replied.heard.asking outcome ∷ []) (after_reply s) =
      kept.joins _ s _ _ [] (kept.request old.session s message outcome replied.heard) (grind (arith, can_reply s)) in
      kept.joins _ takes.0.session _ (station_call replied.heard.asking outcome ∷ []) _ (rw replied.new_is one)
      (taken takes.0 new takings takes.1.1)

  round_kept : (old new : Stage) (round : Round) (runs : Runs old round new)
      → R old.session (round_calls old round new runs) new.session
  round_kept old new round runs =
      kept.joins _ _ _ _ _ (came (comes_as round runs.comes)) (taken runs.opened new round.takings runs.takes)

  rounds_kept : (old new : Stage) (rounds : List Round) (runs : RunsAll old rounds new)
      → R old.session (rounds_calls old rounds new runs) new.session
  rounds_kept old new [] runs = still old new runs
  rounds_kept old new (round ∷ rounds) runs =
      kept.joins _ _ _ _ _ (round_kept old runs.0 round runs.1.0) (rounds_kept runs.0 new rounds runs.1.2)

  ending_kept : (old : Stage) (ending : Ending) (ended : CourseEnd old ending)
      → R old.session (ending_calls old ended.count ending ended.end ended.new ended.ends) ended.new.session
  ending_kept old (Overfull bytes) ended = still old ended.new ended.ends.3
  ending_kept old (AtElement round) ended = round_kept old ended.new round ended.ends.0
  ending_kept old (InSlot slot front) ended = kept.failed old ended.new slot front ended.ends.1
  ending_kept old (InReply round message outcome front) ended =
      let e = ended.ends.1 in
      let s : SessionState = e.fails.answered in
      let last : R e.mid.session (station_call e.fails.heard.asking outcome ∷ []) (record s { lost = true }) =
      kept.joins _ _ _ _ _ (kept.request e.mid.session s message outcome e.fails.heard) (kept.lost s) in
      kept.joins _ e.mid.session _ _ (station_call e.fails.heard.asking outcome ∷ [])
      (round_kept old e.mid round e.runs) (rw e.fails.new_is last)
  ending_kept old _ ended = still old ended.new ended.ends.1

-- ---- between doings nothing is awaited
pub ending_rest : {old : Stage} (ending : Ending) (ended : CourseEnd old ending) → Stands old.session →
    ended.new.session.awaited ≡ Nothing
ending_rest (Overfull bytes) ended stands = cc (ended.ends.3, stands.rest)
ending_rest {old} (AtElement round) ended stands = (round_stands old ended.new round ended.ends.0 stands).rest
ending_rest (InSlot slot front) ended stands = nothing_of ended.new.session.awaited ended.ends.1.rest
ending_rest {old} (InReply round message outcome front) ended stands =
    let e = ended.ends.1 in
    ap (λ (s : Stage). s.session.awaited) e.fails.new_is
    ∙ (answered_after e.fails.heard (round_stands old e.mid round e.runs stands).rest).awaited
ending_rest _ ended stands = cc (ended.ends.1, stands.rest)

-- ---- the answers of turns are those of the doings
takes_outcomes : (old new : Stage) (takings : List ElementStep) (takes : TakesAll old takings new)
    → map outcome_of (taken_calls old takings new takes) ≡ takings_outcomes takings
takes_outcomes old new [] takes = refl
takes_outcomes old new (Passed n ∷ takings) takes = takes_outcomes takes.0 new takings takes.1.1
takes_outcomes old new (Answered message outcome parts ∷ takings) takes = rw
    (takes_outcomes takes.0 new takings takes.1.1)

round_outcomes_are : (old new : Stage) (round : Round) (runs : Runs old round new)
    → map outcome_of (round_calls old round new runs) ≡ round_outcomes round
round_outcomes_are old new round runs = rw (takes_outcomes runs.opened new round.takings runs.takes)

rounds_outcomes_are : (old new : Stage) (rounds : List Round) (runs : RunsAll old rounds new)
    → map outcome_of (rounds_calls old rounds new runs) ≡ rounds_outcomes rounds
rounds_outcomes_are old new [] runs = refl
rounds_outcomes_are old new (round ∷ rounds) runs = search
    (arith, round_outcomes_are old runs.0 round runs.1.0, rounds_outcomes_are runs.0 new rounds runs.1.2, map-append)

ending_outcomes_are : {old : Stage} (ending : Ending) (ended : CourseEnd old ending)
    → map outcome_of (ending_calls old ended.count ending ended.end ended.new ended.ends) ≡ ending_outcomes ending
ending_outcomes_are {old} (AtElement round) ended = round_outcomes_are old ended.new round ended.ends.0
ending_outcomes_are {old} (InReply round message outcome front) ended =
    grind (arith, map-append, round_outcomes_are old ended.ends.1.mid round ended.ends.1.runs)
ending_outcomes_are _ ended = refl

-- ---- all that a connection did, up to its report
module _ {films : List Stored} {settings : Settings} {words : List ℕ} {doings : Activity} {report : ConnReport}
    (done : HasDone films settings words doings report) where
  abbrev course_end : CourseEnd done.mid doings.ending
  course_end = record { count = length doings.rounds; end = report.end; new = done.last; ends = done.ends }

  abbrev pub all_calls : List StationCall
  all_calls = station_calls films settings words doings report done

  pub doings_kept : {R : SessionState → List StationCall → SessionState → Type 0} → IsKeptByDoings R
      → R (first_stage films settings words).session all_calls done.closed
  doings_kept {R} kept =
      let first : Stage = first_stage films settings words in
      let last : SessionState = done.last.session in
      let follows = follows_all first done.mid doings.rounds done.runs in
      let stands = course_stands first done.mid doings.rounds follows (first_stands films settings words) in
      kept.joins _ _ _ _ _ (kept.joins _ _ _ _ _ (rounds_kept kept first done.mid doings.rounds done.runs)
      (ending_kept kept done.mid doings.ending course_end))
      (kept.close doings.halt last done.closed (closes_as (open_of last) doings.halt done.closes)
      (ending_rest doings.ending course_end stands))

  pub turns_told : map outcome_of all_calls ≡ doings_outcomes doings
  turns_told = search (map-append, rounds_outcomes_are, ending_outcomes_are doings.ending course_end)

-- ---- slots
comes_late : {old opened : Stage} {round : Round} → ComesAs old round opened
    → opened.session.late ≡ old.session.late + missed_by old.session round.event
comes_late BytesCame = omega arith
comes_late {old} (SlotCame {slot = slot} finish) = grind (arith, common_steps, missed_is, finish_keeps finish)

round_late : (old new : Stage) (round : Round) → Runs old round new
    → new.session.late ≡ old.session.late + missed_by old.session round.event
round_late old new round runs = search
    (arith, takes_keep runs.opened new round.takings runs.takes, comes_late (comes_as round runs.comes))

rounds_late : (old new : Stage) (rounds : List Round) (runs : RunsAll old rounds new)
    → new.session.late ≡ old.session.late + rounds_missed old rounds new runs
rounds_late old new [] runs = ap (λ (s : Stage). s.session.late) runs ∙ omega arith
rounds_late old new (round ∷ rounds) runs =
    omega (arith, rounds_late runs.0 new rounds runs.1.2, round_late old runs.0 round runs.1.0)

-- ---- ends
ending_late : {old : Stage} (ending : Ending) (ended : CourseEnd old ending)
    → ended.new.session.late ≡ old.session.late + ending_missed old.session ending
ending_late (Overfull bytes) ended = ap (λ (s : Stage). s.session.late) ended.ends.3 ∙ omega arith
ending_late {old} (AtElement round) ended = round_late old ended.new round ended.ends.0
ending_late {old} (InSlot slot front) ended = search
    (arith, missed_is old.session.heard (start_in old.session.state) slot)
ending_late {old} (InReply round message outcome front) ended =
    let e = ended.ends.1 in
    ap (λ (s : Stage). s.session.late) e.fails.new_is
    ∙ ap (λ (part : LastingPart). part.late) (request_keeps e.fails.heard) ∙ round_late old e.mid round e.runs
ending_late _ ended = ap (λ (s : Stage). s.session.late) ended.ends.1 ∙ omega arith

pub late_is : {films : List Stored} {settings : Settings} {words : List ℕ} {doings : Activity} {report : ConnReport}
    (done : HasDone films settings words doings report) → report.late
    ≡ rounds_missed (first_stage films settings words) doings.rounds done.mid done.runs
    + ending_missed done.mid.session doings.ending
late_is {films} {settings} {words} {doings} done =
    let closed = finish_keeps (closes_as (open_of done.last.session) doings.halt done.closes) in
    let late = rounds_late (first_stage films settings words) done.mid doings.rounds done.runs in
    grind (arith, closed, ending_late doings.ending (course_end done), late)
