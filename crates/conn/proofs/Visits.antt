-- What a connection did agrees with its journal, and with each longer one.
use Rattle.std.proofs.lemmas.Grind.{common_steps}
use Rattle.std.proofs.Common.{◌≡◌, ◌<◌, ℕ, ◌++◌, List, [], ◌∷◌, Some, length, take, ap, sym, ◌∙◌, subst, arith, inl}
use Rattle.std.proofs.Common.{inr, suc, zero}
use Rattle.std.specs.Prelude.{slice_get, slice_index_or}
use Rattle.std.proofs.lemmas.List.{append_cancel_left}
use Rattle.std.proofs.lemmas.Option.{slice_get-get_or, slice_get_within}
use mathlib.Core.List.{IsPrefix}
use Rattle.vod_base.specs.Gates.{ReturnedConn}
use Rattle.film_frames.specs.declared.stored_films.Stored.{Stored}
use Rattle.admission.specs.declared.entries.Entry.{Entry}
use Rattle.admission.specs.Histories.{IsLegal}
use Rattle.film_streams.specs.declared.settings.Settings.{Settings}
use Rattle.session.specs.RequestSteps.{new_session_state}
use Rattle.session.specs.SessionStates.{SessionState}
use Rattle.station.specs.Seats.{IsSameSeat, SeatState}
use Rattle.station.proofs.LongerJournals.{prefix_at, prefix_take}
use Rattle.station.proofs.SameSeats.{seat_none, seat_on}
use Rattle.conn.specs.Agreement.{Agrees, AgreesIfObserved, Activity, Visit, doings_outcomes, visit}
use Rattle.conn.specs.Journals.{Terms, terms_of}
use Rattle.conn.specs.Parts.{AreServed, HasServedOne}
use Rattle.conn.specs.Guarantees.{AreRefusalsJustified, MeetsGuarantee, ReportsOverflowOf}
use Rattle.conn.specs.InputSteps.{Outcome, SentPart, Film, Text}
use Rattle.conn.specs.EventSteps.{ending_outcomes, rounds_outcomes}
use Rattle.conn.specs.Films.{rounds_parts}
use Rattle.conn.specs.Plays.{ending_rounds}
use Rattle.conn.specs.Observations.{AreNoted}
use Rattle.conn.specs.declared.reports.ConnReport.{ConnReport}
use Rattle.conn.proofs.Journals.{LongerJournal, same_journal, agree_longer, terms_same}
use Rattle.conn.proofs.CourseSteps.{noted_on, seen_agrees}

-- what was served agrees with the seat's journal
pub one_agrees : {old new : SeatState} (visit : Visit) →
    HasServedOne visit.films visit.settings visit.returned visit.report old new →
    AgreesIfObserved visit (terms_of new) new.seen
one_agrees {old} {new} visit one = λ told tells found.
    let session : SessionState = new_session_state visit.films visit.settings visit.report.words in
    let keeps : MeetsGuarantee session (Some []) (Some told) old new visit.report = grind arith in
    elim keeps [
      | inl meets ↦
          let entries = one.entries in
          let served = meets.served in
          let course = served.course in
          let doings : Activity = assumption in
          let noted : AreNoted old new (doings_outcomes doings) = noted_on course.noted served.closes.noted in
          record {
            legal = meets.booked.legal;
            doings = doings;
            told_is = tells ∙ (served.told ∙ course.told);
            done = search arith;
            agree = seen_agrees noted;
            plays = meets.keeps.plays;
            refusals = meets.keeps.refusals;
            halts = search (arith, append_cancel_left);
            fault = one.fault;
          }
      | inr nothing ↦ absurd (found nothing.end)
    ]

-- an entry that stands in a journal stands in each longer one
get_longer : (grown : LongerJournal) (k : ℕ) (entry : Entry) → slice_get grown.journal k ≡ Some entry
    → slice_get grown.longer k ≡ Some entry
get_longer grown k entry is =
    let inside : k < length journal = slice_get_within journal k entry is in
    let wide : k < length longer = grind (arith, common_steps) in
    slice_get-get_or longer k entry wide
    ∙ ap (λ e. Some e) (prefix_at journal longer prefix k entry inside)
    ∙ sym (slice_get-get_or journal k entry inside) ∙ is
  where
    open grown use {journal, longer, prefix}

overflow_longer : {made : List Outcome} {text : List ℕ} (grown : LongerJournal)
    → ReportsOverflowOf grown.terms grown.journal made text → ReportsOverflowOf grown.terms grown.longer made text
overflow_longer grown reports =
    let over = reports.overflow in
    let place : ℕ = over.placed.place in
    let inside : place < length journal = slice_get_within journal place over.placed.entry over.seen in
    let same : take place longer
    ≡ take place journal = prefix_take journal longer prefix place (omega (arith, inside)) in
    record {
      slot = reports.slot;
      booked = reports.booked;
      asked = reports.asked;
      overflow = grind (arith, get_longer);
      sequence = reports.sequence;
      text_is = reports.text_is;
    }
  where
    open grown use {terms, journal, longer, prefix}

refusals_longer : (grown : LongerJournal) (made : List Outcome) (parts : List SentPart)
    → AreRefusalsJustified grown.terms grown.journal made parts
    → AreRefusalsJustified grown.terms grown.longer made parts
refusals_longer grown made [] justified = tt
refusals_longer grown made (Film bytes ∷ parts) justified = refusals_longer grown made parts justified
refusals_longer grown made (Text text ∷ parts) justified = (
  record { overflow = λ code. overflow_longer grown (justified.0.overflow code); full = justified.0.full },
  refusals_longer grown made parts justified.1,
)

-- and with each longer legal journal
pub agrees_longer : {visit : Visit} {terms : Terms} {journal longer : List Entry} → Agrees visit terms journal →
    IsPrefix journal longer → IsLegal terms.steps longer → Agrees visit terms longer
agrees_longer {terms = terms} {journal} {longer} agrees prefix legal =
    let grown : LongerJournal =
    record (same_journal terms journal 0 0 (omega arith)) { longer = longer; prefix = prefix } in
    let doings = agrees.doings in
    let agree = agree_longer grown (doings_outcomes doings) agrees.agree in
    let refusals = refusals_longer grown (rounds_outcomes doings.rounds ++ ending_outcomes doings.ending)
    (rounds_parts (doings.rounds ++ ending_rounds doings.ending)) agrees.refusals in
    search (legal, agree, refusals)

-- ---- one after another

-- a connection leaves its seat as it was, but for what that has seen and made
record GoesOn (old new : SeatState) : Type 0 where
  seat : IsSameSeat old new
  legal : IsLegal old.steps old.seen → IsLegal new.steps new.seen

same_on : (old new : SeatState) → new ≡ old → GoesOn old new
same_on old new same = subst (GoesOn old) (sym same) (record { seat = seat_none old; legal = λ legal. legal })

one_on : {old new : SeatState} (visit : Visit)
    → HasServedOne visit.films visit.settings visit.returned visit.report old new → GoesOn old new
one_on {old} {new} visit one = elim one.keeps [
  | inl keeps ↦ grind (arith, common_steps)
  | inr nothing ↦ same_on old new nothing.seat
]

-- what agrees with what a seat has seen agrees with what it has seen later
agrees_on : {visit : Visit} {old new : SeatState} → Agrees visit (terms_of old) old.seen → GoesOn old new →
    Agrees visit (terms_of new) new.seen
agrees_on {visit} {old} {new} agrees on =
    let legal : IsLegal old.steps new.seen = grind arith in
    subst (λ terms. Agrees visit terms new.seen) (sym (terms_same old new on.seat))
    (agrees_longer agrees on.seat.longer legal)

-- connections of a part, each of which was served
pub record ServedPart : Type 0 where
  pub films : List Stored
  pub settings : Settings
  pub old : SeatState
  pub new : SeatState
  pub back : List ReturnedConn
  pub reports : List ConnReport
  pub served : AreServed films settings old back reports new

-- a place among the connections that were given back
pub record InsideBack (back : List ReturnedConn) (k : ℕ) : Type 0 where
  pub none : ReturnedConn
  pub no_report : ConnReport
  pub inside : k < length back

-- one of a part's connections agrees with what the seat has seen after the last one
pub record IsOneOf (p : ServedPart) (returned : ReturnedConn) (report : ConnReport) : Type 0 where
  pub agrees : AgreesIfObserved (visit p.films p.settings returned report) (terms_of p.new) p.new.seen

pub all_agree : (p : ServedPart) (k : ℕ) (here : InsideBack p.back k)
    → IsOneOf p (slice_index_or p.back k here.none) (slice_index_or p.reports k here.no_report)
all_agree p place at = by-lists p.back p.reports p.old p.served place at
  where
    open p use {films, settings, new}

    all_on : (back : List ReturnedConn) (reports : List ConnReport) {old : SeatState}
        → AreServed films settings old back reports new → GoesOn old new
    all_on [] [] {old} served = same_on old new served
    all_on [] (report ∷ reports) served = absurd served
    all_on (returned ∷ back) [] served = absurd served
    all_on (returned ∷ back) (report ∷ reports) {old} served =
        let one = one_on (visit films settings returned report) served.1.0 in
        let rest = all_on back reports served.1.1 in
        record { seat = seat_on old served.0 new one.seat rest.seat; legal = λ legal. rest.legal (one.legal legal) }

    by-lists : (back : List ReturnedConn) (reports : List ConnReport) (old : SeatState)
        → AreServed films settings old back reports new → (k : ℕ) (here : InsideBack back k)
        → IsOneOf p (slice_index_or back k here.none) (slice_index_or reports k here.no_report)
    by-lists [] reports old served k here = absurd (omega (arith, here.inside))
    by-lists (returned ∷ back) [] old served k here = absurd served
    by-lists (returned ∷ back) (report ∷ reports) old served zero here = record {
      agrees = λ told tells found.
          agrees_on (one_agrees (visit films settings returned report) served.1.0 told tells found)
          (all_on back reports served.1.1);
    }
    by-lists (returned ∷ back) (report ∷ reports) old served (suc k) here =
        let rest = by-lists back reports served.0 served.1.1 k
        (record { none = here.none; no_report = here.no_report; inside = omega (arith, here.inside) }) in
        record { agrees = rest.agrees }
