-- The events that were received decide a watching's answer.
use Rattle.std.proofs.Common.{◌≡◌, ℕ, ◌+◌, ◌^◌, ◌<◌, ◌≤◌, ◌++◌, ◌∷◌, [], List, length, Option, Ok}
use Rattle.std.proofs.Common.{refl, sym, ap, subst, ◌∙◌, arith, inl, inr}
use Rattle.std.proofs.lemmas.List.{append-nil, append_cancel_left}
use Rattle.std.proofs.lemmas.Option.{same_Some}
use Rattle.vod_base.specs.Links.{IoEvent, HeardBytes, HeardEnd, HeardSlot, Sent, sends, told_more}
use Rattle.interleave.specs.Elements.{IsFirst}
use Rattle.interleave.specs.declared.elements.Step.TheVariants.{More}
use Rattle.interleave.proofs.StreamElements.{TwoStreams, stream_once, tells_none}
use Rattle.rtsp_client.specs.declared.watch_request.Wish.{Wish}
use Rattle.rtsp_client.specs.declared.watch_request.WatchEnd.{WatchEnd}
use Rattle.rtsp_client.specs.declared.watch_request.WatchEnd.TheVariants.{Fault}
use Rattle.rtsp_client.specs.declared.watch_request.WatchFault.TheVariants.{EndedEarly, TurnsSpent}
use Rattle.rtsp_client.specs.ClientHistory.{ClientEvent, sizes}
use Rattle.rtsp_client.specs.Answers.{GoOn, history_after, events_of_elements, payloads_of, requests_after}
use Rattle.rtsp_client.specs.WatchCourses.{Brings, Ends, Round, Runs, RunsAll, WatchStage, StopsAt}
use Rattle.rtsp_client.specs.WatchCourses.{events_of_rounds, rounds_doings, stage}
use Rattle.rtsp_client.specs.Requests.{setup_text}
use Rattle.rtsp_client.specs.Outcomes.{IsDecided, IsOutcome, WatchOutcome, events_in}
use Rattle.rtsp_client.proofs.UniqueEnd.{Stopping, quit-not-passed, stops-once, stops-quit}

-- ---- events

events-on : (a b : List IoEvent) → events_in (a ++ b) ≡ events_in a ++ events_in b
events-on [] b = refl
events-on (HeardBytes bytes ∷ a) b = ap (λ (ds : List IoEvent). HeardBytes bytes ∷ ds) (events-on a b)
events-on (HeardSlot slot ∷ a) b = ap (λ (ds : List IoEvent). HeardSlot slot ∷ ds) (events-on a b)
events-on (HeardEnd ∷ a) b = ap (λ (ds : List IoEvent). HeardEnd ∷ ds) (events-on a b)
events-on (Sent byte ∷ a) b = events-on a b

no-events : (bytes : List ℕ) → events_in (sends bytes) ≡ []
no-events [] = refl
no-events (byte ∷ bytes) = no-events bytes

-- the events of rounds
abbrev events_of : List Round → List IoEvent
events_of [] = []
events_of (round ∷ rounds) = round.event ∷ events_of rounds

event-heard : (old new : List ℕ) (moments : List ClientEvent) (event : IoEvent) → Brings event old moments new
    → (doings : List IoEvent) → events_in (event ∷ doings) ≡ event ∷ events_in doings
event-heard old new moments (Sent byte) brings doings = absurd brings
event-heard old new moments _ brings doings = refl

rounds-heard : (wish : Wish) (old mid : WatchStage) (rounds : List Round) → RunsAll old rounds mid
    → events_in (rounds_doings wish old.history rounds) ≡ events_of rounds
rounds-heard wish old mid [] all = refl
rounds-heard wish old mid (round ∷ rounds) (next, (runs, idle, all)) =
    let requests = sends (requests_after wish old.history round.moments) in
    let later = rounds_doings wish (history_after old.history round.moments) rounds in
    events-on (round.event ∷ requests) later
    ∙ ap (λ (ds : List IoEvent). ds ++ events_in later)
    (event-heard old.rest next.rest round.moments round.event runs.brings requests
    ∙ ap (λ (ds : List IoEvent). round.event ∷ ds) (no-events (requests_after wish old.history round.moments)))
    ∙ ap (λ (ds : List IoEvent). round.event ∷ ds)
    (ap (λ h. events_in (rounds_doings wish h rounds)) (sym runs.history_is) ∙ rounds-heard wish next mid rounds all)

-- ---- one event

-- where a course stands: its wish, its stage, and how many events were processed
record CoursePlace : Type 0 where
  wish : Wish
  stage : WatchStage
  count : ℕ

-- a round was processed there, and no complete element waits
record RoundDone (at : CoursePlace) : Type 0 where
  round : Round
  mid : WatchStage
  runs : Runs at.stage round mid
  idle : IsFirst mid.rest (Ok More)
  few : at.count < 2 ^ 40

record AreSameRounds {at : CoursePlace} (a b : RoundDone at) : Type 0 where
  round_is : a.round ≡ b.round
  mid_is : a.mid ≡ b.mid

runs-once : {at : CoursePlace} (a b : RoundDone at) → a.round.event ≡ b.round.event → AreSameRounds a b
runs-once {at} a b heard =
    let old = at.stage in
    let brought = by-event b.round.event
    (subst (λ e. Brings e old.rest a.round.moments a.mid.rest) heard a.runs.brings) b.runs.brings in
    record {
      round_is = ap (λ e. record { event = e; moments = a.round.moments }) heard
          ∙ ap (λ ms. record { event = b.round.event; moments = ms }) brought.0;
      mid_is = ap (λ h. stage h a.mid.rest)
          (a.runs.history_is ∙ ap (history_after old.history) brought.0 ∙ sym b.runs.history_is)
          ∙ ap (stage b.mid.history) brought.1;
    }
  where
    by-event : (event : IoEvent) → Brings event at.stage.rest a.round.moments a.mid.rest
        → Brings event at.stage.rest b.round.moments b.mid.rest
        → (a.round.moments ≡ b.round.moments) × (a.mid.rest ≡ b.mid.rest)
    by-event (HeardBytes bytes) (elements, (cut, is)) (elements', (cut', is')) =
        let streams : TwoStreams (at.stage.rest ++ bytes) elements elements' a.mid.rest b.mid.rest = record {
          one = (cut, tells_none a.mid.rest (Ok More) a.idle);
          other = (cut', tells_none b.mid.rest (Ok More) b.idle);
        } in
        let same = stream_once streams in
        (is ∙ ap events_of_elements same.0 ∙ sym is', same.1)
    by-event (HeardSlot slot) (is, same) (is', same') = (is ∙ sym is', same ∙ sym same')
    by-event _ brings brings' = absurd brings

-- ---- the last event

-- the answer, with what the link exposes last and what was handed on last
record Final : Type 0 where
  end : WatchEnd
  doings : List IoEvent
  out : List ℕ

final-is : {a b : Final} → a.end ≡ b.end → a.doings ≡ b.doings → a.out ≡ b.out → a ≡ b
final-is {a} {b} end doings out =
    let E : WatchEnd → Final = λ e. record { end = e; doings = a.doings; out = a.out } in
    let D : List IoEvent → Final = λ d. record { end = b.end; doings = d; out = a.out } in
    let O : List ℕ → Final = λ o. record { end = b.end; doings = b.doings; out = o } in
    ap E end ∙ (ap D doings ∙ ap O out)

-- after so many events no further one is received; or the server ended; or bytes gave the answer
data Closes (at : CoursePlace) (f : Final) : Type 0 where
  Spent : f.end ≡ Fault TurnsSpent → at.count ≡ 2 ^ 40 → f.doings ≡ [] → f.out ≡ [] → Closes at f
  Ended : f.end ≡ Fault (EndedEarly (length (sizes at.stage.history))) → at.count < 2 ^ 40 → f.doings ≡ HeardEnd ∷ []
      → f.out ≡ [] → Closes at f
  Stopped : (bytes sent : List ℕ) → IsDecided f.end
      → StopsAt at.wish (stage at.stage.history (at.stage.rest ++ bytes)) f.end sent f.out
      → f.doings ≡ HeardBytes bytes ∷ sends sent → at.count < 2 ^ 40 → Closes at f

closes : {at : CoursePlace} {f : Final} → IsDecided f.end → Ends at.wish at.stage at.count f.end f.doings f.out
    → Closes at f
closes decided (inl (inl (lost, few), doings, out)) = absurd (subst IsDecided lost decided)
closes decided (inl (inr (spent, all), doings, out)) = Spent spent all doings out
closes decided (inr (inl (is, few, doings, out))) = Ended is few doings out
closes decided (inr (inr (bytes, (sent, (stops, doings, few))))) = Stopped bytes sent decided stops doings few

closes-few : {at : CoursePlace} {f : Final} → Closes at f → at.count ≤ 2 ^ 40
closes-few (Spent is all doings out) = omega (arith, all)
closes-few (Ended is few doings out) = omega (arith, few)
closes-few (Stopped bytes sent decided stops doings few) = omega (arith, few)

abbrev event_or_end : List IoEvent → IoEvent
event_or_end [] = HeardEnd
event_or_end (doing ∷ doings) = doing

abbrev after_first : List IoEvent → List IoEvent
after_first [] = []
after_first (doing ∷ doings) = doings

abbrev bytes_or_none : IoEvent → List ℕ
bytes_or_none (HeardBytes bytes) = bytes
bytes_or_none _ = []

no-end-of-bytes : {bytes : List ℕ} → HeardEnd ≡ HeardBytes bytes → ⊥
no-end-of-bytes same = cc

-- events that begin with others
abbrev pub BeginWith : List IoEvent → List IoEvent → Type 0
BeginWith all first = (later : List IoEvent) × (all ≡ first ++ later)

finals-once : {at : CoursePlace} {a b : Final} → Closes at a → Closes at b
    → BeginWith (events_in b.doings) (events_in a.doings) → a ≡ b
finals-once (Spent is all doings out) (Spent is' all' doings' out') same =
    final-is (is ∙ sym is') (doings ∙ sym doings') (out ∙ sym out')
finals-once (Spent is all doings out) (Ended is' few doings' out') same = absurd (omega (arith, all, few))
finals-once (Spent is all doings out) (Stopped bytes sent decided stops doings' few) same =
    absurd (omega (arith, all, few))
finals-once (Ended is few doings out) (Spent is' all doings' out') same = absurd (omega (arith, all, few))
finals-once (Ended is few doings out) (Ended is' few' doings' out') same =
    final-is (is ∙ sym is') (doings ∙ sym doings') (out ∙ sym out')
finals-once (Ended is few doings out) (Stopped bytes sent decided stops doings' few') (later, same) =
    absurd (no-end-of-bytes
    (sym (ap (λ ds. event_or_end (events_in ds ++ later)) doings)
    ∙ (sym (ap event_or_end same) ∙ ap (λ ds. event_or_end (events_in ds)) doings')))
finals-once (Stopped bytes sent decided stops doings few) (Spent is' all doings' out') same =
    absurd (omega (arith, all, few))
finals-once (Stopped bytes sent decided stops doings few) (Ended is' few' doings' out') (later, same) =
    absurd (no-end-of-bytes
    (sym (ap (λ ds. event_or_end (events_in ds)) doings')
    ∙ (ap event_or_end same ∙ ap (λ ds. event_or_end (events_in ds ++ later)) doings)))
finals-once {at} {a} {b} (Stopped bytes sent decided stops doings few)
    (Stopped bytes' sent' decided' stops' doings' few') (later, same) =
    let bytes_are : bytes ≡ bytes' =
    sym (ap (λ ds. bytes_or_none (event_or_end (events_in ds ++ later))) doings)
    ∙ sym (ap (λ ds. bytes_or_none (event_or_end ds)) same)
    ∙ ap (λ ds. bytes_or_none (event_or_end (events_in ds))) doings' in
    let old = λ (x : List ℕ). stage at.stage.history (at.stage.rest ++ x) in
    let first : Stopping at.wish (old bytes') = record {
      end = a.end;
      sent = sent;
      out = a.out;
      decided = decided;
      stops = subst (λ x. StopsAt at.wish (old x) a.end sent a.out) bytes_are stops;
    } in
    let second : Stopping at.wish (old bytes') =
    record { end = b.end; sent = sent'; out = b.out; decided = decided'; stops = stops' } in
    let one = stops-once first second in
    final-is one.end_is
    (doings ∙ ap (λ x. HeardBytes x ∷ sends sent) bytes_are ∙ ap (λ s. HeardBytes bytes' ∷ sends s) one.sent_is
    ∙ sym doings') one.out_is

-- the watching doesn't go on at the event that gives the answer
closes-not-runs : {at : CoursePlace} {f : Final} (later : List IoEvent) → Closes at f → (done : RoundDone at)
    → event_or_end (events_in f.doings ++ later) ≡ done.round.event → ⊥
closes-not-runs later (Spent is all doings out) done same = omega (arith, all, done.few)
closes-not-runs {at} later (Ended is _ doings out) done same =
    let first : done.round.event ≡ HeardEnd = sym same ∙ ap (λ ds. event_or_end (events_in ds ++ later)) doings in
    subst (λ e. Brings e at.stage.rest done.round.moments done.mid.rest) first done.runs.brings
closes-not-runs {at} later (Stopped bytes sent decided stops doings _) done same =
    let first : done.round.event ≡ HeardBytes bytes =
    sym same ∙ ap (λ ds. event_or_end (events_in ds ++ later)) doings in
    let brings : Brings (HeardBytes bytes) at.stage.rest done.round.moments done.mid.rest =
    subst (λ e. Brings e at.stage.rest done.round.moments done.mid.rest) first done.runs.brings in
    quit-not-passed (stops-quit decided stops)
    (record {
      elements = brings.0;
      rest = done.mid.rest;
      cut = brings.1.0;
      good = subst (GoOn at.stage.history) brings.1.1 done.runs.good;
    }) done.idle

-- ---- all events

record IsCourse (at : CoursePlace) (rounds : List Round) (f : Final) : Type 0 where
  mid : WatchStage
  runs : RunsAll at.stage rounds mid
  closes : Closes (record at { stage = mid; count = at.count + length rounds }) f

record AreSameCourses (one other : List Round) (a b : Final) : Type 0 where
  rounds_are : one ≡ other
  final_is : a ≡ b

-- a course of no round ends where it begins, and one of several goes on after its first round
closes-here : {at : CoursePlace} {f : Final} → IsCourse at [] f → Closes at f
closes-here {at} {f} x =
    let here : at.count + 0 ≡ at.count = omega arith in
    subst (λ n. Closes (record at { count = n }) f) here
    (subst (λ s. Closes (record at { stage = s; count = at.count + 0 }) f) x.runs x.closes)

abbrev first-done : {at : CoursePlace} {round : Round} {rounds : List Round} {f : Final}
    → IsCourse at (round ∷ rounds) f
    → RoundDone at
first-done {at} {round} {rounds} x = record {
  round = round;
  mid = x.runs.0;
  runs = x.runs.1.0;
  idle = x.runs.1.1;
  few = let few : at.count + length (round ∷ rounds) ≤ 2 ^ 40 = closes-few x.closes in omega (arith, few);
}

course-rest : {at : CoursePlace} {round : Round} {rounds : List Round} {f : Final}
    (x : IsCourse at (round ∷ rounds) f)
    → IsCourse (record at { stage = x.runs.0; count = at.count + 1 }) rounds f
course-rest {at} {round} {rounds} {f} x =
    let one_more : at.count + length (round ∷ rounds) ≡ at.count + 1 + length rounds = omega arith in
    record {
      mid = x.mid;
      runs = x.runs.1.2;
      closes = subst (λ n. Closes (record at { stage = x.mid; count = n }) f) one_more x.closes;
    }

courses-once : (one other : List Round) {at : CoursePlace} {a b : Final} → IsCourse at one a → IsCourse at other b
    → BeginWith (events_of other ++ events_in b.doings) (events_of one ++ events_in a.doings)
    → AreSameCourses one other a b
courses-once [] [] x y same = record { rounds_are = refl; final_is = finals-once (closes-here x) (closes-here y) same }
courses-once [] (round ∷ other) x y (later, same) =
    absurd (closes-not-runs later (closes-here x) (first-done y) (sym (ap event_or_end same)))
courses-once (round ∷ one) [] {b = b} x y (later, same) =
    absurd (closes-not-runs [] (closes-here y) (first-done x)
    (ap event_or_end (append-nil (events_in b.doings) ∙ same)))
courses-once (round ∷ one) (round' ∷ other) {at} {b = b} x y (later, same) =
    let next = runs-once (first-done x) (first-done y) (sym (ap event_or_end same)) in
    let second : IsCourse (record at { stage = x.runs.0; count = at.count + 1 }) other b =
    subst (λ s. IsCourse (record at { stage = s; count = at.count + 1 }) other b) (sym next.mid_is) (course-rest y) in
    let rest = courses-once one other (course-rest x) second (later, ap after_first same) in
    record {
      rounds_are = ap (λ r. r ∷ one) next.round_is ∙ ap (λ rs. round' ∷ rs) rest.rounds_are;
      final_is = rest.final_is;
    }

-- ---- the entire watching

-- what comes of a course
abbrev outcome_of : Wish → Option (List ℕ) → List Round → Final → WatchOutcome
outcome_of wish out rounds f = record {
  end = f.end;
  doings = sends (setup_text wish) ++ (rounds_doings wish [] rounds ++ f.doings);
  out = told_more out (payloads_of (events_of_rounds rounds) ++ f.out);
}

record HasCome (wish : Wish) (out : Option (List ℕ)) (o : WatchOutcome) : Type 0 where
  rounds : List Round
  final : Final
  course : IsCourse (record { wish = wish; stage = stage [] []; count = 0 }) rounds final
  outcome_is : o ≡ outcome_of wish out rounds final

has-come : {wish : Wish} {told : List IoEvent} {out : Option (List ℕ)} {o : WatchOutcome} → IsOutcome wish told out o
    → HasCome wish out o
has-come {wish} {told} {out} {o} is =
    elim is.watched [
      | inl c ↦
          let final : Final = record { end = o.end; doings = c.last_doings; out = c.last_out } in
          let all = sends (setup_text wish) ++ (rounds_doings wish [] c.rounds ++ c.last_doings) in
          record {
            rounds = c.rounds;
            final = final;
            course = record {
              mid = c.mid;
              runs = c.runs;
              closes = subst (λ n. Closes (record { wish = wish; stage = c.mid; count = n }) final) (omega arith)
                  (closes is.decided c.ends);
            };
            outcome_is = ap (λ doings. record { end = o.end; doings = doings; out = o.out })
                (append_cancel_left told o.doings all (same_Some (told ++ o.doings) (told ++ all) c.told))
                ∙ ap (λ out. record { end = o.end; doings = all; out = out }) c.out;
          }
      | inr none ↦ absurd (elim none.cause [
        | inl memory ↦ subst IsDecided memory.0 is.decided
        | inr lost ↦ subst IsDecided lost.0 is.decided
      ])
    ]

course-events : {wish : Wish} {out : Option (List ℕ)} {o : WatchOutcome} (come : HasCome wish out o)
    → events_in o.doings ≡ events_of come.rounds ++ events_in come.final.doings
course-events {wish} come =
    let doings = rounds_doings wish [] come.rounds in
    ap (λ (o : WatchOutcome). events_in o.doings) come.outcome_is
    ∙ (events-on (sends (setup_text wish)) (doings ++ come.final.doings)
    ∙ (ap (λ (ds : List IoEvent). ds ++ events_in (doings ++ come.final.doings)) (no-events (setup_text wish))
    ∙ (events-on doings come.final.doings
    ∙ ap (λ (ds : List IoEvent). ds ++ events_in come.final.doings)
    (rounds-heard wish (stage [] []) come.course.mid come.rounds come.course.runs))))

-- an outcome that the events decided
pub record Outcome (wish : Wish) (told : List IoEvent) (out : Option (List ℕ)) : Type 0 where
  pub outcome : WatchOutcome
  pub is : IsOutcome wish told out outcome

pub outcome-once : {wish : Wish} {told : List IoEvent} {out : Option (List ℕ)} (one other : Outcome wish told out)
    → BeginWith (events_in other.outcome.doings) (events_in one.outcome.doings) → one.outcome ≡ other.outcome
outcome-once {wish} {out = out} one other (later, same) =
    let x = has-come one.is in
    let y = has-come other.is in
    let once = courses-once x.rounds y.rounds x.course y.course
    (later, sym (course-events y) ∙ (same ∙ ap (λ (ds : List IoEvent). ds ++ later) (course-events x))) in
    x.outcome_is
    ∙ (ap (λ rounds. outcome_of wish out rounds x.final) once.rounds_are
    ∙ (ap (outcome_of wish out y.rounds) once.final_is ∙ sym y.outcome_is))
