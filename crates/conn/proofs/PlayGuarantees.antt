-- What a connection keeps to while a play goes on, and what its replies state, by the course.
use Rattle.std.proofs.lemmas.Grind.{common_steps}
use Rattle.std.proofs.Common.{◌≡◌, ℕ, ◌+◌, ◌-◌, ◌++◌, false, List, [], ◌∷◌, length, take, refl, ap, subst, ◌∙◌, arith}
use Rattle.std.proofs.Common.{inl, Option, All, Contains, Some, ◌&&◌, Bool, true, if◌then◌else◌, slice_get, None, sym}
use Rattle.std.proofs.lemmas.List.{append-nil}
use Rattle.film_frames.specs.declared.stored_films.Stored.{Stored}
use Rattle.film_run.proofs.PlanLemmas.{sending-best}
use Rattle.film_run.specs.Units.{stored_sizes}
use Rattle.plan_cert.specs.Plan.{IsPlan}
use Rattle.vod_base.specs.Links.{IoEvent}
use Rattle.pacer.specs.PacerStates.{first_slots}
use Rattle.film_streams.specs.declared.settings.Settings.{Settings}
use Rattle.session.specs.declared.states.State.{State}
use Rattle.session.specs.declared.states.State.TheVariants.{Playing, Stopping, Init, Ready}
use Rattle.session.specs.RequestSteps.{new_session_state, after_admission, after_halt, counts_done, counts_next}
use Rattle.session.specs.RequestSteps.{counts_of, halted_counts}
use Rattle.film_streams.specs.SettingRanges.{AreSettings, IsSetup}
use Rattle.session.specs.SlotSteps.{is_sending, after_slot, after_play, halted_in, halted_notes, is_between, kept_of}
use Rattle.session.specs.SlotSteps.{next_of, note_of, sent_due, sent_reply, state_once_halted, stepped_in}
use Rattle.session.specs.SessionStates.{SessionState, last_heard_slot, AwaitedAnswer}
use Rattle.conn.specs.InputSteps.{Outcome, SentPart, Stage, film_bytes, slot_parts, stage, Unasked, Entered, WasFull}
use Rattle.conn.specs.InputSteps.{Offered, Film, Text, ElementStep, Passed, Answered, IsPlayAnswered, TakesAll}
use Rattle.conn.specs.InputSteps.{after_reply, HasHeard}
use Rattle.conn.specs.EventSteps.{Round, ending_outcomes, rounds_outcomes, RunsAll}
use Rattle.conn.specs.Films.{HasSentOn, rounds_parts}
use Rattle.conn.specs.Plays.{ArePlaysKept, IsKeptIn, IsSentBy, client_of, heard_by, ending_rounds, film_in, film_since}
use Rattle.conn.specs.Plays.{film_taken}
use Rattle.conn.proofs.CourseSteps.{noted_on, seen_agrees}
use Rattle.conn.proofs.CurveBounds.{planned_between}
use Rattle.conn.proofs.RequestInvariants.{AreShown, HasPlay, IsStateOf, IsWell, ground_of, StopGoing, StopsOn, stop_cut}
use Rattle.conn.proofs.RequestInvariants.{stop_slot, stop_still, Ground, PlayGround, HasAskedPlay, HasStopped}
use Rattle.conn.proofs.RequestInvariants.{IsAskedWell, IsHaltAwaited, IsHaltedTo, IsHalting, IsHaltingIn, ground_by}
use Rattle.conn.proofs.RequestInvariants.{hears_well, stop_left}
use Rattle.conn.proofs.PlayProgress.{as_it_was, slot_play, slot_any}
use Rattle.conn.proofs.ReplyContents.{course_tells, AreReported, TellsOver}
use Rattle.conn.specs.Guarantees.{MeetsGuarantee, AreRefusalsJustified, ReportsOverflowOf}
use Rattle.conn.specs.ConnectionService.{HasServedFrom}
use Rattle.conn.specs.declared.reports.ConnReport.{ConnReport}
use Rattle.admission.proofs.HistoryPrefixes.{legal-take}
use Rattle.admission.proofs.CapacityBounds.{sound-after}
use Rattle.station.specs.Seats.{IsSeat, SeatState}
use Rattle.conn.proofs.EventPremises.{PlayGoing}
use Rattle.conn.proofs.StationAnswers.{ComesAs, comes_as, BytesCame, SlotCame, AnswersAs, FinishesAs, answers_as}
use Rattle.conn.proofs.StationAnswers.{NoneAsked, PlayAdmitted, PlayOverflowed, PlayFull, PlayHalted, LookMade}
use Rattle.conn.proofs.StationAnswers.{NothingLeft, DoneHalted}
use Rattle.std.proofs.lemmas.List.Elements.{All-cons, All-contains, All-nil, Contains-append_left}
use Rattle.std.proofs.lemmas.Option.{slice_get-get_or}
use Rattle.admission.specs.declared.entries.Answer.TheVariants.{Overflow, Admitted}
use Rattle.admission.specs.Histories.{IsLegal, state_after}
use Rattle.admission.specs.Machine.{IsAnswer, State as Journal, booked_in, start_after}
use Rattle.admission.specs.declared.entries.Command.{Command}
use Rattle.admission.specs.declared.entries.Command.TheVariants.{Play}
use Rattle.admission.specs.declared.entries.Entry.{Entry}
use Rattle.plan_cert.specs.declared.Segment.{Segment}
use Rattle.slot_calendar.specs.Calendars.{IsFirstOverflow}
use Rattle.slot_calendar.specs.Profiles.{capacity_at}
use Rattle.slot_calendar.specs.declared.calendar.Overflow.{Overflow as Over}
use Rattle.slot_calendar.specs.declared.profiles.CapStep.{CapStep}
use Rattle.conn.specs.Journals.{AgreeWith, StandsIn, Terms}
use Rattle.film_run.specs.declared.runs.Run.{Run}
use Rattle.admission.specs.Makers.{PlacedEntry}
use Rattle.session.specs.declared.commands.Ask.{Ask}
use Rattle.session.specs.declared.states.Awaited.{Awaited}
use Rattle.film_streams.specs.declared.stream_numbers.Counts.{Counts}
use Rattle.session.specs.declared.states.AfterHalt.{AfterHalt}
use Rattle.session.specs.declared.states.AfterHalt.TheVariants.{Done, Paused, Torn}
use Rattle.session.specs.declared.states.Play.{Play as Played}
use Rattle.film_streams.specs.declared.setups.Setup.{Setup}
use Rattle.session.specs.RequestEffects.{AwaitsNoStop}
use Rattle.session.specs.RunRequests.{playback_of}
use Rattle.session.specs.Methods.{prepared_of}
use Rattle.session.specs.declared.states.Prepared.{Prepared}
use Rattle.film_run.specs.Laws.{IsSending}
use Rattle.conn.proofs.PlayStart.{play_begins}

-- ---- through a course a session stays as `IsWell` has it

-- the ground with other counts of what was sent before
abbrev ground_with : Counts → Ground → PlayGround
ground_with counts ground = record ground.sending { context = record ground.context { counts = counts } }

-- a halt is noted, and leaves the rest of its play
noted_stop : {setup : Setup} {ground : Ground} {awaited : Awaited} (play : Played) (paused : Option Run) →
    IsHaltAwaited ground awaited setup play →
    HasStopped (record ground {
      plays = ground.plays ++ note_of setup play (kept_of awaited play.pacer.due) ∷ [];
    }) setup
    (record { paused = paused; start = play.start; pacer = play.pacer })
noted_stop {setup} {ground} play paused halted = search arith

halted_state : (old : SessionState) (film : List ℕ) (state : State) → IsHaltingIn (ground_of old film) old.awaited state
    → IsStateOf (record (ground_of old film) {
      sending = ground_with (halted_counts old state)
          (ground_of old film);
      plays = old.plays ++ halted_notes state old.awaited;
    }) (halted_in state old.awaited)
halted_state old film Init is = tt
halted_state old film (Ready setup paused) is = is
halted_state old film (Playing setup play) is = by-next (next_of old.awaited) is.1
  where
    by-next : (next : AfterHalt) → IsHaltedTo next (IsHaltAwaited (ground_of old film) old.awaited setup play) →
        IsStateOf (record (ground_of old film) {
          sending = ground_with (counts_next old.counts (counts_done old.source old.counts setup play.run
              (kept_of old.awaited play.pacer.due) (slice_get old.films setup.film)) next) (ground_of old film);
          plays = old.plays ++ note_of setup play (kept_of old.awaited play.pacer.due) ∷ [];
        }) (state_once_halted setup play next)
    by-next Done halted = is.0
    by-next (Paused run) halted = (is.0, noted_stop play (Some run) halted)
    by-next Torn halted = (is.0, noted_stop play None halted)
halted_state old film (Stopping setup stop) is = search append-nil

halted_well : {old : SessionState} {film : List ℕ} (placed : PlacedEntry) → IsHalting old film
    → IsWell (after_halt old placed.place) film
halted_well {old} {film} placed well = search halted_state

halting_of : (s : SessionState) (film : List ℕ) → IsWell s film → IsHalting s film
halting_of s film well = grind arith

-- an admitted play is a sending of which nothing was sent
admitted_well : {s : SessionState} {film : List ℕ} {start : ℕ} (placed : PlacedEntry) → IsWell s film × HasAskedPlay s
    → IsPlayAnswered s placed (Admitted start) (after_admission s placed.place start)
    → IsWell (after_admission s placed.place start) []
admitted_well {s} {film} placed (well, its) answered =
    let is = its.asked in
    let prepared : Prepared = prepared_of its.old is.stored is.setup is.planned is.sequence in
    let ready : s.state ≡ Ready is.setup is.paused = its.state ∙ is.ready in
    let values : IsSetup (length s.films) is.setup = rw ready at well.state in
    let sending : IsSending (stored_sizes is.stored) (playback_of is.stored.film its.old.settings is.setup)
    is.planned.run is.planned.plan = search in
    let begun = play_begins s placed
    (record { setup = is.setup; prepared = prepared; ready = search arith; awaits = is.awaited }) answered in
    let counts = ap (λ a. counts_of a s.counts) is.awaited in
    let ground : Ground =
    record (ground_of s []) { sending = ground_with (counts_of s.awaited s.counts) (ground_of s []) } in
    let play : HasPlay ground.sending is.setup begun.play = record {
      of = record {
        stored = is.stored;
        at = rw its.same.films is.planned_is.at;
        sending = rw (begun.run, begun.plan, its.same.settings) sending;
        pieces = grind arith;
      };
      sent = begun.sent;
    } in
    record {
      serves = well.serves;
      unstopped = refl;
      state = subst (IsStateOf ground) (sym begun.state) (values, play);
    }

heard_well : {old new : SessionState} {film message : List ℕ} {outcome : Outcome} → HasHeard old message outcome new
    → IsWell old film → IsWell new (film_since film outcome)
heard_well {old} {film = film} {message} {outcome} heard well =
    by-answer (hears_well
    (record { old = old; new = s; message = message; ask = heard.ask; hears = heard.hears }) well)
    (answers_as heard.ask outcome heard.answered)
  where
    s : SessionState
    s = heard.asking

    by-answer : {ask : Ask} {outcome : Outcome} {new : SessionState} → IsAskedWell ask s film
        → AnswersAs s ask outcome new → IsWell new (film_since film outcome)
    by-answer well NoneAsked = well
    by-answer well (PlayAdmitted {placed = placed} entry answered) =
        rw entry.answer_is (admitted_well placed well answered)
    by-answer well (PlayOverflowed {placed = placed} entry) = search arith
    by-answer well (PlayFull two) = record { serves = well.0.serves; unstopped = refl; state = well.0.state }
    by-answer well (PlayHalted {placed = placed} entry) = rw entry.answer_is (halted_well placed well)
    by-answer well (LookMade {placed = placed} is) = search arith
    by-answer well _ = record { serves = well.serves; unstopped = refl; state = well.state }

reply_well : (goes : Bool) (s : SessionState) (film : List ℕ) → IsWell s film
    → IsWell (if goes then sent_reply s else s) film
reply_well goes s film given = grind arith

-- one element, and elements
pub takes_well : (old new : Stage) (takings : List ElementStep) (film : List ℕ) → TakesAll old takings new
    → IsWell old.session film → IsWell new.session (film_taken film takings)
takes_well old new [] film takes well = rw takes well
takes_well old new (Passed n ∷ takings) film takes well =
    takes_well takes.0 new takings film takes.1.1 (rw takes.1.0.2 well)
takes_well old new (Answered message outcome parts ∷ takings) film takes well =
    let taken = takes.1.0 in
    let since : List ℕ = film_since film outcome in
    let heard : IsWell taken.answered since = heard_well taken.heard well in
    let after : IsWell (after_reply taken.answered) since = search reply_well in
    let none : film_bytes parts ≡ [] = grind arith in
    takes_well takes.0 new takings (since ++ film_bytes parts) takes.1.1 (rw (taken.new_is, none, append-nil) after)

-- a slot leaves all of a session but what was sent
record IsSameSession (old new : SessionState) : Type 0 where
  ground : ground_of new [] ≡ ground_by (ground_of old []) new.heard []
  unstopped : AwaitsNoStop old → AwaitsNoStop new

-- what is due leaves it, and so does a slot in which nothing is
sent_ground : (goes : Bool) (old : SessionState) (slot : ℕ)
    → IsSameSession old (after_play (if goes then sent_reply (sent_due old slot) else sent_due old slot))
sent_ground goes old slot = grind arith

slot_ground : (old : SessionState) (slot : ℕ) → IsSameSession old (after_slot old slot)
slot_ground old slot =
    slot_any (IsSameSession old) old slot
    (λ sends. sent_ground (old.waits && is_between (stepped_in true slot old.state)) old slot)
    (record { ground = refl; unstopped = λ none. none }) (record { ground = refl; unstopped = λ none. none })

-- a slot leaves a session well where it leaves the state so
slot_well : {film more : List ℕ} (old : SessionState) (slot : ℕ) → IsWell old film
    → IsStateOf (ground_by (ground_of old film) (after_slot old slot).heard more) (after_slot old slot).state
    → IsWell (after_slot old slot) more
slot_well {more = more} old slot well state = grind (arith, slot_ground old slot)

-- a play goes on by a slot
play_on : {old new : SessionState} {more : List ℕ} (going : PlayGoing old)
    → HasPlay (ground_of old going.film).sending going.setup going.play
    → (on : HasSentOn going.setup going.play new more)
    → HasPlay (ground_by (ground_of old going.film) new.heard more).sending going.setup on.now
play_on {old} going its on = grind arith

slot_state : (state : State) (old : SessionState) (slot : ℕ) (film : List ℕ) → old.state ≡ state → IsWell old film →
    IsWell (after_slot old slot) (film ++ film_bytes (slot_parts old slot))
slot_state state old slot film is well = by-state state is (subst (IsStateOf (ground_of old film)) is well.state)
  where
    more : List ℕ
    more = film ++ film_bytes (slot_parts old slot)

    -- a slot in which nothing is sent
    resting : is_sending old.state ≡ false
        → ((heard : ℕ) → IsStateOf (ground_by (ground_of old film) heard more) old.state)
        → IsWell (after_slot old slot) more
    resting none off = search arith

    by-state : (state : State) → old.state ≡ state → IsStateOf (ground_of old film) state
        → IsWell (after_slot old slot) more
    by-state Init is was = resting (ap is_sending is) (λ heard. rw is tt)
    by-state (Ready setup paused) is was = resting (ap is_sending is) (λ heard. rw is was)
    by-state (Playing setup play) is was =
        let going : PlayGoing old = record { setup = setup; play = play; film = film; state = is; sent = was.1.sent } in
        let on = slot_play old slot going in
        slot_well old slot well
        (subst (IsStateOf (ground_by (ground_of old film) (after_slot old slot).heard more)) (sym on.state)
        (was.0, play_on going was.1 on))
    by-state (Stopping setup stop) is was =
        let going : StopGoing old = record { setup = setup; stop = stop; film = film; state = is; stopped = was.1 } in
        slot_well old slot well (stop_left going was.0 (stop_slot old slot going))

-- an event; a play that is done is halted
comes_well : {film : List ℕ} {old new : Stage} {round : Round} → ComesAs old round new → IsWell old.session film
    → IsWell new.session (film ++ film_bytes round.due)
comes_well {film} {old} BytesCame well = subst (IsWell old.session) (sym (append-nil film)) well
comes_well {film} {old} (SlotCame {slot = slot} finishes) well = by-finish finishes
  where
    more : List ℕ
    more = film ++ film_bytes (slot_parts old.session slot)

    after : IsWell (after_slot old.session slot) more
    after = slot_state old.session.state old.session slot film refl well

    by-finish : {asks : AwaitedAnswer} {halt : Outcome} {new : SessionState}
        → FinishesAs (after_slot old.session slot) asks halt new → IsWell new more
    by-finish NothingLeft = after
    by-finish (DoneHalted {placed = placed} entry) = halted_well placed
        (halting_of (after_slot old.session slot) more after)

-- a round, and rounds
pub rounds_well : (old new : Stage) (rounds : List Round) (film : List ℕ) → IsWell old.session film
    → RunsAll old rounds new → IsWell new.session (film_in film rounds)
rounds_well old new [] film well runs = rw runs well
rounds_well old new (round ∷ rounds) film well runs =
    let came = runs.1.0 in
    let more : List ℕ = film ++ film_bytes round.due in
    rounds_well runs.0 new rounds (film_taken more round.takings)
    (takes_well came.opened runs.0 round.takings more came.takes (comes_well (comes_as round came.comes) well)) runs.1.2

-- ---- what the replies of a connection state, by what its seat has seen of the journal

-- the entry of an answer, if it has one, stands in a journal
abbrev IsStanding : Terms → List Entry → Outcome → Type 0
IsStanding terms journal (Entered placed) = (from : ℕ) × StandsIn terms journal from placed
IsStanding terms journal _ = Unit {0}

all_standing : (terms : Terms) (journal : List Entry) (from : ℕ) (outcomes : List Outcome)
    → AgreeWith terms journal from outcomes → All (IsStanding terms journal) outcomes
all_standing terms journal from [] agree = All-nil (IsStanding terms journal)
all_standing terms journal from (Unasked ∷ outcomes) agree =
    All-cons (IsStanding terms journal) Unasked outcomes tt (all_standing terms journal from outcomes agree)
all_standing terms journal from (Entered placed ∷ outcomes) agree =
    grind (arith, all_standing terms journal (placed.place + 1) outcomes agree.1)
all_standing terms journal from (WasFull more entries live ∷ outcomes) agree =
    grind (arith, all_standing terms journal entries outcomes agree.1)
all_standing terms journal from (Offered at_slot note ∷ outcomes) agree =
    All-cons (IsStanding terms journal) (Offered at_slot note) outcomes tt
    (all_standing terms journal note.seen outcomes agree.1)

-- a legal journal with which the station's answers agree: these, and the ones after them
pub record AnswersIn (terms : Terms) (journal : List Entry) (made : List Outcome) : Type 0 where
  pub legal : IsLegal terms.steps journal
  pub after : List Outcome
  pub from : ℕ
  pub agree : AgreeWith terms journal from (made ++ after)

-- an entry that stands in it was answered in the state before it
overflow_stands : {command : Command} (over : Over) (steps : List CapStep) (before : Journal) →
    IsAnswer steps before command (Overflow over.slot over.booked over.asked) →
    (heard : ℕ) × ((plan : List Segment) × ((command ≡ Play heard plan)
    × IsFirstOverflow 0 (booked_in before) (capacity_at steps) (start_after before heard) plan over))
overflow_stands over steps before given = grind arith

overflow_seen : {terms : Terms} {journal : List Entry} {made : List Outcome} (text : List ℕ)
    → AnswersIn terms journal made → (told : TellsOver text) × Contains made (Entered told.placed)
    → ReportsOverflowOf terms journal made text
overflow_seen {terms} {journal} {made} text answers (told, among) =
    let entry : Entry = told.placed.entry in
    let place : ℕ = told.placed.place in
    let stands = (All-contains (IsStanding terms journal) (made ++ answers.after) (Entered told.placed)
    (all_standing terms journal answers.from (made ++ answers.after) answers.agree)
    (Contains-append_left made answers.after (Entered told.placed) among)).1 in
    let over = overflow_stands told.over terms.steps (state_after (take place journal))
    (rw (stands.entry entry, told.answer) at (answers.legal.each place entry stands.within)) in
    record {
      slot = told.over.slot;
      booked = told.over.booked;
      asked = told.over.asked;
      overflow = record {
        placed = told.placed;
        among = among;
        seen = slice_get-get_or journal place entry stands.within ∙ ap (λ e. Some e) (stands.entry entry);
        maker = stands.maker_is;
        answer = told.answer;
        heard = over.0;
        plan = over.1.0;
        command = over.1.1.0;
        first = over.1.1.1;
      };
      sequence = told.sequence;
      text_is = told.text_is;
    }

-- over an entire course
pub refusals_told : {terms : Terms} {journal : List Entry} {made : List Outcome} (parts : List SentPart)
    → AnswersIn terms journal made → AreReported made parts → AreRefusalsJustified terms journal made parts
refusals_told [] answers told = tt
refusals_told (Film bytes ∷ parts) answers told = refusals_told parts answers told
refusals_told (Text text ∷ parts) answers told = (
  record { overflow = λ code. overflow_seen text answers (told.0.overflow code); full = told.0.full },
  refusals_told parts answers told.1,
)

-- ---- what is kept of each play

-- a session that received nothing yet
pub new_well : (films : List Stored) (settings : Settings) (words : List ℕ) → AreShown films → AreSettings settings →
    IsWell (new_session_state films settings words) []
new_well films settings words shown good = grind arith

slot_heard : (old : SessionState) (slot : ℕ) → (after_slot old slot).heard ≡ last_heard_slot old.heard slot
slot_heard old slot = grind (arith, common_steps)

-- what was sent of a play, by the play as it was and as it is now
sent_by : {old new : SessionState} {more : List ℕ} (going : PlayGoing old)
    → HasPlay (ground_of old going.film).sending going.setup going.play → HasSentOn going.setup going.play new more
    → (stored : Stored) × IsSentBy old stored going.setup going.play new.heard more
sent_by {old} {new} {more} going its on =
    let play = going.play in
    let is_plan : IsPlan play.plan = subst IsPlan (on.sent.plan ∙ on.plan) on.sent.pacing.plan in
    let count : length more ≡ first_slots play.plan (new.heard + 1 - play.start) = grind (arith, common_steps) in (
      its.stored,
      record {
        at = its.at;
        sending = its.sending;
        best = sending-best (stored_sizes its.stored)
            (client_of old its.stored going.setup) play.run play.plan its.sending;
        count = count;
        front = grind arith;
        between = λ slot at. planned_between is_plan its.sending
            (count ∙ ap (first_slots play.plan) (omega (arith, at)));
      },
    )

-- what is kept of a play, or of the rest of one, by what goes on
kept_by : {s new : SessionState} {more : List ℕ} (state : State) (film : List ℕ) → s.state ≡ state
    → IsStateOf (ground_of s film) state
    → ((going : PlayGoing s) → HasSentOn going.setup going.play new (going.film ++ more))
    → ((going : StopGoing s) → StopsOn (ground_of s going.film) going.setup going.stop new (going.film ++ more))
    → IsKeptIn state s new.heard (film ++ more)
kept_by {s} (Playing setup play) film is was plays stops =
    let going : PlayGoing s = record { setup = setup; play = play; film = film; state = is; sent = was.1.sent } in
    sent_by going was.1 (plays going)
kept_by {s} (Stopping setup stop) film is was plays stops =
    let going : StopGoing s = record { setup = setup; stop = stop; film = film; state = is; stopped = was.1 } in
    stop_cut going (stops going)
kept_by _ film is was plays stops = tt

kept_event : {film : List ℕ} {old new : Stage} {round : Round} → ComesAs old round new → IsWell old.session film
    → IsKeptIn old.session.state old.session (heard_by old.session.heard round.event) (film ++ film_bytes round.due)
kept_event {film} {old} BytesCame well =
    kept_by {new = old.session} {more = []} old.session.state film refl well.state
    (λ going. rw append-nil (as_it_was going)) (λ going. rw append-nil (stop_still going))
kept_event {film} {old} (SlotCame {slot = slot} finishes) well =
    let more : List ℕ = film_bytes (slot_parts old.session slot) in
    subst (λ h. IsKeptIn old.session.state old.session h (film ++ more)) (slot_heard old.session slot)
    (kept_by {more = more} old.session.state film refl well.state (slot_play old.session slot)
    (stop_slot old.session slot))

no_film_event : {old new : Stage} {round : Round} → ComesAs old round new → is_sending old.session.state ≡ false
    → film_bytes round.due ≡ []
no_film_event given given' = grind arith

-- in each course from such a session on
pub plays_kept : (first : SessionState) (rounds : List Round) → IsWell first [] → ArePlaysKept first rounds
plays_kept first rounds well = λ before round old at.
    let comes = comes_as round at.comes in
    (kept_event comes (rounds_well (stage first []) old before [] well at.runs), no_film_event comes)

-- the entire promise
pub keeps_promise : {session : SessionState} {old_told new_told : Option (List IoEvent)} {old_seat new_seat : SeatState}
    {report : ConnReport} → IsWell session [] →
    session.text ≡ [] → IsSeat new_seat → HasServedFrom session old_told new_told old_seat new_seat report →
    MeetsGuarantee session old_told new_told old_seat new_seat report
keeps_promise {session} {new_seat = seat} {report} well none is served =
    let course = served.course in
    inl (record {
      served = served;
      booked = record {
        legal = is.legal;
        within = λ n slot.
            (sound-after seat.steps (take n seat.seen) (legal-take seat.steps seat.seen n is.legal)).within.each slot;
      };
      keeps = record {
        plays = plays_kept session (course.rounds ++ ending_rounds course.ending) well;
        refusals = refusals_told {made = rounds_outcomes course.rounds ++ ending_outcomes course.ending}
            (rounds_parts (course.rounds ++ ending_rounds course.ending)) (record {
              legal = is.legal;
              after = served.closes.halt ∷ [];
              from = 0;
              agree = seen_agrees (noted_on course.noted served.closes.noted);
            }) (course_tells none course);
      };
    })
