-- Through each request a session keeps its films, its settings and what SETUP settled, and a play
-- that it asks for is a sending.
use Rattle.std.proofs.Common.{◌≡◌, ℕ, ◌++◌, ◌∷◌, List, [], length, subst, inl, inr, arith, ◌⊎◌, ◌+◌, ◌-◌, ◌<◌, ◌&&◌}
use Rattle.std.proofs.Common.{Bool, true, refl, ap, sym, ◌∙◌}
use Rattle.film_frames.specs.declared.stored_films.Stored.{Stored}
use Rattle.film_frames.specs.FramedRuns.{run_pieces}
use Rattle.film_run.specs.declared.runs.Run.{Run}
use Rattle.film_run.specs.Laws.{IsSending}
use Rattle.film_run.specs.Units.{stored_sizes}
use Rattle.pacer.specs.PacerStates.{PacerState, first_slots}
use Rattle.plan_cert.specs.declared.Segment.{Segment}
use Rattle.session.specs.declared.commands.Ask.{Ask}
use Rattle.session.specs.declared.commands.Ask.TheVariants.{Reply as AskReply, Play as AskPlay, Halt as AskHalt}
use Rattle.session.specs.declared.commands.Ask.TheVariants.{Look as AskLook, Offer as AskOffer}
use Rattle.session_records.specs.declared.notes.PlayNote.{PlayNote}
use Rattle.film_streams.specs.declared.settings.Settings.{Settings}
use Rattle.session.specs.declared.states.Awaited.{Awaited}
use Rattle.session.specs.declared.states.AfterHalt.{AfterHalt}
use Rattle.session.specs.declared.states.AfterHalt.TheVariants.{Done, Paused, Torn}
use Rattle.session.specs.declared.states.Play.{Play as Played}
use Rattle.film_streams.specs.declared.setups.Setup.{Setup}
use Rattle.session.specs.declared.states.State.{State}
use Rattle.session.specs.declared.states.State.TheVariants.{Init, Ready, Playing, Stopping}
use Rattle.session.specs.declared.states.Stop.{Stop}
use Rattle.session.specs.RequestEffects.{AwaitsNoStop, ChangesState, IsHaltAsked, IsPlayAsked, IsSameContext}
use Rattle.session.specs.RunRequests.{sending_of, playback_of}
use Rattle.film_streams.specs.Films.{IsFilmAt, OfFilm}
use Rattle.session.proofs.InitialStateLemmas.{HeardMessage}
use Rattle.session.specs.Laws.{AsksNoHalt}
use Rattle.film_streams.specs.SettingRanges.{AreSettings, IsSetup}
use Rattle.session.specs.SlotSteps.{kept_of, next_of, note_of, after_play, after_slot, is_between, is_sending, sent_due}
use Rattle.session.specs.SlotSteps.{sent_slot, stepped_in}
use Rattle.session.specs.SessionInvariant.{SessionContext, context_of}
use Rattle.session.specs.SessionStates.{SessionState}
use Rattle.session.proofs.RequestEffectLemmas.{hears_ground, hears_state, hears_unstopped}
use Rattle.conn.specs.Films.{HasSent}
use Rattle.conn.specs.Plays.{IsShown, IsCutBy, client_of}
use Rattle.conn.proofs.FilmBytes.{IsHaltedPacing, halted_here, sent_through, slot_film, slot_is, slot_pacing}
use Rattle.conn.proofs.FilmBytes.{halted_count, halted_on}
use Rattle.film_frames.specs.Tracks.{IsBoundaryAfter}
use Rattle.film_run.proofs.PlanLemmas.{sending-best}
use Rattle.conn.specs.InputSteps.{due_parts, film_bytes, slot_parts}
use Rattle.std.proofs.lemmas.List.{append-nil}
use Rattle.conn.proofs.PlayProgress.{pacer_film, reply_heard, slot_sends, state_after_slot}

abbrev pub AreShown : List Stored → Type 0
AreShown films = (number : ℕ) → OfFilm films number IsShown

-- what a play of a session is judged by: its films, source, settings and counts, the latest slot,
-- and the bytes that were sent of its film
pub record PlayGround : Type 0 where
  pub context : SessionContext
  pub heard : ℕ
  pub film : List ℕ

-- and the notes of its plays
pub record Ground : Type 0 where
  pub sending : PlayGround
  pub open sending use {context, context.{films, source, settings, counts}, heard, film}
  pub plays : List PlayNote

abbrev pub ground_of : SessionState → List ℕ → Ground
ground_of s film = record { sending = record { context = context_of s; heard = s.heard; film = film }; plays = s.plays }

-- the ground once these bytes were sent by a slot
abbrev pub ground_by : Ground → ℕ → List ℕ → Ground
ground_by ground heard film = record ground { sending = record ground.sending { heard = heard; film = film } }

-- a run of a film with its plan, and its frames and reports
pub record IsOfFilm (own : SessionContext) (setup : Setup) (run : Run) (plan : List Segment) (frames : List (List ℕ))
    : Type 0 where
  pub stored : Stored
  pub at : IsFilmAt own.films setup.film stored
  pub sending : IsSending (stored_sizes stored) (playback_of stored.film own.settings setup) run plan
  pub pieces : frames ≡ run_pieces (sending_of stored.film own.source setup own.counts run)

-- a play of a film's run, of which these bytes were sent
pub record HasPlay (ground : PlayGround) (setup : Setup) (play : Played) : Type 0 where
  pub of : IsOfFilm ground.context setup play.run play.plan play.pacer.pieces
  pub open of use *
  pub sent : HasSent play ground.heard ground.film

-- a play that is halted by a PAUSE or a TEARDOWN, and what sends its rest
pub record IsHaltedPlay (ground : PlayGround) (setup : Setup) (play : Played) (pacer : PacerState) : Type 0 where
  pub of : IsOfFilm ground.context setup play.run play.plan pacer.pieces
  pub open of use *
  pub plan : pacer.plan ≡ play.plan
  pub before : pacer.before ≡ play.run.sent
  pub start : pacer.start ≡ play.start
  pub halted : IsHaltedPacing pacer ground.heard ground.film

-- it is the last that was noted
pub record HasStopped (ground : Ground) (setup : Setup) (stop : Stop) : Type 0 where
  pub play : Played
  pub earlier : List PlayNote
  pub noted : ground.plays ≡ earlier ++ note_of setup play stop.pacer.keep ∷ []
  pub rest : IsHaltedPlay ground.sending setup play stop.pacer

abbrev pub IsStateOf : Ground → State → Type 0
IsStateOf ground Init = Unit {0}
IsStateOf ground (Ready setup paused) = IsSetup (length ground.films) setup
IsStateOf ground (Playing setup play) = IsSetup (length ground.films) setup × HasPlay ground.sending setup play
IsStateOf ground (Stopping setup stop) = IsSetup (length ground.films) setup × HasStopped ground setup stop

-- films that can be shown, and settings in their ranges
pub record CanServe (stored : List Stored) (own : Settings) : Type 0 where
  pub films : AreShown stored
  pub settings : AreSettings own

-- a session in a course, with what was sent of its play
pub record IsWell (s : SessionState) (film : List ℕ) : Type 0 where
  pub serves : CanServe s.films s.settings
  pub open serves use *
  pub unstopped : AwaitsNoStop s
  pub state : IsStateOf (ground_of s film) s.state

-- a play is asked for in Ready
pub record HasAskedPlay (s : SessionState) : Type 0 where
  pub old : SessionState
  pub same : IsSameContext old s
  pub state : s.state ≡ old.state
  pub asked : IsPlayAsked old s

-- a PAUSE or a TEARDOWN asks for a halt of a play
pub record IsHaltAwaited (ground : Ground) (awaited : Awaited) (setup : Setup) (play : Played) : Type 0 where
  pub keep_is : kept_of awaited play.pacer.due ≡ play.pacer.keep
  pub rest : IsHaltedPlay ground.sending setup play play.pacer

-- by what the halt leads to: a play that is done leaves nothing
abbrev pub IsHaltedTo : AfterHalt → Type 0 → Type 0
IsHaltedTo Done halted = Unit {0}
IsHaltedTo (Paused run) halted = halted
IsHaltedTo Torn halted = halted

abbrev pub IsHaltingIn : Ground → Awaited → State → Type 0
IsHaltingIn ground awaited Init = Unit {0}
IsHaltingIn ground awaited (Ready setup paused) = IsSetup (length ground.films) setup
IsHaltingIn ground awaited (Playing setup play) = IsSetup (length ground.films) setup
    × IsHaltedTo (next_of awaited) (IsHaltAwaited ground awaited setup play)
IsHaltingIn ground awaited (Stopping setup stop) = IsSetup (length ground.films) setup × HasStopped ground setup stop

-- a session of which a halt is asked
pub record IsHalting (s : SessionState) (film : List ℕ) : Type 0 where
  pub serves : CanServe s.films s.settings
  pub state : IsHaltingIn (ground_of s film) s.awaited s.state

-- a session that asked for this
abbrev pub IsAskedWell : Ask → SessionState → List ℕ → Type 0
IsAskedWell AskReply s film = IsWell s film
IsAskedWell (AskPlay plan) s film = IsWell s film × HasAskedPlay s
IsAskedWell (AskHalt keep) s film = IsHalting s film
IsAskedWell (AskLook slot) s film = IsWell s film
IsAskedWell (AskOffer plan offers) s film = IsWell s film

-- a request keeps what SETUP settled
kept_well : {old new : SessionState} {film : List ℕ} → IsWell old film → IsSameContext old new → AwaitsNoStop new
    → IsStateOf (ground_of old film) new.state → IsWell new film
kept_well {old} {new} {film} well same unstopped state = grind arith

-- a PAUSE or a TEARDOWN in Playing
halting_well : {old new : SessionState} {film : List ℕ} → IsWell old film → IsSameContext old new → IsHaltAsked old new
    → IsHalting new film
halting_well {old} {new} {film} well same is =
    let was = subst (IsStateOf (ground_of old film)) is.was well.state in
    let play : Played = record is.play { pacer = record is.play.pacer { keep = is.keep } } in
    let rest : IsHaltedPlay (ground_of old film).sending is.setup play play.pacer = search halted_here in
    let halt : IsHaltAwaited (ground_of old film) new.awaited is.setup play = search in
    record {
      serves = record { films = rw same.films well.films; settings = rw same.settings well.settings };
      state = search arith;
    }

pub hears_well : {film : List ℕ} (heard : HeardMessage) → IsWell heard.old film → IsAskedWell heard.ask heard.new film
hears_well {film} heard well = by-ask ask unstopped (hears_state old new message ask hears)
  where
    open heard use {old, new, message, ask, hears}

    same : IsSameContext old new
    same = hears_ground old new message ask hears

    unstopped : AsksNoHalt ask → AwaitsNoStop new
    unstopped free = hears_unstopped old new message ask hears free well.unstopped

    by-ask : (ask : Ask) → (AsksNoHalt ask → AwaitsNoStop new) → ChangesState ask old new → IsAskedWell ask new film
    by-ask AskReply on (inl state) = kept_well well same (on tt) (rw state well.state)
    by-ask AskReply on (inr setup) = kept_well well same (on tt) (rw setup.state (setup.ranges well.settings))
    by-ask (AskPlay plan) on changes = (
      kept_well well same (on tt) (rw changes.0 well.state),
      record { old = old; same = same; state = changes.0; asked = changes.1.play },
    )
    by-ask (AskHalt keep) on changes = halting_well well same changes
    by-ask _ on changes = kept_well well same (on tt) (rw changes well.state)

-- ---- the rest of a play that was halted, from slot to slot

abbrev pub with_rest : Stop → PacerState → Stop
with_rest stop pacer = record stop { pacer = pacer }

-- the rest is still sent, or all of it was, with its reply
abbrev pub IsStopping : Setup → Stop → PacerState → State → Type 0
IsStopping setup stop now state = (state ≡ Stopping setup (with_rest stop now))
    ⊎ (state ≡ Ready setup stop.paused)

-- a halted play in a session, of which these bytes were sent
pub record StopsOn (ground : Ground) (setup : Setup) (stop : Stop) (s : SessionState) (film : List ℕ) : Type 0 where
  pub now : PacerState
  pub keep : now.keep ≡ stop.pacer.keep
  pub stopped : HasStopped (ground_by ground s.heard film) setup (with_rest stop now)
  pub state : IsStopping setup stop now s.state

stop_state : (stop : Stop) (waits : Bool) (setup : Setup) (slot : ℕ) →
    IsStopping setup stop (slot_pacing waits slot stop.pacer) (state_after_slot waits (Stopping setup stop) slot)
stop_state stop waits setup slot = grind arith

-- a session sends the rest of a halted play, of which these bytes were sent
pub record StopGoing (session : SessionState) : Type 0 where
  pub setup : Setup
  pub stop : Stop
  pub film : List ℕ
  pub state : session.state ≡ Stopping setup stop
  pub stopped : HasStopped (ground_of session film) setup stop

-- by a slot that is processed
stop_taken : (old : SessionState) (slot : ℕ) (going : StopGoing old) → old.heard < slot →
    StopsOn (ground_of old going.film) going.setup going.stop (after_play (sent_slot old slot))
    (going.film ++ film_bytes (due_parts old slot))
stop_taken old slot going later =
    let goes : Bool = old.waits && is_between (stepped_in true slot old.state) in
    let p = stop.pacer in
    let now : PacerState = slot_pacing old.waits slot p in
    let through : now ≡ sent_through slot p = search slot_is in
    let heard : (sent_slot old slot).heard ≡ slot = reply_heard goes (sent_due old slot) in
    let after : (sent_slot old slot).state ≡ state_after_slot old.waits (Stopping setup stop) slot = grind arith in
    let bytes : film_bytes (due_parts old slot)
    ≡ slot_film old.waits slot p = rw state (pacer_film old.waits _ _ _ _ _) in
    record {
      now = now;
      keep = ap (λ (q : PacerState). q.keep) through;
      stopped = rw (heard, bytes) (search (slot_is, halted_on));
      state = subst (IsStopping setup stop now) (sym after) (stop_state stop old.waits setup slot);
    }
  where
    open going use {setup, stop, film, state, stopped}

-- nothing was sent
pub stop_still : {session : SessionState} (going : StopGoing session)
    → StopsOn (ground_of session going.film) going.setup going.stop session going.film
stop_still going = record { now = going.stop.pacer; keep = refl; stopped = going.stopped; state = inl going.state }

-- by a slot
pub stop_slot : (old : SessionState) (slot : ℕ) (going : StopGoing old) →
    StopsOn (ground_of old going.film) going.setup going.stop (after_slot old slot)
    (going.film ++ film_bytes (slot_parts old slot))
stop_slot old slot going =
    slot_sends
    (λ s parts. StopsOn (ground_of old going.film) going.setup going.stop s (going.film ++ film_bytes parts)) old
    slot (ap is_sending going.state) (stop_taken old slot going) (rw append-nil (stop_still going))

-- it is in the state that the slot leaves
pub stop_left : {old s : SessionState} {more : List ℕ} (going : StopGoing old) → IsSetup (length old.films) going.setup
    → StopsOn (ground_of old going.film) going.setup going.stop s more
    → IsStateOf (ground_by (ground_of old going.film) s.heard more) s.state
stop_left {old} {s} {more} going values on = grind arith

-- what was sent of it
pub stop_cut : {old s : SessionState} {more : List ℕ} (going : StopGoing old)
    → StopsOn (ground_of old going.film) going.setup going.stop s more
    → (stored : Stored) × IsCutBy old stored going.setup going.stop s.heard more
stop_cut {old} {s} {more} going on =
    let stored = rest.stored in
    let its = rest.halted in
    let count : length more ≡ p.sent = halted_count its in
    let slots : first_slots p.plan p.passed ≡ first_slots play.plan (s.heard + 1 - play.start) = grind arith in
    let ends : IsBoundaryAfter p.pieces (p.before + length more) (p.before + stop.pacer.keep) = grind arith in (
      stored,
      record {
        at = rest.at;
        play = play;
        earlier = earlier;
        noted = noted ∙ ap (λ n. earlier ++ note_of setup play n ∷ []) keep;
        sending = rest.sending;
        best = sending-best (stored_sizes stored) (client_of old stored setup) play.run play.plan rest.sending;
        count = omega (arith, count, its.sent, slots, keep);
        front = grind arith;
        ends = grind arith;
      },
    )
  where
    open going use {setup, stop}
    open on use {now as p, keep, stopped.{play, earlier, noted, rest}}
