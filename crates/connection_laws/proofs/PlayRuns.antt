-- The plays of a course send its runs in order.
use Rattle.std.proofs.lemmas.Grind.{common_steps}
use Rattle.std.proofs.Common.{◌≡◌, ℕ, ◌+◌, ◌-◌, ◌≤◌, ◌⊎◌, ◌++◌, Bool, true, false, List, ◌∷◌, Option, Some, None, refl}
use Rattle.std.proofs.Common.{sym, ap, subst, inl, inr, arith, []}
use Rattle.std.proofs.lemmas.List.{append_assoc, append-nil}
use Rattle.connection_laws.proofs.Terms.{total_bytes, Stored, Run, PlacedEntry, AfterHalt, Done, Nothing, Play, Halt}
use Rattle.connection_laws.proofs.Terms.{Counts, Setup, State, Init, Ready, Playing, Stopping, StreamSource, IsFilmAt}
use Rattle.connection_laws.proofs.Terms.{identity_of, after_admission, after_halt, SessionState, can_reply, Outcome}
use Rattle.connection_laws.proofs.Terms.{Entered, SentPart, Stage, Course, asked_by, course_plays, FilmPlay}
use Rattle.connection_laws.proofs.Terms.{StationRequest, Asks, kept_in, play_by, plays_of, Round, Admitted}
use Rattle.connection_laws.proofs.CourseSteps.{Stands, IsKeptStanding, slot_asks, all_kept, Finished, Quiet, Ended}
use Rattle.connection_laws.proofs.CourseSteps.{finish_by}
use Rattle.session.specs.declared.states.AfterHalt.TheVariants.{Paused, Torn}
use Rattle.session.specs.RunRequests.{sending_of}
use Rattle.film_streams.specs.StreamNumbers.{counts_after, source_of}
use Rattle.session_laws.proofs.RunLemmas.{AskedHalt, AskedPlay, IsLeftBy}
use Rattle.connection_laws.specs.LookLimits.{course_looks, looks_in}
use Rattle.connection_laws.specs.PlayRuns.{AreRunsInOrder, RunPlace, SendsNext, run_place}
use Rattle.connection_laws.proofs.StationAnswers.{SlotTo, SlotSent, slot_to}
use Rattle.connection_laws.proofs.RequestEffects.{at_halt, at_play, before_play, Admission, HaltMade, JournalFull}
use Rattle.connection_laws.proofs.RequestEffects.{LookAnswer, OfferAnswer, OwnReply, Refusal, RequestAnswer, SetupReply}
use Rattle.connection_laws.proofs.RequestEffects.{request_answer}
use Rattle.connection_laws.proofs.KeptParts.{reply_keeps}
use Rattle.connection_laws.proofs.CourseInduction.{AnsweredRequest, asking_of, begin_of, piece_of}
use Rattle.conn.proofs.StationAnswers.{IsPlayEntry, ComesAs, BytesCame, SlotCame}

-- what the runs of a session go by
record Stream : Type 0 where
  films : List Stored
  source : StreamSource
  counts : Counts

abbrev stream_of : SessionState → Stream
stream_of s = record { films = s.films; source = s.source; counts = s.counts }

-- so many bytes of this run were sent, which has these numbers
record IsCounted (stream : Stream) (setup : Setup) (last : RunPlace) : Type 0 where
  before : Counts
  identity : last.run.identity ≡ identity_of stream.source setup before
  counts : stream.counts ≡ counts_after before last.run last.sent

abbrev nothing_sent : Counts
nothing_sent = record { frames = 0; octets = 0 }

-- a new run's numbers go on from here
abbrev IsFresh : List ℕ → Stream → Setup → Option RunPlace → Type 0
IsFresh words stream setup None = (stream.counts ≡ nothing_sent) × (stream.source ≡ source_of words)
IsFresh words stream setup (Some last) = IsCounted stream setup last

-- of a film's run so many bytes were sent
record IsUnderWay (stream : Stream) (setup : Setup) (run : Run) (sent : ℕ) (last : Option RunPlace) : Type 0 where
  stored : Stored
  at : IsFilmAt stream.films setup.film stored
  place : last ≡ Some (run_place (sending_of stored.film stream.source setup stream.counts run) sent)

abbrev IsAtRest : List ℕ → Option Run → Stream → Setup → Option RunPlace → Type 0
IsAtRest words None stream setup last = IsFresh words stream setup last
IsAtRest words (Some paused) stream setup last = IsUnderWay stream setup paused paused.sent last

-- where the runs stand, by the state; what is kept of a play that is under way is known later
abbrev IsLastIn : List ℕ → State → Stream → Bool → Bool → Bool → (ℕ → ℕ) → Option RunPlace → Type 0
IsLastIn words Init stream waits tearing torn kept last = (last ≡ None) × (stream.counts ≡ nothing_sent)
    × (stream.source ≡ source_of words)
IsLastIn words (Ready setup paused) stream waits tearing torn kept last =
    ((tearing ≡ true) × (torn ≡ true)) ⊎ IsAtRest words paused stream setup last
IsLastIn words (Playing setup play) stream waits tearing torn kept last =
    IsUnderWay stream setup play.run (play.run.sent + kept (total_bytes play.plan)) last
IsLastIn words (Stopping setup stop) stream waits tearing torn kept last =
    (waits ≡ true) × ((tearing ≡ true) ⊎ IsAtRest words stop.paused stream setup last)

looks_append : (made more : List StationRequest) → looks_in (made ++ more) ≡ looks_in made + looks_in more
looks_append [] more = omega arith
looks_append (Asks asked outcome ∷ made) more = omega (arith, looks_append made more)

module _ (words : List ℕ) where
  abbrev IsLast : SessionState → (ℕ → ℕ) → Option RunPlace → Type 0
  IsLast s kept last = IsLastIn words s.state (stream_of s) s.waits s.tearing s.torn kept last

  abbrev Follows : SessionState → List StationRequest → Type 0
  Follows s askings = (last : Option RunPlace) → IsLast s (kept_in askings) last
      → AreRunsInOrder words last (plays_of askings)

  -- what is asked on the way from one session to another
  record Leads (old new : SessionState) (made : List StationRequest) : Type 0 where
    on : (later : List StationRequest) → Follows new later → Follows old (made ++ later)
    looks : new.looks_left ≡ old.looks_left - looks_in made

  abbrev Moves : SessionState → SessionState → Type 0
  Moves old new = (kept : ℕ → ℕ) (last : Option RunPlace) → IsLast old kept last → IsLast new kept last

  leads_then : {a b c : SessionState} {made more : List StationRequest} → Leads a b made → Leads b c more
      → Leads a c (made ++ more)
  leads_then {a} {made} {more} one two = grind (arith, append_assoc, looks_append made more)

  moves : {old new : SessionState} → new.looks_left ≡ old.looks_left → Moves old new → Leads old new []
  moves {old} looks move = grind arith

  -- ---- slots and replies

  slot_moves : {s t : SessionState} {slot : ℕ} {parts : List SentPart} → SlotTo s slot t parts → Moves s t
  slot_moves {s} {slot = slot} (SlotSent sending later) = grind arith
  slot_moves _ = λ kept last is. is

  finishes : {s new : SessionState} {halt : Outcome} → Finished s halt new → Leads s new (Asks s.awaited halt ∷ [])
  finishes {s} (Quiet rest) = grind arith
  finishes {s} (Ended {placed = placed} done entry) = grind arith

  comes_leads : {old opened : Stage} {round : Round} → Stands old.session → ComesAs old round opened
      → Leads old.session opened.session (Asks (asked_by old.session round.event) round.halt ∷ [])
  comes_leads {old} stands BytesCame = grind arith
  comes_leads {old} stands (SlotCame {slot = slot} finish) =
      let to = slot_to old.session slot in
      leads_then (moves (grind (arith, common_steps)) (slot_moves to))
      (finishes (finish_by (slot_asks to stands.rest) refl finish))

  -- ---- requests

  halt_state : {base : SessionState} {last : Option RunPlace} (halt : AskedHalt base) (next : AfterHalt) (place : ℕ)
      (kept : ℕ → ℕ) → IsLeftBy halt.play.run halt.keep next
      → IsUnderWay (stream_of base) halt.setup halt.play.run (halt.play.run.sent + halt.keep) last
      → IsLast (after_halt (record (at_halt halt) { awaited = Halt halt.keep next }) place) kept last
  halt_state halt Done place kept left way = grind arith
  halt_state halt (Paused run) place kept left way = (
    refl,
    inr (record { stored = way.stored; at = way.at; place = rw (way.place, left.first, left.end, left.sent) }),
  )
  halt_state halt Torn place kept left way = (refl, inl refl)

  -- a play that is asked for is admitted
  admitted : {base : SessionState} {placed : PlacedEntry} {start : ℕ} (asked : AskedPlay base) → base.torn ≡ false
      → IsPlayEntry (at_play asked) asked.prepared.plan placed (Admitted start) → Leads (before_play asked)
      (after_admission (at_play asked) placed.place start) (Asks (Play asked.prepared) (Entered placed) ∷ [])
  admitted {start = start} asked linked entry = record {
    on = λ later follows last was.
        let play : FilmPlay = play_by prepared start later in
        let place : RunPlace = run_place prepared.frames (play.before + play.keep) in
        rw entry.answer_is (
          prepared.frames,
          (
            refl,
            subst (λ run. SendsNext words last run play) (sym frames) (grind arith),
            follows (Some place) (record {
              stored = stored;
              at = at;
              place = ap (λ run. Some (run_place run (play.before + play.keep))) frames;
            }),
          ),
        );
    looks = omega arith;
  }
    where
      open asked use {stored, prepared, at, next, frames}

  -- nothing is awaited, no reply waits, and no TEARDOWN was answered
  request_leads : {old asking new : SessionState} {outcome : Outcome} → RequestAnswer old asking outcome new
      → old.awaited ≡ Nothing → old.waits ≡ false → old.torn ≡ false → Leads old new (Asks asking.awaited outcome ∷ [])
  request_leads (Admission play entry answered) rest replied linked = admitted play linked entry
  request_leads (HaltMade {placed = placed} halt entry) rest replied linked = record {
    on = λ later follows last is.
        follows last (halt_state halt halt.next placed.place (kept_in later) halt.left (rw entry.command at is));
    looks = omega arith;
  }
  request_leads (OwnReply {old = old} {tearing = tearing}) rest replied linked = grind arith
  request_leads (SetupReply old) rest replied linked = grind arith
  request_leads (Refusal {base = base} play entry) rest replied linked = grind arith
  request_leads (LookAnswer {old = old} command looked) rest replied linked = grind arith
  request_leads (JournalFull {old = old} looks) rest replied linked = grind arith
  request_leads (OfferAnswer {old = old}) rest replied linked = grind arith

  answered_leads : {old new : Stage} (request : AnsweredRequest old new) → Stands old.session
      → Leads old.session new.session (asking_of request ∷ [])
  answered_leads request stands =
      let next = replied.next in
      let one = request_leads (request_answer replied.heard) stands.rest next.replied next.torn in
      rw replied.new_is (leads_then one (moves
      (reply_keeps (λ (s : SessionState). s.looks_left) (λ s. refl) (can_reply replied.answered) replied.answered)
      (grind arith)))
    where
      open request use {replied}

-- what leads through a course
course_leads : (course : Course)
    → Leads course.words (begin_of course).session course.last.session (piece_of course).askings
course_leads course =
    let kept : IsKeptStanding (λ old piece new. Leads course.words old new piece.askings) = search
    (moves, leads_then, answered_leads, comes_leads) in
    all_kept kept course

pub runs_in_order : (course : Course) → AreRunsInOrder course.words None (course_plays course)
runs_in_order course = (rw append-nil at ((course_leads course).on [] (λ last is. tt))) None (refl, refl, refl)

-- of the first 1,024 looks those are left that weren't asked for
pub looks_used : (course : Course) → course.last.session.looks_left ≡ 0 → 1024 ≤ course_looks course
looks_used course none = omega (arith, (course_leads course).looks, none)
