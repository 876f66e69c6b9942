-- What a connection sends in its course: the film's bytes that are due of its plays, and each reply at its place.
use Rattle.std.proofs.lemmas.List.{append-nil}
use Rattle.std.proofs.Common.{[], ◌≡◌, ℕ, ◌&&◌, if◌then◌else◌, Bool, true, false, List, ◌∷◌, refl, ap, sym, ◌∙◌, subst}
use Rattle.std.proofs.Common.{take, ◌++◌, arith, Option, Some, None, ◌+◌, inl, inr, ◌⊎◌}
use Rattle.connection_laws.proofs.Terms.{PacerState, IsPacerState, total_bytes, PlacedEntry, Awaited, Nothing, Halt}
use Rattle.connection_laws.proofs.Terms.{Done, Setup, State, Playing, can_reply, after_play, halted_in, is_between}
use Rattle.connection_laws.proofs.Terms.{sent_due, sent_reply, sent_slot, stepped_in, after_slot, SessionState}
use Rattle.connection_laws.proofs.Terms.{AwaitedAnswer, awaited_answer, awaited_answer_of, rounds_film, rounds_parts}
use Rattle.connection_laws.proofs.Terms.{Round, Runs, Outcome, Unasked, Entered, SentPart, Stage, film_bytes, Text}
use Rattle.connection_laws.proofs.Terms.{slot_parts, IsCourseBetween, first_stage, greatest_slot, Course, course_plays}
use Rattle.connection_laws.proofs.Terms.{course_film, Asks, plays_begun, kept_in, kept_with, AreOver, FilmPlay}
use Rattle.connection_laws.proofs.Terms.{after_halt, AreSentAt, slots_from, course_texts, Stored, Settings}
use Rattle.conn.proofs.PlayProgress.{reply_state, reply_heard, state_after_slot}
use Rattle.session.specs.declared.states.Play.{Play as Played}
use Rattle.session.specs.SlotSteps.{finished_in}
use Rattle.connection_laws.proofs.RequestEffects.{Going, Idle, TurnsAs, sends_in, answered_after, turns_as, Sends}
use Rattle.connection_laws.proofs.RequestEffects.{no_entry}
use Rattle.connection_laws.proofs.StationAnswers.{SlotTo, SlotSent, SlotIdle, SlotPast, slot_to}
use Rattle.connection_laws.proofs.TextPlaces.{AreSent, IsOnTime, IsSound, StandAt, due_first, due_in, due_now, film_is}
use Rattle.connection_laws.proofs.TextPlaces.{film_in, from_lower, later_lower, play_with, turn_sound, waits_after}
use Rattle.connection_laws.proofs.TextPlaces.{with_pending}
use Rattle.connection_laws.proofs.ReplyBoundaries.{GoesTo, IsHeld, IsPacing, Moves, Point, Stand, goes_same, goes_then}
use Rattle.connection_laws.proofs.ReplyBoundaries.{over_at, point, point_of, replying, slot_moves, still_goes}
use Rattle.connection_laws.proofs.ReplyBoundaries.{turn_goes, turn_piece}
use Rattle.connection_laws.proofs.CourseInduction.{IsKeptByCourse, Piece, course_kept, event_piece, joined, no_piece}
use Rattle.connection_laws.proofs.CourseInduction.{request_piece, course_heard, AnsweredRequest, parts_piece}
use Rattle.connection_laws.proofs.CourseInduction.{asked_piece, begin_of, piece_of, round_kept}
use Rattle.conn.proofs.ReplyPlacement.{film_bytes-append, takings_film}
use Rattle.conn.proofs.StationAnswers.{FinishesAs, NothingLeft, DoneHalted, ComesAs, BytesCame, SlotCame, IsHaltEntry}

abbrev IsPaced : SessionState → Type 0
IsPaced s = IsPacing (sends_in s.state) s.waits s.heard

-- between doings nothing is awaited either
pub record Stands (session : SessionState) : Type 0 where
  pub rest : session.awaited ≡ Nothing
  pub paced : IsPaced session

abbrev pub first_stands : (films : List Stored) (settings : Settings) (words : List ℕ)
    → Stands (first_stage films settings words).session
first_stands films settings words =
    record { rest = refl; paced = record { sound = tt; pending = None; held = (refl, refl) } }

-- what a doing makes of a session, and of what is sent
abbrev Move : Point → SessionState → Piece → Type 0
Move from new piece = Moves from piece (sends_in new.state) new.waits new.heard

-- so it is between doings
pub record Step {old : SessionState} (from : Stands old) (new : SessionState) (piece : Piece) : Type 0 where
  pub after : Stands new
  pub goes_on : GoesTo (point_of from.paced) (point_of after.paced) piece

abbrev pub stands_by : {old new : SessionState} {from : Stands old} {piece : Piece} → Step from new piece → Stands new
stands_by step = step.after

-- ---- a request

pub request_turns : {old new : Stage} (request : AnsweredRequest old new)
    → TurnsAs old.session request.replied.heard.asking.awaited request.outcome request.replied.answered
request_turns request = turns_as request.replied.heard

-- the reply to a request goes out at once, or it waits
reply_move : (s : SessionState) (goes : Bool) → s.waits ≡ true → IsSound (sends_in s.state) true s.heard
    → is_between s.state ≡ goes → Move (point (sends_in s.state) s.heard (Some s.heard))
    (if goes then sent_reply s else s) (parts_piece (if goes then Text s.text ∷ [] else []))
reply_move s true waits sound is = replying s.state true s.heard s.text sound is
reply_move s false waits sound is = rw waits (replying s.state false s.heard s.text sound is)

pub reply_awaited : (goes : Bool) (s : SessionState) → (if goes then sent_reply s else s).awaited ≡ s.awaited
reply_awaited goes s = grind arith

request_step : {old new : Stage} (request : AnsweredRequest old new) (stands : Stands old.session)
    → Step stands new.session (request_piece request)
request_step {old} {new} request stands =
    let asked : Awaited = replied.heard.asking.awaited in
    let s : SessionState = replied.answered in
    let turns = request_turns request in
    let after = answered_after replied.heard stands.rest in
    let sound : IsSound (sends_in s.state) true s.heard = rw after.heard (turn_sound stands.paced.sound turns) in
    let can : is_between s.state ≡ can_reply s = sym (ap (λ w. w && is_between s.state) after.waits) in
    let reply = reply_move s (can_reply s) after.waits sound can in
    let none : stands.paced.pending ≡ None = grind (arith, stands.paced.held, replied.next.replied) in
    let first : GoesTo (point_of stands.paced) (point (sends_in s.state) s.heard (Some s.heard))
    (turn_piece asked outcome old.session.heard) =
    rw (none, after.heard) (turn_goes turns) in
    let both = goes_then first reply.goes_on in
    rw (replied.parts_are, replied.new_is) (record {
      after = record { rest = reply_awaited (can_reply s) s ∙ after.awaited; paced = reply.after };
      goes_on = record { later = both.later; rest = both.rest };
    })
  where
    open request use {outcome, replied}

-- ---- what a slot asks for

-- a session's play is done, and its halt, which keeps what was sent, is asked for
pub record DonePlay (s : SessionState) : Type 0 where
  pub setup : Setup
  pub play : Played
  pub keep : ℕ
  pub state_is : s.state ≡ Playing setup play
  pub ended : play.pacer.sent ≡ play.pacer.keep
  pub sent : keep ≡ play.pacer.sent
  pub asks : s.awaited ≡ Halt keep Done

-- nothing, or that
abbrev pub AsksDone : SessionState → Type 0
AsksDone s = (s.awaited ≡ Nothing) ⊎ DonePlay s

asks_in : {s : SessionState} (state : State) → s.state ≡ state → s.awaited ≡ finished_in state Nothing → AsksDone s
asks_in state given given' = grind arith

pub slot_asks : {old s : SessionState} {slot : ℕ} {parts : List SentPart} → SlotTo old slot s parts
    → old.awaited ≡ Nothing → AsksDone s
slot_asks {old} {slot = slot} (SlotSent sending later) rest =
    let goes : Bool = old.waits && is_between (stepped_in true slot old.state) in
    asks_in (sent_slot old slot).state refl
    (ap (finished_in (sent_slot old slot).state) (reply_awaited goes (sent_due old slot) ∙ rest))
slot_asks _ rest = inl rest

-- no reply is held up where a play is done
done_unheld : {p : PacerState} (heard : ℕ) (pending : Option ℕ) (waits : Bool) → IsPacerState p × (p.sent ≡ p.keep)
    → IsHeld pending (Going p) waits heard → pending ≡ None
done_unheld heard pending waits done held = grind arith

-- a slot is over: nothing was asked, or a play that is done was halted
pub data Finished (s : SessionState) : Outcome → SessionState → Type 0 where
  Quiet : s.awaited ≡ Nothing → Finished s Unasked s
  Ended : {placed : PlacedEntry} (done : DonePlay s) → IsHaltEntry done.keep placed
      → Finished s (Entered placed) (after_halt s placed.place)

pub finish_by : {s new : SessionState} {asks : AwaitedAnswer} {halt : Outcome} → AsksDone s → awaited_answer s ≡ asks
    → FinishesAs s asks halt new → Finished s halt new
finish_by (inl rest) is NothingLeft = Quiet rest
finish_by {s} (inr done) is (DoneHalted {keep = keep} {placed = placed} entry) =
    let kept : keep ≡ done.keep = cc (is, ap awaited_answer_of done.asks) in
    Ended done (subst (λ k. IsHaltEntry k placed) kept entry)
finish_by (inl rest) is (DoneHalted {keep = keep} entry) = grind arith
finish_by (inr done) is NothingLeft = grind arith

-- nothing is asked, or the halt keeps all that was sent
finish_move : {s new : SessionState} {halt : Outcome} (paced : IsPaced s) → Finished s halt new
    → (new.awaited ≡ Nothing) × Move (point_of paced) new (asked_piece (Asks s.awaited halt))
finish_move paced (Quiet rest) =
    (rest, record { after = paced; goes_on = still_goes (no_entry Unasked refl) (point_of paced) })
finish_move {s} paced (Ended {placed = placed} done entry) =
    let p : PacerState = play.pacer in
    let on = (rw is at paced.sound).0 in
    let held : IsHeld paced.pending (Going p) s.waits s.heard = grind arith in
    let none : paced.pending ≡ None = done_unheld s.heard paced.pending s.waits (on.pacing, ended) held in
    let waits : s.waits ≡ false = rw none at held in
    let sends : sends_in (halted_in s.state s.awaited) ≡ Idle = rw (is, asks) in (
      refl,
      record {
        after = record {
          sound = rw sends tt;
          pending = None;
          held = rw sends (refl, cc (asks, waits));
        };
        goes_on = rw (none, ap sends_in is, sends) (record {
          later = omega arith;
          rest = λ askings come ends fits.
              let kept : kept_with (Entered placed) (kept_in askings (total_bytes p.plan)) ≡ keep = rw entry.command in
              let begun : plays_begun s.awaited (Entered placed) askings ≡ [] = rw asks in
              record {
                from = fits.from;
                later = rw begun fits.later;
                stand = rw (kept, begun) (over_at on (sym sent) ends fits);
              };
        });
      },
    )
  where
    open done use {play, keep, state_is as is, ended, sent, asks}

-- ---- a slot

slot_move : {old s : SessionState} {slot : ℕ} {parts : List SentPart} (stands : Stands old) → SlotTo old slot s parts
    → Move (point_of stands.paced) s (parts_piece parts)
slot_move {old} {slot = slot} stands (SlotSent sending later) =
    let s : SessionState = after_play (sent_slot old slot) in
    let goes : Bool = old.waits && is_between (stepped_in true slot old.state) in
    let due : SessionState = sent_due old slot in
    let state : s.state ≡ state_after_slot old.waits old.state slot = reply_state goes due in
    let heard : s.heard ≡ slot = reply_heard goes due in
    let waits : s.waits ≡ waits_after old.waits old.state slot = grind arith in
    rw (state, heard, waits) (slot_moves old.state slot old.text later stands.paced sending)
slot_move {old} {slot = slot} stands (SlotIdle none later) =
    let paced = stands.paced in
    let idle : sends_in old.state ≡ Idle = grind (arith, none) in
    let held : (paced.pending ≡ None) × (old.waits ≡ false) = rw idle at paced.held in
    record {
      after = record { sound = rw idle tt; pending = None; held = rw idle (refl, held.1) };
      goes_on = rw (held.0, idle) (grind (arith, from_lower, later_lower));
    }
slot_move stands SlotPast = record { after = stands.paced; goes_on = goes_same (point_of stands.paced) }

pub event_step : {old opened : Stage} {round : Round} (stands : Stands old.session) → ComesAs old round opened
    → Step stands opened.session (event_piece old.session round)
event_step stands BytesCame =
    record { after = stands; goes_on = still_goes (no_entry Unasked refl) (point_of stands.paced) }
event_step {old} {opened} stands (SlotCame {slot = slot} {halt = halt} finish) =
    let to = slot_to old.session slot in
    let parts = slot_parts old.session slot in
    let asked : Piece = asked_piece (Asks (after_slot old.session slot).awaited halt) in
    let first = slot_move stands to in
    let finished = finish_by (slot_asks to stands.rest) refl finish in
    let next = finish_move first.after finished in
    subst (λ ps. Step stands opened.session (record asked { parts = ps })) (append-nil parts) (record {
      after = record { rest = next.0; paced = next.1.after };
      goes_on = goes_then first.goes_on next.1.goes_on;
    })

-- ---- all that a connection does

steps_kept : IsKeptByCourse (λ old piece new. (stands : Stands old) → Step stands new piece)
steps_kept = record {
  none = λ s stands. record { after = stands; goes_on = goes_same (point_of stands.paced) };
  joins = λ a b c one two first rest stands.
      let step = first stands in
      let next = rest step.after in
      record { after = next.after; goes_on = goes_then step.goes_on next.goes_on };
  request = λ old new request stands. request_step request stands;
  event = λ old opened round comes stands. event_step stands comes;
}

-- ---- so a session stands between doings

pub request_stands : {old new : Stage} → AnsweredRequest old new → Stands old.session → Stands new.session
request_stands request stands = stands_by (request_step request stands)

pub round_stands : (old new : Stage) (round : Round) → Runs old round new → Stands old.session → Stands new.session
round_stands old new round runs stands = stands_by (round_kept steps_kept old new round runs stands)

pub course_stands : (old new : Stage) (rounds : List Round) → IsCourseBetween old rounds new → Stands old.session
    → Stands new.session
course_stands old new rounds follows stands = stands_by (course_kept steps_kept old new rounds follows stands)

-- ---- one induction from a session that stands

-- a relation between a session, what is done, and the session after it, which each request and each event satisfies
-- where the session stands
pub record IsKeptStanding (R : SessionState → Piece → SessionState → Type 0) : Type 0 where
  pub none : (s : SessionState) → R s no_piece s
  pub joins : (a b c : SessionState) (one two : Piece) → R a one b → R b two c → R a (joined one two) c
  pub request : (old new : Stage) (request : AnsweredRequest old new) → Stands old.session
      → R old.session (request_piece request) new.session
  pub event : (old opened : Stage) (round : Round) → ComesAs old round opened → Stands old.session
      → R old.session (event_piece old.session round) opened.session

module _ {R : SessionState → Piece → SessionState → Type 0} (kept : IsKeptStanding R) where
  abbrev FromStanding : SessionState → Piece → SessionState → Type 0
  FromStanding old piece new = Stands old → Stands new × R old piece new

  pub kept_from_standing : IsKeptByCourse FromStanding
  kept_from_standing = record {
    none = λ s stands. (stands, kept.none s);
    joins = grind arith;
    request = λ old new request stands. (request_stands request stands, kept.request old new request stands);
    event = λ old opened round comes stands.
        (stands_by (event_step stands comes), kept.event old opened round comes stands);
  }

  pub all_kept : (course : Course) → R (begin_of course).session (piece_of course) course.last.session
  all_kept course = grind (arith, course_kept, kept_from_standing)

-- ---- where a course ends

-- a play, or the rest of one, with the reply that waits
end_at : (p : PacerState) (waits : Bool) (heard : ℕ) (pending : Option ℕ) → IsOnTime p heard
    → IsHeld pending (Going p) waits heard
    → StandAt (play_with p p.keep) p.sent []
    (record { end = heard; slots = with_pending pending []; parts = [] })
end_at p waits heard None on held = grind arith
end_at p waits heard (Some slot) on held =
    let play : FilmPlay = play_with p p.keep in
    let here : due_in p heard ≡ p.sent = due_now p heard on in
    let last = due_first play [] heard tt in
    record {
      holds = omega (arith, on.pacing.sent, on.pacing.due);
      texts = (
        λ place boundary due. elim boundary [
          | inl own ↦
              let past = held.1.none (p.before + place) own.1 (omega (arith, due_first play [] slot tt, due)) in
              omega (arith, past, last, here)
          | inr over ↦
              omega (arith, held.1.none (p.before + p.keep) on.pacing.ends (omega arith), last, here, over.0)
        ],
        tt,
      );
      film = ([], (ap (λ n. take n (film_in p) ++ []) (sym here), refl, tt));
    }

end_stand : (sends : Sends) (waits : Bool) (heard : ℕ) (pending : Option ℕ) → IsSound sends waits heard
    → IsHeld pending sends waits heard
    → Stand sends [] (record { end = heard; slots = with_pending pending []; parts = [] })
end_stand sends waits heard pending given given' = search (arith, end_at)

-- the film's bytes among all parts are those of the slots
pub film_sent : (old new : Stage) (rounds : List Round) → IsCourseBetween old rounds new
    → film_bytes (rounds_parts rounds) ≡ rounds_film rounds
film_sent old new [] follows = refl
film_sent old new (round ∷ rounds) follows = search
    (arith, film_sent follows.0 new rounds follows.1.1, takings_film, film_bytes-append)

-- in its course a connection sends what is due of its plays, and each reply at its place
course_sent : (course : Course) → AreSent (course_plays course) (record {
  end = greatest_slot course.rounds;
  slots = slots_from 0 course.rounds;
  parts = rounds_parts course.rounds;
})
course_sent course =
    let new : SessionState = course.last.session in
    let step = course_kept steps_kept (begin_of course) course.last course.rounds course.follows
    (first_stands course.films course.settings course.words) in
    let paced = step.after.paced in
    let fits = step.goes_on.rest [] (record { end = new.heard; slots = []; parts = [] }) (omega arith)
    (search (arith, end_stand, sends_in)) in
    let last : new.heard ≡ greatest_slot course.rounds = grind (arith, course_heard) in
    rw (← last) (rw (append-nil, append-nil, append-nil) at fits.stand)

pub replies_sent : (course : Course) → AreSentAt (greatest_slot course.rounds) (course_plays course)
    (slots_from 0 course.rounds) (course_texts course)
replies_sent course = (course_sent course).texts

film_all : (course : Course) → (film_bytes (rounds_parts course.rounds) ≡ course_film course)
    × AreOver (greatest_slot course.rounds) (course_plays course)
film_all course =
    film_is (greatest_slot course.rounds) (course_plays course) (film_bytes (rounds_parts course.rounds))
    (course_sent course).film

pub film_written_is : (course : Course) → rounds_film course.rounds ≡ course_film course
film_written_is course =
    sym (film_sent (begin_of course) course.last course.rounds course.follows) ∙ (film_all course).0

pub plays_over : (course : Course) → AreOver (greatest_slot course.rounds) (course_plays course)
plays_over course = (film_all course).1
