-- The films of plays as entire lists, where texts stand among their bytes, and what a request and a slot make of what
-- is being sent.
use Rattle.std.proofs.lemmas.Grind.{common_steps}
use Rattle.std.specs.Prelude.{⊤}
use Rattle.std.proofs.Common.{[], ◌≡◌, ℕ, ◌+◌, ◌-◌, ◌<◌, ◌≤◌, ◌++◌, Bool, true, List, ◌∷◌, length, take, drop, refl}
use Rattle.std.proofs.Common.{◌∙◌, arith, Option, Some, None, append_assoc, min, ◌&&◌, if◌then◌else◌, false}
use Rattle.std.proofs.lemmas.List.{length-take}
use Rattle.std.proofs.lemmas.List.Sums.{sum_by-cons}
use Rattle.std.proofs.Math.Seq.{take-append-add}
use Rattle.connection_laws.proofs.Terms.{IsBoundary, framed_bytes, total_bytes, IsPacerState, PacerState, first_slots}
use Rattle.connection_laws.proofs.Terms.{plan_bytes, AreOver, FilmPlay, due_of, film_of, film_written, SentPart, Text}
use Rattle.connection_laws.proofs.Terms.{film_bytes, AreSentAt, IsBoundaryIn, IsUnsentAt, placed_texts, after_step}
use Rattle.connection_laws.proofs.Terms.{next_boundary, stands_at_boundary, Setup, State, Playing, Stopping, is_between}
use Rattle.connection_laws.proofs.Terms.{stepped_in, Outcome, Awaited, SessionState, boundary_from}
use Rattle.pacer.proofs.PacerStateLemmas.{first-slots-rise, boundary-from}
use Rattle.pacer.proofs.SendLemmas.{between-join}
use Rattle.conn.proofs.FilmBytes.{sent_through, sent_within, through_is, slot_is}
use Rattle.connection_laws.specs.Plays.{due_by as all_due}
use Rattle.connection_laws.proofs.RequestEffects.{Sends, Idle, Going, Ending, sends_in, Starts, Stays, TurnsAs, Ends}
use Rattle.conn.specs.InputSteps.{Film}
use Rattle.connection_laws.proofs.Lists.{Each, each_weaker}
use Rattle.session.specs.declared.states.Play.{Play as Played}
use Rattle.session.specs.declared.states.Stop.{Stop}
use Rattle.conn.proofs.PlayProgress.{state_after_slot}

-- the film of a pacing, and its play where so much is kept
abbrev pub film_in : PacerState → List ℕ
film_in p = drop p.before (framed_bytes p.pieces)

abbrev pub play_with : PacerState → ℕ → FilmPlay
play_with p keep = record { start = p.start; plan = p.plan; keep = keep; before = p.before; pieces = p.pieces }

-- what is due of a pacing in a slot
abbrev pub due_in : PacerState → ℕ → ℕ
due_in p slot = min (first_slots p.plan (slot + 1 - p.start)) p.keep

-- a play that another one follows was sent as far as it is kept
abbrev pub IsSpent : List FilmPlay → ℕ → FilmPlay → Type 0
IsSpent [] slot play = ⊤
IsSpent (next ∷ plays) slot play = (due_of slot play ≡ play.keep) × (play.keep ≤ length (film_of play))

-- the bytes are those of plays in order, of each as many as are due
abbrev pub IsFilm : ℕ → List FilmPlay → List ℕ → Type 0
IsFilm slot [] bytes = bytes ≡ []
IsFilm slot (play ∷ plays) bytes =
    (rest : List ℕ)
    × ((bytes ≡ take (due_of slot play) (film_of play) ++ rest) × IsFilm slot plays rest × IsSpent plays slot play)

-- as an entire list
pub film_is : (slot : ℕ) (plays : List FilmPlay) (bytes : List ℕ) → IsFilm slot plays bytes
    → (bytes ≡ film_written slot plays) × AreOver slot plays
film_is slot [] bytes is = (is, tt)
film_is slot (play ∷ []) bytes is = (grind (arith, common_steps), tt)
film_is slot (play ∷ next ∷ plays) bytes is = search (
  arith,
  film_is slot (next ∷ plays) is.0 is.1.1,
  sum_by-cons (due_of slot) play (next ∷ plays),
  length-take play.keep (film_of play),
  take-append-add,
)

-- all that is due of a pacing by a slot was sent
pub record IsOnTime (p : PacerState) (slot : ℕ) : Type 0 where
  pub pacing : IsPacerState p
  pub passed : p.passed ≡ slot + 1 - p.start
  pub even : p.sent ≡ p.due

-- no boundary lies between what was sent and the end of what is kept
abbrev pub IsAtLast : PacerState → Type 0
IsAtLast p = (place : ℕ) → IsBoundary p.pieces place → p.before + p.sent ≤ place → p.before + p.keep ≤ place

-- what is being sent is on time: a play with all its plan, or the rest up to a boundary of one that was halted, whose
-- reply waits
abbrev pub IsSound : Sends → Bool → ℕ → Type 0
IsSound Idle waits slot = ⊤
IsSound (Going p) waits slot = IsOnTime p slot × (p.keep ≡ total_bytes p.plan)
IsSound (Ending p) waits slot = IsOnTime p slot × (waits ≡ true) × IsAtLast p

pub due_now : (p : PacerState) (slot : ℕ) → IsOnTime p slot → due_of slot (play_with p p.keep) ≡ p.sent
due_now p slot on = cc (on.passed, on.pacing.due, on.even)

-- a slot later
pub through_time : (p : PacerState) (heard slot : ℕ) → IsOnTime p heard → heard < slot → IsOnTime (sent_through slot p)
    slot
through_time p heard slot on later = grind (arith, through_is slot p on.pacing)

-- plays that begin after a slot, the first at a boundary
abbrev pub AreAfter : ℕ → List FilmPlay → Type 0
AreAfter slot = Each (λ play. slot < play.start)

pub record AreLater (slot : ℕ) (plays : List FilmPlay) : Type 0 where
  pub starts : AreAfter slot plays
  pub begins : IsBoundaryIn plays 0

pub later_lower : (low slot : ℕ) (plays : List FilmPlay) → low ≤ slot → AreLater slot plays → AreLater low plays
later_lower low slot plays less are = grind (arith, each_weaker)

pub none_due : (slot : ℕ) (plays : List FilmPlay) → AreAfter slot plays → all_due slot plays ≡ 0
none_due slot [] are = refl
none_due slot (play ∷ plays) are = grind (arith, sum_by-cons (due_of slot) play plays, none_due slot plays are.1)

-- slots from one on
abbrev pub AreFrom : ℕ → List ℕ → Type 0
AreFrom low = Each (λ slot. low ≤ slot)

pub from_lower : (low from : ℕ) (slots : List ℕ) → low ≤ from → AreFrom from slots → AreFrom low slots
from_lower low from slots less = each_weaker (λ s. from ≤ s) (λ s. low ≤ s) (λ s is. omega (arith, less, is)) slots

-- ---- the play in hand

abbrev pub with_pending : Option ℕ → List ℕ → List ℕ
with_pending None slots = slots
with_pending (Some slot) slots = slot ∷ slots

-- what is to come of a course: its last slot, the slots in which requests are processed, and what is sent
pub record ToCome : Type 0 where
  pub end : ℕ
  pub slots : List ℕ
  pub parts : List SentPart

-- with it plays are sent as they are due, and each text at its place
pub record AreSent (plays : List FilmPlay) (come : ToCome) : Type 0 where
  pub texts : AreSentAt come.end plays come.slots (placed_texts 0 come.parts)
  pub film : IsFilm come.end plays (film_bytes come.parts)

-- so they are where so many bytes of a first play were sent before
pub record StandAt (play : FilmPlay) (sent : ℕ) (plays : List FilmPlay) (come : ToCome) : Type 0 where
  pub holds : sent ≤ play.keep
  pub texts : AreSentAt come.end (play ∷ plays) come.slots (placed_texts sent come.parts)
  pub film : IsFilm come.end (play ∷ plays) (take sent (film_of play) ++ film_bytes come.parts)

-- with one part more
abbrev pub part_then : SentPart → ToCome → ToCome
part_then part come = record come { parts = part ∷ come.parts }

abbrev pub text_then : ℕ → List ℕ → ToCome → ToCome
text_then slot text come = record { end = come.end; slots = slot ∷ come.slots; parts = Text text ∷ come.parts }

-- bytes of the film up to a place
pub film_at : {p : PacerState} {keep : ℕ} {plays : List FilmPlay} {come : ToCome} (to : ℕ) → IsPacerState p
    → p.sent ≤ to → to ≤ p.keep → StandAt (play_with p keep) to plays come
    → StandAt (play_with p keep) p.sent plays (part_then (Film (plan_bytes p p.sent to)) come)
film_at {p} {keep} {plays} {come} to is from most stand =
    let size : p.sent + length (plan_bytes p p.sent to) ≡ to = grind (arith, common_steps) in
    let join = between-join p.pieces p.before (p.before + p.sent) (p.before + to) in
    let all : take p.sent (film_in p) ++ plan_bytes p p.sent to ≡ take to (film_in p) = search arith in
    record {
      holds = omega (arith, from, stand.holds);
      texts = search arith;
      film = search (arith, append_assoc (take p.sent (film_in p)) (plan_bytes p p.sent to) (film_bytes come.parts));
    }

-- a reply at the first boundary from what was due on
pub record IsAtNext (p : PacerState) (due : ℕ) : Type 0 where
  pub boundary : IsBoundary p.pieces (p.before + p.sent)
  pub after : due ≤ p.sent
  pub least : (place : ℕ) → IsBoundary p.pieces place → p.before + due ≤ place → p.before + p.sent ≤ place

pub due_first : (play : FilmPlay) (plays : List FilmPlay) (slot : ℕ) → AreAfter slot plays
    → all_due slot (play ∷ plays) ≡ due_of slot play
due_first play plays slot are = grind (arith, sum_by-cons (due_of slot) play plays, none_due slot plays are)

-- a text at the first boundary from what was due in a slot on, before plays that begin later
pub text_at : {p : PacerState} {keep due : ℕ} {plays : List FilmPlay} {come : ToCome} (slot : ℕ) (text : List ℕ)
    → IsAtNext p due → due_of slot (play_with p keep) ≡ due → AreAfter slot plays
    → p.sent ≤ first_slots p.plan (come.end + 1 - p.start) → StandAt (play_with p keep) p.sent plays come
    → StandAt (play_with p keep) p.sent plays (text_then slot text come)
text_at {p} {keep} {plays = plays} {come = come} slot text at is after far stand =
    let play : FilmPlay = play_with p keep in
    let first = due_first play plays slot after in
    let own : p.sent ≤ due_of come.end play = omega (arith, far, stand.holds) in
    record {
      holds = stand.holds;
      texts = (
        record {
          next = search arith;
          reached = omega (arith, sum_by-cons (due_of come.end) play plays, own);
        },
        stand.texts,
      );
      film = stand.film;
    }

-- a play that is over from a slot on, before the last slot, with the plays after it, which begin at a boundary
module _ (play : FilmPlay) (plays : List FilmPlay) {from end : ℕ} (ends : from ≤ end)
    (over : (slot : ℕ) → from ≤ slot → due_of slot play ≡ play.keep) (begins : IsBoundaryIn plays 0) where
  past_due : (slot : ℕ) → from ≤ slot → all_due slot (play ∷ plays) ≡ play.keep + all_due slot plays
  past_due slot later = let own = over slot later in sum_by-cons (due_of slot) play plays ∙ omega (arith, own)

  past_unsent : {slot : ℕ} → from ≤ slot → IsUnsentAt end plays slot → IsUnsentAt end (play ∷ plays) slot
  past_unsent {slot} later none = search (arith, past_due slot later, past_due end ends)

  pub past_all : (at : ℕ) (slots : List ℕ) (parts : List SentPart) → AreFrom from slots
      → AreSentAt end plays slots (placed_texts at parts)
      → AreSentAt end (play ∷ plays) slots (placed_texts (play.keep + at) parts)
  past_all at [] [] are sent = tt
  past_all at (slot ∷ slots) [] are sent = (past_unsent are.0 sent.0, past_all at slots [] are.1 sent.1)
  past_all at slots (Film bytes ∷ parts) are sent =
      let same : play.keep + (at + length bytes) ≡ play.keep + at + length bytes = omega arith in
      rw (← same) (past_all (at + length bytes) slots parts are sent)
  past_all at [] (Text text ∷ parts) are sent = absurd sent
  past_all at (slot ∷ slots) (Text text ∷ parts) are sent =
      (grind (arith, common_steps, past_due), past_all at slots parts are.1 sent.1)

-- ---- a request

-- what a request and its answer leave is on time
pub turn_sound : {old new : SessionState} {asked : Awaited} {outcome : Outcome}
    → IsSound (sends_in old.state) old.waits old.heard → TurnsAs old asked outcome new
    → IsSound (sends_in new.state) true old.heard
turn_sound {old} sound (Stays same still) = rw same (grind arith)
turn_sound {old} sound (Starts begins) = grind arith
turn_sound {old} sound (Ends halts) =
    let p : PacerState = halts.pacing in
    let is : IsSound (Going p) true old.heard = rw halts.going at sound in
    let on = is.0 in
    let next = boundary-from p.pieces (p.before + p.sent) (sent_within p on.pacing) in
    let most : boundary_from p.pieces (p.before + p.sent) ≤ p.before + p.keep =
    next.least (p.before + p.keep) on.pacing.ends (omega (arith, on.pacing.due, on.pacing.sent)) in
    let place : p.before + next_boundary p ≡ boundary_from p.pieces (p.before + p.sent) = omega (arith, next.after) in
    rw halts.sends (
      record { pacing = grind arith; passed = on.passed; even = on.even },
      refl,
      λ other boundary within. omega (arith, place, next.least other boundary within),
    )

-- ---- a slot

abbrev pub waits_after : Bool → State → ℕ → Bool
waits_after waits state slot = if waits && is_between (stepped_in true slot state) then false else waits

pub going_sends : (waits : Bool) (setup : Setup) (play : Played) (slot : ℕ) → IsPacerState play.pacer
    → sends_in (state_after_slot waits (Playing setup play) slot) ≡ Going (sent_through slot play.pacer)
going_sends waits setup play slot is =
    grind (arith, slot_is waits (stands_at_boundary (after_step true slot play.pacer)) slot play.pacer is refl)

-- the rest of a play that was halted ends at the boundary that it reaches
abbrev pub ends_in : Bool → PacerState → Sends
ends_in between p = if between then Idle else Ending p

pub ending_sends : (setup : Setup) (stop : Stop) (slot : ℕ) → IsPacerState stop.pacer
    → sends_in (state_after_slot true (Stopping setup stop) slot)
    ≡ ends_in (stands_at_boundary (after_step true slot stop.pacer)) (sent_through slot stop.pacer)
ending_sends setup stop slot is = grind (arith, slot_is true false slot stop.pacer is)
