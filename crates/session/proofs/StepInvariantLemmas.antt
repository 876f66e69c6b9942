-- What a step leaves of how a session is kept: a slot, a reply, a halt, a play and an admission.
use Rattle.std.proofs.Common.{◌≡◌, ℕ, ◌≤◌, Bool, true, false, refl, sym, subst, arith, ◌+◌, ◌<◌, ap, if◌then◌else◌}
use Rattle.std.proofs.Common.{List}
use Rattle.session.proofs.SharedTerms.{after_stop, AfterHalt, Awaited, awaited_answer_of, CanHandleRequest, Counts}
use Rattle.session.proofs.SharedTerms.{counts_next, Done, first_slots, Halt, Init, is_answered, IsBoundaryAfter}
use Rattle.session.proofs.SharedTerms.{IsGoing, IsNextIn, IsPacedPlay, IsPacerState, IsPlaying, IsPlayUnfinished}
use Rattle.session.proofs.SharedTerms.{IsSessionInvariant, IsStateInvariant, IsStepped, IsStopAnswered, NoAnswer}
use Rattle.session.proofs.SharedTerms.{Nothing, open_receipts, PacerState, Paused, Played, Playing, Ready}
use Rattle.session.proofs.SharedTerms.{session_context_of, session_state_of, SessionContext, Setup, State}
use Rattle.session.proofs.SharedTerms.{state_once_halted, Stopping, Stored, sum_through, Torn, total_bytes, total_slots}
use Rattle.session.specs.declared.sessions.Session.TheInside.{Inside}
use Rattle.vod_base.specs.declared.links.TheConstants.{LATEST_SLOT}
use Rattle.session.specs.SlotSteps.{HaltsIfDone, is_done_in}
use Rattle.session.specs.SlotTransitions.{IsCarried, IsEven, IsSamePacing}
use Rattle.session.specs.Teardowns.{is_tearing, is_torn_down}
use Rattle.session.specs.declared.states.Teardown.{Teardown}
use Rattle.plan_cert.proofs.SlotSums.{sum_through-past}
use Rattle.session.specs.HaltSteps.{KeepsToBoundary}

-- a session with the parts of an older one that a step changes
abbrev pub with_parts_of : Inside → Inside → Inside
with_parts_of old new = record new {
  state = old.state;
  counts = old.counts;
  awaited = old.awaited;
  reply = old.reply;
  waits = old.waits;
  teardown = old.teardown;
  lost = old.lost;
  heard = old.heard;
  late = old.late;
  log = old.log;
}

-- a session is kept by a step that changes no other part
pub step_kept : {old new : Inside} → IsSessionInvariant old → with_parts_of old new ≡ old → IsStepped new
    → IsSessionInvariant new
step_kept {old} {new} kept same step = grind arith

playing_kept : {stored : Stored} {setup : Setup} {old new : Played} (ground : SessionContext)
    → IsPlaying stored ground.source ground.settings setup ground.counts old → new.run ≡ old.run → new.plan ≡ old.plan
    → IsSamePacing old.pacer new.pacer → IsPlaying stored ground.source ground.settings setup ground.counts new
playing_kept {stored} {setup} {old} {new} ground kept run plan same = grind arith

-- what is kept of a state that a slot carries on
pub record CarriedState (ground : SessionContext) (old new : State) : Type 0 where
  pub state : IsStateInvariant ground new
  pub stop : (waits : Bool) → IsStopAnswered old waits → IsStopAnswered new waits
  pub open_is : open_receipts new ≡ open_receipts old
  pub going : (lost : Bool) → IsGoing lost old → IsEven new → is_done_in new ≡ false → IsGoing lost new

pub carried_kept : (ground : SessionContext) (old new : State) → IsStateInvariant ground old → IsCarried old new
    → CarriedState ground old new
carried_kept ground Init Init kept carried = grind arith
carried_kept ground (Ready setup paused) (Ready s p) kept carried = search arith
carried_kept ground (Playing setup play) (Playing s p) kept carried = record {
  state = subst (λ (x : Setup). IsStateInvariant ground (Playing x p)) (sym carried.0) (
    kept.0,
    (grind arith),
    λ stored at. playing_kept ground (kept.2 stored at) carried.1 carried.4 carried.5,
  );
  stop = λ waits is. tt;
  open_is = refl;
  going = grind arith;
}
carried_kept ground (Stopping setup stop) (Stopping s p) kept carried = grind arith
carried_kept ground _ _ kept carried = absurd carried

-- nothing is awaited
pub nothing_of : (awaited : Awaited) → awaited_answer_of awaited ≡ NoAnswer → awaited ≡ Nothing
nothing_of awaited given = grind arith

-- a slot that a session receives while it awaits nothing, and the state as the slot carries it on
pub record ReceivedSlot (inside : Inside) : Type 0 where
  pub kept : IsSessionInvariant inside
  pub none : inside.awaited ≡ Nothing
  pub heard : ℕ
  pub late : ℕ
  pub slots : (late ≤ heard) × (heard ≤ LATEST_SLOT)
  pub state : State
  pub carried : IsCarried inside.state state

-- a session is kept by a slot in which all that is due was sent
pub slot_kept : {inside : Inside} (slot : ReceivedSlot inside) (awaited : Awaited) → IsEven slot.state
    → HaltsIfDone slot.state awaited
    → IsSessionInvariant (record inside { heard = slot.heard; late = slot.late; state = slot.state; awaited = awaited })
slot_kept {inside} slot awaited even is = search (arith, carried_kept)

-- a session is kept by a reply that was sent
pub reply_kept : {inside : Inside} (teardown : Teardown) → IsSessionInvariant inside
    → is_tearing teardown ≡ is_tearing inside.teardown → is_torn_down teardown ≡ is_tearing inside.teardown
    → IsSessionInvariant (record inside { state = after_stop inside.state; waits = false; teardown = teardown })
reply_kept {inside} teardown kept tearing torn = grind arith

-- a halt that is asked of a state without a stop is asked of it with one, too
pub done_before : (state : State) (awaited : Awaited) → HaltsIfDone (after_stop state) awaited
    → HaltsIfDone state awaited
done_before state awaited given = grind arith

-- a play in hand is halted at the next boundary of its frames
pub halt_some : {play : Played} {keep : ℕ} → IsPacedPlay play → IsPlayUnfinished play
    → IsBoundaryAfter play.pacer.pieces (play.pacer.before + play.pacer.sent) (play.pacer.before + keep)
    → keep ≤ play.pacer.keep → (last : ℕ) → last + 1 ≡ play.pacer.passed
    → (last < total_slots play.pacer.plan) × (sum_through play.pacer.plan last ≤ keep)
    × (keep ≤ total_bytes play.pacer.plan)
halt_some {play} {keep} paced unhalted after most last is =
    let plan = play.pacer.plan in
    let pacing = paced.pacing in
    let past : total_bytes plan ≡ sum_through plan (last + total_slots plan) =
    sum_through-past plan (last + total_slots plan) pacing.plan (omega arith) in
    let through : first_slots plan play.pacer.passed ≡ sum_through plan last = ap (first_slots plan) (sym is) in
    let rises : sum_through plan last ≤ sum_through plan (last + total_slots plan) = grind arith in
    let whole : play.pacer.keep ≡ total_bytes plan = grind arith in
    let inside : last < total_slots plan = grind (arith, sum_through-past plan last pacing.plan) in
    (inside, grind arith, grind arith)

-- how a state is kept that a halt leaves: no booking is open
pub record HaltedState (ground : SessionContext) (lost waits : Bool) (state : State) : Type 0 where
  pub kept : IsStateInvariant ground state
  pub going : IsGoing lost state
  pub stop : IsStopAnswered state waits
  pub closed : open_receipts state ≡ 0

pub halted_kept : {setup : Setup} {play : Played} (ground : SessionContext) (lost waits : Bool) (done : Counts)
    (next : AfterHalt) → IsStateInvariant ground (Playing setup play)
    → IsNextIn ground.films ground.source ground.counts (Playing setup play) next
    → HaltedState (record ground { counts = counts_next ground.counts done next }) lost
    (if is_answered next then true else waits) (state_once_halted setup play next)
halted_kept ground lost waits done Done kept left = record { kept = (kept.0, tt); going = tt; stop = tt; closed = refl }
halted_kept ground lost waits done (Paused rest) kept left = grind arith
halted_kept ground lost waits done Torn kept left = grind arith

-- a play of which a halt is asked is the same but for what is kept
halting_kept : (ground : SessionContext) {setup : Setup} {play : Played} {pacer : PacerState} {keep : ℕ}
    → IsStateInvariant ground (Playing setup play) → IsPacerState pacer → pacer ≡ record play.pacer { keep = keep }
    → IsStateInvariant ground (Playing setup (record play { pacer = pacer }))
halting_kept ground {setup} {play} {pacer} {keep} kept pacing is = (
  kept.0,
  record { pacing = pacing; before = grind arith; plan = grind arith },
  λ stored at. record { playable = (kept.2 stored at).playable; pieces = cc (is, (kept.2 stored at).pieces) },
)

-- a session is kept by asking for a halt at the next boundary, as a request is received in Playing
pub halt_asked : {inside : Inside} {state : State} {keep : ℕ} {reply : List ℕ} (next : AfterHalt)
    → IsSessionInvariant inside → CanHandleRequest (session_state_of inside) → KeepsToBoundary inside.state state keep
    → IsNextIn inside.films.now inside.source inside.counts state next
    → IsSessionInvariant (record inside { state = state; awaited = Halt keep next; reply = reply })
halt_asked {inside} {state} {keep} next kept hear halt left =
    let after = halting_kept (session_context_of inside) (rw halt.old_is at kept.state) halt.pacing halt.pacer_is in
    let most : keep ≤ total_bytes halt.play.plan = grind arith in
    step_kept kept refl (search (arith, after, most))
