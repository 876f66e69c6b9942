-- A reply that waits, and where it is sent: what a request, a reply and a slot make of what is sent, the film's bytes
-- that are due, and each reply at the first boundary from what was due when its request was processed.
use Rattle.std.proofs.lemmas.Grind.{common_steps}
use Rattle.std.proofs.Common.{[], ◌≡◌, ℕ, ◌+◌, ◌-◌, ◌<◌, ◌≤◌, ◌++◌, if◌then◌else◌, Bool, true, false, List, ◌∷◌, Option}
use Rattle.std.proofs.Common.{Some, None, refl, sym, ◌∙◌, subst, inl, inr, arith, eq-eqb, ◌&&◌}
use Rattle.std.proofs.lemmas.Bool.{cases_lt, true≢false}
use Rattle.std.proofs.lemmas.List.{append_assoc}
use Rattle.connection_laws.proofs.Terms.{IsBoundary, boundary_from, IsPacerState, PacerState, due_by, first_slots}
use Rattle.connection_laws.proofs.Terms.{next_boundary, plan_bytes, stands_at_boundary, after_step, total_bytes, Text}
use Rattle.connection_laws.proofs.Terms.{AreSentAt, StationRequest, FilmPlay, due_of, kept_in, plays_of, placed_texts}
use Rattle.connection_laws.proofs.Terms.{Awaited, State, Playing, Stopping, is_between, is_sending, SessionState}
use Rattle.connection_laws.proofs.Terms.{after_stop, Outcome, Asks, play_by}
use Rattle.conn.proofs.ReplyPlacement.{boundary_here}
use Rattle.film_frames.specs.Tracks.{IsBoundaryAfter}
use Rattle.pacer.specs.PacerStates.{at_slot, step_end}
use Rattle.pacer.proofs.PacerStateLemmas.{boundary-from, boundary-is, first-slots-rise}
use Rattle.conn.specs.InputSteps.{Film}
use Rattle.pacer.proofs.SlotStepLemmas.{most-slots}
use Rattle.conn.proofs.FilmBytes.{sent_through, slot_is, stopped_is, sent_within}
use Rattle.connection_laws.proofs.RequestEffects.{Ending, Going, Idle, Sends, Ends, IsStill, Starts, Stays, TurnsAs}
use Rattle.connection_laws.proofs.RequestEffects.{begun_is, pacing_for, sends_in}
use Rattle.connection_laws.proofs.CourseInduction.{Piece, no_piece, joined, asked_piece, parts_piece}
use Rattle.conn.proofs.PlayProgress.{parts_of, state_after_slot, parts_in}
use Rattle.connection_laws.proofs.TextPlaces.{AreFrom, AreLater, AreSent, IsAtLast, IsAtNext, IsOnTime, IsSound}
use Rattle.connection_laws.proofs.TextPlaces.{StandAt, ToCome, due_in, due_now, ending_sends, ends_in, film_at}
use Rattle.connection_laws.proofs.TextPlaces.{from_lower, going_sends, later_lower, none_due, part_then, past_all}
use Rattle.connection_laws.proofs.TextPlaces.{play_with, text_at, text_then, through_time, waits_after}
use Rattle.connection_laws.proofs.TextPlaces.{with_pending}

-- what was sent and what is to come, by what is being sent
abbrev pub Stand : Sends → List StationRequest → ToCome → Type 0
Stand Idle askings come = AreSent (plays_of askings) come
Stand (Going p) askings come =
    StandAt (play_with p (kept_in askings (total_bytes p.plan))) p.sent (plays_of askings) come
Stand (Ending p) askings come = StandAt (play_with p p.keep) p.sent (plays_of askings) come

-- how a sending stands: what it sends, the slot that was received last, and the slot in which the request was processed
-- whose reply is held up
pub record Point : Type 0 where
  pub sends : Sends
  pub heard : ℕ
  pub pending : Option ℕ

abbrev pub point : Sends → ℕ → Option ℕ → Point
point sends heard pending = record { sends = sends; heard = heard; pending = pending }

-- the reply that is held up is to come first
abbrev pub pending_then : Option ℕ → ToCome → ToCome
pending_then pending come = record come { slots = with_pending pending come.slots }

pub record Fits (at : Point) (askings : List StationRequest) (come : ToCome) : Type 0 where
  pub from : AreFrom at.heard come.slots
  pub later : AreLater at.heard (plays_of askings)
  pub stand : Stand at.sends askings (pending_then at.pending come)

-- what is to come from before a doing on
abbrev pub piece_then : Piece → ToCome → ToCome
piece_then piece come = record { end = come.end; slots = piece.slots ++ come.slots; parts = piece.parts ++ come.parts }

pub record GoesTo (old new : Point) (piece : Piece) : Type 0 where
  pub later : old.heard ≤ new.heard
  pub rest : (askings : List StationRequest) (come : ToCome) → new.heard ≤ come.end → Fits new askings come
      → Fits old (piece.askings ++ askings) (piece_then piece come)

pub goes_then : {a b c : Point} {one two : Piece} → GoesTo a b one → GoesTo b c two → GoesTo a c (joined one two)
goes_then {one = one} {two = two} first next = record {
  later = omega (arith, first.later, next.later);
  rest = λ askings come on fits.
      let there = first.rest (two.askings ++ askings) (piece_then two come) (omega (arith, next.later, on))
      (next.rest askings come on fits) in
      rw (append_assoc, append_assoc, append_assoc) there;
}

pub goes_same : (at : Point) → GoesTo at at no_piece
goes_same at = record { later = omega arith; rest = λ askings come on fits. fits }

-- a play was sent as far as it is kept, and others begin later
pub over_at : {p : PacerState} {keep heard : ℕ} {askings : List StationRequest} {come : ToCome} → IsOnTime p heard
    → p.sent ≡ keep → heard ≤ come.end → Fits (point Idle heard None) askings come
    → StandAt (play_with p keep) p.sent (plays_of askings) come
over_at {p} {keep} {heard} {askings} {come} on sent ends fits =
    let play : FilmPlay = play_with p keep in
    let plays : List FilmPlay = plays_of askings in
    let due : due_of come.end play ≡ keep = search (arith, first-slots-rise) in
    let now : due_in p heard ≡ p.sent = due_now p heard on in
    let shifted : AreSentAt come.end (play ∷ plays) come.slots (placed_texts (keep + 0) come.parts) =
    past_all play plays ends (search (arith, first-slots-rise)) fits.later.begins 0 come.slots come.parts fits.from fits.stand.texts in
    record {
      holds = omega (arith, sent);
      texts = grind arith;
      film = grind (arith, common_steps);
    }

-- ---- a reply is held up: of the film no boundary was reached since its request was processed

pub record IsHeldUp (p : PacerState) (slot heard : ℕ) : Type 0 where
  pub before : slot ≤ heard
  pub due : due_in p slot ≤ p.sent
  pub none : (place : ℕ) → IsBoundary p.pieces place → p.before + due_in p slot ≤ place → p.before + p.sent < place

abbrev pub IsHeldIn : Option ℕ → PacerState → Bool → ℕ → Type 0
IsHeldIn None p waits heard = waits ≡ false
IsHeldIn (Some slot) p waits heard = (waits ≡ true) × IsHeldUp p slot heard

abbrev pub IsHeld : Option ℕ → Sends → Bool → ℕ → Type 0
IsHeld pending Idle waits heard = (pending ≡ None) × (waits ≡ false)
IsHeld pending (Going p) waits heard = IsHeldIn pending p waits heard
IsHeld pending (Ending p) waits heard = IsHeldIn pending p waits heard

-- what is being sent is on time, and a reply that waits is held up since its request was processed
pub record IsPacing (sends : Sends) (waits : Bool) (heard : ℕ) : Type 0 where
  pub sound : IsSound sends waits heard
  pub pending : Option ℕ
  pub held : IsHeld pending sends waits heard

abbrev pub point_of : {sends : Sends} {waits : Bool} {heard : ℕ} → IsPacing sends waits heard → Point
point_of {sends} {heard = heard} paced = point sends heard paced.pending

-- so it is after a doing too
pub record Moves (from : Point) (piece : Piece) (sends : Sends) (waits : Bool) (heard : ℕ) : Type 0 where
  pub after : IsPacing sends waits heard
  pub goes_on : GoesTo from (point_of after) piece

-- what was due of the play in hand in a slot, where so much is kept of it in the end
due_going : (p : PacerState) (slot keep : ℕ) → IsPacerState p → p.keep ≡ total_bytes p.plan → due_in p slot ≤ keep
    → due_of slot (play_with p keep) ≡ due_in p slot
due_going p slot keep is whole holds = grind (arith, most-slots p.plan (slot + 1 - p.start) is.plan)

-- what was sent is due by the end of each later slot
due_far : (p : PacerState) (heard end : ℕ) → IsOnTime p heard → heard ≤ end
    → p.sent ≤ first_slots p.plan (end + 1 - p.start)
due_far p heard end on later = grind (arith, first-slots-rise)

-- what was sent up to a boundary ends at one
boundary_stands : (p : PacerState) → IsPacerState p → IsBoundary p.pieces (p.before + p.sent) → stands_at_boundary p
    ≡ true
boundary_stands p is boundary =
    let place : ℕ = p.before + p.sent in
    let itself : IsBoundaryAfter p.pieces place place = grind arith in
    eq-eqb (next_boundary p) p.sent (omega (arith, boundary-is p.pieces place place (sent_within p is) itself))

-- where what was sent doesn't end at a boundary, a reply is held up
held_here : (p : PacerState) (heard : ℕ) → IsOnTime p heard → stands_at_boundary p ≡ false → IsHeldUp p heard heard
held_here p heard on stands = search (arith, boundary_stands)

-- ---- a request is answered

-- it neither begins nor halts a play
pub still_goes : {asked : Awaited} {outcome : Outcome} → IsStill asked outcome → (at : Point)
    → GoesTo at at (asked_piece (Asks asked outcome))
still_goes {asked} {outcome} still at = grind arith

-- a request was processed, and its reply is in hand
abbrev pub turn_piece : Awaited → Outcome → ℕ → Piece
turn_piece asked outcome slot = record no_piece { askings = Asks asked outcome ∷ []; slots = slot ∷ [] }

pub turn_goes : {old new : SessionState} {asked : Awaited} {outcome : Outcome} → TurnsAs old asked outcome new
    → GoesTo (point (sends_in old.state) old.heard None) (point (sends_in new.state) old.heard (Some old.heard))
    (turn_piece asked outcome old.heard)
turn_goes {old} (Stays same still) = grind arith
turn_goes {old} (Starts begins) = record {
  later = omega arith;
  rest = λ askings come on fits.
      let p : PacerState = pacing_for begins.prepared begins.admitted.start in
      let there : Fits (point (Going p) old.heard (Some old.heard)) askings come = grind arith in
      let made = begun_is begins askings in
      let starts : IsBoundary p.pieces (p.before + 0) = grind arith in
      rw begins.idle (record {
        from = (omega arith, there.from);
        later = search arith;
        stand = rw made (subst (λ plan. AreSent (record (play_by begins.prepared begins.admitted.start askings) {
          plan = plan;
          keep = kept_in askings (total_bytes plan);
        } ∷ plays_of askings) (record come { slots = old.heard ∷ come.slots }))
            begins.paced (record { texts = there.stand.texts; film = there.stand.film }));
      });
}
turn_goes {old} {outcome = outcome} (Ends halts) = grind arith

-- ---- a reply goes out at once, or is held up

-- where a reply goes out, nothing else changes of what is to come
reply_goes : {sends after : Sends} {heard : ℕ} {text : List ℕ}
    → ((askings : List StationRequest) (come : ToCome) → heard ≤ come.end → Fits (point after heard None) askings come
    → Stand sends askings (pending_then (Some heard) (part_then (Text text) come)))
    → GoesTo (point sends heard (Some heard)) (point after heard None) (parts_piece (Text text ∷ []))
reply_goes stand = grind arith

-- at a boundary of the play in hand
text_here : {p : PacerState} {heard keep : ℕ} {after : Sends} {askings : List StationRequest} {come : ToCome}
    (text : List ℕ) → IsOnTime p heard → stands_at_boundary p ≡ true
    → due_of heard (play_with p keep) ≡ due_in p heard → heard ≤ come.end → Fits (point after heard None) askings come
    → StandAt (play_with p keep) p.sent (plays_of askings) come
    → StandAt (play_with p keep) p.sent (plays_of askings) (text_then heard text come)
text_here {p} {heard} {keep} {come = come} text on stands is ends fits =
    let at : IsAtNext p (due_in p heard) = grind (arith, boundary_here p on.pacing stands) in
    text_at {p = p} {keep = keep} heard text at is fits.later.starts (due_far p heard come.end on ends)

-- where a reply goes, and what of it is held up then
pub replying : (state : State) (goes : Bool) (heard : ℕ) (text : List ℕ) → IsSound (sends_in state) true heard
    → is_between state ≡ goes → Moves (point (sends_in state) heard (Some heard))
    (parts_piece (if goes then Text text ∷ [] else [])) (sends_in (if goes then after_stop state else state))
    (if goes then false else true) heard
replying (Playing setup play) true heard text sound is =
    let p : PacerState = play.pacer in
    record {
      after = record { sound = sound; pending = None; held = refl };
      goes_on = reply_goes (λ askings come on fits.
          let keep : ℕ = kept_in askings (total_bytes p.plan) in
          let holds : due_in p heard ≤ keep = omega (arith, due_now p heard sound.0, fits.stand.holds) in
          text_here {p = p} {keep = keep} text sound.0 is (due_going p heard keep sound.0.pacing sound.1 holds) on fits
          fits.stand);
    }
replying (Stopping setup stop) true heard text sound is =
    let p : PacerState = stop.pacer in
    let least = sound.2 (p.before + p.sent) (boundary_here p sound.0.pacing is) (omega arith) in
    let ended : p.sent ≡ p.keep = omega (arith, least, sound.0.pacing.sent, sound.0.pacing.due) in
    record {
      after = record { sound = tt; pending = None; held = (refl, refl) };
      goes_on = reply_goes (λ askings come on fits. text_here {p = p} {keep = p.keep} text sound.0 is refl on fits
          (over_at sound.0 ended on fits));
    }
replying (Playing setup play) false heard text sound is = record {
  after = record { sound = sound; pending = Some heard; held = (refl, held_here play.pacer heard sound.0 is) };
  goes_on = goes_same (point (Going play.pacer) heard (Some heard));
}
replying (Stopping setup stop) false heard text sound is = record {
  after = record { sound = sound; pending = Some heard; held = (refl, held_here stop.pacer heard sound.0 is) };
  goes_on = goes_same (point (Ending stop.pacer) heard (Some heard));
}
replying _ false heard text sound is = absurd (true≢false is)
replying _ true heard text sound is = record {
  after = record { sound = tt; pending = None; held = (refl, refl) };
  goes_on = search (arith, none_due);
}

-- ---- a slot

abbrev after_slot : Bool → Option ℕ → Option ℕ
after_slot between None = None
after_slot between (Some slot) = if between then None else Some slot

-- a later slot of a play on time, with the reply that is held up, and whether the play stands at a boundary after it
record PlaySlot (waits between : Bool) (pending : Option ℕ) : Type 0 where
  p : PacerState
  heard : ℕ
  slot : ℕ
  text : List ℕ
  later : heard < slot
  on : IsOnTime p heard
  stands : stands_at_boundary (after_step true slot p) ≡ between
  held : IsHeldIn pending p waits heard

-- its parts
abbrev slot_piece : {waits between : Bool} {pending : Option ℕ} → PlaySlot waits between pending → Piece
slot_piece {waits} {between} s = parts_piece (parts_in waits between s.p s.slot s.text)

-- they are sent, with the reply that waits, where so much is kept of the play
slot_at : {waits between : Bool} {pending : Option ℕ} (s : PlaySlot waits between pending) {keep : ℕ}
    {plays : List FilmPlay} (come : ToCome) → s.slot ≤ come.end
    → ((taken : ℕ) → due_in s.p taken ≤ keep → due_of taken (play_with s.p keep) ≡ due_in s.p taken)
    → AreLater s.slot plays
    → StandAt (play_with s.p keep) (due_by s.p s.slot) plays (pending_then (after_slot between pending) come)
    → StandAt (play_with s.p keep) s.p.sent plays (pending_then pending (piece_then (slot_piece s) come))
slot_at {waits = true} {between = true} {pending = Some taken} s {keep} {plays} come ends due after stand =
    let is = on.pacing in
    let q : PacerState = after_step true slot p in
    let most : due_by p slot ≤ p.keep = omega (arith, is.due) in
    let last : step_end false (at_slot slot q) ≡ due_by p slot = grind arith in
    let near = boundary-from p.pieces (p.before + p.sent) (sent_within p is) in
    let from : p.sent ≤ q.sent = omega (arith, near.after, is.sent) in
    let to : q.sent ≤ due_by p slot = omega arith in
    let rest : StandAt (play_with q keep) q.sent plays
    (part_then (Film (plan_bytes q q.sent (step_end false (at_slot slot q)))) come) =
    rw last (film_at {p = q} {keep = keep} (due_by p slot) (stopped_is slot p is) to most stand) in
    let at : IsAtNext q (due_in p taken) = record {
      boundary = boundary_here q (stopped_is slot p is) stands;
      after = omega (arith, held.1.due, near.after, is.sent);
      least = λ place boundary from.
          omega (arith, near.least place boundary (omega (arith, held.1.none place boundary from)), near.after);
    } in
    let far : (sent_through slot p).sent ≤ first_slots p.plan (come.end + 1 - p.start) =
    due_far (sent_through slot p) slot come.end (through_time p heard slot on later) ends in
    film_at {p = p} {keep = keep} q.sent is from (omega (arith, to, most)) (text_at {p = q} {keep = keep} taken text at
    (due taken (omega (arith, at.after, rest.holds)))
    (later_lower taken slot plays (omega (arith, held.1.before, later)) after).starts (omega (arith, to, far)) rest)
  where
    open s use {p, heard, slot, text, later, on, stands, held}
slot_at {waits} {between} {pending} s {keep} come ends due after stand =
    let all = film_at {p = s.p} {keep = keep} (due_by s.p s.slot) s.on.pacing (omega (arith, s.on.pacing.sent))
    (omega (arith, s.on.pacing.due)) stand in
    grind (arith, slot_is true false s.slot s.p s.on.pacing, all)

-- whether a reply is held up then
slot_held : {waits between : Bool} {pending : Option ℕ} (s : PlaySlot waits between pending)
    → IsHeldIn (after_slot between pending) (sent_through s.slot s.p) (if waits && between then false else waits) s.slot
slot_held {waits = true} {between = false} {pending = Some taken} s =
    let is = on.pacing in
    let next = boundary-from p.pieces (p.before + p.sent) (sent_within p is) in
    let nearest : ℕ = boundary_from p.pieces (p.before + p.sent) in (
      refl,
      record {
        before = omega (arith, held.1.before, later);
        due = omega (arith, held.1.due, is.sent);
        none = λ place boundary from.
            let past = held.1.none place boundary from in
            let least : nearest ≤ place = next.least place boundary (omega (arith, past)) in
            elim (cases_lt (p.before + due_by p slot) place) [
              | inl less ↦ less
              | inr more ↦
                  let there : nearest ≡ p.before + (after_step true slot p).sent = grind arith in
                  absurd (true≢false (sym (boundary_stands (after_step true slot p) (stopped_is slot p is)
                  (subst (IsBoundary p.pieces) there next.boundary)) ∙ stands))
            ];
      },
    )
  where
    open s use {p, slot, later, on, stands, held}
slot_held {waits} {between} {pending} s = grind arith

-- a later slot changes nothing else of what is to come
slot_goes : {waits between : Bool} {pending : Option ℕ} {sends after : Sends} (s : PlaySlot waits between pending)
    → ((askings : List StationRequest) (come : ToCome) → s.slot ≤ come.end
    → Fits (point after s.slot (after_slot between pending)) askings come
    → Stand sends askings (pending_then pending (piece_then (slot_piece s) come)))
    → GoesTo (point sends s.heard pending) (point after s.slot (after_slot between pending)) (slot_piece s)
slot_goes s stand = grind (arith, from_lower, later_lower)

-- the rest of a play that was halted ends at the boundary that it reaches
ending_moves : {between : Bool} {pending : Option ℕ} (s : PlaySlot true between pending) → IsAtLast s.p
    → Moves (point (Ending s.p) s.heard pending) (slot_piece s) (ends_in between (sent_through s.slot s.p))
    (if between then false else true) s.slot
ending_moves {pending = None} s last = absurd (true≢false s.held)
ending_moves {between = true} {pending = Some taken} s last =
    let near = boundary-from p.pieces (p.before + p.sent) (sent_within p on.pacing) in
    let least = last (p.before + (after_step true slot p).sent)
    (boundary_here (after_step true slot p) (stopped_is slot p on.pacing) stands)
    (omega (arith, near.after, on.pacing.sent)) in
    let through = through_time p heard slot on later in
    let ended : (sent_through slot p).sent ≡ p.keep = omega (arith, least, through.pacing.due) in
    record {
      after = record { sound = tt; pending = None; held = (refl, refl) };
      goes_on = slot_goes s (λ askings come on fits. slot_at s come on (λ taken less. refl) fits.later
          (over_at through ended on fits));
    }
  where
    open s use {p, heard, slot, later, on, stands}
ending_moves {between = false} {pending = Some taken} s last = record {
  after = record {
    sound = (
      through_time s.p s.heard s.slot s.on s.later,
      refl,
      λ place boundary after. last place boundary (omega (arith, after, s.on.pacing.sent)),
    );
    pending = Some taken;
    held = slot_held s;
  };
  goes_on = slot_goes s (λ askings come on fits. slot_at s come on (λ taken less. refl) fits.later fits.stand);
}

-- the slot of the play that is being sent
abbrev play_slot : {waits : Bool} {pending : Option ℕ} {heard slot : ℕ} (p : PacerState) (text : List ℕ)
    → heard < slot → IsOnTime p heard → IsHeldIn pending p waits heard
    → PlaySlot waits (stands_at_boundary (after_step true slot p)) pending
play_slot {heard = heard} {slot = slot} p text later on held = record {
  p = p;
  heard = heard;
  slot = slot;
  text = text;
  later = later;
  on = on;
  stands = refl;
  held = held;
}

-- what is being sent
pub slot_moves : {waits : Bool} {heard : ℕ} (state : State) (slot : ℕ) (text : List ℕ) → heard < slot
    → (paced : IsPacing (sends_in state) waits heard) → is_sending state ≡ true
    → Moves (point_of paced) (parts_piece (parts_of waits state text slot))
    (sends_in (state_after_slot waits state slot)) (waits_after waits state slot) slot
slot_moves {waits} (Playing setup play) slot text later paced sending =
    let p : PacerState = play.pacer in
    let s = play_slot {waits = waits} {pending = paced.pending} p text later paced.sound.0 paced.held in
    rw (going_sends waits setup play slot s.on.pacing) (record {
      after = record {
        sound = (through_time p s.heard slot s.on later, paced.sound.1);
        pending = after_slot (stands_at_boundary (after_step true slot p)) paced.pending;
        held = slot_held s;
      };
      goes_on = slot_goes s (λ askings come on fits. slot_at s come on (λ taken less.
          due_going p taken (kept_in askings (total_bytes p.plan)) s.on.pacing paced.sound.1 less) fits.later
          fits.stand);
    })
slot_moves {waits = false} (Stopping setup stop) slot text later paced sending = absurd (true≢false (sym paced.sound.1))
slot_moves {waits = true} (Stopping setup stop) slot text later paced sending =
    rw (ending_sends setup stop slot paced.sound.0.pacing) (ending_moves
    (play_slot {waits = true} {pending = paced.pending} stop.pacer text later paced.sound.0 paced.held) paced.sound.2)
slot_moves _ slot text later paced sending = absurd (true≢false (sym sending))
