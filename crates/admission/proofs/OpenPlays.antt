-- A play is open from the entry that admits it to the entry that halts it.
use Rattle.std.proofs.Common.{◌≡◌, ◌≤◌, ◌<◌, ◌+◌, ◌-◌, ℕ, zero, suc, Bool, true, false, List, [], ◌∷◌, ◌++◌, length}
use Rattle.std.proofs.Common.{get_or, take, All, Option, Some, IsSomeAnd, arith, refl, sym, ap, subst, ◌∙◌, inl, inr}
use Rattle.std.proofs.lemmas.Bool.{cases_order}
use Rattle.std.proofs.lemmas.List.{get_or_default, length-take, take_all}
use Rattle.std.proofs.lemmas.List.Elements.{All-weaker}
use Rattle.plan_cert.specs.declared.Segment.{Segment}
use Rattle.plan_cert.specs.PlanSlots.{total_bytes}
use Rattle.slot_calendar.specs.declared.profiles.CapStep.{CapStep}
use Rattle.slot_calendar.specs.Plays.{Play as Booked, whole_play}
use Rattle.admission.specs.declared.entries.Entry.{Entry}
use Rattle.admission.specs.declared.entries.Command.{Command}
use Rattle.admission.specs.declared.entries.Command.TheVariants.{Play, Halt, Look}
use Rattle.admission.specs.declared.entries.Answer.{Answer}
use Rattle.admission.specs.declared.entries.Answer.TheVariants.{Admitted, Overflow, Halted, Looked}
use Rattle.admission.specs.Machine.{State, AdmittedPlay, CanHalt, IsAnswer, halted_play, play_numbered, next_state}
use Rattle.admission.specs.Machine.{admitted_play}
use Rattle.admission.specs.Histories.{Halts, IsAdmission, IsHalt, IsLegal, IsStillOpen, IsUnhalted, play_admitted}
use Rattle.admission.specs.Histories.{state_after}
use Rattle.admission.proofs.HistoryPrefixes.{legal_history, HaltStep, PlayAdmitted, halt_in, legal-take, next_of}
use Rattle.admission.proofs.HistoryPrefixes.{no_entry, play_admitted_in, told, state-next, state-push}
use Rattle.admission.proofs.Halts.{Halting, halting, holds-of, split}
use Rattle.admission.proofs.CapacityBounds.{sound-after, whole-play}
use Rattle.admission.proofs.Admissions.{IsKnown, admission-of, known-after, known-at, open-inside}
use Rattle.admission.proofs.PlayLookup.{found-closed, found-new, found-next}

-- ---- it is open from its admission on
numbers-below : (steps : List CapStep) (xs : List Entry) (n : ℕ) → IsLegal steps xs → n ≤ length xs
    → All (λ h. h.number < n) (state_after (take n xs)).held
numbers-below steps xs n legal few =
    All-weaker (IsKnown xs n) (λ h. h.number < n) (λ h known. known.inside) (state_after (take n xs)).held
    (known-at steps xs n legal few)

opened-here : (a : PlayAdmitted)
    → play_numbered a.number (state_after (take (suc a.number) a.entries)).held
    ≡ Some (admitted_play a.number a.start a.segments)
opened-here a =
    let e = get_or a.entries a.number no_entry in
    let state = state_after (take a.number a.entries) in
    let found = admission-of e.command e.answer a.start a.segments (a.admission.admitted no_entry) in
    let next : state_after (take (suc a.number) a.entries)
    ≡ next_state state a.number (Play found.0 a.segments) (Admitted a.start) =
    state-next a.entries a.number a.admission.inside ∙ ap (λ k. next_state state a.number k e.answer) found.1.0
    ∙ ap (next_state state a.number (Play found.0 a.segments)) found.1.1 in
    ap (λ (s : State). play_numbered a.number s.held) next
    ∙ found-new a.number a.start a.segments state.held
    (numbers-below a.steps a.entries a.number a.legal (omega (arith, a.admission.inside)))

stays-open : (k : ℕ) (a : PlayAdmitted) → IsUnhalted a.entries a.number → a.number < k → k ≤ length a.entries
    → play_numbered a.number (state_after (take k a.entries)).held ≡ Some (admitted_play a.number a.start a.segments)
stays-open zero a unhalted less few = absurd (omega (arith, less))
stays-open (suc j) a unhalted less few = elim (cases_order j a.number) [
  | inl same ↦ (
      let H : ℕ → Type 0 =
      λ n. play_numbered a.number (state_after (take (suc n) a.entries)).held
      ≡ Some (admitted_play a.number a.start a.segments) in
      subst H (sym same) (opened-here a)
      )
  | inr (inl before) ↦ absurd (omega (arith, less, before))
  | inr (inr after) ↦ (
      let inside : j < length a.entries = omega (arith, few) in
      let e = get_or a.entries j no_entry in
      ap (λ (s : State). play_numbered a.number s.held) (state-next a.entries j inside)
      ∙ found-next j e.command e.answer
      (record { is = stays-open j a unhalted after (omega (arith, few)); unhalted = unhalted.each j no_entry inside })
      )
]

pub whole-after : (a : PlayAdmitted) → IsUnhalted a.entries a.number
    → play_numbered a.number (state_after a.entries).held ≡ Some (admitted_play a.number a.start a.segments)
whole-after a unhalted =
    let S : List Entry → Type 0 =
    λ l. play_numbered a.number (state_after l).held ≡ Some (admitted_play a.number a.start a.segments) in
    subst S (take_all (length a.entries) a.entries (omega arith))
    (stays-open (length a.entries) a unhalted a.admission.inside (omega arith))

can-halt : (state : State) (number keep : ℕ) {h : AdmittedPlay} → play_numbered number state.held ≡ Some h
    → (h.is_open ≡ true) × (keep ≤ total_bytes h.play.segments) → CanHalt state number keep
can-halt state number keep is can =
    let P : Option AdmittedPlay → Type 0 =
    λ o. IsSomeAnd o (λ (h : AdmittedPlay). (h.is_open ≡ true) × (keep ≤ total_bytes h.play.segments)) in
    subst P (sym is) can

pub still-open : (steps : List CapStep) (xs : List Entry) (number keep : ℕ) → IsLegal steps xs
    → IsStillOpen xs number keep → CanHalt (state_after xs) number keep
still-open steps xs number keep legal still = can-halt (state_after xs) number keep
    (whole-after (play_admitted_in (legal_history legal) still.admission) still.unhalted)
    (refl, still.small)

-- and in the history that its entry ends
pub opened-last : {steps : List CapStep} {xs : List Entry} {keep : ℕ} (maker slot start : ℕ)
    (segments : List Segment) → IsLegal steps xs → keep ≤ total_bytes segments →
    CanHalt (state_after
    (xs ++ record { maker = maker; command = Play slot segments; answer = Admitted start } ∷ [])) (length xs) keep
opened-last {steps} {xs} {keep} maker slot start segments legal small =
    let e : Entry = record { maker = maker; command = Play slot segments; answer = Admitted start } in
    let S : List Entry → Type 0 = λ l. All (λ h. h.number < length xs) (state_after l).held in
    let below = subst S (take_all (length xs) xs (omega arith))
    (numbers-below steps xs (length xs) legal (omega arith)) in
    let C : State → Type 0 = λ s. CanHalt s (length xs) keep in
    subst C (sym (state-push xs e))
    (can-halt (next_of (state_after xs) (length xs) e) (length xs) keep
    (found-new (length xs) start segments (state_after xs).held below) (refl, small))

-- ---- it is closed from its halt on
record IsClosed (number : ℕ) (state : State) : Type 0 where
  held : AdmittedPlay
  is : play_numbered number state.held ≡ Some held
  closed_is : held.is_open ≡ false

abbrev pub state_before : HaltStep → State
state_before h = state_after (take h.place h.entries)

-- what the state is then, where the play could be halted
pub record IsHalted (h : HaltStep) : Type 0 where
  pub can : CanHalt (state_before h) h.number h.keep
  pub next : state_after (take (suc h.place) h.entries)
      ≡ next_state (state_before h) h.place (Halt h.number h.keep) Halted

pub halts-there : (h : HaltStep) → IsHalted h
halts-there h = record {
  can = subst (IsAnswer h.steps (state_before h) (Halt h.number h.keep)) (halted e.answer answered) answered;
  next = state-next h.entries h.place h.halt.inside
      ∙ ap (λ c. next_state (state_before h) h.place c e.answer) (h.halt.command_is no_entry)
      ∙ ap (next_state (state_before h) h.place (Halt h.number h.keep)) (halted e.answer answered);
}
  where
    e : Entry
    e = get_or h.entries h.place no_entry

    answered : IsAnswer h.steps (state_before h) (Halt h.number h.keep) e.answer
    answered = told
        (record { history = h.history; place = h.place; none = no_entry; inside = h.halt.inside })
        (h.halt.command_is no_entry, refl)

    halted : (answer : Answer) → IsAnswer h.steps (state_before h) (Halt h.number h.keep) answer → answer ≡ Halted
    halted Halted is = refl
    halted (Admitted start) is = absurd is
    halted (Overflow over booked asked) is = absurd is
    halted (Looked now at booked) is = absurd is

-- a command that halts a play
pub halt_is : (number : ℕ) (command : Command) → Halts number command → (keep : ℕ) × (command ≡ Halt number keep)
halt_is number (Halt that keep) same = (keep, ap (λ n. Halt n keep) same)
halt_is number (Play slot segments) same = absurd same
halt_is number (Look slot) same = absurd same

pub halt_at : {xs : List Entry} {i number : ℕ} (d : Entry) → i < length xs → Halts number (get_or xs i d).command
    → (keep : ℕ) × IsHalt xs i number keep
halt_at {xs} {i} {number} d inside halts =
    let is = halt_is number (get_or xs i d).command halts in (
      is.0,
      record {
        inside = inside;
        command_is = λ n. ap (λ (e : Entry). e.command)
            (get_or_default xs i n d inside) ∙ is.1;
      },
    )

closed-here : (h : HaltStep) → IsClosed h.number (state_after (take (suc h.place) h.entries))
closed-here h =
    let is = halts-there h in let p = halting (state_before h) h.number h.keep is.can in record {
      held = halted_play h.keep p.held;
      is = ap (λ (s : State). play_numbered h.number s.held) is.next
          ∙ found-closed h.number h.keep (state_before h).held p.held p.is;
      closed_is = refl;
    }

-- what is closed can't be halted
closed-cannot : (state : State) (number keep : ℕ) → IsClosed number state → CanHalt state number keep → ⊥
closed-cannot state number keep was can =
    let h = halting state number keep can in
    let both : Some h.held ≡ Some was.held = sym h.is ∙ was.is in
    let one : h.held ≡ was.held = cc in
    let bad : true ≡ false = sym h.is_open ∙ ap (λ (x : AdmittedPlay). x.is_open) one ∙ was.closed_is in
    cc

-- so it stays as it is
closed-rest : (h : HaltStep) (closed : IsClosed h.number (state_after (take (suc h.place) h.entries))) (more : ℕ)
    → suc h.place + more ≤ length h.entries
    → play_numbered h.number (state_after (take (suc h.place + more) h.entries)).held ≡ Some closed.held
closed-rest h closed zero few =
    let at : suc h.place ≡ suc h.place + 0 = omega arith in
    ap (λ n. play_numbered h.number (state_after (take n h.entries)).held) (sym at) ∙ closed.is
closed-rest h closed (suc more) few =
    let n = suc h.place + more in
    let at : suc h.place + suc more ≡ suc n = omega arith in
    let inside : n < length h.entries = omega (arith, few) in
    let e = get_or h.entries n no_entry in
    let was = closed-rest h closed more (omega (arith, few)) in
    ap (λ k. play_numbered h.number (state_after (take k h.entries)).held) at
    ∙ ap (λ (s : State). play_numbered h.number s.held) (state-next h.entries n inside)
    ∙ found-next n e.command e.answer (record {
      is = was;
      unhalted = λ halts. let again = halt_at no_entry inside halts in
          closed-cannot (state_after (take n h.entries)) h.number again.0
          (record { held = closed.held; is = was; closed_is = closed.closed_is })
          (halts-there (halt_in h.history again.1)).can;
    })

closed-after : (h : HaltStep) (closed : IsClosed h.number (state_after (take (suc h.place) h.entries)))
    → play_numbered h.number (state_after h.entries).held ≡ Some closed.held
closed-after h closed =
    let more = length h.entries - suc h.place in
    let at : suc h.place + more ≡ length h.entries = omega (arith, h.halt.inside) in
    ap (λ l. play_numbered h.number (state_after l).held)
    (sym (take_all (length h.entries) h.entries (omega arith)) ∙ ap (λ n. take n h.entries) (sym at))
    ∙ closed-rest h closed more (omega (arith, at))

pub was-admitted : (steps : List CapStep) (xs : List Entry) (number : ℕ) (h : AdmittedPlay) → IsLegal steps xs →
    play_numbered number (state_after xs).held ≡ Some h →
    IsAdmission xs number h.play.start h.play.segments
was-admitted steps xs number h legal is =
    let known = holds-of (IsKnown xs (length xs)) number (state_after xs).held h (known-after steps xs legal) is in
    let N : ℕ → Type 0 = λ n. IsAdmission xs n h.play.start h.play.segments in
    subst N (split number (state_after xs).held h is).number_is
    (record { inside = known.inside; admitted = known.admitted })

open-unhalted : {steps : List CapStep} {xs : List Entry} {number : ℕ} (keep : ℕ) → IsLegal steps xs
    → CanHalt (state_after xs) number keep → IsUnhalted xs number
open-unhalted {steps} {xs} {number} keep legal can = record {
  each = λ i none inside halts. (
      let step = halt_in (legal_history legal) (halt_at none inside halts).1 in
      let closed = closed-here step in
      closed-cannot (state_after xs) number keep
      (record { held = closed.held; is = closed-after step closed; closed_is = closed.closed_is }) can
      );
}

pub can-still : (steps : List CapStep) (xs : List Entry) (number keep : ℕ) → IsLegal steps xs
    → CanHalt (state_after xs) number keep → IsStillOpen xs number keep
can-still steps xs number keep legal can =
    let h = halting (state_after xs) number keep can in
    record {
      start = h.held.play.start;
      segments = h.held.play.segments;
      admission = was-admitted steps xs number h.held legal h.is;
      unhalted = open-unhalted keep legal can;
      small = h.small;
    }

-- ---- a play that was halted
-- the play that a halt may close is the one that was admitted, with all its bytes
halted-whole : (a : PlayAdmitted) (n : ℕ) {keep : ℕ} → n ≤ length a.entries
    → (h : Halting (state_after (take n a.entries)) a.number keep)
    → h.held ≡ admitted_play a.number a.start a.segments
unfolding whole-play
halted-whole a n few h =
    let held = h.held in
    let state = state_after (take n a.entries) in
    let number_is = (split a.number state.held held h.is).number_is in
    let known = holds-of (IsKnown a.entries n) a.number state.held held
    (known-at a.steps a.entries n a.legal few) h.is in
    let whole =
    (whole-play (sound-after a.steps (take n a.entries) (legal-take a.steps a.entries n a.legal)).whole h).play_is in
    let P : ℕ → Type 0 =
    λ k. play_admitted (get_or a.entries k no_entry).command (get_or a.entries k no_entry).answer
    ≡ Some (whole_play held.play.start held.play.segments) in
    let both : Some (whole_play held.play.start held.play.segments) ≡ Some (whole_play a.start a.segments) =
    sym (subst P number_is (known.admitted no_entry)) ∙ a.admission.admitted no_entry in
    let same : whole_play held.play.start held.play.segments ≡ whole_play a.start a.segments = cc in
    let A : ℕ → AdmittedPlay = λ k. record { number = k; play = held.play; is_open = held.is_open } in
    let B : Booked → AdmittedPlay = λ p. record { number = a.number; play = p; is_open = held.is_open } in
    let C : Bool → AdmittedPlay =
    λ b. record { number = a.number; play = whole_play a.start a.segments; is_open = b } in
    ap A number_is ∙ ap B (whole ∙ same) ∙ ap C h.is_open

pub cut-after : (a : PlayAdmitted) {i keep : ℕ} → IsHalt a.entries i a.number keep
    → play_numbered a.number (state_after a.entries).held
    ≡ Some (halted_play keep (admitted_play a.number a.start a.segments))
cut-after a {i} {keep} halt =
    let step = halt_in a.history halt in
    let is = halts-there step in
    let h = halting (state_before step) a.number keep is.can in
    closed-after step (record {
      held = halted_play keep (admitted_play a.number a.start a.segments);
      is = ap (λ (s : State). play_numbered a.number s.held) is.next
          ∙ found-closed a.number keep (state_before step).held h.held h.is
          ∙ ap (λ (x : AdmittedPlay). Some (halted_play keep x)) (halted-whole a i (omega (arith, halt.inside)) h);
      closed_is = refl;
    })

-- a halt stands after the entry that admitted its play
pub halt-later : (h : HaltStep) → h.number < h.place
halt-later h = omega (
  arith,
  open-inside h.steps (take h.place h.entries) h.number h.keep (legal-take h.steps h.entries h.place h.legal)
      (halts-there h).can,
  length-take h.place h.entries,
)
