-- The play that a halt closes, among the plays before and after it.
use Rattle.std.proofs.Common.{◌≡◌, ◌≤◌, ◌+◌, ℕ, true, eqb, List, [], ◌∷◌, ◌++◌, length, map, All, Option, Some, None}
use Rattle.std.proofs.Common.{IsSomeAnd, arith, refl, sym, ap, subst, ◌∙◌, inl, inr}
use Rattle.std.proofs.lemmas.Bool.{cases_Bool, cond-true, cond-false, eqb-true}
use Rattle.std.proofs.lemmas.List.{drop_at, get_or_at, length-append, map-append, take_at}
use Rattle.std.proofs.lemmas.List.Elements.{All-append, All-cons, All-drop, All-push, All-tail, All-take}
use Rattle.plan_cert.specs.declared.Segment.{Segment}
use Rattle.plan_cert.specs.PlanSlots.{total_bytes}
use Rattle.slot_calendar.specs.Plays.{Play as Booked, booked_by, released_at, truncated_play, whole_play}
use Rattle.slot_calendar.proofs.PlayShares.{booked-cut}
use Rattle.admission.specs.declared.entries.Entry.{Entry}
use Rattle.admission.specs.declared.entries.Command.{Command}
use Rattle.admission.specs.declared.entries.Command.TheVariants.{Play, Halt, Look}
use Rattle.admission.specs.declared.entries.Answer.{Answer}
use Rattle.admission.specs.declared.entries.Answer.TheVariants.{Admitted, Overflow, Halted, Looked}
use Rattle.admission.specs.Machine.{State, AdmittedPlay, play_numbered, with_halted, halted_play, admitted_play}
use Rattle.admission.specs.Machine.{CanHalt, IsAnswer, booked_in, next_state, plays_of}
use Rattle.admission.specs.Histories.{IsAnswered, play_admitted}
use Rattle.admission.proofs.HistoryPrefixes.{Machine, next_of}

-- ---- what a halt's condition says
pub record Halting (state : State) (number keep : ℕ) : Type 0 where
  pub held : AdmittedPlay
  pub is : play_numbered number state.held ≡ Some held
  pub is_open : held.is_open ≡ true
  pub small : keep ≤ total_bytes held.play.segments

some-play : (o : Option AdmittedPlay) (keep : ℕ)
    → IsSomeAnd o (λ (h : AdmittedPlay). (h.is_open ≡ true) × (keep ≤ total_bytes h.play.segments)) →
    (h : AdmittedPlay) × ((o ≡ Some h) × ((h.is_open ≡ true) × (keep ≤ total_bytes h.play.segments)))
some-play None keep bad = absurd bad
some-play (Some h) keep is = (h, (refl, (is.0, is.1)))

pub halting : (state : State) (number keep : ℕ) → CanHalt state number keep → Halting state number keep
halting state number keep can =
    let found = some-play (play_numbered number state.held) keep can in
    record { held = found.0; is = found.1.0; is_open = found.1.1.0; small = found.1.1.1 }

-- ---- the plays before and after the one of a number
pub record IsSplit (number : ℕ) (held : List AdmittedPlay) (h : AdmittedPlay) : Type 0 where
  pub before : List AdmittedPlay
  pub after : List AdmittedPlay
  pub was : held ≡ before ++ h ∷ after
  pub becomes : (keep : ℕ) → with_halted number keep held ≡ before ++ halted_play keep h ∷ after
  pub number_is : h.number ≡ number

pub split : (number : ℕ) (held : List AdmittedPlay) (h : AdmittedPlay) → play_numbered number held ≡ Some h → IsSplit
    number held h
split number [] h is = let bad : ⊥ = cc in absurd bad
split number (x ∷ rest) h is =
    elim (cases_Bool (eqb x.number number)) [
      | inl found ↦ (
          let same : Some x ≡ Some h =
          sym (cond-true (eqb x.number number) (Some x) (play_numbered number rest) found) ∙ is in
          let here : x ≡ h = cc in
          record {
            before = [];
            after = rest;
            was = ap (λ (y : AdmittedPlay). y ∷ rest) here;
            becomes = λ keep. cond-true (eqb x.number number) (halted_play keep x ∷ rest)
                (x ∷ with_halted number keep rest) found ∙ ap (λ (y : AdmittedPlay). halted_play keep y ∷ rest) here;
            number_is = sym (ap (λ (y : AdmittedPlay). y.number) here) ∙ eqb-true x.number number found;
          }
          )
      | inr other ↦ (
          let later = split number rest h (sym (cond-false (eqb x.number number) (Some x) (play_numbered number rest)
          other)
          ∙ is) in
          record {
            before = x ∷ later.before;
            after = later.after;
            was = ap (λ l. x ∷ l) later.was;
            becomes = λ keep. cond-false (eqb x.number number) (halted_play keep x ∷ rest)
                (x ∷ with_halted number keep rest) other ∙ ap (λ l. x ∷ l) (later.becomes keep);
            number_is = later.number_is;
          }
          )
    ]

-- what is true of all plays is true of that one
pub holds-of : (P : AdmittedPlay → Type 0) (number : ℕ) (held : List AdmittedPlay) (h : AdmittedPlay) → All P held
    → play_numbered number held ≡ Some h → P h
holds-of P number held h all is =
    let parts = split number held h is in
    let S : List AdmittedPlay → Type 0 = λ l. All P l in
    let all' : All P (parts.before ++ h ∷ parts.after) = subst S parts.was all in
    subst P (get_or_at parts.before h parts.after h (length parts.before) refl)
    (all' (length parts.before) h (omega (arith, length-append parts.before (h ∷ parts.after))))

-- a play of a state, by its number
pub record Found : Type 0 where
  pub state : State
  pub number : ℕ
  pub held : AdmittedPlay
  pub is : play_numbered number state.held ≡ Some held

abbrev pub found_of : {state : State} {number keep : ℕ} → Halting state number keep → Found
found_of {state} {number} halt = record { state = state; number = number; held = halt.held; is = halt.is }

-- and of all plays after its halt, if it is true of that one then
pub all-halted : (P : AdmittedPlay → Type 0) (f : Found) (keep : ℕ) → P (halted_play keep f.held) → All P f.state.held
    → All P (with_halted f.number keep f.state.held)
all-halted P f keep here all =
    let h = f.held in
    let parts = split f.number f.state.held h f.is in
    let S : List AdmittedPlay → Type 0 = λ l. All P l in
    let all' : All P (parts.before ++ h ∷ parts.after) = subst S parts.was all in
    let front : All P parts.before =
    subst S (take_at parts.before (h ∷ parts.after) (length parts.before) refl)
    (All-take P (length parts.before) (parts.before ++ h ∷ parts.after) all') in
    let back : All P (h ∷ parts.after) =
    subst S (drop_at parts.before (h ∷ parts.after) (length parts.before) refl)
    (All-drop P (length parts.before) (parts.before ++ h ∷ parts.after) all') in
    subst S (sym (parts.becomes keep))
    (All-append P parts.before (halted_play keep h ∷ parts.after) front
    (All-cons P (halted_play keep h) parts.after here (All-tail P h parts.after back)))

-- a step of the machine leaves true what is true of each play, of the play that it admits, and of one
-- that it halts
pub record IsKept (P : AdmittedPlay → Type 0) (m : Machine) (place : ℕ) (e : Entry) : Type 0 where
  pub all : All P m.state.held
  pub opened : (start : ℕ) (segments : List Segment)
      → play_admitted e.command e.answer ≡ Some (whole_play start segments) → P (admitted_play place start segments)
  pub halted : (keep : ℕ) (h : AdmittedPlay) → P h → P (halted_play keep h)

pub all-next : (P : AdmittedPlay → Type 0) (m : Machine) (place : ℕ) (e : Entry) → IsAnswered m.steps m.state e
    → IsKept P m place e → All P (next_of m.state place e).held
all-next P m place e is kept = go e.command e.answer is kept.opened
  where
    go : (command : Command) (answer : Answer) → IsAnswer m.steps m.state command answer
        → ((start : ℕ) (segments : List Segment) → play_admitted command answer ≡ Some (whole_play start segments)
        → P (admitted_play place start segments))
        → All P (next_state m.state place command answer).held
    go (Play slot segments) (Admitted start) is opened =
        All-push P m.state.held (admitted_play place start segments) kept.all (opened start segments refl)
    go (Play slot segments) (Overflow over booked asked) is opened = kept.all
    go (Play slot segments) Halted is opened = absurd is
    go (Play slot segments) (Looked now at booked) is opened = absurd is
    go (Halt number keep) Halted is opened = (
        let h = halting m.state number keep is in
        all-halted P (found_of h) keep (kept.halted keep h.held (holds-of P number m.state.held h.held kept.all h.is))
        kept.all
        )
    go (Halt number keep) (Admitted start) is opened = absurd is
    go (Halt number keep) (Overflow over booked asked) is opened = absurd is
    go (Halt number keep) (Looked now at booked) is opened = absurd is
    go (Look slot) (Looked now at booked) is opened = kept.all
    go (Look slot) (Admitted start) is opened = absurd is
    go (Look slot) (Overflow over booked asked) is opened = absurd is
    go (Look slot) Halted is opened = absurd is

abbrev pub play_of : AdmittedPlay → Booked
play_of h = h.play

-- what the plays book, in the same parts
pub plays-split : (before after : List AdmittedPlay) (h : AdmittedPlay)
    → map play_of (before ++ h ∷ after) ≡ map play_of before ++ h.play ∷ map play_of after
plays-split before after h = map-append play_of before (h ∷ after)

-- a play of a state that has all its bytes
pub record WholePlay : Type 0 where
  pub found : Found
  pub open found use *
  pub start : ℕ
  pub segments : List Segment
  pub play_is : held.play ≡ whole_play start segments

-- what the plays of its state book: this one between others, and cut once it is halted
pub record PlaysAround (w : WholePlay) : Type 0 where
  pub before : List Booked
  pub after : List Booked
  pub were : plays_of w.state ≡ before ++ whole_play w.start w.segments ∷ after
  pub become : (keep : ℕ) → map play_of (with_halted w.number keep w.state.held)
      ≡ before ++ truncated_play w.start w.segments keep ∷ after

pub plays-around : (w : WholePlay) → PlaysAround w
plays-around w =
    let parts = split w.number w.state.held w.held w.is in
    let front = map play_of parts.before in
    let back = map play_of parts.after in
    record {
      before = front;
      after = back;
      were = ap (map play_of) parts.was ∙ plays-split parts.before parts.after w.held
          ∙ ap (λ p. front ++ p ∷ back) w.play_is;
      become = λ keep. ap (map play_of) (parts.becomes keep)
          ∙ plays-split parts.before parts.after (halted_play keep w.held)
          ∙ ap (λ (p : Booked). front ++ truncated_play p.start p.segments keep ∷ back) w.play_is;
    }

-- its halt gives back the bytes that it doesn't keep
pub booked-halted : (w : WholePlay) (keep t : ℕ)
    → booked_by (map play_of (with_halted w.number keep w.state.held)) t + released_at w.segments w.start keep t
    ≡ booked_in w.state t
booked-halted w keep t =
    let around = plays-around w in
    ap (λ (l : List Booked). booked_by l t + released_at w.segments w.start keep t) (around.become keep)
    ∙ booked-cut around.before around.after (truncated_play w.start w.segments keep) t
    ∙ ap (λ (l : List Booked). booked_by l t) (sym around.were)
