-- The state after one entry more, and legal histories that grow, with their prefixes.
use Rattle.std.proofs.Common.{◌≡◌, ◌<◌, ◌+◌, ℕ, suc, List, [], ◌∷◌, ◌++◌, length, get_or, take, arith, sym, ap}
use Rattle.std.proofs.Common.{subst, ◌∙◌, inl, inr}
use Rattle.std.proofs.lemmas.Bool.{cases_order}
use Rattle.std.proofs.lemmas.List.{get_or_append_left, get_or_push, get_or-take, length-append, length-take}
use Rattle.std.proofs.lemmas.List.{length-take-le, take-append-le, take-take, take_at, take_more}
use Rattle.plan_cert.specs.declared.Segment.{Segment}
use Rattle.slot_calendar.specs.declared.profiles.CapStep.{CapStep}
use Rattle.admission.specs.declared.entries.Entry.{Entry}
use Rattle.admission.specs.declared.entries.Command.{Command}
use Rattle.admission.specs.declared.entries.Command.TheVariants.{Look}
use Rattle.admission.specs.declared.entries.Answer.{Answer}
use Rattle.admission.specs.declared.entries.Answer.TheVariants.{Halted}
use Rattle.admission.specs.Machine.{State, IsAnswer, beginning, next_state}
use Rattle.admission.specs.Histories.{IsAdmission, IsAnswered, IsHalt, IsLegal, state_after, state_from}

-- a list that has no entry i
pub no_entry : Entry
no_entry = record { maker = 0; command = Look 0; answer = Halted }

-- the machine: the steps of the link's capacity, and its state
pub record Machine : Type 0 where
  pub steps : List CapStep
  pub state : State

abbrev pub machine_after : List CapStep → List Entry → Machine
machine_after steps entries = record { steps = steps; state = state_after entries }

-- a legal history
pub record LegalHistory : Type 0 where
  pub steps : List CapStep
  pub entries : List Entry
  pub legal : IsLegal steps entries

abbrev pub legal_history : {steps : List CapStep} {entries : List Entry} → IsLegal steps entries → LegalHistory
legal_history {steps} {entries} legal = record { steps = steps; entries = entries; legal = legal }

-- it has admitted this play
pub record PlayAdmitted : Type 0 where
  pub history : LegalHistory
  pub open history use *
  pub number : ℕ
  pub start : ℕ
  pub segments : List Segment
  pub admission : IsAdmission entries number start segments

abbrev pub play_admitted_in : (h : LegalHistory) {number start : ℕ} {segments : List Segment}
    → IsAdmission h.entries number start segments → PlayAdmitted
play_admitted_in h {number} {start} {segments} admission =
    record { history = h; number = number; start = start; segments = segments; admission = admission }

-- its entry at a place halts a play
pub record HaltStep : Type 0 where
  pub history : LegalHistory
  pub open history use *
  pub place : ℕ
  pub number : ℕ
  pub keep : ℕ
  pub halt : IsHalt entries place number keep

abbrev pub halt_in : (h : LegalHistory) {place number keep : ℕ} → IsHalt h.entries place number keep → HaltStep
halt_in h {place} {number} {keep} halt =
    record { history = h; place = place; number = number; keep = keep; halt = halt }

-- its entry at a place
pub record PlacedAnswer : Type 0 where
  pub history : LegalHistory
  pub open history use *
  pub place : ℕ
  pub none : Entry
  pub inside : place < length entries

abbrev pub placed : (h : LegalHistory) (none : Entry) {place : ℕ} → place < length h.entries → PlacedAnswer
placed h none {place} inside = record { history = h; place = place; none = none; inside = inside }

abbrev pub entry_at : PlacedAnswer → Entry
entry_at p = get_or p.entries p.place p.none

-- its answer is the machine's to its command
pub told : (p : PlacedAnswer) {command : Command} {answer : Answer}
    → ((entry_at p).command ≡ command) × ((entry_at p).answer ≡ answer)
    → IsAnswer p.steps (state_after (take p.place p.entries)) command answer
told p {command} {answer} (c, a) =
    let state = state_after (take p.place p.entries) in
    subst (IsAnswer p.steps state command) a
    (subst (λ (k : Command). IsAnswer p.steps state k (entry_at p).answer) c (p.legal.each p.place p.none p.inside))

abbrev pub next_of : State → ℕ → Entry → State
next_of state place e = next_state state place e.command e.answer

from-push : (state : State) (place : ℕ) (xs : List Entry) (e : Entry)
    → state_from state place (xs ++ e ∷ []) ≡ next_of (state_from state place xs) (place + length xs) e
from-push state place [] e = let at : place ≡ place + 0 = omega arith in ap (λ n. next_of state n e) at
from-push state place (x ∷ xs) e =
    let at : place + 1 + length xs ≡ place + length (x ∷ xs) = omega arith in
    from-push (next_of state place x) (place + 1) xs e ∙ ap (λ n. next_of (state_from state place (x ∷ xs)) n e) at

-- one entry more
pub state-push : (xs : List Entry) (e : Entry) → state_after (xs ++ e ∷ []) ≡ next_of (state_after xs) (length xs) e
state-push xs e = let at : 0 + length xs ≡ length xs =
    omega arith in from-push beginning 0 xs e ∙ ap (λ n. next_of (state_after xs) n e) at

pub state-next : (xs : List Entry) (n : ℕ) → n < length xs
    → state_after (take (suc n) xs) ≡ next_of (state_after (take n xs)) n (get_or xs n no_entry)
state-next xs n inside =
    let at : suc n ≡ n + 1 = omega arith in
    ap (λ k. state_after (take k xs)) at ∙ ap state_after (take_more xs n no_entry inside)
    ∙ state-push (take n xs) (get_or xs n no_entry)
    ∙ ap (λ k. next_of (state_after (take n xs)) k (get_or xs n no_entry)) (length-take-le n xs (omega arith))

pub legal-push : (steps : List CapStep) (xs : List Entry) (e : Entry) → IsLegal steps xs
    → IsAnswered steps (state_after xs) e → IsLegal steps (xs ++ e ∷ [])
legal-push steps xs e legal answered = record {
  each = λ i none below. elim (cases_order i (length xs)) [
    | inl same ↦ (
        let S : List Entry → Type 0 = λ l. IsAnswered steps (state_after l) (get_or (xs ++ e ∷ []) i none) in
        let E : Entry → Type 0 = λ x. IsAnswered steps (state_after xs) x in
        subst S (sym (take_at xs (e ∷ []) i (sym same))) (subst E (sym (get_or_push xs e none i (sym same))) answered)
        )
    | inr (inl less) ↦ (
        let S : List Entry → Type 0 = λ l. IsAnswered steps (state_after l) (get_or (xs ++ e ∷ []) i none) in
        let E : Entry → Type 0 = λ x. IsAnswered steps (state_after (take i xs)) x in
        subst S (sym (take-append-le i xs (e ∷ []) (omega arith)))
        (subst E (sym (get_or_append_left xs (e ∷ []) none i less)) (legal.each i none less))
        )
    | inr (inr more) ↦ (let bad : ⊥ = omega (arith, more, below, length-append xs (e ∷ [])) in absurd bad)
  ];
}

-- a history is legal up to each place
pub legal-take : (steps : List CapStep) (xs : List Entry) (n : ℕ) → IsLegal steps xs → IsLegal steps (take n xs)
legal-take steps xs n legal = record {
  each = λ i none below. (
      let few = length-take n xs in
      let S : List Entry → Type 0 = λ l. IsAnswered steps (state_after l) (get_or (take n xs) i none) in
      let E : Entry → Type 0 = λ x. IsAnswered steps (state_after (take i xs)) x in
      subst S (sym (take-take i n xs (omega (arith, few, below))))
      (subst E (sym (get_or-take n xs i none (omega (arith, few, below))))
      (legal.each i none (omega (arith, few, below))))
      );
}

-- its entry at a place is answered in the state before it
pub legal-at : (steps : List CapStep) (xs : List Entry) (n : ℕ) → IsLegal steps xs → n < length xs
    → IsAnswered steps (state_after (take n xs)) (get_or xs n no_entry)
legal-at steps xs n legal inside = legal.each n no_entry inside
