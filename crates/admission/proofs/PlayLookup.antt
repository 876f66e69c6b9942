-- The play of a number, after a step of the machine.
use Rattle.std.proofs.Common.{◌≡◌, ◌<◌, ℕ, false, eqb, List, [], ◌∷◌, ◌++◌, All, Some, arith, refl, sym, ap, ◌∙◌}
use Rattle.std.proofs.Common.{inl, inr}
use Rattle.std.proofs.lemmas.Bool.{cases_Bool, cond-false, cond-true, eq-eqb, eqb-true, ne_eqb}
use Rattle.std.proofs.lemmas.List.Elements.{All-head, All-tail}
use Rattle.plan_cert.specs.declared.Segment.{Segment}
use Rattle.admission.specs.declared.entries.Command.{Command}
use Rattle.admission.specs.declared.entries.Command.TheVariants.{Play, Halt, Look}
use Rattle.admission.specs.declared.entries.Answer.{Answer}
use Rattle.admission.specs.declared.entries.Answer.TheVariants.{Admitted, Overflow, Halted, Looked}
use Rattle.admission.specs.Machine.{State, AdmittedPlay, halted_play, with_halted, play_numbered, next_state}
use Rattle.admission.specs.Machine.{admitted_play}
use Rattle.admission.specs.Histories.{Halts}

-- a play more
pub found-push : (number : ℕ) (held : List AdmittedPlay) (h new : AdmittedPlay) → play_numbered number held ≡ Some h
    → play_numbered number (held ++ new ∷ []) ≡ Some h
found-push number [] h new is = let bad : ⊥ = cc in absurd bad
found-push number (x ∷ rest) h new is = elim (cases_Bool (eqb x.number number)) [
  | inl found ↦ cond-true (eqb x.number number) (Some x) (play_numbered number (rest ++ new ∷ [])) found
      ∙ sym (cond-true (eqb x.number number) (Some x) (play_numbered number rest) found) ∙ is
  | inr other ↦ cond-false (eqb x.number number) (Some x) (play_numbered number (rest ++ new ∷ [])) other
      ∙ found-push number rest h new (sym (cond-false (eqb x.number number) (Some x) (play_numbered number rest) other)
      ∙ is)
]

-- a new number is found at the end
pub found-new : (number start : ℕ) (segments : List Segment) (held : List AdmittedPlay)
    → All (λ h. h.number < number) held
    → play_numbered number (held ++ admitted_play number start segments ∷ []) ≡ Some (admitted_play number start
    segments)
found-new number start segments [] all =
    cond-true (eqb number number) (Some (admitted_play number start segments)) (play_numbered number [])
    (eq-eqb number number refl)
found-new number start segments (x ∷ rest) all =
    let less : x.number < number = All-head (λ h. h.number < number) x rest all in
    cond-false (eqb x.number number) (Some x)
    (play_numbered number (rest ++ admitted_play number start segments ∷ []))
    (ne_eqb x.number number (λ e. omega (arith, e, less)))
    ∙ found-new number start segments rest (All-tail (λ h. h.number < number) x rest all)

-- a halt of another play leaves it
pub found-other : (number other keep : ℕ) (held : List AdmittedPlay) → (other ≡ number → ⊥)
    → play_numbered number (with_halted other keep held) ≡ play_numbered number held
found-other number other keep [] apart = refl
found-other number other keep (x ∷ rest) apart = elim (cases_Bool (eqb x.number other)) [
  | inl that ↦ (
      let no : eqb x.number number ≡ false =
      ne_eqb x.number number (λ e. apart (sym (eqb-true x.number other that) ∙ e)) in
      ap (play_numbered number) (cond-true (eqb x.number other) (halted_play keep x ∷ rest)
      (x ∷ with_halted other keep rest) that)
      ∙ cond-false (eqb x.number number) (Some (halted_play keep x)) (play_numbered number rest) no
      ∙ sym (cond-false (eqb x.number number) (Some x) (play_numbered number rest) no)
      )
  | inr this ↦
      ap (play_numbered number)
      (cond-false (eqb x.number other) (halted_play keep x ∷ rest) (x ∷ with_halted other keep rest) this)
      ∙ found-under number x (with_halted other keep rest) rest (found-other number other keep rest apart)
]
  where
    found-under : (number : ℕ) (x : AdmittedPlay) (xs ys : List AdmittedPlay) → play_numbered number xs ≡ play_numbered
        number ys
        → play_numbered number (x ∷ xs) ≡ play_numbered number (x ∷ ys)
    found-under number x xs ys same = elim (cases_Bool (eqb x.number number)) [
      | inl here ↦ cond-true (eqb x.number number) (Some x) (play_numbered number xs) here
          ∙ sym (cond-true (eqb x.number number) (Some x) (play_numbered number ys) here)
      | inr later ↦ cond-false (eqb x.number number) (Some x) (play_numbered number xs) later ∙ same
          ∙ sym (cond-false (eqb x.number number) (Some x) (play_numbered number ys) later)
    ]

-- the halt of it closes it
pub found-closed : (number keep : ℕ) (held : List AdmittedPlay) (h : AdmittedPlay) → play_numbered number held ≡ Some h
    → play_numbered number (with_halted number keep held) ≡ Some (halted_play keep h)
found-closed number keep [] h is = let bad : ⊥ = cc in absurd bad
found-closed number keep (x ∷ rest) h is = elim (cases_Bool (eqb x.number number)) [
  | inl here ↦ (
      let same : Some x ≡ Some h = sym (cond-true (eqb x.number number) (Some x) (play_numbered number rest) here) ∙ is
      in
      let that : x ≡ h = cc in
      ap (play_numbered number) (cond-true (eqb x.number number) (halted_play keep x ∷ rest)
      (x ∷ with_halted number keep rest) here)
      ∙ cond-true (eqb x.number number) (Some (halted_play keep x)) (play_numbered number rest) here
      ∙ ap (λ (y : AdmittedPlay). Some (halted_play keep y)) that
      )
  | inr later ↦
      ap (play_numbered number) (cond-false (eqb x.number number) (halted_play keep x ∷ rest)
      (x ∷ with_halted number keep rest) later)
      ∙ cond-false (eqb x.number number) (Some x) (play_numbered number (with_halted number keep rest)) later
      ∙ found-closed number keep rest h
      (sym (cond-false (eqb x.number number) (Some x) (play_numbered number rest) later) ∙ is)
]

-- a play that the state holds, and that the command doesn't halt
pub record IsUntouched (state : State) (number : ℕ) (h : AdmittedPlay) (command : Command) : Type 0 where
  pub is : play_numbered number state.held ≡ Some h
  pub unhalted : ¬ Halts number command

-- the step leaves it
pub found-next : {state : State} {number : ℕ} {h : AdmittedPlay} (place : ℕ) (command : Command) (answer : Answer)
    → IsUntouched state number h command → play_numbered number (next_state state place command answer).held ≡ Some h
found-next {state} {number} {h} place (Play slot segments) (Admitted start) held =
    found-push number state.held h (admitted_play place start segments) held.is
found-next place (Play slot segments) (Overflow over booked asked) held = held.is
found-next place (Play slot segments) Halted held = held.is
found-next place (Play slot segments) (Looked now at booked) held = held.is
found-next {state} {number} place (Halt other keep) Halted held =
    found-other number other keep state.held held.unhalted ∙ held.is
found-next place (Halt other keep) (Admitted start) held = held.is
found-next place (Halt other keep) (Overflow over booked asked) held = held.is
found-next place (Halt other keep) (Looked now at booked) held = held.is
found-next place (Look slot) answer held = held.is
