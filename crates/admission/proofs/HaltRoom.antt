-- A journal that goes on by halts alone.
use Rattle.std.proofs.Common.{◌≡◌, ◌≤◌, ◌+◌, ◌-◌, ◌*◌, ℕ, Bool, true, false, cond, List, [], ◌∷◌, ◌++◌, length, get_or}
use Rattle.std.proofs.Common.{count_by, take, arith, refl, ap, subst, ◌∙◌}
use Rattle.std.specs.List.{All, AllByRecursion as ByRecursion}
use Rattle.std.proofs.lemmas.Bool.{false≢true}
use Rattle.std.proofs.lemmas.List.{get_or-append_right, length-append, take-append-le, take_all}
use Rattle.std.proofs.lemmas.List.Elements.{recursion_from_All}
use Rattle.std.proofs.lemmas.List.Sums.{sum_by-append, sum_by-cons}
use Rattle.slot_calendar.specs.declared.profiles.CapStep.{CapStep}
use Rattle.admission.specs.declared.entries.Entry.{Entry}
use Rattle.admission.specs.declared.entries.Command.{Command}
use Rattle.admission.specs.declared.entries.Command.TheVariants.{Play, Halt, Look}
use Rattle.admission.specs.declared.entries.Answer.{Answer}
use Rattle.admission.specs.declared.entries.Answer.TheVariants.{Admitted, Overflow, Halted, Looked}
use Rattle.admission.specs.Books.{places_taken}
use Rattle.admission.specs.Machine.{State, IsAnswer}
use Rattle.admission.specs.Histories.{IsLegal, is_admission, is_halt, state_after}
use Rattle.admission.proofs.PlayCounts.{admissions_of, tally, halts_of}
use Rattle.admission.proofs.HistoryPrefixes.{legal-take}

admits-none : (steps : List CapStep) (state : State) (command : Command) (answer : Answer)
    → IsAnswer steps state command answer → is_halt command ≡ true → is_admission answer ≡ false
admits-none steps state (Halt number keep) Halted is halt = refl
admits-none steps state (Halt number keep) (Admitted start) is halt = absurd is
admits-none steps state (Halt number keep) (Overflow over booked asked) is halt = absurd is
admits-none steps state (Halt number keep) (Looked now at booked) is halt = absurd is
admits-none steps state (Play slot segments) (Admitted start) is halt = absurd (false≢true halt)
admits-none steps state (Play slot segments) (Overflow over booked asked) is halt = refl
admits-none steps state (Play slot segments) Halted is halt = absurd is
admits-none steps state (Play slot segments) (Looked now at booked) is halt = absurd is
admits-none steps state (Look slot) (Looked now at booked) is halt = refl
admits-none steps state (Look slot) (Admitted start) is halt = absurd is
admits-none steps state (Look slot) (Overflow over booked asked) is halt = absurd is
admits-none steps state (Look slot) Halted is halt = absurd is

counted : (p : Entry → Bool) (b : Bool) (xs : List Entry) → ByRecursion (λ (e : Entry). p e ≡ b) xs
    → count_by p xs ≡ cond b 1 0 * length xs
counted p b [] all = omega arith
counted p b (e ∷ xs) all = omega (
  arith,
  ap (λ (x : Bool). cond {A = ℕ} x 1 0) all.0,
  sum_by-cons (λ (x : Entry). cond (p x) 1 0) e xs,
  counted p b xs all.1,
)

none-admitted : (steps : List CapStep) (entries more : List Entry) → IsLegal steps (entries ++ more)
    → All (λ (e : Entry). is_halt e.command ≡ true) more → All (λ (e : Entry). is_admission e.answer ≡ false) more
none-admitted steps entries more legal halts = λ k d inside.
    let i = length entries + k in
    let at : get_or (entries ++ more) i d ≡ get_or more k d =
    get_or-append_right entries more (length entries) i d refl (omega arith)
    ∙ (let back : i - length entries ≡ k = omega arith in ap (λ (j : ℕ). get_or more j d) back) in
    let long = length-append entries more in
    let answered = legal.each i d (omega (arith, long, inside)) in
    let is : IsAnswer steps (state_after (take i (entries ++ more))) (get_or more k d).command
    (get_or more k d).answer =
    subst (λ (e : Entry). IsAnswer steps (state_after (take i (entries ++ more))) e.command e.answer) at answered in
    admits-none steps (state_after (take i (entries ++ more))) (get_or more k d).command
    (get_or more k d).answer is (halts k d inside)

pub halts-fit : {steps : List CapStep} (entries more : List Entry) → IsLegal steps (entries ++ more)
    → All (λ (e : Entry). is_halt e.command ≡ true) more → length (entries ++ more) ≤ places_taken entries
halts-fit {steps} entries more legal halts =
    let front : take (length entries) (entries ++ more) ≡ entries =
    take-append-le (length entries) entries more (omega arith) ∙ take_all (length entries) entries (omega arith) in
    let first : IsLegal steps entries =
    subst (IsLegal steps) front (legal-take steps (entries ++ more) (length entries) legal) in
    let before = (tally steps entries first).0 in let after = (tally steps (entries ++ more) legal).0 in
    let all = counted (λ (e : Entry). is_halt e.command) true more
    (recursion_from_All (λ (e : Entry). is_halt e.command ≡ true) more halts) in
    let none = counted (λ (e : Entry). is_admission e.answer) false more
    (recursion_from_All (λ (e : Entry). is_admission e.answer ≡ false) more
    (none-admitted steps entries more legal halts)) in
    let halted : halts_of (entries ++ more) ≡ halts_of entries + halts_of more =
    sum_by-append (λ (e : Entry). cond (is_halt e.command) 1 0) entries more in
    let admitted : admissions_of (entries ++ more) ≡ admissions_of entries + admissions_of more =
    sum_by-append (λ (e : Entry). cond (is_admission e.answer) 1 0) entries more in
    omega (arith, before, after, all, none, halted, admitted, length-append entries more)
