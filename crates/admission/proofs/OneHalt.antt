-- A play is halted once at most, and once where no play is open.
use Rattle.std.proofs.Common.{◌≡◌, ◌<◌, ℕ, List, get_or, take, refl, sym, subst, arith, inl, inr}
use Rattle.std.proofs.lemmas.Bool.{cases_lt}
use Rattle.std.proofs.lemmas.List.{get_or-take, length-take-le}
use Rattle.plan_cert.specs.declared.Segment.{Segment}
use Rattle.slot_calendar.specs.declared.profiles.CapStep.{CapStep}
use Rattle.admission.specs.declared.entries.Entry.{Entry}
use Rattle.admission.specs.declared.entries.Command.{Command}
use Rattle.admission.specs.Histories.{Halts, IsAdmission, IsHalt, IsLegal, IsUnhalted, open_count, state_after}
use Rattle.admission.proofs.HistoryPrefixes.{legal_history, HaltStep, halt_in, legal-take, no_entry}
use Rattle.admission.proofs.Journals.{open-halted}
use Rattle.admission.proofs.OpenPlays.{can-still, halts-there, still-open}

-- no play is halted again
once-before : (later : HaltStep) {i keep : ℕ} → IsHalt later.entries i later.number keep → i < later.place → ⊥
once-before later {i} one less =
    let j = later.place in let xs = later.entries in
    let front = take j xs in
    let still = can-still later.steps front later.number later.keep (legal-take later.steps xs j later.legal)
    (halts-there later).can in
    let H : Command → Type 0 = λ c. Halts later.number c in
    let E : Entry → Type 0 = λ x. Halts later.number x.command in
    let here : Halts later.number (get_or xs i no_entry).command = subst H (sym (one.command_is no_entry)) refl in
    still.unhalted.each i no_entry (omega (arith, less, length-take-le j xs (omega (arith, later.halt.inside))))
    (subst E (sym (get_or-take j xs i no_entry less)) here)

pub halts-once : (steps : List CapStep) (xs : List Entry) (number keep kept i j : ℕ) → IsLegal steps xs
    → IsHalt xs i number keep → IsHalt xs j number kept → i ≡ j
halts-once steps xs number keep kept i j legal one other = elim (cases_lt i j) [
  | inl less ↦ absurd (once-before (halt_in (legal_history legal) other) one less)
  | inr more ↦ elim (cases_lt j i) [
    | inl less ↦ absurd (once-before (halt_in (legal_history legal) one) other less)
    | inr most ↦ omega (arith, more, most)
  ]
]

-- where no play is open each is halted
pub closed-halted : (steps : List CapStep) (xs : List Entry) (number start : ℕ) (segments : List Segment)
    → IsLegal steps xs → open_count xs ≡ 0 → IsAdmission xs number start segments → IsUnhalted xs number → ⊥
closed-halted steps xs number start segments legal none admission unhalted =
    let can = still-open steps xs number 0 legal (record {
      start = start;
      segments = segments;
      admission = admission;
      unhalted = unhalted;
      small = omega arith;
    }) in
    absurd (omega (arith, open-halted (state_after xs) 0 number 0 can, none))
