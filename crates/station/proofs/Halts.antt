-- Each play is halted by its own maker, and plays stay open among the entries of their makers.
use Rattle.std.proofs.Common.{◌≡◌, ◌<◌, ◌≤◌, ◌+◌, ℕ, suc, List, [], ◌∷◌, ◌++◌, length, get_or, arith, sym, ap}
use Rattle.std.proofs.Common.{subst, ◌∙◌}
use mathlib.Core.Logic.{dite}
use native.Mathlib.Decide.{dec_le}
use Rattle.std.proofs.lemmas.List.{get_or_append_left, get_or_push, length-append}
use Rattle.std.proofs.lemmas.List.Elements.{All-push}
use Rattle.slot_calendar.specs.declared.profiles.CapStep.{CapStep}
use Rattle.admission.specs.declared.entries.Command.TheVariants.{Halt}
use Rattle.admission.specs.declared.entries.Entry.{Entry}
use Rattle.admission.specs.Histories.{Halts, IsHalt, IsLegal}
use Rattle.admission.specs.Makers.{AreHaltsOwn, PlacedEntry, Admits, IsOpenAmong}
use Rattle.admission.proofs.HistoryPrefixes.{legal_history, halt_in}
use Rattle.admission.proofs.OpenPlays.{halt-later}

-- one more entry of a legal history, which halts a play of its own maker, or none
pub record IsOwnNext (steps : List CapStep) (xs : List Entry) (e : Entry) : Type 0 where
  pub legal : IsLegal steps (xs ++ e ∷ [])
  pub own : AreHaltsOwn xs
  pub last : (number keep : ℕ) (none : Entry) → e.command ≡ Halt number keep → e.maker ≡ (get_or xs number none).maker

-- it leaves each play halted by its own maker
pub halts_push : {steps : List CapStep} {xs : List Entry} {e : Entry} → IsOwnNext steps xs e
    → AreHaltsOwn (xs ++ e ∷ [])
halts_push {steps} {xs} {e} next = record {
  each = λ i number keep none halt.
      let earlier : number < i =
      halt-later (halt_in
      (legal_history next.legal) halt) in
      let inside = halt.inside in
      let long : length (xs ++ e ∷ []) ≡ length xs + 1 = length-append xs (e ∷ []) in
      let front : number < length xs = omega arith in
      let old : get_or (xs ++ e ∷ []) number none ≡ get_or xs number none =
      get_or_append_left xs (e ∷ []) none number front in
      dite (dec_le (suc i) (length xs))
      (λ (within : suc i ≤ length xs).
      let here : i < length xs = omega arith in
      let before : IsHalt xs i number keep =
      record {
        inside = here;
        command_is =
            λ d. ap (λ (z : Entry). z.command) (sym (get_or_append_left xs (e ∷ []) d i here)) ∙ halt.command_is d;
      } in
      ap (λ (z : Entry). z.maker) (get_or_append_left xs (e ∷ []) none i here)
      ∙ (next.own.each i number keep none before ∙ ap (λ (z : Entry). z.maker) (sym old)))
      (λ outside.
      let at : length xs ≡ i = omega arith in
      let is : get_or (xs ++ e ∷ []) i none ≡ e = get_or_push xs e none i at in
      ap (λ (z : Entry). z.maker) is
      ∙ (next.last number keep none (ap (λ (z : Entry). z.command) (sym is) ∙ halt.command_is none)
      ∙ ap (λ (z : Entry). z.maker) (sym old)));
}

-- what is open stays open while its maker halts other plays alone
pub open_push : (mine : List PlacedEntry) (m : PlacedEntry) (number keep : ℕ) → (Halts number m.entry.command → ⊥)
    → IsOpenAmong mine number keep → IsOpenAmong (mine ++ m ∷ []) number keep
open_push mine m number keep other o = record {
  start = o.start;
  segments = o.segments;
  index = o.index;
  inside = (let h = o.inside in let long = length-append mine (m ∷ []) in omega arith);
  admission = λ none. subst (λ (p : PlacedEntry). Admits p number o.start o.segments)
      (sym (get_or_append_left mine (m ∷ []) none o.index o.inside)) (o.admission none);
  unhalted = All-push (λ (p : PlacedEntry). Halts number p.entry.command → ⊥) mine m o.unhalted other;
  small = o.small;
}
