-- Each play of a state stands in the history: the entry at its number admitted it.
use Rattle.std.proofs.Common.{◌≡◌, ◌≤◌, ◌<◌, ◌+◌, ℕ, zero, suc, List, length, get_or, take, All, Some, arith, sym}
use Rattle.std.proofs.Common.{ap, subst, ◌∙◌}
use Rattle.std.proofs.lemmas.List.{get_or_default, take_all}
use Rattle.std.proofs.lemmas.List.Elements.{All-nil, All-weaker}
use Rattle.plan_cert.specs.declared.Segment.{Segment}
use Rattle.plan_cert.specs.PlanSlots.{total_bytes}
use Rattle.slot_calendar.specs.declared.profiles.CapStep.{CapStep}
use Rattle.slot_calendar.specs.Plays.{Play as Booked, whole_play}
use Rattle.admission.specs.declared.entries.Entry.{Entry}
use Rattle.admission.specs.declared.entries.Command.{Command}
use Rattle.admission.specs.declared.entries.Command.TheVariants.{Play, Halt, Look}
use Rattle.admission.specs.declared.entries.Answer.{Answer}
use Rattle.admission.specs.declared.entries.Answer.TheVariants.{Admitted, Overflow, Halted, Looked}
use Rattle.admission.specs.Machine.{State, AdmittedPlay, CanHalt, play_numbered}
use Rattle.admission.specs.Histories.{IsLegal, play_admitted, state_after}
use Rattle.admission.proofs.HistoryPrefixes.{LegalHistory, machine_after, legal-at, next_of, no_entry, state-next}
use Rattle.admission.proofs.Halts.{all-next, halting, holds-of, split}
use Rattle.admission.proofs.CapacityBounds.{sound-after, whole-play}

-- the entry at its number, among the first `count`, admitted this play
pub record IsKnown (entries : List Entry) (count : ℕ) (h : AdmittedPlay) : Type 0 where
  pub inside : h.number < count
  pub admitted : (none : Entry) →
      play_admitted (get_or entries h.number none).command (get_or entries h.number none).answer
      ≡ Some (whole_play h.play.start h.play.segments)

known-more : (entries : List Entry) (n : ℕ) (held : List AdmittedPlay) → All (IsKnown entries n) held
    → All (IsKnown entries (n + 1)) held
known-more entries n held all =
    All-weaker (IsKnown entries n) (IsKnown entries (n + 1))
    (λ h known. record { inside = omega (arith, known.inside); admitted = known.admitted }) held all

pub known-at : (steps : List CapStep) (xs : List Entry) (n : ℕ) → IsLegal steps xs → n ≤ length xs
    → All (IsKnown xs n) (state_after (take n xs)).held
known-at steps xs zero legal few = All-nil (IsKnown xs 0)
known-at steps xs (suc n) legal few =
    let before = known-at steps xs n legal (omega (arith, few)) in
    let e = get_or xs n no_entry in
    let inside : n < length xs = omega (arith, few) in
    let at : n + 1 ≡ suc n = omega arith in
    let S : State → Type 0 = λ s. All (IsKnown xs (suc n)) s.held in
    let K : ℕ → Type 0 = λ k. All (IsKnown xs k) (next_of (state_after (take n xs)) n e).held in
    subst S (sym (state-next xs n inside))
    (subst K at (all-next (IsKnown xs (n + 1)) (machine_after steps (take n xs)) n e (legal-at steps xs n legal inside)
    (record {
      all = known-more xs n (state_after (take n xs)).held before;
      opened = λ start segments is. record {
        inside = omega arith;
        admitted = λ none.
            ap (λ (x : Entry). play_admitted x.command x.answer) (get_or_default xs n none no_entry inside) ∙ is;
      };
      halted = λ keep h known. record { inside = known.inside; admitted = known.admitted };
    })))

pub known-after : (steps : List CapStep) (xs : List Entry) → IsLegal steps xs
    → All (IsKnown xs (length xs)) (state_after xs).held
known-after steps xs legal =
    let S : List Entry → Type 0 = λ l. All (IsKnown xs (length xs)) (state_after l).held in
    subst S (take_all (length xs) xs (omega arith)) (known-at steps xs (length xs) legal (omega arith))

-- ---- the entry that admitted an open play
pub admission-of : (command : Command) (answer : Answer) (start : ℕ) (segments : List Segment) →
    play_admitted command answer ≡ Some (whole_play start segments) →
    (slot : ℕ) × ((command ≡ Play slot segments) × (answer ≡ Admitted start))
admission-of (Play slot plan) (Admitted from) start segments is =
    let same : whole_play from plan ≡ whole_play start segments = cc in
    (slot, (ap (λ (p : Booked). Play slot p.segments) same, ap (λ (p : Booked). Admitted p.start) same))
admission-of (Play slot plan) (Overflow over booked asked) start segments is = let bad : ⊥ = cc in absurd bad
admission-of (Play slot plan) Halted start segments is = let bad : ⊥ = cc in absurd bad
admission-of (Play slot plan) (Looked now at booked) start segments is = let bad : ⊥ = cc in absurd bad
admission-of (Halt number keep) answer start segments is = let bad : ⊥ = cc in absurd bad
admission-of (Look slot) answer start segments is = let bad : ⊥ = cc in absurd bad

-- the play that can be halted is in the state with all its bytes, and this entry admitted it
pub record IsOpenEntry (entries : List Entry) (number keep : ℕ) (e : Entry) : Type 0 where
  pub held : AdmittedPlay
  pub is : play_numbered number (state_after entries).held ≡ Some held
  pub play_is : held.play ≡ whole_play held.play.start held.play.segments
  pub slot : ℕ
  pub command_is : e.command ≡ Play slot held.play.segments
  pub answer_is : e.answer ≡ Admitted held.play.start
  pub small : keep ≤ total_bytes held.play.segments

-- its number is a place of the history
pub open-inside : (steps : List CapStep) (entries : List Entry) (number keep : ℕ) → IsLegal steps entries
    → CanHalt (state_after entries) number keep → number < length entries
open-inside steps entries number keep legal can =
    let state = state_after entries in
    let h = halting state number keep can in
    let known = holds-of (IsKnown entries (length entries)) number state.held h.held
    (known-after steps entries legal) h.is in
    omega (arith, known.inside, (split number state.held h.held h.is).number_is)

pub open-entry : (h : LegalHistory) {number keep : ℕ} → CanHalt (state_after h.entries) number keep →
    {e : Entry} → e ≡ get_or h.entries number e → IsOpenEntry h.entries number keep e
unfolding whole-play
open-entry history {number} {keep} can {e} at =
    let steps = history.steps in let entries = history.entries in let legal = history.legal in
    let state = state_after entries in
    let h = halting state number keep can in
    let play = h.held.play in
    let known = holds-of (IsKnown entries (length entries)) number state.held h.held
    (known-after steps entries legal) h.is in
    let N : ℕ → Type 0 =
    λ n. (none : Entry)
    → play_admitted (get_or entries n none).command (get_or entries n none).answer
    ≡ Some (whole_play play.start play.segments) in
    let admitted : N number = subst N (split number state.held h.held h.is).number_is known.admitted in
    let found = admission-of e.command e.answer play.start play.segments
    (ap (λ (x : Entry). play_admitted x.command x.answer) at ∙ admitted e) in
    record {
      held = h.held;
      is = h.is;
      play_is = (whole-play (sound-after steps entries legal).whole h).play_is;
      slot = found.0;
      command_is = found.1.0;
      answer_is = found.1.1;
      small = h.small;
    }
