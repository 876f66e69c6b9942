-- No slot is booked above its capacity: not in the beginning, and not after a step of the machine.
use Rattle.std.proofs.Common.{◌≡◌, ◌≤◌, ◌<◌, ◌+◌, ℕ, zero, suc, true, List, [], ◌∷◌, ◌++◌, length, get_or, map, take}
use Rattle.std.proofs.Common.{All, arith, refl, sym, ap, subst, ◌∙◌}
use Rattle.std.proofs.lemmas.List.{map-append, take_all}
use Rattle.std.proofs.lemmas.List.Elements.{All-nil}
use Rattle.std.proofs.lemmas.List.Sums.{sum_by_push}
use Rattle.plan_cert.specs.declared.Segment.{Segment}
use Rattle.plan_cert.specs.PlanSlots.{total_bytes}
use Rattle.slot_calendar.specs.declared.profiles.CapStep.{CapStep}
use Rattle.slot_calendar.specs.Plays.{Play as Booked, asked_at, booked_by, share_at, whole_play}
use Rattle.slot_calendar.proofs.PlayShares.{share-cut}
use Rattle.admission.specs.declared.entries.Entry.{Entry}
use Rattle.admission.specs.declared.entries.Command.{Command}
use Rattle.admission.specs.declared.entries.Command.TheVariants.{Play, Halt, Look}
use Rattle.admission.specs.declared.entries.Answer.{Answer}
use Rattle.admission.specs.declared.entries.Answer.TheVariants.{Admitted, Overflow, Halted, Looked}
use Rattle.admission.specs.Machine.{State, AdmittedPlay, plays_of, booked_in, IsNeverOverbooked, admitted_play}
use Rattle.admission.specs.Machine.{IsAnswer, next_state}
use Rattle.admission.specs.Histories.{IsLegal, state_after}
use Rattle.admission.proofs.HistoryPrefixes.{Machine, machine_after, no_entry, state-next, legal-at}
use Rattle.admission.proofs.Halts.{Halting, WholePlay, all-next, booked-halted, found_of, halting, holds-of, play_of}

-- ---- open plays have all their bytes
pub record IsWhole (h : AdmittedPlay) : Type 0 where
  pub whole : h.is_open ≡ true → h.play.keep ≡ total_bytes h.play.segments

-- ---- what a step books
pub booked-opened : (state : State) (number start t : ℕ) (segments : List Segment) →
    booked_by (map play_of (state.held ++ admitted_play number start segments ∷ [])) t
    ≤ booked_in state t + asked_at segments start t
booked-opened state number start t segments =
    let new : booked_by (map play_of (state.held ++ admitted_play number start segments ∷ [])) t
    ≡ booked_in state t + share_at t (whole_play start segments) =
    ap (λ l. booked_by l t) (map-append play_of state.held (admitted_play number start segments ∷ []))
    ∙ sum_by_push (share_at t) (plays_of state) (whole_play start segments) in
    omega (arith, new, share-cut segments start (total_bytes segments) t)

-- ---- after a legal history
pub record IsSound (steps : List CapStep) (state : State) : Type 0 where
  pub whole : All IsWhole state.held
  pub within : IsNeverOverbooked steps state

-- a play that can be halted has all its bytes
unfoldable pub whole-play : {state : State} {number keep : ℕ} → All IsWhole state.held
    → Halting state number keep → WholePlay
whole-play {state} {number} all h =
    let play = h.held.play in
    let K : ℕ → Booked = λ k. record { start = play.start; segments = play.segments; keep = k } in
    record {
      found = found_of h;
      start = play.start;
      segments = play.segments;
      play_is = ap K ((holds-of IsWhole number state.held h.held all h.is).whole h.is_open);
    }

within-next : (m : Machine) (place : ℕ) (command : Command) (answer : Answer)
    → IsAnswer m.steps m.state command answer → IsSound m.steps m.state
    → IsNeverOverbooked m.steps (next_state m.state place command answer)
unfolding whole-play
within-next m place (Play slot segments) (Admitted start) is sound = record {
  each = λ t. omega (arith, booked-opened m.state place start t segments, is.1.each t (omega arith));
}
within-next m place (Play slot segments) (Overflow over booked asked) is sound = record { each = sound.within.each }
within-next m place (Play slot segments) Halted is sound = absurd is
within-next m place (Play slot segments) (Looked now at booked) is sound = absurd is
within-next m place (Halt number keep) Halted is sound = record {
  each = λ t. omega (
    arith,
    booked-halted (whole-play sound.whole (halting m.state number keep is)) keep t,
    sound.within.each t,
  );
}
within-next m place (Halt number keep) (Admitted start) is sound = absurd is
within-next m place (Halt number keep) (Overflow over booked asked) is sound = absurd is
within-next m place (Halt number keep) (Looked now at booked) is sound = absurd is
within-next m place (Look slot) (Looked now at booked) is sound = sound.within
within-next m place (Look slot) (Admitted start) is sound = absurd is
within-next m place (Look slot) (Overflow over booked asked) is sound = absurd is
within-next m place (Look slot) Halted is sound = absurd is

sound-at : (steps : List CapStep) (xs : List Entry) (n : ℕ) → IsLegal steps xs → n ≤ length xs
    → IsSound steps (state_after (take n xs))
sound-at steps xs zero legal few = record { whole = All-nil IsWhole; within = record { each = λ t. omega arith } }
sound-at steps xs (suc n) legal few =
    let before = sound-at steps xs n legal (omega (arith, few)) in
    let e = get_or xs n no_entry in
    let inside : n < length xs = omega (arith, few) in
    let answered = legal-at steps xs n legal inside in
    let S : State → Type 0 = λ s. IsSound steps s in
    subst S (sym (state-next xs n inside)) (record {
      whole = all-next IsWhole (machine_after steps (take n xs)) n e answered (record {
        all = before.whole;
        opened = λ start segments _. record { whole = λ _. refl };
        halted = λ keep h _. record { whole = λ open_is. (let bad : ⊥ = cc in absurd bad) };
      });
      within = within-next (machine_after steps (take n xs)) n e.command e.answer answered before;
    })

pub sound-after : (steps : List CapStep) (xs : List Entry) → IsLegal steps xs → IsSound steps (state_after xs)
sound-after steps xs legal =
    let S : List Entry → Type 0 = λ l. IsSound steps (state_after l) in
    subst S (take_all (length xs) xs (omega arith)) (sound-at steps xs (length xs) legal (omega arith))
