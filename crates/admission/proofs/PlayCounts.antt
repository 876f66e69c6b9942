-- What follows from the entries of a history: the number of open plays, and now.
use Rattle.std.proofs.Common.{◌≡◌, ◌≤◌, ◌<◌, ◌+◌, ℕ, zero, suc, cond, max, List, length, get_or, take, count_by}
use Rattle.std.proofs.Common.{arith, refl, sym, ap, subst, ◌∙◌}
use Rattle.std.proofs.lemmas.List.{take_all}
use Rattle.std.proofs.lemmas.List.Sums.{fold_more, sum_by_more}
use Rattle.slot_calendar.specs.declared.profiles.CapStep.{CapStep}
use Rattle.admission.specs.declared.entries.Entry.{Entry}
use Rattle.admission.specs.declared.entries.Command.{Command}
use Rattle.admission.specs.declared.entries.Command.TheVariants.{Play, Halt, Look}
use Rattle.admission.specs.declared.entries.Answer.{Answer}
use Rattle.admission.specs.declared.entries.Answer.TheVariants.{Admitted, Overflow, Halted, Looked}
use Rattle.admission.specs.Machine.{State, IsAnswer, next_state, live}
use Rattle.admission.specs.Histories.{IsLegal, asked_in, is_admission, is_halt, latest_asked, open_count, state_after}
use Rattle.admission.proofs.HistoryPrefixes.{legal-at, no_entry, state-next}
use Rattle.admission.proofs.Journals.{open-asked, open-halted}

abbrev pub halts_of : List Entry → ℕ
halts_of entries = count_by (λ (e : Entry). is_halt e.command) entries

abbrev pub admissions_of : List Entry → ℕ
admissions_of entries = count_by (λ (e : Entry). is_admission e.answer) entries

open-next : (steps : List CapStep) (state : State) (place : ℕ) (command : Command) (answer : Answer) →
    IsAnswer steps state command answer →
    live (next_state state place command answer) + cond (is_halt command) 1 0
    ≡ live state + cond (is_admission answer) 1 0
open-next steps state place (Play slot segments) answer is =
    omega (arith, open-asked (record { steps = steps; state = state }) place slot segments answer is)
open-next steps state place (Halt number keep) Halted is = omega (arith, open-halted state place number keep is)
open-next steps state place (Halt number keep) (Admitted start) is = absurd is
open-next steps state place (Halt number keep) (Overflow over booked asked) is = absurd is
open-next steps state place (Halt number keep) (Looked now at booked) is = absurd is
open-next steps state place (Look slot) (Looked now at booked) is = refl
open-next steps state place (Look slot) (Admitted start) is = absurd is
open-next steps state place (Look slot) (Overflow over booked asked) is = absurd is
open-next steps state place (Look slot) Halted is = absurd is

now-next : (steps : List CapStep) (state : State) (place : ℕ) (command : Command) (answer : Answer) →
    IsAnswer steps state command answer →
    (next_state state place command answer).now ≡ max state.now (asked_in command)
now-next steps state place (Play slot segments) (Admitted start) is = refl
now-next steps state place (Play slot segments) (Overflow over booked asked) is = refl
now-next steps state place (Play slot segments) Halted is = absurd is
now-next steps state place (Play slot segments) (Looked now at booked) is = absurd is
now-next steps state place (Halt number keep) Halted is = omega arith
now-next steps state place (Halt number keep) (Admitted start) is = absurd is
now-next steps state place (Halt number keep) (Overflow over booked asked) is = absurd is
now-next steps state place (Halt number keep) (Looked now at booked) is = absurd is
now-next steps state place (Look slot) (Looked now at booked) is = omega arith
now-next steps state place (Look slot) (Admitted start) is = absurd is
now-next steps state place (Look slot) (Overflow over booked asked) is = absurd is
now-next steps state place (Look slot) Halted is = absurd is

record IsCounted (entries : List Entry) : Type 0 where
  open_are : open_count entries + halts_of entries ≡ admissions_of entries
  now_is : (state_after entries).now ≡ latest_asked entries

tally-at : (steps : List CapStep) (xs : List Entry) (n : ℕ) → IsLegal steps xs → n ≤ length xs
    → IsCounted (take n xs)
tally-at steps xs zero legal few = record { open_are = refl; now_is = refl }
tally-at steps xs (suc n) legal few =
    let before = tally-at steps xs n legal (omega (arith, few)) in
    let e = get_or xs n no_entry in
    let state = state_after (take n xs) in
    let inside : n < length xs = omega (arith, few) in
    let answered = legal-at steps xs n legal inside in
    let at : n + 1 ≡ suc n = omega arith in
    let next = state-next xs n inside in
    let open_is : open_count (take (suc n) xs) ≡ live (next_state state n e.command e.answer) =
    ap live next in
    let now_is : (state_after (take (suc n) xs)).now ≡ (next_state state n e.command e.answer).now =
    ap (λ (s : State). s.now) next in
    let halts : halts_of (take (suc n) xs) ≡ halts_of (take n xs) + cond (is_halt e.command) 1 0 =
    ap (λ k. halts_of (take k xs)) (sym at)
    ∙ sum_by_more (λ (x : Entry). cond (is_halt x.command) 1 0) xs n no_entry inside in
    let admissions : admissions_of (take (suc n) xs) ≡ admissions_of (take n xs) + cond (is_admission e.answer) 1 0 =
    ap (λ k. admissions_of (take k xs)) (sym at)
    ∙ sum_by_more (λ (x : Entry). cond (is_admission x.answer) 1 0) xs n no_entry inside in
    let latest : latest_asked (take (suc n) xs) ≡ max (latest_asked (take n xs)) (asked_in e.command) =
    ap (λ k. latest_asked (take k xs)) (sym at)
    ∙ fold_more (λ latest (x : Entry). max latest (asked_in x.command)) 0 xs n no_entry inside in
    record {
      open_are = omega (
        arith,
        before.open_are,
        open_is,
        halts,
        admissions,
        open-next steps state n e.command e.answer
            answered,
      );
      now_is = now_is ∙ now-next steps state n e.command e.answer answered
          ∙ ap (λ k. max k (asked_in e.command)) before.now_is ∙ sym latest;
    }

pub tally : (steps : List CapStep) (xs : List Entry) → IsLegal steps xs
    → (open_count xs + halts_of xs ≡ admissions_of xs) × ((state_after xs).now ≡ latest_asked xs)
tally steps xs legal =
    let is = subst IsCounted (take_all (length xs) xs (omega arith))
    (tally-at steps xs (length xs) legal (omega arith)) in
    (is.open_are, is.now_is)
