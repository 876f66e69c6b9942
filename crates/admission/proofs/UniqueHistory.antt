-- The machine gives one answer, so a list of commands has one legal history.
use Rattle.std.proofs.Common.{◌≡◌, ◌≤◌, ◌<◌, ◌+◌, ℕ, zero, suc, List, length, get_or, map, take, arith, refl, sym}
use Rattle.std.proofs.Common.{ap, subst, ◌∙◌}
use Rattle.std.proofs.lemmas.List.{get_or-map, length-map, take_all, take_more_same}
use Rattle.slot_calendar.specs.declared.profiles.CapStep.{CapStep}
use Rattle.slot_calendar.specs.Profiles.{capacity_at}
use Rattle.slot_calendar.specs.declared.calendar.Overflow.{Overflow as Over}
use Rattle.slot_calendar.specs.Calendars.{HasRoom}
use Rattle.slot_calendar.proofs.FirstOverflow.{no-room, overflow-once as one-overflow}
use Rattle.admission.specs.declared.entries.Entry.{Entry}
use Rattle.admission.specs.declared.entries.Command.{Command}
use Rattle.admission.specs.declared.entries.Command.TheVariants.{Play, Halt, Look}
use Rattle.admission.specs.declared.entries.Answer.{Answer}
use Rattle.admission.specs.declared.entries.Answer.TheVariants.{Admitted, Overflow, Halted, Looked}
use Rattle.admission.specs.Machine.{IsAnswer, booked_in}
use Rattle.admission.specs.Histories.{IsLegal, state_after}
use Rattle.admission.proofs.HistoryPrefixes.{Machine, machine_after, legal-at, no_entry}

pub answer-once : (m : Machine) (command : Command) (a b : Answer) → IsAnswer m.steps m.state command a
    → IsAnswer m.steps m.state command b → a ≡ b
answer-once m (Play slot segments) (Admitted start) (Admitted other) x y = ap (λ n. Admitted n) (x.0 ∙ sym y.0)
answer-once m (Play slot segments) (Admitted start) (Overflow over booked asked) x y =
    let R : ℕ → Type 0 = λ n. HasRoom 0 (booked_in m.state) (capacity_at m.steps) n segments in
    absurd (no-room y (subst R x.0 x.1))
answer-once m (Play slot segments) (Overflow over booked asked) (Admitted start) x y =
    let R : ℕ → Type 0 = λ n. HasRoom 0 (booked_in m.state) (capacity_at m.steps) n segments in
    absurd (no-room x (subst R y.0 y.1))
answer-once m (Play slot segments) (Overflow over booked asked) (Overflow other have want) x y =
    let a : Over = record { slot = over; booked = booked; asked = asked } in
    let b : Over = record { slot = other; booked = have; asked = want } in
    ap (λ (o : Over). Overflow o.slot o.booked o.asked) (one-overflow {a = a} {b = b} x y)
answer-once m (Play slot segments) (Admitted start) Halted x y = absurd y
answer-once m (Play slot segments) (Admitted start) (Looked now at booked) x y = absurd y
answer-once m (Play slot segments) (Overflow over booked asked) Halted x y = absurd y
answer-once m (Play slot segments) (Overflow over booked asked) (Looked now at have) x y = absurd y
answer-once m (Play slot segments) Halted b x y = absurd x
answer-once m (Play slot segments) (Looked now at booked) b x y = absurd x
answer-once m (Halt number keep) Halted Halted x y = refl
answer-once m (Halt number keep) Halted (Admitted start) x y = absurd y
answer-once m (Halt number keep) Halted (Overflow over booked asked) x y = absurd y
answer-once m (Halt number keep) Halted (Looked now at booked) x y = absurd y
answer-once m (Halt number keep) (Admitted start) b x y = absurd x
answer-once m (Halt number keep) (Overflow over booked asked) b x y = absurd x
answer-once m (Halt number keep) (Looked now at booked) b x y = absurd x
answer-once m (Look slot) (Looked now at booked) (Looked then there have) x y =
    let now_is : now ≡ then = x.0 ∙ sym y.0 in
    let at_is : at ≡ there = x.1 ∙ sym y.1 in
    let booked_is : booked ≡ have = x.2 ∙ ap (booked_in m.state) at_is ∙ sym y.2 in
    ap (λ n. Looked n at booked) now_is ∙ ap (λ n. Looked then n booked) at_is ∙ ap (λ n. Looked then there n) booked_is
answer-once m (Look slot) (Looked now at booked) (Admitted start) x y = absurd y
answer-once m (Look slot) (Looked now at booked) (Overflow over have asked) x y = absurd y
answer-once m (Look slot) (Looked now at booked) Halted x y = absurd y
answer-once m (Look slot) (Admitted start) b x y = absurd x
answer-once m (Look slot) (Overflow over booked asked) b x y = absurd x
answer-once m (Look slot) Halted b x y = absurd x

-- ---- histories
-- entries of one maker, command and answer are one
entry-same : (a b : Entry) → a.maker ≡ b.maker → a.command ≡ b.command → a.answer ≡ b.answer → a ≡ b
entry-same a b maker command answer =
    let M : ℕ → Entry = λ n. record { maker = n; command = a.command; answer = a.answer } in
    let C : Command → Entry = λ c. record { maker = b.maker; command = c; answer = a.answer } in
    let A : Answer → Entry = λ x. record { maker = b.maker; command = b.command; answer = x } in
    ap M maker ∙ ap C command ∙ ap A answer

long-map : {Y : Type 0} (f : Entry → Y) (xs ys : List Entry) → map f xs ≡ map f ys → length xs ≡ length ys
long-map f xs ys same = sym (length-map xs f) ∙ ap length same ∙ length-map ys f

-- two histories of the same commands by the same makers
pub record HaveSameCommands (xs ys : List Entry) : Type 0 where
  pub makers : map (λ (e : Entry). e.maker) xs ≡ map (λ (e : Entry). e.maker) ys
  pub commands : map (λ (e : Entry). e.command) xs ≡ map (λ (e : Entry). e.command) ys

same-entries : {xs ys : List Entry} → HaveSameCommands xs ys → (n : ℕ) → n < length xs
    → ((get_or xs n no_entry).maker ≡ (get_or ys n no_entry).maker)
    × ((get_or xs n no_entry).command ≡ (get_or ys n no_entry).command)
same-entries {xs} {ys} same n inside =
    (at (λ (e : Entry). e.maker) same.makers, at (λ (e : Entry). e.command) same.commands)
  where
    at : {Y : Type 0} (f : Entry → Y) → map f xs ≡ map f ys → f (get_or xs n no_entry) ≡ f (get_or ys n no_entry)
    at f is =
        let within : n < length ys = omega (arith, inside, long-map f xs ys is) in
        sym (get_or-map f xs n no_entry (f no_entry) inside) ∙ ap (λ l. get_or l n (f no_entry)) is
        ∙ get_or-map f ys n no_entry (f no_entry) within

-- two legal histories of the same commands
pub record SameHistories : Type 0 where
  pub steps : List CapStep
  pub one : List Entry
  pub other : List Entry
  pub legal : IsLegal steps one
  pub other_legal : IsLegal steps other
  pub same : HaveSameCommands one other

same-front : (h : SameHistories) (n : ℕ) → n ≤ length h.one → take n h.one ≡ take n h.other
same-front h zero few = refl
same-front h (suc n) few =
    let xs = h.one in let ys = h.other in
    let long = long-map (λ (e : Entry). e.maker) xs ys h.same.makers in
    let inside : n < length xs = omega (arith, few) in
    let within : n < length ys = omega (arith, few, long) in
    let before = same-front h n (omega (arith, few)) in
    let a = get_or xs n no_entry in
    let b = get_or ys n no_entry in
    let same = same-entries h.same n inside in
    let S : List Entry → Type 0 = λ l. IsAnswer h.steps (state_after l) a.command a.answer in
    let C : Command → Type 0 = λ k. IsAnswer h.steps (state_after (take n ys)) k a.answer in
    let here = subst C same.1 (subst S before (legal-at h.steps xs n h.legal inside)) in
    let answer = answer-once (machine_after h.steps (take n ys)) b.command a.answer b.answer here
    (legal-at h.steps ys n h.other_legal within) in
    let at : n + 1 ≡ suc n = omega arith in
    let T : ℕ → Type 0 = λ k. take k xs ≡ take k ys in
    subst T at (take_more_same xs ys n no_entry inside within before (entry-same a b same.0 same.1 answer))

pub history-once : (h : SameHistories) → h.one ≡ h.other
history-once h =
    let long = long-map (λ (e : Entry). e.maker) h.one h.other h.same.makers in
    sym (take_all (length h.one) h.one (omega arith)) ∙ same-front h (length h.one) (omega arith)
    ∙ take_all (length h.one) h.other (omega (arith, long))
