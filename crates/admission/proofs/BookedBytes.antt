-- What an entry more does to what is booked; where a play begins.
use Rattle.std.proofs.Common.{◌≡◌, ◌+◌, ℕ, false, List, [], ◌∷◌, ◌++◌, max, length, get_or, take}
use Rattle.std.proofs.Common.{arith, refl, sym, ap, subst, ◌∙◌}
use Rattle.std.proofs.lemmas.Bool.{false≢true}
use Rattle.std.proofs.lemmas.List.{map-append}
use Rattle.std.proofs.lemmas.List.Sums.{fold_more}
use Rattle.plan_cert.specs.declared.Segment.{Segment}
use Rattle.slot_calendar.specs.Calendars.{IsFirstOverflow}
use Rattle.slot_calendar.specs.declared.calendar.Overflow.{Overflow as Over}
use Rattle.slot_calendar.specs.Profiles.{capacity_at}
use Rattle.slot_calendar.specs.Plays.{Play as Booked, asked_at, released_at, booked_by}
use Rattle.slot_calendar.proofs.PlayShares.{booked-push}
use Rattle.admission.specs.declared.entries.Entry.{Entry}
use Rattle.admission.specs.declared.entries.Command.{Command}
use Rattle.admission.specs.declared.entries.Command.TheVariants.{Play, Halt, Look}
use Rattle.admission.specs.declared.entries.Answer.{Answer}
use Rattle.admission.specs.declared.entries.Answer.TheVariants.{Admitted, Overflow, Halted, Looked}
use Rattle.admission.specs.Machine.{State, CanHalt, admitted_play, booked_in, next_state, plays_of, start_after}
use Rattle.admission.specs.Histories.{asked_in, booked_after, is_admission, is_halt, latest_asked, state_after}
use Rattle.admission.proofs.Admissions.{admission-of}
use Rattle.admission.proofs.PlayCounts.{tally}
use Rattle.admission.proofs.Halts.{Found, booked-halted, play_of}
use Rattle.admission.proofs.OpenPlays.{can-still, whole-after}
use Rattle.admission.proofs.HistoryPrefixes.{PlacedAnswer, PlayAdmitted, entry_at, legal-take, no_entry, placed}
use Rattle.admission.proofs.HistoryPrefixes.{state-push, told}

abbrev entry_of : ℕ → Command → Answer → Entry
entry_of maker command answer = record { maker = maker; command = command; answer = answer }

after-entry : (xs : List Entry) (e : Entry) (t : ℕ)
    → booked_after (xs ++ e ∷ []) t ≡ booked_in (next_state (state_after xs) (length xs) e.command e.answer) t
after-entry xs e t = ap (λ (s : State). booked_in s t) (state-push xs e)

pub booked-admitted : (xs : List Entry) (maker slot start t : ℕ) (segments : List Segment)
    → booked_after (xs ++ entry_of maker (Play slot segments)
    (Admitted start) ∷ []) t ≡ booked_after xs t + asked_at segments start t
booked-admitted xs maker slot start t segments =
    let state = state_after xs in
    after-entry xs (entry_of maker (Play slot segments) (Admitted start)) t
    ∙ ap (λ (l : List Booked). booked_by l t)
    (map-append play_of state.held (admitted_play (length xs) start segments ∷ []))
    ∙ booked-push (plays_of state) segments start t

pub booked_halted : (maker keep t : ℕ) (a : PlayAdmitted) → CanHalt (state_after a.entries) a.number keep
    → booked_after (a.entries ++ entry_of maker
    (Halt a.number keep) Halted ∷ []) t + released_at a.segments a.start keep t
    ≡ booked_after a.entries t
booked_halted maker keep t a can =
    let found : Found = record {
      state = state_after a.entries;
      number = a.number;
      held = admitted_play a.number a.start a.segments;
      is = whole-after a (can-still a.steps a.entries a.number keep a.legal can).unhalted;
    } in
    ap (λ n. n + released_at a.segments a.start keep t)
    (after-entry a.entries (entry_of maker (Halt a.number keep) Halted) t)
    ∙ booked-halted (record { found = found; start = a.start; segments = a.segments; play_is = refl }) keep t

-- an entry that neither admits a play nor halts one
record BooksNothing (command : Command) (answer : Answer) : Type 0 where
  pub unopened : is_admission answer ≡ false
  pub unhalted : is_halt command ≡ false

other-state : (state : State) (place : ℕ) (command : Command) (answer : Answer) (t : ℕ) → BooksNothing command answer →
    booked_in (next_state state place command answer) t ≡ booked_in state t
other-state state place (Play slot segments) (Admitted start) t none = absurd (false≢true (sym none.unopened))
other-state state place (Play slot segments) (Overflow over booked asked) t none = refl
other-state state place (Play slot segments) Halted t none = refl
other-state state place (Play slot segments) (Looked now at booked) t none = refl
other-state state place (Halt number keep) answer t none = absurd (false≢true (sym none.unhalted))
other-state state place (Look slot) answer t none = refl

pub booked-other : (xs : List Entry) (e : Entry) (t : ℕ) → is_admission e.answer ≡ false
    → is_halt e.command ≡ false → booked_after (xs ++ e ∷ []) t ≡ booked_after xs t
booked-other xs e t unopened unhalted =
    after-entry xs e t
    ∙ other-state (state_after xs) (length xs) e.command e.answer t
    (record { unopened = unopened; unhalted = unhalted })

-- ---- where a play begins
begins : (p : PlacedAnswer) {slot : ℕ} → asked_in (entry_at p).command ≡ slot
    → start_after (state_after (take p.place p.entries)) slot ≡ latest_asked (take (p.place + 1) p.entries) + 1
begins p slot_is =
    let now_is =
    (tally p.steps (take p.place p.entries) (legal-take p.steps p.entries p.place p.legal)).1 in
    let latest : latest_asked (take (p.place + 1) p.entries)
    ≡ max (latest_asked (take p.place p.entries)) (asked_in (entry_at p).command) =
    fold_more (λ latest (x : Entry). max latest (asked_in x.command)) 0 p.entries p.place p.none p.inside in
    omega (arith, now_is, slot_is, latest)

pub start-is : (a : PlayAdmitted) → a.start ≡ latest_asked (take (a.number + 1) a.entries) + 1
start-is a =
    let e = get_or a.entries a.number no_entry in
    let found = admission-of e.command e.answer a.start a.segments (a.admission.admitted no_entry) in
    let p = placed a.history no_entry a.admission.inside in
    (told p found.1).0 ∙ begins p (ap asked_in found.1.0)

-- ---- what the entry of a refused play reports
pub refusal-is : (p : PlacedAnswer) {slot : ℕ} {over : Over} {segments : List Segment}
    → ((entry_at p).command ≡ Play slot segments) × ((entry_at p).answer ≡ Overflow over.slot over.booked over.asked)
    → IsFirstOverflow 0 (booked_after (take p.place p.entries)) (capacity_at p.steps)
    (latest_asked (take (p.place + 1) p.entries) + 1) segments over
refusal-is p {over} {segments} is =
    let F : ℕ → Type 0 =
    λ b. IsFirstOverflow 0 (booked_after (take p.place p.entries)) (capacity_at p.steps) b segments over in
    subst F (begins p (ap asked_in is.0)) (told p is)
