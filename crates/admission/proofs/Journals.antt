-- A book with one entry more.
use Rattle.std.proofs.Common.{◌≡◌, ◌≤◌, ◌+◌, ℕ, cond, List, [], ◌∷◌, ◌++◌, length, sum_by, arith, sym, ap, subst, ◌∙◌}
use Rattle.std.proofs.lemmas.List.{length_push}
use Rattle.std.proofs.lemmas.List.Sums.{sum_by-append, sum_by-cons, sum_by_push}
use Rattle.plan_cert.specs.declared.Segment.{Segment}
use Rattle.slot_calendar.specs.declared.profiles.CapStep.{CapStep}
use Rattle.slot_calendar.specs.Calendars.{CalendarState}
use Rattle.admission.specs.declared.entries.Entry.{Entry}
use Rattle.admission.specs.declared.entries.Noted.{Noted}
use Rattle.admission.specs.declared.entries.Command.{Command}
use Rattle.admission.specs.declared.entries.Command.TheVariants.{Play, Halt}
use Rattle.admission.specs.declared.entries.Answer.{Answer}
use Rattle.admission.specs.declared.entries.Answer.TheVariants.{Admitted, Overflow, Halted, Looked}
use Rattle.admission.specs.Machine.{State, AdmittedPlay, CanHalt, IsAnswer, halted_play, next_state, live}
use Rattle.admission.specs.Machine.{admitted_play}
use Rattle.admission.specs.Histories.{IsAnswered, IsLegal, is_admission, open_count, state_after}
use Rattle.admission.specs.Books.{IsNoted, Journal}
use Rattle.admission.specs.BookInvariant.{MatchesState, IsBookKept}
use Rattle.admission.proofs.HistoryPrefixes.{Machine, legal-push, next_of, state-push}
use Rattle.admission.proofs.Halts.{halting, split}

-- ---- the number of open plays
pub opens-most : (answer : Answer) → cond (is_admission answer) 1 0 ≤ 1
opens-most (Admitted start) = omega arith
opens-most (Overflow over booked asked) = omega arith
opens-most Halted = omega arith
opens-most (Looked now at booked) = omega arith

-- a play that was asked for
pub open-asked : (m : Machine) (place slot : ℕ) (segments : List Segment) (answer : Answer)
    → IsAnswer m.steps m.state (Play slot segments) answer
    → live (next_state m.state place (Play slot segments) answer)
    ≡ live m.state + cond (is_admission answer) 1 0
open-asked m place slot segments (Admitted start) is =
    sum_by_push (λ (h : AdmittedPlay). cond h.is_open 1 0) m.state.held (admitted_play place start segments)
open-asked m place slot segments (Overflow over booked asked) is = omega arith
open-asked m place slot segments Halted is = absurd is
open-asked m place slot segments (Looked now at booked) is = absurd is

-- a play that is halted
pub open-halted : (state : State) (place number keep : ℕ) → CanHalt state number keep
    → live (next_state state place (Halt number keep) Halted) + 1 ≡ live state
open-halted state place number keep can =
    let h = halting state number keep can in
    let parts = split number state.held h.held h.is in
    let f : AdmittedPlay → ℕ = λ x. cond x.is_open 1 0 in
    let one : f h.held ≡ 1 = ap (λ b. cond b 1 0) h.is_open in
    let old = ap (λ l. sum_by f l) parts.was ∙ sum_by-append f parts.before (h.held ∷ parts.after)
    ∙ ap (λ n. sum_by f parts.before + n) (sum_by-cons f h.held parts.after) in
    let new = ap (λ l. sum_by f l) (parts.becomes keep)
    ∙ sum_by-append f parts.before (halted_play keep h.held ∷ parts.after)
    ∙ ap (λ n. sum_by f parts.before + n) (sum_by-cons f (halted_play keep h.held) parts.after) in
    omega (arith, old, new, one)

-- ---- one entry more
-- the calendar and the entries of a book, with one entry more
pub record HasGrown (calendar new : CalendarState) (xs ys : List Entry) (e : Entry) : Type 0 where
  pub entries_are : ys ≡ xs ++ e ∷ []
  pub answered : IsAnswered calendar.steps (state_after xs) e
  pub steps_are : new.steps ≡ calendar.steps
  pub follows : MatchesState new (next_of (state_after xs) (length xs) e)

-- and its counts: how many of its plays are open then, and that as many places are left
pub record AreCounted (xs : List Entry) (e : Entry) (limit more : ℕ) : Type 0 where
  pub more_is : more ≡ live (next_of (state_after xs) (length xs) e)
  pub fits : length xs + 1 + more ≤ limit

pub kept-push : {calendar new : CalendarState} {xs ys : List Entry} {e : Entry} {limit count more room wide : ℕ}
    → IsBookKept calendar xs limit count room → HasGrown calendar new xs ys e → AreCounted xs e limit more
    → wide ≡ room → IsBookKept new ys limit more wide
kept-push {calendar} {new} {xs} {ys} {e} {more} kept grown counted wide_is =
    let is = grown.entries_are in
    let steps = grown.steps_are in
    let state : state_after ys ≡ next_of (state_after xs) (length xs) e = ap state_after is ∙ state-push xs e in
    let L : List Entry → Type 0 = λ l. IsLegal calendar.steps l in
    let S : List CapStep → Type 0 = λ s. IsLegal s ys in
    let open_is : open_count ys ≡ more = ap live state ∙ sym counted.more_is in
    record {
      legal = subst S (sym steps) (subst L (sym is) (legal-push calendar.steps xs e kept.legal grown.answered));
      follows = subst (MatchesState new) (sym state) grown.follows;
      count_is = sym open_is;
      within = omega (arith, open_is, ap length is, length_push xs e, counted.fits);
      few = kept.few;
      reserved = omega (arith, wide_is, kept.reserved);
    }

-- an answer that is noted after some entries, and what the call returns of it
pub record IsNotedAfter (xs ys : List Entry) (e : Entry) (noted : Noted) : Type 0 where
  pub place_is : noted.place ≡ length xs
  pub answer_is : noted.answer ≡ e.answer
  pub entries_are : ys ≡ xs ++ e ∷ []

pub noted-push : {steps same : List CapStep} {maker : ℕ} {xs ys : List Entry} {command : Command} {answer : Answer}
    {noted : Noted} (limit : ℕ) → IsLegal steps xs → IsAnswer steps (state_after xs) command answer →
    IsNotedAfter xs ys (record { maker = maker; command = command; answer = answer }) noted → same ≡ steps
    → IsNoted (record { steps = steps; limit = limit; entries = xs }) maker command noted
    (record { steps = same; limit = limit; entries = ys })
noted-push {steps} {same} {maker} {xs} {ys} {command} {answer} limit legal is after steps_are =
    let told = after.answer_is in
    let entries = after.entries_are in
    let e : Answer → Entry = λ a. record { maker = maker; command = command; answer = a } in
    let L : List Entry → Type 0 = λ l. IsLegal steps l in
    let S : List CapStep → Type 0 = λ s. IsLegal s ys in
    let J : List CapStep → List Entry → Journal = λ s l. record { steps = s; limit = limit; entries = l } in
    record {
      place_is = after.place_is;
      answer_is = subst (IsAnswer steps (state_after xs) command) (sym told) is;
      journal_is = ap (λ s. J s ys) steps_are ∙ ap (J steps) entries ∙ ap (λ a. J steps (xs ++ e a ∷ [])) (sym told);
      legal = subst S (sym steps_are) (subst L (sym entries) (legal-push steps xs (e answer) legal is));
    }
