use Rattle.admission.proofs.HistoryPrefixes.{legal_history}
use Rattle.std.proofs.Common.{◌≡◌, Option, None, Some, arith, refl, sym, ap, subst, ◌∙◌}
use Rattle.std.specs.Prelude.{IsSome, IsSomeAnd}
use Rattle.plan_cert.specs.PlanSlots.{total_bytes}
use Rattle.slot_calendar.specs.Plays.{whole_play}
use Rattle.admission.specs.Histories.{state_after}
use Rattle.admission.proofs.Admissions.{IsOpenEntry, open-entry, open-inside}
use Rattle.admission.proofs.Calendars.{cut-allowed, stands-halted}
use Rattle.admission.proofs.Halts.{WholePlay}
use Rattle.admission.proofs.operations.release_play.Goals as goal
use Rattle.admission.proofs.operations.release_play.Goals.{After-law_booked_plan_can_be_released}

some_there : {A : Type 0} (o : Option A) (P : A → Type 0) → IsSomeAnd o P → IsSome o
some_there None P here = absurd here
some_there (Some x) P here = refl

-- the plan and the start that it says are the play's
found : (c : After-law_booked_plan_can_be_released)
    → (open_ : IsOpenEntry c.args.entries.now c.args.number c.args.keep c.index-entries-number.result)
    → (c.unwrap-start.result.0.now ≡ open_.held.play.segments) × (c.unwrap-start.result.1 ≡ open_.held.play.start)
found c open_ =
    subst (λ o. IsSomeAnd o (λ p. (p.0.now ≡ open_.held.play.segments) × (p.1 ≡ open_.held.play.start)))
    c.unwrap-start.ensures (c.admission_of.ensures _ _ _ open_.command_is open_.answer_is)

-- the play has all its bytes, as its entry admitted it
abbrev whole : After-law_booked_plan_can_be_released → WholePlay
whole c =
    let open_ = open-entry (legal_history c.requires.legal) c.requires.can c.index-entries-number.is in
    let play = open_.held.play in let is = found c open_ in record {
      found = record {
        state = state_after c.args.entries.now;
        number = c.args.number;
        held = open_.held;
        is = open_.is;
      };
      start = c.unwrap-start.result.1;
      segments = c.unwrap-start.result.0.now;
      play_is = open_.play_is ∙ ap (λ s. whole_play s play.segments) (sym is.1)
          ∙ ap (λ p. whole_play c.unwrap-start.result.1 p) (sym is.0);
    }

pub offset_bounds-entries-number : goal.offset_bounds-entries-number
offset_bounds-entries-number c =
    omega (
      arith,
      open-inside c.args.calendar.now.steps c.args.entries.now c.args.number c.args.keep c.requires.legal
          c.requires.can,
    )

pub bounds-entries-number : goal.bounds-entries-number
bounds-entries-number c =
    open-inside c.args.calendar.now.steps c.args.entries.now c.args.number c.args.keep c.requires.legal c.requires.can

pub unwrap-start-requires : goal.unwrap-start-requires
unwrap-start-requires c =
    let open_ = open-entry (legal_history c.requires.legal) c.requires.can c.index-entries-number.is in
    some_there c.admission_of.result _ (c.admission_of.ensures _ _ _ open_.command_is open_.answer_is)

pub release-requires-clause-keep : goal.release-requires-clause-keep
release-requires-clause-keep c =
    let open_ = open-entry (legal_history c.requires.legal) c.requires.can c.index-entries-number.is in
    let is = found (goal.at.release-requires-clause-keep c).After-law_booked_plan_can_be_released open_ in
    omega (arith, open_.small, ap total_bytes is.0)

pub release-requires-clause-booked : goal.release-requires-clause-booked
release-requires-clause-booked c =
    cut-allowed c.args.keep (whole (goal.at.release-requires-clause-booked c).After-law_booked_plan_can_be_released)
    c.requires.follows.stands
    (λ before after. c.law_booked_plan_can_be_released.ensures c.args.calendar.now before after
    c.unwrap-start.result.0.now c.unwrap-start.result.1 c.args.keep)

pub returns-clause-next : goal.returns-clause-next
returns-clause-next c = λ place. record {
  now = c.release.ensures.now ∙ c.requires.follows.now;
  stands = stands-halted c.args.keep (whole (goal.at.returns-clause-next c).After-law_booked_plan_can_be_released)
      c.requires.follows.stands c.release.ensures.stands;
}
