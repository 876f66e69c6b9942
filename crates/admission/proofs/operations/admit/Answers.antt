use Rattle.std.proofs.Common.{◌≡◌, ◌<◌, ◌+◌, ℕ, List, arith, subst}
use Rattle.slot_calendar.specs.declared.profiles.CapStep.{CapStep}
use Rattle.slot_calendar.specs.Profiles.{capacity_at}
use Rattle.slot_calendar.specs.Calendars.{HasRoom, IsFirstOverflow, booked_at}
use Rattle.admission.specs.Machine.{booked_in, start_after}
use Rattle.slot_calendar.proofs.AllSlotOverflow.{room_everywhere, overflow_everywhere}
use Rattle.admission.proofs.Calendars.{stands-opened}
use Rattle.admission.proofs.operations.admit.Goals as goal

pub returns-in-None-clause-answer : goal.returns-in-None-clause-answer
returns-in-None-clause-answer c = λ state follows within. (
    let calendar = c.advance.new.self in
    let start = c.max-now.result + 1 in
    let R : List CapStep → Type 0 =
    λ steps. HasRoom calendar.first (booked_at calendar) (capacity_at steps) start c.args.plan.now in
    let after : calendar.first < start = omega arith in
    let at : start ≡ start_after state c.args.slot = omega (arith, follows.now) in (
      at,
      room_everywhere (record { stands = c.advance.ensures.stands _ follows.stands; within = within.each }) after
          (subst R c.advance.ensures.profile c.in-None.ensures),
    )
    )

pub returns-in-None-clause-next : goal.returns-in-None-clause-next
returns-in-None-clause-next c = λ state place follows. record {
  now = omega (arith, follows.now);
  stands = stands-opened c.book.new.self state.held place (c.max-now.result + 1) c.args.plan.now
      (c.book.ensures.stands _ (c.advance.ensures.stands _ follows.stands));
}

pub returns-in-Some-clause-answer : goal.returns-in-Some-clause-answer
returns-in-Some-clause-answer c = λ state follows within. (
    let calendar = c.advance.new.self in
    let start = c.max-now.result + 1 in
    let R : List CapStep → Type 0 =
    λ steps. IsFirstOverflow calendar.first (booked_at calendar)
    (capacity_at steps) start c.args.plan.now c.in-Some.over in
    let S : ℕ → Type 0 =
    λ n. IsFirstOverflow 0 (booked_in state) (capacity_at c.args.calendar.now.steps) n c.args.plan.now c.in-Some.over in
    let after : calendar.first < start = omega arith in
    let at : start ≡ start_after state c.args.slot = omega (arith, follows.now) in
    subst S at (overflow_everywhere
    (record { stands = c.advance.ensures.stands _ follows.stands; within = within.each }) after
    (subst R c.advance.ensures.profile c.in-Some.ensures))
    )

pub returns-in-Some-clause-next : goal.returns-in-Some-clause-next
returns-in-Some-clause-next c = λ state place follows. record {
  now = omega (arith, follows.now);
  stands = c.advance.ensures.stands _ follows.stands;
}
