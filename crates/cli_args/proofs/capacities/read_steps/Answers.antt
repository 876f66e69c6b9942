use Rattle.std.proofs.Common.{◌∙◌, ◌==◌, List, Some, sym, ap, subst, lit<, rules}
use Rattle.std.specs.List.{slice_split, fold}
use Rattle.std.specs.Prelude.{Option}
use Rattle.std.proofs.lemmas.Str.Pattern.{split_once_first}
use Rattle.slot_calendar.specs.declared.profiles.CapStep.{CapStep}
use Rattle.cli_args.specs.Capacities.{IsStepPrefix, add_step_text, step_of}
use Rattle.cli_args.proofs.CapacityLemmas.{none_front, part_first, part_last, part_bad, profile_of, some_more}
use Rattle.cli_args.proofs.capacities.read_steps.Goals as goal

pub returns-then-not-push_step_text-clause-steps : goal.returns-then-not-push_step_text-clause-steps
returns-then-not-push_step_text-clause-steps c =
    let first = rw c.in-Some.is at (split_once_first 44 c.loop-part.rest.now c.split_once.result
    c.split_once.ensures.cases (lit< tt)) in
    sym (
    c.loop-part.invariant.2
    ∙ part_bad c.loop-part.steps c.loop-part.rest.now first.0 first.1 first.2
    (c.push_step_text.ensures.refused c.if-not-push_step_text.true)
    )

pub loop-part-init : goal.loop-part-init
loop-part-init c = (
  search rules,
  subst IsStepPrefix (sym c.new-steps.ensures) none_front,
  ap (λ (steps : List CapStep). fold add_step_text (Some steps) (slice_split (λ b. b == 44) c.args.text.now))
      (sym c.new-steps.ensures),
)

pub loop-part-preserved : goal.loop-part-preserved
loop-part-preserved c =
    let first = rw c.in-Some.is at (split_once_first 44 c.loop-part.rest.now c.split_once.result
    c.split_once.ensures.cases (lit< tt)) in (
      search rules,
      c.push_step_text.ensures.front,
      c.loop-part.invariant.2
          ∙ part_first c.loop-part.steps c.loop-part.rest.now first.0 first.1 first.2
          ∙ ap (λ (o : Option (List CapStep)). fold add_step_text o
          (slice_split (λ b. b == 44) c.in-Some.after.now)) (c.push_step_text.ensures.put
          c.if-not-push_step_text.false),
    )

pub returns-then-push_step_text-clause-steps : goal.returns-then-push_step_text-clause-steps
returns-then-push_step_text-clause-steps c =
    let whole = rw c.in_default.is at (split_once_first 44 c.loop-part.rest.now c.split_once.result
    c.split_once.ensures.cases (lit< tt)) in
    sym (c.loop-part.invariant.2 ∙ part_last c.loop-part.steps c.loop-part.rest.now whole
    ∙ c.push_step_text-2.ensures.put c.if-push_step_text.true)

pub returns-else-push_step_text-clause-steps : goal.returns-else-push_step_text-clause-steps
returns-else-push_step_text-clause-steps c =
    let whole = rw c.in_default.is at (split_once_first 44 c.loop-part.rest.now c.split_once.result
    c.split_once.ensures.cases (lit< tt)) in
    sym (c.loop-part.invariant.2 ∙ part_last c.loop-part.steps c.loop-part.rest.now whole
    ∙ c.push_step_text-2.ensures.refused c.if-push_step_text.false)

pub returns-then-push_step_text-clause-profile : goal.returns-then-push_step_text-clause-profile
returns-then-push_step_text-clause-profile c =
    profile_of c.push_step_text-2.new.steps c.push_step_text-2.ensures.front
    (some_more c.loop-part.steps (step_of c.loop-part.rest.now) (c.push_step_text-2.ensures.put
    c.if-push_step_text.true))
