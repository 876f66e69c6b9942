use Rattle.std.proofs.Common.{◌≡◌, ◌≤◌, ◌+◌, ◌-◌, [], ◌∷◌, arith, sym, ap, ◌∙◌, inl, inr}
use Rattle.std.proofs.lemmas.Bool.{cases_lt}
use Rattle.slot_calendar.specs.Plays.{released_at}
use Rattle.slot_calendar.proofs.PlanSlots.{cut-after, cut-here, one-slots, sent-next}
use Rattle.slot_calendar.proofs.SlotChanges.{OneSlotMore, changed-next, unchanged-next}
use Rattle.slot_calendar.proofs.booking.release_segment.Goals as goal

pub overflow_sub-over : goal.overflow_sub-over
overflow_sub-over c =
    let i = c.loop-passed in
    let segments = c.args.segment ∷ [] in
    let sent = c.sent_through.ensures.sent c.args.from in let over = c.saturating_sub-over.ensures in
    omega (arith, sent-next segments c.args.from i.passed, sent, i.invariant.before_is, over)

pub release_slot-requires : goal.release_slot-requires
release_slot-requires c = λ from. (
    let i = c.loop-passed in
    let segments = c.args.segment ∷ [] in
    let place = c.args.from + i.passed in
    let sent = c.sent_through.ensures.sent c.args.from in let over = c.saturating_sub-over.ensures in
    let cut : released_at segments c.args.from c.args.keep place ≡ c.saturating_sub-over.result - i.before =
    omega (arith, cut-here segments c.args.from c.args.keep i.passed, i.invariant.before_is, over, sent) in
    let since : c.args.ring.now.first ≤ place = omega (arith, from, i.invariant.first_is) in
    omega (arith, cut, c.requires.booked place since, i.invariant.rest place since (omega arith))
    )

pub loop-passed-preserved : goal.loop-passed-preserved
loop-passed-preserved c =
    let i = c.loop-passed in
    let segments = c.args.segment ∷ [] in
    let place = c.args.from + i.passed in
    let by = c.saturating_sub-over.result - i.before in
    let sent = c.sent_through.ensures.sent c.args.from in let over = c.saturating_sub-over.ensures in
    let cut : released_at segments c.args.from c.args.keep place ≡ by =
    omega (arith, cut-here segments c.args.from c.args.keep i.passed, i.invariant.before_is, over, sent) in
    let step : OneSlotMore place c.args.ring.now i.ring c.release_slot.new.ring =
    record { first_is = i.invariant.first_is; others = c.release_slot.ensures.others; rest = i.invariant.rest } in
    record {
      before_is = c.saturating_sub-over.ensures
          ∙ ap (λ n. n - c.args.keep) (sym (c.sent_through.ensures.sent c.args.from));
      first_is = c.release_slot.ensures.now ∙ i.invariant.first_is;
      done = λ t since less. changed-next step (λ t was is. is + released_at segments c.args.from c.args.keep t ≡ was)
          (λ from. omega (arith, cut, c.release_slot.ensures.at (omega (arith, from, i.invariant.first_is))))
          i.invariant.done since (omega (arith, less));
      rest = λ t since more. unchanged-next step since (omega (arith, more));
    }

pub returns-clause-totals : goal.returns-clause-totals
returns-clause-totals c = λ t since. (
    let i = c.loop-passed in
    let s = c.args.segment in
    elim (cases_lt t (c.args.from + i.passed)) [
      | inl less ↦ i.invariant.done t since less
      | inr past ↦ (
          let none : released_at (s ∷ []) c.args.from c.args.keep t ≡ 0 =
          cut-after (s ∷ []) c.args.from c.args.keep t (omega (arith, one-slots s, past)) in
          omega (arith, i.invariant.rest t since past, none)
          )
    ]
    )
