use Rattle.std.proofs.Common.{◌≡◌, ◌+◌, ◌-◌, [], ◌∷◌, arith, sym, ◌∙◌, inl, inr}
use Rattle.std.proofs.lemmas.Bool.{cases_lt}
use Rattle.slot_calendar.specs.Plays.{asked_at}
use Rattle.slot_calendar.proofs.PlanSlots.{asked-after, asked-here, one-slots, sent-next}
use Rattle.slot_calendar.proofs.SlotChanges.{OneSlotMore, changed-next, unchanged-next}
use Rattle.slot_calendar.proofs.booking.book_segment.Goals as goal

pub overflow_sub-sent : goal.overflow_sub-sent
overflow_sub-sent c =
    let i = c.loop-passed in
    let sent = c.sent_through-sent.ensures.sent c.args.from in
    omega (arith, sent-next (c.args.segment ∷ []) c.args.from i.passed, i.invariant.before_is, sent)

pub loop-passed-preserved : goal.loop-passed-preserved
loop-passed-preserved c =
    let i = c.loop-passed in
    let segments = c.args.segment ∷ [] in
    let place = c.args.from + i.passed in
    let by = c.sent_through-sent.result - i.before in
    let sent = c.sent_through-sent.ensures.sent c.args.from in
    let asked : asked_at segments c.args.from place ≡ by =
    omega (arith, asked-here segments c.args.from i.passed, i.invariant.before_is, sent) in
    let step : OneSlotMore place c.args.ring.now i.ring c.raise.new.self =
    record { first_is = i.invariant.first_is; others = c.raise.ensures.others; rest = i.invariant.rest } in
    record {
      before_is = sym (c.sent_through-sent.ensures.sent c.args.from);
      first_is = c.raise.ensures.now ∙ i.invariant.first_is;
      stale_is = c.raise.ensures.stale ∙ i.invariant.stale_is;
      done = λ t since less. changed-next step (λ t was is. is ≡ was + asked_at segments c.args.from t)
          (λ _. omega (arith, c.raise.ensures.at, asked)) i.invariant.done since (omega (arith, less));
      rest = λ t since more. unchanged-next step since (omega (arith, more));
    }

pub returns-clause-totals : goal.returns-clause-totals
returns-clause-totals c = λ t since. (
    let i = c.loop-passed in
    let s = c.args.segment in
    elim (cases_lt t (c.args.from + i.passed)) [
      | inl less ↦ i.invariant.done t since less
      | inr past ↦ (
          let none : asked_at (s ∷ []) c.args.from t ≡ 0 =
          asked-after (s ∷ []) c.args.from t (omega (arith, one-slots s, past)) in
          omega (arith, i.invariant.rest t since past, none)
          )
    ]
    )
