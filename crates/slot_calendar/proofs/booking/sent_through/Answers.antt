use Rattle.std.proofs.Common.{◌+◌, [], ◌∷◌, arith, ◌∙◌, sym}
use Rattle.slot_calendar.proofs.PlanSlots.{one-some, one-bytes, sent-one, sent-most}
use Rattle.slot_calendar.proofs.booking.sent_through.Goals as goal

pub returns-clause-sent : goal.returns-clause-sent
returns-clause-sent c = λ from.
    sent-one c.args.segment from c.args.count (one-some c.args.segment c.requires.plan) c.requires.within
    ∙ sym c.first_bytes.ensures

pub returns-clause-small : goal.returns-clause-small
returns-clause-small c =
    let s = c.args.segment in
    omega (
      arith,
      sent-one s 0 c.args.count (one-some s c.requires.plan) c.requires.within,
      sent-most (s ∷ []) 0 (0 + c.args.count),
      one-bytes s,
      c.first_bytes.ensures,
    )
