use Rattle.std.proofs.Common.{arith, ap, sym, ◌∙◌}
use Rattle.turnstile.proofs.StepRules.{kept_by}
use Rattle.turnstile.proofs.SplitsAndJoins.{resting, splits}
use Rattle.turnstile.proofs.turnstile.Turnstile.split.Goals as goal

pub split_seat-other-requires : goal.split_seat-other-requires
split_seat-other-requires g c =
    let free = c.take_seat-place.ensures.free in let view = c.take_seat-place.ensures.view in
    let old = c.take_seat-place.ensures.old in
    let words = c.self.invariant.words in let count = view.splits_is in let few = c.requires.few in (
      sym (ap (λ p. p.id) old) ∙ (c.requires.own ∙ sym (ap (λ x. x.id) c.self.view_is)),
      omega arith,
      splits (kept_by g.B.Kept.entries g.B.Kept.terms c.self.inside.table.shared.key.value)
          (resting c.take_seat-place.result free) (view.number_is ∙ c.requires.first) (omega arith),
    )
