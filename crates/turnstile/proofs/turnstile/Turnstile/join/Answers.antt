use Rattle.std.proofs.Common.{arith, ap, sym, ◌∙◌}
use Rattle.turnstile.proofs.StepRules.{kept_by}
use Rattle.turnstile.proofs.SplitsAndJoins.{joins, resting}
use Rattle.turnstile.proofs.turnstile.Turnstile.join.Goals as goal

pub join_seat-requires : goal.join_seat-requires
join_seat-requires g c =
    let free = c.take_seat-place.ensures.free in let theirs = c.take_seat-theirs.ensures.free in
    let words = c.self.invariant.words in (
      sym (ap (λ p. p.id) c.take_seat-place.ensures.old) ∙ (c.requires.own ∙ sym (ap (λ x. x.id) c.self.view_is)),
      sym (ap (λ p. p.id) c.take_seat-theirs.ensures.old) ∙ (c.requires.other ∙ sym (ap (λ x. x.id) c.self.view_is)),
      theirs.empty,
      omega arith,
      joins (kept_by g.B.Kept.entries g.B.Kept.terms c.self.inside.table.shared.key.value)
          (resting c.take_seat-place.result free) (resting c.take_seat-theirs.result theirs)
          (λ first. c.requires.not_first (ap (λ p. p.number) c.take_seat-theirs.ensures.old ∙ first)),
    )
