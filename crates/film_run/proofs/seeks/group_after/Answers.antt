use Rattle.std.proofs.Common.{subst, inl, inr, arith}
use Rattle.std.proofs.lemmas.Bool.{cases_eq}
use Rattle.film_run.specs.Seeks.{StartsGroup}
use Rattle.film_run.proofs.seeks.group_after.Goals as goal

pub loop-unit-preserved : goal.loop-unit-preserved
loop-unit-preserved c = record {
  after = omega arith;
  most = omega arith;
  first = λ other starts le.
      elim (cases_eq other c.loop-unit.unit) [
        | inl same ↦ absurd (c.if-not-is_start.ensures (subst (λ u. StartsGroup c.args.units.now u) same starts))
        | inr apart ↦ let h = c.loop-unit.invariant.first other starts le in omega arith
      ];
}
