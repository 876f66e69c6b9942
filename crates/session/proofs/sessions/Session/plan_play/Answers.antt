use Rattle.std.proofs.Common.{arith, refl, inl, inr}
use Rattle.std.proofs.lemmas.Result.{err_from_is_err_and}
use Rattle.session.proofs.sessions.Session.plan_play.Goals as goal

pub returns-in_default-clause-exact : goal.returns-in_default-clause-exact
returns-in_default-clause-exact c = rw (← c.self.view_is) (inl (record {
  stored = c.stored_at-stored.result.now;
  at = c.stored_at-stored.ensures.film;
  none = c.in_default.ensures;
  refusal_is = refl;
}))

pub returns-clause-exact : goal.returns-clause-exact
returns-clause-exact c = rw (← c.self.view_is) (
  c.stored_at-stored.result.now,
  record {
    at = c.stored_at-stored.ensures.film;
    wanted = c.in-Some.wanted;
    asked = c.in-Some.ensures;
    run_is = c.run_and_counts.ensures.run;
    counts_is = c.run_and_counts.ensures.counts;
    goes_on = c.run_and_counts.ensures.goes_on;
    can_play = grind arith;
    plan_is = grind arith;
  },
)

pub returns-in_err-plan-clause-exact : goal.returns-in_err-plan-clause-exact
returns-in_err-plan-clause-exact c =
    let p = err_from_is_err_and c.from_residual.result c.from_residual.ensures.1 in
    rw (p.1, p.2, ← c.self.view_is) (inr (record {
      stored = c.stored_at-stored.result.now;
      at = c.stored_at-stored.ensures.film;
      wanted = c.in-Some.wanted;
      asked = c.in-Some.ensures;
      refused = c.in_err-plan.field-0.0;
      no_curves = grind arith;
      refusal_is = refl;
    }))
