use Rattle.std.proofs.Common.{arith}
use Rattle.std.proofs.lemmas.Result.{err_from_is_err_and}
use Rattle.session.proofs.refusals.check_request.Goals as goal

pub returns-in_err-method-clause-judged : goal.returns-in_err-method-clause-judged
returns-in_err-method-clause-judged c =
    let p = err_from_is_err_and c.from_residual.result c.from_residual.ensures.1 in
    rw (p.1, p.2) (c.in_err-method.ensures.refused c.args.films.now)

pub returns : goal.returns
returns c = grind arith
