use Rattle.std.proofs.Common.{arith}
use Rattle.session.proofs.refusals.own_film.Goals as goal

pub returns-in_err-asked-clause-film : goal.returns-in_err-asked-clause-film
returns-in_err-asked-clause-film c =
    rw c.from_residual.ensures (λ has. c.in_err-asked.ensures.asked has.0 has.1.0 has.1.1.named)

pub returns-else-is_own-clause-film : goal.returns-else-is_own-clause-film
returns-else-is_own-clause-film c = λ has.
    let same = c.in_ok-asked.ensures.one has.0 has.1.0 has.1.1.named in grind arith
