use Rattle.cli_args.proofs.ArgumentOrderLemmas.{order_free}
use Rattle.cli_args.proofs.laws.law_argument_order_is_free.Goals as goal

pub returns : goal.returns
returns c = λ name command front word other rest named apart.
    order_free name (record { front = front; word = word; other = other; rest = rest }) named apart
