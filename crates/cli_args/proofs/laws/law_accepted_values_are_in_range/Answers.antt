use Rattle.cli_args.proofs.ValidInvocationLemmas.{order_asked}
use Rattle.cli_args.proofs.laws.law_accepted_values_are_in_range.Goals as goal

pub returns : goal.returns
returns c = order_asked
