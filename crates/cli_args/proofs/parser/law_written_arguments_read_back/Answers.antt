use Rattle.cli_args.proofs.RoundTripLemmas.{order_back}
use Rattle.cli_args.proofs.parser.law_written_arguments_read_back.Goals as goal

pub returns : goal.returns
returns c = order_back
