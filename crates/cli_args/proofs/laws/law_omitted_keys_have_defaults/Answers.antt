use Rattle.cli_args.proofs.DefaultLemmas.{default_same}
use Rattle.cli_args.proofs.laws.law_omitted_keys_have_defaults.Goals as goal

pub returns : goal.returns
returns c = default_same
