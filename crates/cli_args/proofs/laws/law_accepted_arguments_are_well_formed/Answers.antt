use Rattle.cli_args.proofs.ArgumentSyntaxLemmas.{meaning_form}
use Rattle.cli_args.proofs.laws.law_accepted_arguments_are_well_formed.Goals as goal

pub returns : goal.returns
returns c = meaning_form
