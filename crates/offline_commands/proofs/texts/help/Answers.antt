use Rattle.offline_commands.specs.HelpText.{help_text}
use Rattle.offline_commands.proofs.texts.help.Goals as goal

pub returns : goal.returns
unfolding help_text
returns c = c.from_slice.ensures.items
