use Rattle.offline_commands.proofs.HelpTextLemmas.{commands_shown, defaults_shown, help_fits, keys_shown}
use Rattle.offline_commands.proofs.text_laws.law_help_shows_each_command_and_key.Goals as goal

pub returns : goal.returns
returns c = record { commands = commands_shown; keys = keys_shown; defaults = defaults_shown; columns = help_fits }
