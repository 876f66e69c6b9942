use Rattle.offline_commands.proofs.TextReadBack.{fault_told, not_least}
use Rattle.offline_commands.proofs.text_laws.law_verdict_text_determines_fault.Goals as goal

pub returns-clause-tells : goal.returns-clause-tells
returns-clause-tells c = fault_told

pub returns-clause-not_least : goal.returns-clause-not_least
returns-clause-not_least c = not_least
