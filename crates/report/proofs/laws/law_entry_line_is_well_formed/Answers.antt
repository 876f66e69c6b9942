use Rattle.report.proofs.EntryLineFormLemmas.{has_form}
use Rattle.report.proofs.laws.law_entry_line_is_well_formed.Goals as goal

pub returns : goal.returns
returns c = λ place entry kind. has_form place entry.maker entry.command entry.answer kind
