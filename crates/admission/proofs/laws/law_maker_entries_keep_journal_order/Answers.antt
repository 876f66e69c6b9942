use Rattle.admission.proofs.Makers.{made-entries, made-places}
use Rattle.admission.proofs.laws.law_maker_entries_keep_journal_order.Goals as goal

pub returns : goal.returns
returns c = record { entries = made-entries 0; places = made-places }
