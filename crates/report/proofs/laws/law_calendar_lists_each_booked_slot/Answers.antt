use Rattle.report.proofs.CalendarFormLemmas.{calendar_told}
use Rattle.report.proofs.laws.law_calendar_lists_each_booked_slot.Goals as goal

pub returns : goal.returns
returns c = calendar_told
