use Rattle.report.proofs.CalendarStateLemmas.{text_of_state}
use Rattle.report.proofs.laws.law_calendar_text_matches_state.Goals as goal

pub returns : goal.returns
returns c = text_of_state
