use Rattle.connection_laws.proofs.BookedPlays.{plays_booked}
use Rattle.connection_laws.proofs.laws.law_plays_match_journal_entries.Goals as goal

pub returns : goal.returns
returns c = plays_booked
