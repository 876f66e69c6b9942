use Rattle.connection_laws.proofs.PlayReplyReading.{film_counted}
use Rattle.connection_laws.proofs.watch_laws.law_unit_count_from_end_time.Goals as goal

pub returns : goal.returns
returns c = film_counted
