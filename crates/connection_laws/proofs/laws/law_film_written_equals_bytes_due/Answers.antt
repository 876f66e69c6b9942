use Rattle.connection_laws.proofs.CourseSteps.{film_written_is, plays_over}
use Rattle.connection_laws.proofs.laws.law_film_written_equals_bytes_due.Goals as goal

pub returns : goal.returns
returns c = record { film = film_written_is; over = plays_over }
