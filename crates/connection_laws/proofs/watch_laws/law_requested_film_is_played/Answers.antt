use Rattle.connection_laws.proofs.RequestedPlays.{asked_played}
use Rattle.connection_laws.proofs.watch_laws.law_requested_film_is_played.Goals as goal

pub returns : goal.returns
returns c = λ wish stored course asked. asked_played asked
