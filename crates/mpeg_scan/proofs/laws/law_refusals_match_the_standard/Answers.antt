use Rattle.mpeg_scan.proofs.FilmRefusalLemmas.{film-refused, film-accepted}
use Rattle.mpeg_scan.proofs.laws.law_refusals_match_the_standard.Goals as goal

pub returns : goal.returns
returns c = record { refused = λ bytes f. film-refused bytes f; accepted = λ bytes. film-accepted bytes }
