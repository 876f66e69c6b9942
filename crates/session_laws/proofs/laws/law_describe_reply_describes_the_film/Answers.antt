use Rattle.session_laws.proofs.ReplyContentLemmas.{film_told}
use Rattle.session_laws.proofs.laws.law_describe_reply_describes_the_film.Goals as goal

pub returns : goal.returns
returns c = λ old new sequence authority is. film_told is.describes is.read is.good is.short
