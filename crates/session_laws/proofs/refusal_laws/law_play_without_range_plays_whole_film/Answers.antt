use Rattle.std.proofs.Common.{arith}
use Rattle.session_laws.proofs.refusal_laws.law_play_without_range_plays_whole_film.Goals as goal

pub returns : goal.returns
returns c = grind arith
