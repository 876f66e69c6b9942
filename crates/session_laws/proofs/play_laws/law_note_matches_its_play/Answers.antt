use Rattle.std.proofs.Common.{arith}
use Rattle.session_laws.proofs.play_laws.law_note_matches_its_play.Goals as goal

pub returns : goal.returns
returns c = grind arith
