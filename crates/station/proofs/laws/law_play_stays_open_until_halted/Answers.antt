use Rattle.station.proofs.Halts.{open_push}
use Rattle.station.proofs.laws.law_play_stays_open_until_halted.Goals as goal

pub returns : goal.returns
returns c = λ mine made number keep open_ other. open_push mine made number keep other open_
