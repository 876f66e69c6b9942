use Rattle.mpeg_scan.proofs.CodePlaceLemmas.{codes-stand}
use Rattle.mpeg_scan.proofs.laws.law_start_codes_are_those_in_the_bytes.Goals as goal

pub returns : goal.returns
returns c = codes-stand
