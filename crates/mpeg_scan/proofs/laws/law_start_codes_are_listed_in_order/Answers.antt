use Rattle.std.proofs.Common.{[]}
use Rattle.mpeg_scan.specs.StartCodes.{read_after}
use Rattle.mpeg_scan.proofs.CodeOrderLemmas.{codes-falling}
use Rattle.mpeg_scan.proofs.laws.law_start_codes_are_listed_in_order.Goals as goal

pub returns : goal.returns
returns c = λ bytes. codes-falling (read_after [] bytes)
