use Rattle.std.proofs.Common.{refl}
use Rattle.mpeg_scan.specs.StartCodes.{codes_of, latest_prefix}
use Rattle.mpeg_scan.specs.FilmFaults.{first_fault}
use Rattle.mpeg_scan.proofs.progress.Progress.new.Goals as goal

pub returns-clause-read : goal.returns-clause-read
unfolding codes_of latest_prefix first_fault
returns-clause-read c = record { fed = refl; prefix = refl; latest = refl; tally = c.new.ensures; accepted = refl }
