use Rattle.std.proofs.Common.{arith}
use Rattle.day_run.proofs.DayPrefixLemmas.{entries-other}
use Rattle.day_run.proofs.fairs.law_entries_other.Goals as goal

pub returns : goal.returns
returns c = λ entries. entries-other c.args.place entries (omega (arith, c.ranges.place.fits))
