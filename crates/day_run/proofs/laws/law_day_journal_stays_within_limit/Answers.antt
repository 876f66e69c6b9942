use Rattle.std.proofs.Common.{arith}
use Rattle.day_run.proofs.LineOutcomes.{taken-left}
use Rattle.day_run.proofs.SlotBalance.{last-halted}
use Rattle.day_run.proofs.laws.law_day_journal_stays_within_limit.Goals as goal

pub returns : goal.returns
returns c = record {
  lines = λ link sources lines texts moment clients are run.
      (taken-left link sources lines texts moment clients are run).within (omega arith);
  end = λ link sources lines texts moment clients are run.
      let left = taken-left link sources lines texts moment clients are run in
      omega (arith, (last-halted moment left.ready.balanced).places, left.within (omega arith));
}
