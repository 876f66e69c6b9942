use Rattle.day_run.proofs.DayPrefixLemmas.{line-made}
use Rattle.day_run.proofs.LineOutcomes.{taken-ready}
use Rattle.day_run.proofs.SlotBalance.{last-halted}
use Rattle.day_run.proofs.laws.law_entries_have_their_makers.Goals as goal

pub returns : goal.returns
returns c = record {
  line = λ link line old new text is.
      line-made (record { link = link; old = old; new = new; text = text }) line is;
  halts = λ link sources lines texts moment clients are run.
      (taken-ready link sources lines texts moment clients are run).balanced.halts.own;
  end = λ link sources lines texts moment clients are run.
      (last-halted moment (taken-ready link sources lines texts moment clients are run).balanced).balanced.halts.own;
}
