use Rattle.day_run.proofs.LineOutcomes.{line-order, line-outcome, outcome-left, taken-ready}
use Rattle.day_run.proofs.ScriptLines.{LineStep}
use Rattle.day_run.proofs.SlotBalance.{last-halted}
use Rattle.day_run.proofs.laws.law_past_slots_never_change.Goals as goal

pub returns : goal.returns
returns c = record {
  line = λ link sources slot lines texts moment next line text clients are run client stands is.
      let step : LineStep = record { link = link; old = moment; new = next; text = text } in
      (outcome-left step (line-outcome step line is)
      (line-order step line (record { client = client; stands = stands }))
      (taken-ready link sources lines texts moment clients are run)).past slot;
  end = λ link sources slot lines texts moment clients are run.
      (last-halted moment (taken-ready link sources lines texts moment clients are run).balanced).stays slot;
}
