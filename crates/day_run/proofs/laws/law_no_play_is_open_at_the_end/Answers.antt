use Rattle.std.proofs.Common.{inl, inr}
use Rattle.admission.proofs.OneHalt.{closed-halted, halts-once}
use Rattle.day_run.specs.Days.{last_journal}
use Rattle.day_run.proofs.SentBookedLemmas.{find-halt}
use Rattle.day_run.proofs.LineOutcomes.{taken-ready}
use Rattle.day_run.proofs.SlotBalance.{last-halted, last-open}
use Rattle.day_run.proofs.laws.law_no_play_is_open_at_the_end.Goals as goal

pub returns : goal.returns
returns c = record {
  «open» = λ link sources lines texts moment clients are run.
      last-open moment (taken-ready link sources lines texts moment clients are run).balanced;
  halted = λ link sources number start lines texts moment plan clients are run legal admission.
      let balanced = (taken-ready link sources lines texts moment clients are run).balanced in
      let halts = (last-halted moment balanced).balanced.halts in
      elim (find-halt number (last_journal moment)) [
        | inl found ↦ record {
          place = found.place;
          keep = found.keep;
          halt = found.halt;
          only = search halts-once;
          own = λ none. halts.own.each found.place number found.keep none found.halt;
        }
        | inr never ↦ absurd (closed-halted link.steps (last_journal moment) number start plan legal
            (last-open moment balanced) admission never)
      ];
  booked = λ link sources slot lines texts moment clients are run.
      (last-halted moment (taken-ready link sources lines texts moment clients are run).balanced).balanced.each slot;
}
