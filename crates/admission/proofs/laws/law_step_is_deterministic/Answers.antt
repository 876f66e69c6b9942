use Rattle.std.proofs.Common.{ap, sym, ◌∙◌}
use Rattle.admission.specs.Machine.{next_state}
use Rattle.admission.proofs.UniqueHistory.{answer-once}
use Rattle.admission.proofs.laws.law_step_is_deterministic.Goals as goal

pub returns : goal.returns
returns c = record {
  answer = λ steps state next then place command one other a b.
      answer-once (record { steps = steps; state = state }) command one other a.answer_is b.answer_is;
  next = λ steps state next then place command one other a b.
      a.next_is ∙ ap (next_state state place command)
      (answer-once (record { steps = steps; state = state }) command one other a.answer_is b.answer_is) ∙ sym b.next_is;
}
