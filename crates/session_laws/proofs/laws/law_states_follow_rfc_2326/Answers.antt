use Rattle.std.proofs.Common.{arith, refl, sym, ap, inl}
use Rattle.session.specs.Laws.{InitStage, ReadyStage, StaysOr, stage_of}
use Rattle.session.proofs.InitialStateLemmas.{HeardMessage, heard_by}
use Rattle.session.proofs.RequestCaseAnalysis.{Answer, SetsUp, HaltsPlay, StopsPlay, answer_to, by_answer, made_by}
use Rattle.session.proofs.RequestCaseAnalysis.{settled_init}
use Rattle.session_laws.proofs.laws.law_states_follow_rfc_2326.Goals as goal

answer_moves : {h : HeardMessage} (answer : Answer h) → StaysOr InitStage ReadyStage h.old (made_by answer)
answer_moves (SetsUp film taken setup asks is) = search (arith, settled_init taken)
answer_moves (HaltsPlay taken hand is) = inl (sym (ap stage_of hand.playing))
answer_moves (StopsPlay taken hand is) = inl (sym (ap stage_of hand.playing))
answer_moves _ = inl refl

pub returns : goal.returns
returns c = record {
  request = λ old new message ask hears.
      let answer = answer_to (heard_by hears) in
      by_answer (λ a s. StaysOr InitStage ReadyStage old s) answer (answer_moves answer);
  admission = grind arith;
  halt = grind arith;
}
