use Rattle.session_laws.proofs.AnswerUniqueness.{hears_once}
use Rattle.session.proofs.InitialStateLemmas.{heard_by}
use Rattle.session.proofs.ReplyCodeLemmas.{hears_500, hears_may, hears_never}
use Rattle.session_laws.proofs.laws.law_one_answer_per_request.Goals as goal

pub returns : goal.returns
returns c = record {
  one = λ old one other message ask again films is its. hears_once (heard_by is) films its;
  memory = hears_500;
  only = hears_may;
  begun = hears_never;
}
