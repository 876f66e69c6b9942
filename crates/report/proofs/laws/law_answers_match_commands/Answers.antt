use Rattle.report.proofs.AnswerKindLemmas.{kinds_of_legal}
use Rattle.report.proofs.laws.law_answers_match_commands.Goals as goal

pub returns : goal.returns
returns c = kinds_of_legal
