use Rattle.inputs.proofs.TokenUniqueness.{separated_are, separated_only}
use Rattle.inputs.proofs.laws.law_tokens_are_the_words_of_a_text.Goals as goal

pub returns-clause-are : goal.returns-clause-are
returns-clause-are c = λ text. separated_are text 0

pub returns-clause-only : goal.returns-clause-only
returns-clause-only c = λ text tokens separated. separated_only 0 text tokens separated
