use Rattle.std.proofs.Common.{List, ℕ, ap, ◌∙◌, ◌++◌, replicate}
use Rattle.rand_chacha.specs.ChaCha.{of_seed}
use Rattle.film_make.specs.Generator.{words_left}
use Rattle.film_make.proofs.GeneratorLemmas.{words_left-start}
use Rattle.film_make.proofs.draws.Draws.new.Goals as goal

pub returns : goal.returns
returns c =
    ap words_left c.from_seed.ensures
    ∙ ap (λ (front : List ℕ). words_left (of_seed (front ++ replicate 24 0)))
    (c.copy_from_slice.ensures.after ∙ c.to_le_bytes.ensures)
    ∙ words_left-start c.args.number
