use Rattle.std.proofs.Common.{ℕ, ap, ◌∙◌, ◌%◌}
use Rattle.rand_chacha.specs.ChaCha.{ChaCha}
use Rattle.film_make.specs.Generator.{words_left, words_after}
use Rattle.film_make.proofs.GeneratorLemmas.{words_left-first, words_left-rest}
use Rattle.film_make.proofs.draws.Draws.draw.Goals as goal

pub returns-clause-value : goal.returns-clause-value
returns-clause-value c =
    let drawn = ap (λ (p : ℕ × ChaCha). p.0) c.next_word.ensures in
    let first = words_left-first c.self.inside.rng c.self.invariant in
    ap (λ word. word % c.args.n) (drawn ∙ first ∙ ap (λ (g : ChaCha). words_left g 0) c.self.view_is)

pub returns-clause-left : goal.returns-clause-left
returns-clause-left c =
    ap (λ (p : ℕ × ChaCha). words_left p.1) c.next_word.ensures ∙ words_left-rest c.self.inside.rng
    ∙ ap (λ (g : ChaCha). words_after 1 (words_left g)) c.self.view_is
