use Rattle.std.proofs.Common.{sym, ◌∙◌}
use Rattle.film_make.proofs.GeneratorLemmas.{words_after-zero}
use Rattle.film_make.proofs.FilmLemmas.{words_after-step}
use Rattle.film_make.proofs.TraceLemmas.{size-step}
use Rattle.film_make.proofs.traces.draw_sizes.Goals as goal

pub loop-index-init : goal.loop-index-init
loop-index-init c = record { sizes = c.new-sizes.ensures.items; left = sym (words_after-zero _) }

pub loop-index-preserved : goal.loop-index-preserved
loop-index-preserved c = record {
  sizes = c.in_ok-push.ensures.items
      ∙ size-step _ _ c.loop-index.invariant.sizes c.loop-index.invariant.left
      (c.from.ensures ∙ c.next_size.ensures.value);
  left = c.next_size.ensures.left ∙ words_after-step _ _ _ c.loop-index.invariant.left;
}
