use Rattle.std.proofs.Common.{sym, ◌∙◌}
use Rattle.film_make.proofs.GeneratorLemmas.{words_after-zero}
use Rattle.film_make.proofs.FilmLemmas.{none-added, body_of-none, body-step, words_after-step}
use Rattle.film_make.proofs.pictures.write_body.Goals as goal

pub loop-i-init : goal.loop-i-init
loop-i-init c = record { bytes = none-added _ _ (body_of-none _); left = sym (words_after-zero _) }

pub loop-i-preserved : goal.loop-i-preserved
loop-i-preserved c = record {
  bytes = c.in_ok-push.ensures.items
      ∙ body-step _ _ _ c.loop-i.invariant.bytes c.loop-i.invariant.left c.draw.ensures.value;
  left = c.draw.ensures.left ∙ words_after-step _ _ _ c.loop-i.invariant.left;
}
