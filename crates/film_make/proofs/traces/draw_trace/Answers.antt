use Rattle.std.proofs.Common.{sym, ◌∙◌}
use Rattle.film_make.proofs.GeneratorLemmas.{words_after-zero}
use Rattle.film_make.proofs.FilmLemmas.{end_to_end-none, words_after-step}
use Rattle.film_make.proofs.TraceLemmas.{line-step}
use Rattle.film_make.proofs.traces.draw_trace.Goals as goal

pub loop-index-init : goal.loop-index-init
loop-index-init c = record {
  bytes = c.new-trace.ensures.items ∙ sym (end_to_end-none _);
  left = sym (words_after-zero _);
}

pub loop-index-preserved : goal.loop-index-preserved
loop-index-preserved c = record {
  bytes = c.in_ok-write_line.ensures
      ∙ line-step _ _ c.loop-index.invariant.bytes c.loop-index.invariant.left c.next_size.ensures.value;
  left = c.next_size.ensures.left ∙ words_after-step _ _ _ c.loop-index.invariant.left;
}
