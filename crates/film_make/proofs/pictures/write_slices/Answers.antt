use Rattle.std.proofs.Common.{ℕ, ◌++◌, ◌+◌, sym, ap, ◌∙◌}
use Rattle.film_make.specs.Film.{slice_of, slice_words, after_slice}
use Rattle.film_make.proofs.FilmLemmas.{none-added, end_to_end-none, part-step, slice_words-none, slice_words-more}
use Rattle.film_make.specs.Generator.{words_left}
use Rattle.film_make.proofs.pictures.write_slices.Goals as goal

pub loop-slice-init : goal.loop-slice-init
loop-slice-init c = record { bytes = none-added _ _ (end_to_end-none _); left = sym (slice_words-none _ _) }

pub loop-slice-preserved : goal.loop-slice-preserved
loop-slice-preserved c =
    let kind = c.args.kind in
    let words = words_left c.args.draws.now in
    let drawn = c.loop-slice.invariant.left in record {
      bytes = c.in_ok-write_slice.ensures.bytes
          ∙ ap (λ (w : ℕ → ℕ). c.loop-slice.out.items ++ slice_of w kind (c.loop-slice.slice + 1)) drawn
          ∙ part-step _ _ (λ s. slice_of (slice_words kind words s) kind (s + 1)) c.loop-slice.slice
          c.loop-slice.invariant.bytes;
      left = c.in_ok-write_slice.ensures.left ∙ ap (after_slice kind) drawn
          ∙ sym (slice_words-more kind words c.loop-slice.slice);
    }
