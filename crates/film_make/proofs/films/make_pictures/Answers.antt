use Rattle.std.proofs.Common.{ℕ, List, ◌++◌, ◌%◌, sym, ap, ◌∙◌}
use Rattle.film_make.specs.Generator.{words_of}
use Rattle.film_make.specs.Film.{coding_type, picture_of, picture_words, slice_words}
use Rattle.film_make.proofs.FilmLemmas.{end_to_end-none, end_to_end-more, picture_words-none, picture_words-more}
use Rattle.film_make.proofs.films.make_pictures.Goals as goal

pub loop-index-init : goal.loop-index-init
loop-index-init c = record {
  bytes = c.new-film.ensures.items ∙ sym (end_to_end-none _);
  left = c.new-draws.ensures ∙ sym (picture_words-none _);
}

pub loop-index-preserved : goal.loop-index-preserved
loop-index-preserved c =
    let words = words_of c.args.number in
    let drawn = c.loop-index.invariant.left in
    let k = c.loop-index.index in
    let part = λ (n : ℕ). picture_of (picture_words words n) n in record {
      bytes = c.in_ok-write_picture.ensures.bytes
          ∙ ap (λ (w : ℕ → ℕ). c.loop-index.film.items ++ picture_of w k) drawn
          ∙ ap (λ (l : List ℕ). l ++ part k) c.loop-index.invariant.bytes ∙ sym (end_to_end-more part k);
      left = c.in_ok-write_picture.ensures.left
          ∙ ap (λ (w : ℕ → ℕ). slice_words (coding_type (k % 12)) w 4) drawn ∙ sym (picture_words-more words k);
    }
