use Rattle.std.proofs.Common.{◌≡◌}
use Rattle.film_make.specs.Generator.{words_left, words_of}
use Rattle.film_make.specs.Film.{pictures_of, picture_words}
use Rattle.film_make.proofs.films.make_pictures.Given as goal

abbrev pub invariant-loop-index : goal.invariant-loop-index
invariant-loop-index l =
    record {
      bytes : l.film.items ≡ pictures_of (words_of l.number) l.index;
      left : words_left l.draws ≡ picture_words (words_of l.number) l.index;
    }
