use Rattle.std.proofs.Common.{◌≡◌, ◌++◌}
use Rattle.film_make.specs.Generator.{words_left}
use Rattle.film_make.specs.Film.{slices_of, slice_words}
use Rattle.film_make.proofs.pictures.write_slices.Given as goal

abbrev pub invariant-loop-slice : goal.invariant-loop-slice
invariant-loop-slice l =
    record {
      bytes : l.out.items ≡ l.initial.out.items ++ slices_of (words_left l.initial.draws) l.kind l.slice;
      left : words_left l.draws ≡ slice_words l.kind (words_left l.initial.draws) l.slice;
    }
