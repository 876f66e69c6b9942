use Rattle.std.proofs.Common.{◌≡◌, ◌++◌}
use Rattle.film_make.specs.Generator.{words_left, words_after}
use Rattle.film_make.specs.Film.{body_of}
use Rattle.film_make.proofs.pictures.write_body.Given as goal

abbrev pub invariant-loop-i : goal.invariant-loop-i
invariant-loop-i l =
    record {
      bytes : l.out.items ≡ l.initial.out.items ++ body_of (words_left l.initial.draws) l.i;
      left : words_left l.draws ≡ words_after l.i (words_left l.initial.draws);
    }
