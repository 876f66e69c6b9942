use Rattle.std.proofs.Common.{◌≡◌}
use Rattle.film_make.specs.Generator.{words_left, words_after}
use Rattle.film_make.specs.Trace.{trace_of}
use Rattle.film_make.proofs.traces.draw_trace.Given as goal

abbrev pub invariant-loop-index : goal.invariant-loop-index
invariant-loop-index l =
    record {
      bytes : l.trace.items ≡ trace_of (words_left l.initial.draws) l.index;
      left : words_left l.draws ≡ words_after l.index (words_left l.initial.draws);
    }
