use Rattle.std.proofs.Common.{◌≡◌, length}
use Rattle.film_make.specs.Generator.{words_left}
use Rattle.day_run.specs.FairDays.{after_traces, traces_drawn}
use Rattle.day_run.specs.FairProgress.{AreTraces, sizes_in}
use Rattle.day_run.proofs.fairs.draw_traces.Given as goal

abbrev pub invariant-loop-trace : goal.invariant-loop-trace
invariant-loop-trace l = record {
  count : length l.traces.items ≡ l.trace;
  traces : AreTraces l.traces.items;
  sizes : sizes_in l.traces.items ≡ traces_drawn l.trace (words_left l.initial.draws);
  left : words_left l.draws ≡ after_traces l.trace (words_left l.initial.draws);
}
