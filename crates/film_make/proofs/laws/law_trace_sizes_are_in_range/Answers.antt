use Rattle.film_make.proofs.TraceLemmas.{first-range, other-range, each-size, sizes-count, sizes-front, trace-lines}
use Rattle.film_make.proofs.laws.law_trace_sizes_are_in_range.Goals as goal

pub returns : goal.returns
returns c = record {
  count = sizes-count;
  first = first-range;
  other = other-range;
  each = each-size;
  front = sizes-front;
  lines = trace-lines;
}
