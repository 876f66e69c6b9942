use Rattle.std.proofs.Common.{◌≡◌, ◌+◌, ◌-◌, ◌∙◌, ◌++◌, ◌∷◌, [], ℕ, length, arith, rules, ap, min, take, drop}
use Rattle.inputs.proofs.TokenLemmas.{ReadSoFar, slice_from}
use Rattle.inputs.proofs.TraceWordLemmas.{TokenBegins, next_read_past, next_bad}
use Rattle.inputs.proofs.traces.read_trace.Goals.{After-len}
use Rattle.inputs.proofs.traces.read_trace.Goals as goal

-- what was read before the next token, and the token
abbrev so_far : (c : After-len) → ReadSoFar c.args.text.now
so_far c = record {
  at = c.loop-from.at;
  sizes = c.loop-from.sizes.items;
  total = c.loop-from.total;
  count = c.len.result;
  read = c.loop-from.invariant;
  counted = omega (arith, c.len.ensures, c.loop-from.sizes.ok);
}

abbrev token : (c : After-len) → TokenBegins c.args.text.now c.loop-from.at
token c =
    let text = c.args.text.now in
    let from = c.in-Some.from in
    let place = c.in-Some.ensures {u = tt} in
    record {
      from = from;
      rest = take (length text - from) (drop from text);
      same = place.3;
      begins = place.2;
      are = slice_from text from;
      inside = place.1;
    }

pub returns-in_default-next_size-clause-refused : goal.returns-in_default-next_size-clause-refused
returns-in_default-next_size-clause-refused c =
    let here = (goal.at.returns-in_default-next_size-clause-refused c).After-len in
    next_bad (so_far here) (token here) (c.in_default-next_size.ensures {u = tt})

pub loop-from-preserved : goal.loop-from-preserved
loop-from-preserved c =
    let text = c.args.text.now in
    let from = c.in-Some.from in
    let here = (goal.at.loop-from-preserved c).After-len in
    let size = c.in-Some-next_size.ensures {u = tt} in
    let pushed : c.push.new.self.items ≡ c.loop-from.sizes.items ++ c.in-Some-next_size.size.value ∷ [] =
    search rules in
    let same = c.min-at.ensures ∙ ap (λ (n : ℕ). min (from + n + 1) (length text)) size.0 in
    rw (pushed, same) (next_read_past (so_far here) (token here) size.1)
