use Rattle.std.proofs.Common.{ℕ, List, ◌++◌, take, arith, sym, subst}
use Rattle.std.proofs.lemmas.List.{append-nil, take_all}
use Rattle.inputs.specs.ChunkScans.{HasUnwrapped}
use Rattle.inputs.proofs.TokenLemmas.{taken_within}
use Rattle.inputs.proofs.ScanLemmas.{handed_on}
use Rattle.inputs.proofs.StreamLemmas.{part_refused, parts_joined}
use Rattle.inputs.proofs.streams.unwrap_chunk.Goals as goal

pub loop-at-init : goal.loop-at-init
loop-at-init g c = record {
  within = omega arith;
  count = omega arith;
  few = c.requires.few;
  ready = c.requires.ready;
  next = λ seen so_far.
      subst (λ (l : List ℕ). HasUnwrapped (g.F.Found.heard c.args.found.now) c.args.unwrapper.now
      c.args.scanner.now l) (sym (append-nil seen)) so_far;
}

pub loop-at-preserved : goal.loop-at-preserved
loop-at-preserved g c = record {
  within = taken_within c.args.chunk.now c.loop-at.at c.loop-at.invariant.within
      (c.in_ok-taken.ensures {u = tt}).taken.1;
  count = omega (arith, c.loop-at.invariant.count, (c.in_ok-taken.ensures {u = tt}).count);
  few = omega (
    arith,
    c.loop-at.invariant.few,
    (c.in_ok-taken.ensures {u = tt}).few,
    (c.in_ok-taken.ensures {u = tt}).count,
  );
  ready = c.unwrap_part.ensures.ready;
  next = λ seen so_far.
      subst (λ (l : List ℕ). HasUnwrapped (g.F.Found.heard c.unwrap_part.new.found) c.unwrap_part.new.unwrapper
      c.unwrap_part.new.scanner l)
      (parts_joined seen c.args.chunk.now c.loop-at.at c.in_ok-taken.taken)
      ((c.in_ok-taken.ensures {u = tt}).next (seen
      ++ take c.loop-at.at c.args.chunk.now) (c.loop-at.invariant.next seen so_far));
}

pub returns-in_err-taken-clause-refused : goal.returns-in_err-taken-clause-refused
returns-in_err-taken-clause-refused g c = λ seen so_far.
    handed_on _ c.from_residual.result c.from_residual.ensures.1
    (part_refused seen c.args.chunk.now c.loop-at.at c.in_err-taken.field-0.0
    ((c.in_err-taken.ensures {u = tt}).refused (seen ++ take c.loop-at.at c.args.chunk.now)
    (c.loop-at.invariant.next seen so_far)))

pub returns-clause-next : goal.returns-clause-next
returns-clause-next g c = λ seen so_far.
    subst (λ (l : List ℕ). HasUnwrapped (g.F.Found.heard c.loop-at.found) c.loop-at.unwrapper c.loop-at.scanner
    (seen ++ l))
    (take_all c.loop-at.at c.args.chunk.now (omega arith)) (c.loop-at.invariant.next seen so_far)
