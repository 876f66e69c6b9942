use Rattle.std.proofs.Common.{ltb, ltb-true, ltb-false, arith, rules}
use Rattle.std.proofs.lemmas.List.Sorted.{IsPartitionPoint-from_clause, IsPartitionedBy-ltb}
use Rattle.film_frames.proofs.binary_search.ends_below.Goals as goal

pub returns : goal.returns
returns c =
    let parted = IsPartitionedBy-ltb (λ e. e) _ c.args.place c.requires in
    let point = IsPartitionPoint-from_clause (λ e. ltb e c.args.place) _ _ c.partition_point.ensures.partitioned
    parted (λ a r q k. search rules) in record {
      count = search rules;
      below = λ k h. ltb-true _ _ (point.0 k 0 (omega arith) h);
      from = λ k h i. ltb-false _ _ (point.1 k 0 h i);
    }
