use Rattle.std.proofs.Common.{rules}
use Rattle.std.proofs.lemmas.Bool.{leb-true, leb-false}
use Rattle.std.proofs.lemmas.List.Sorted.{IsPartitionedBy-leb, IsPartitionPoint-from_clause}
use Rattle.std.proofs.Common.{nat_le}
use Rattle.node_codec.specs.declared.body.Entry.{Entry}
use Rattle.btree_walk.proofs.TurnLaws.{non_decreasing}
use Rattle.btree_walk.proofs.turns.reach_of.Goals as goal

pub returns-clause-point : goal.returns-clause-point
returns-clause-point c =
    let es = c.args.entries.now in
    let point = IsPartitionPoint-from_clause (λ (e : Entry). nat_le e.low c.args.block) es c.partition_point.result c.partition_point.ensures.partitioned (IsPartitionedBy-leb (λ (e : Entry). e.low) es c.args.block (non_decreasing es c.requires)) (λ a r q k. search rules) in
    (λ k d from to. leb-true _ _ (point.0 k d from to), λ k d from to. leb-false _ _ (point.1 k d from to))
