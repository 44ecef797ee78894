-- The addresses rise, so the blocks before the address come first.
use Rattle.std.proofs.Common.{ltb, ltb-true, ltb-false, rules, ℕ}
use Rattle.std.proofs.lemmas.List.Sorted.{IsPartitionPoint-from_clause, IsPartitionedBy-ltb}
use Rattle.iso_blocks.proofs.live.starting_before.Goals as goal

pub returns-clause-before : goal.returns-clause-before
returns-clause-before c =
    let parted = IsPartitionedBy-ltb (λ (b : ℕ × ℕ). b.0) _ c.args.address c.requires in
    let point = IsPartitionPoint-from_clause (λ (b : ℕ × ℕ). ltb b.0 c.args.address) _ _ c.partition_point.ensures.partitioned parted (λ a r q k. search rules) in
    λ k d low high. ltb-true _ _ (point.0 k d low high)

pub returns-clause-behind : goal.returns-clause-behind
returns-clause-behind c =
    let parted = IsPartitionedBy-ltb (λ (b : ℕ × ℕ). b.0) _ c.args.address c.requires in
    let point = IsPartitionPoint-from_clause (λ (b : ℕ × ℕ). ltb b.0 c.args.address) _ _ c.partition_point.ensures.partitioned parted (λ a r q k. search rules) in
    λ k d low high. ltb-false _ _ (point.1 k d low high)
