-- The holes' ends rise, so the ones before the limit come first.
use Rattle.std.proofs.Common.{ltb, ltb-true, ltb-false, rules, ℕ}
use Rattle.std.proofs.lemmas.List.Sorted.{IsPartitionPoint-from_clause, IsPartitionedBy-ltb}
use Rattle.iso_blocks.proofs.Parts.{ends_rise}
use Rattle.iso_blocks.proofs.holes.ending_before.Goals as goal

pub returns-clause-before : goal.returns-clause-before
returns-clause-before c =
    let parted = IsPartitionedBy-ltb (λ (h : ℕ × ℕ). h.1) _ c.args.limit (ends_rise 0 _ c.requires) in
    let point = IsPartitionPoint-from_clause (λ (h : ℕ × ℕ). ltb h.1 c.args.limit) _ _ c.partition_point.ensures.partitioned parted (λ a r q k. search rules) in
    λ k d low high. ltb-true _ _ (point.0 k d low high)

pub returns-clause-behind : goal.returns-clause-behind
returns-clause-behind c =
    let parted = IsPartitionedBy-ltb (λ (h : ℕ × ℕ). h.1) _ c.args.limit (ends_rise 0 _ c.requires) in
    let point = IsPartitionPoint-from_clause (λ (h : ℕ × ℕ). ltb h.1 c.args.limit) _ _ c.partition_point.ensures.partitioned parted (λ a r q k. search rules) in
    λ k d low high. ltb-false _ _ (point.1 k d low high)
