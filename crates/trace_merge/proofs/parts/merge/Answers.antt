use Rattle.std.proofs.Common.{rules, List, subst}
use Rattle.std.specs.List.Sorted.{IsPermutation, IsSortedBy}
use Rattle.run_trace.specs.declared.entry.Entry.{Entry}
use Rattle.trace_merge.proofs.Counts.{joined}
use Rattle.trace_merge.proofs.Order.{less}
use Rattle.trace_merge.proofs.Merged.{sorted_by_place, merged_order, merged_own}
use Rattle.trace_merge.proofs.parts.merge.Goals as goal

abbrev out : goal.In_ok-sort_by_key → List Entry
out c = c.sort_by_key.new.self.items

moved : (c : goal.In_ok-sort_by_key) → IsPermutation (joined c.args.parts.items) (out c)
moved c = subst (λ (xs : List Entry). IsPermutation xs (out c)) c.in_ok-entries.ensures c.in_ok-sort_by_key.ensures.permutation

up : (c : goal.In_ok-sort_by_key) → IsSortedBy less (out c)
up c = sorted_by_place (out c) c.in_ok-sort_by_key.ensures.sorted (λ a r q k. search rules)

pub returns-clause-order : goal.returns-clause-order
returns-clause-order c = merged_order c.args.parts.items (out c) c.requires (moved c) (up c)

pub returns-clause-own : goal.returns-clause-own
returns-clause-own c = merged_own c.args.parts.items (out c) c.requires (moved c) (up c)
