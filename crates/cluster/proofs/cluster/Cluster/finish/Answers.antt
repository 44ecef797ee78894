use Rattle.std.proofs.Common.{◌∙◌, map, sym, ap, subst}
use Rattle.trace_merge.specs.Parts.{AreParts}
use Rattle.cluster.specs.Between.{entries_of}
use Rattle.cluster.specs.View.{ClusterView}
use Rattle.cluster.proofs.Merging.{are_parts, merged_trace}
use Rattle.cluster.proofs.cluster.Cluster.finish.Goals as goal

pub merge-requires : goal.merge-requires
merge-requires c =
    let parts = c.in_ok-parts.ensures.0 ∙ ap (map entries_of) (ap (λ (z : ClusterView). z.nodes) c.self.view_is) in
    subst (λ ps. AreParts 0 ps) (sym parts) (are_parts c.args.self c.requires.0 c.requires.1)

pub returns-clause-trace : goal.returns-clause-trace
returns-clause-trace c = λ trace t.
    let parts = c.in_ok-parts.ensures.0 ∙ ap (map entries_of) (ap (λ (z : ClusterView). z.nodes) c.self.view_is) in
    c.new.ensures ∙ merged_trace c.args.self trace c.in_ok-entries.entries.items c.in_ok-parts.parts.items t parts c.in_ok-entries.ensures.order c.in_ok-entries.ensures.own
