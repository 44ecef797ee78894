use Rattle.std.proofs.Common.{◌∙◌, ◌++◌, ap, subst}
use Rattle.cluster.specs.Outcomes.{IsAt}
use Rattle.cluster.specs.View.{ClusterView}
use Rattle.cluster.proofs.Decisions.{decided_right, told_same}
use Rattle.cluster.proofs.cluster.Cluster.verdict.Goals as goal

pub returns : goal.returns
returns c = λ before kept s.
    let now = ap (λ (z : ClusterView). z.nodes) c.self.view_is in
    subst (λ z. IsAt c.args.self.now.program (kept ++ before) z)
    (told_same c.args.self.now.nodes c.deref.result.now c.deref-2.result.now c.deref-3.result.now c.deref-4.result.now
    c.any_halted.result c.any_packet.result c.any_thread.result c.any_ready.result c.decided.result c.decided.ensures
    c.any_halted.ensures c.any_packet.ensures c.any_thread.ensures c.any_ready.ensures
    (c.deref.ensures.value ∙ now) (c.deref-2.ensures.value ∙ now) (c.deref-3.ensures.value ∙ now) (c.deref-4.ensures.value ∙ now))
    (decided_right c.args.self.now before kept s)
