use Rattle.std.proofs.Common.{◌≡◌, ◌+◌, ◌∙◌, ℕ, drop, subst, sym, ap}
use Rattle.cluster.specs.Apart.{turns_together}
use Rattle.cluster.specs.Choosing.{IsCapped}
use Rattle.cluster.specs.Standing.{turns_in}
use Rattle.cluster.proofs.Counting.{counted_more}
use Rattle.cluster.proofs.gathering.turns_together.Goals as goal

pub loop-node-preserved : goal.loop-node-preserved
loop-node-preserved c =
    let i = c.loop-node.invariant in
    subst (λ t. (more : ℕ) × IsCapped t more × (more + turns_together (drop (c.loop-node.node-index + 1) c.args.nodes.now) ≡ turns_together c.args.nodes.now)) (sym c.saturating_add-together.ensures)
    (counted_more c.args.nodes.now c.loop-node.node-index c.node-item.result i.0 c.loop-node.together c.turns_in.result c.loop-node-test.true c.node-item.is i.1 (c.turns_in.ensures ∙ ap turns_in c.entries.ensures) i.2)
