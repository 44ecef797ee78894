use Rattle.std.proofs.Common.{◌∙◌}
use Rattle.cluster.proofs.Lists.{raised_next, raised_all}
use Rattle.cluster.proofs.stepping.raise_all.Goals as goal

pub loop-node-preserved : goal.loop-node-preserved
loop-node-preserved c = raised_next c.args.clock c.loop-node.node-index c.args.nodes.now c.loop-node.nodes c.node-item.result c.raise.new.self c.loop-node-test.true c.loop-node.invariant c.raise.ensures

pub returns : goal.returns
returns c = c.loop-node.invariant ∙ raised_all c.args.clock c.loop-node.node-index c.args.nodes.now c.loop-node-test.false
