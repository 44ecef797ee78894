use Rattle.std.proofs.Common.{arith}
use Rattle.cluster.proofs.Settling.{walks_all_none, walks_all_more, walked_all, numbered_still}
use Rattle.cluster.proofs.stepping.settle_all.Goals as goal

pub loop-at-init : goal.loop-at-init
loop-at-init c = walks_all_none c.args.rest.now c.args.nodes.now c.requires.wired

pub settle_links-requires-clause-numbered : goal.settle_links-requires-clause-numbered
settle_links-requires-clause-numbered c = numbered_still c.args.nodes.now c.loop-at.nodes c.requires.numbered c.loop-at.invariant.nodes

pub loop-at-preserved : goal.loop-at-preserved
loop-at-preserved c = walks_all_more c.loop-at.at c.args.rest.now c.args.nodes.now c.loop-at.nodes c.settle_links.new.nodes c.loop-at.invariant c.settle_links.ensures.settled

pub returns-clause-settled : goal.returns-clause-settled
returns-clause-settled c = walked_all c.loop-at.at c.args.rest.now c.args.nodes.now c.loop-at.nodes (omega arith) c.loop-at.invariant
