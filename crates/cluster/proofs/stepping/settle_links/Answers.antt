use Rattle.std.proofs.Common.{arith}
use Rattle.cluster.proofs.Settling.{walks_none, walks_below, walks_above, walks_self, walked, numbered_still}
use Rattle.cluster.proofs.stepping.settle_links.Goals as goal

pub loop-other-init : goal.loop-other-init
loop-other-init c = walks_none c.args.at c.args.rest.now c.args.nodes.now c.requires.wired

pub settle_pair-requires-clause-numbered : goal.settle_pair-requires-clause-numbered
settle_pair-requires-clause-numbered c = numbered_still c.args.nodes.now c.loop-other.nodes c.requires.numbered c.loop-other.invariant.nodes

pub settle_pair-requires-then-at-other-clause-numbered : goal.settle_pair-requires-then-at-other-clause-numbered
settle_pair-requires-then-at-other-clause-numbered c = numbered_still c.args.nodes.now c.loop-other.nodes c.requires.numbered c.loop-other.invariant.nodes

pub settle_self-requires-clause-numbered : goal.settle_self-requires-clause-numbered
settle_self-requires-clause-numbered c = numbered_still c.args.nodes.now c.loop-other.nodes c.requires.numbered c.loop-other.invariant.nodes

pub loop-other-preserved-then-other-at : goal.loop-other-preserved-then-other-at
loop-other-preserved-then-other-at c =
    walks_below c.args.at c.loop-other.other c.args.rest.now c.args.nodes.now c.loop-other.nodes c.settle_pair.new.nodes c.if-other-at.true c.loop-other.invariant c.settle_pair.ensures.settled.0 c.settle_pair.ensures.settled.1

pub loop-other-preserved-then-at-other : goal.loop-other-preserved-then-at-other
loop-other-preserved-then-at-other c =
    walks_above c.args.at c.loop-other.other c.args.rest.now c.args.nodes.now c.loop-other.nodes c.settle_pair-then-at-other.new.nodes c.if-at-other.true c.loop-other.invariant
    c.settle_pair-then-at-other.ensures.settled.0 c.settle_pair-then-at-other.ensures.settled.1

pub loop-other-preserved : goal.loop-other-preserved
loop-other-preserved c =
    walks_self c.args.at c.loop-other.other c.args.rest.now c.args.nodes.now c.loop-other.nodes c.settle_self.new.nodes (omega (arith, c.if-other-at.false, c.if-at-other.false)) c.loop-other.invariant
    c.settle_self.ensures.settled.0 c.settle_self.ensures.settled.1

pub returns-clause-settled : goal.returns-clause-settled
returns-clause-settled c = walked c.args.at c.loop-other.other c.args.rest.now c.args.nodes.now c.loop-other.nodes c.requires.wired (omega arith) c.loop-other.invariant
