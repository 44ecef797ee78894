use Rattle.std.proofs.Common.{◌∙◌, sym, arith}
use Rattle.cluster.proofs.Lists.{knows_here, knows_later, knows_none}
use Rattle.cluster.proofs.deciding.knows_packet.Goals as goal

pub returns-then-has_packet : goal.returns-then-has_packet
returns-then-has_packet c =
    knows_here c.args.node.now c.loop-sender.sender c.args.count _ (omega arith) (sym c.has_packet.ensures ∙ c.if-has_packet.true) c.loop-sender.invariant

pub loop-sender-preserved : goal.loop-sender-preserved
loop-sender-preserved c =
    knows_later c.args.node.now c.loop-sender.sender c.args.count _ (omega arith) (sym c.has_packet.ensures ∙ c.if-has_packet.false) c.loop-sender.invariant

pub returns : goal.returns
returns c = knows_none c.args.node.now c.loop-sender.sender c.args.count _ (omega arith) c.loop-sender.invariant
