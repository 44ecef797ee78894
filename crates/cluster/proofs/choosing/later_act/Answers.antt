use Rattle.std.proofs.Common.{◌∙◌, sym, arith}
use Rattle.run_trace.specs.declared.entry.Act.TheVariants.{Take}
use Rattle.run_trace.specs.Program.{nodes_of}
use Rattle.cluster.proofs.Picks.{act_here, act_later, no_act, past_acts}
use Rattle.cluster.proofs.choosing.later_act.Goals as goal

pub loop-sender-preserved-then-not-has_packet : goal.loop-sender-preserved-then-not-has_packet
loop-sender-preserved-then-not-has_packet c =
    no_act c.args.node.now Take c.loop-sender.sender (nodes_of c.args.node.now.program) c.loop-sender.left _ _ (omega arith) (sym c.has_packet.ensures ∙ c.if-not-has_packet.true) c.loop-sender.invariant

pub returns-then-left-eq0 : goal.returns-then-left-eq0
returns-then-left-eq0 c =
    act_here c.args.node.now Take c.loop-sender.sender (nodes_of c.args.node.now.program) c.loop-sender.left c.me.result _ _ (omega arith) (sym c.has_packet.ensures ∙ c.if-not-has_packet.false)
    c.if-left-eq0.true c.me.ensures.value c.loop-sender.invariant

pub loop-sender-preserved : goal.loop-sender-preserved
loop-sender-preserved c =
    act_later c.args.node.now Take c.loop-sender.sender (nodes_of c.args.node.now.program) c.loop-sender.left _ _ (omega arith) (sym c.has_packet.ensures ∙ c.if-not-has_packet.false)
    c.if-left-eq0.false c.loop-sender.invariant

pub returns : goal.returns
returns c = past_acts c.args.node.now Take c.loop-sender.sender (nodes_of c.args.node.now.program) c.loop-sender.left _ _ c.move_at.result (omega arith) c.move_at.ensures c.loop-sender.invariant
