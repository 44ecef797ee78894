use Rattle.std.proofs.Common.{◌∙◌, refl, sym, arith}
use Rattle.run_trace.specs.declared.entry.Act.TheVariants.{Take}
use Rattle.run_trace.specs.Program.{nodes_of}
use Rattle.cluster.specs.Between.{takes_from}
use Rattle.cluster.proofs.Lists.{acts_more, acts_skip, none_left}
use Rattle.cluster.proofs.listing.push_takes.Goals as goal

pub loop-sender-preserved : goal.loop-sender-preserved
loop-sender-preserved c =
    let v = c.args.node.now in
    acts_more v Take c.loop-sender.sender (nodes_of v.program) c.me.result _ _ _ (omega arith) c.in_ok-push.ensures.items c.me.ensures.value (sym c.has_packet.ensures ∙ c.if-not-has_packet.false) c.loop-sender.invariant

pub loop-sender-preserved-then-not-has_packet : goal.loop-sender-preserved-then-not-has_packet
loop-sender-preserved-then-not-has_packet c =
    let v = c.args.node.now in
    acts_skip v Take c.loop-sender.sender (nodes_of v.program) _ _ (omega arith) (sym c.has_packet.ensures ∙ c.if-not-has_packet.true) c.loop-sender.invariant

pub returns : goal.returns
returns c =
    let v = c.args.node.now in
    none_left (takes_from v) c.loop-sender.sender (nodes_of v.program) _ _ refl (omega arith) c.loop-sender.invariant
