use Rattle.std.proofs.Common.{◌∙◌, sym, arith}
use Rattle.run_trace.specs.declared.entry.Act.TheVariants.{Take}
use Rattle.run_trace.specs.Program.{nodes_of}
use Rattle.cluster.proofs.Picks.{count_act, count_no_act, count_all_acts}
use Rattle.cluster.proofs.choosing.known_senders.Goals as goal

pub loop-sender-preserved : goal.loop-sender-preserved
loop-sender-preserved c = record {
  all = count_act c.args.node.now Take c.loop-sender.sender (nodes_of c.args.node.now.program) c.loop-sender.known _ (omega arith) (sym c.has_packet.ensures ∙ c.if-not-has_packet.false) c.loop-sender.invariant.all;
  few = (let h = c.loop-sender.invariant.few in omega (arith, h));
}

pub loop-sender-preserved-then-not-has_packet : goal.loop-sender-preserved-then-not-has_packet
loop-sender-preserved-then-not-has_packet c = record {
  all = count_no_act c.args.node.now Take c.loop-sender.sender (nodes_of c.args.node.now.program) c.loop-sender.known _ (omega arith) (sym c.has_packet.ensures ∙ c.if-not-has_packet.true) c.loop-sender.invariant.all;
  few = (let h = c.loop-sender.invariant.few in omega (arith, h));
}

pub returns-clause-known : goal.returns-clause-known
returns-clause-known c = count_all_acts c.args.node.now Take c.loop-sender.sender (nodes_of c.args.node.now.program) c.loop-sender.known _ (omega arith) c.loop-sender.invariant.all
