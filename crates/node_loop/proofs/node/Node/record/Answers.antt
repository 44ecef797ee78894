use Rattle.std.proofs.Common.{rules, refl}
use Rattle.node_loop.proofs.Stepping.{records}
use Rattle.node_loop.proofs.Wiring.{sent_flushed}
use Rattle.node_loop.proofs.node.Node.record.Goals as goal

pub returns-clause-ok : goal.returns-clause-ok
returns-clause-ok c = records _ c.args.self.now _ c.args.stamp c.args.act.now c.args.done c.reserve_all.new.ends c.flush.new.self c.into_vec.result.items c.push_reserved.new.self.items c.extend_from_slice.new.self.items
    c.self.view_is refl (search rules) (search rules) (search rules) c.reserve_all.ensures.kept
    (sent_flushed c.args.stamp c.into_vec.result.items c.reserve_all.new.ends c.send_all.new.ends c.flush.new.self c.send_all.ensures c.flush.ensures.flushed c.flush.ensures.wired)
