use Rattle.std.proofs.Common.{length, rules}
use Rattle.node_loop.proofs.Wiring.{reserved_more, reserves_next, reserves_end}
use Rattle.node_loop.proofs.links.reserve_all.Goals as goal

pub returns-in_err-reserve_one-clause-kept : goal.returns-in_err-reserve_one-clause-kept
returns-in_err-reserve_one-clause-kept c = reserved_more c.args.ends.now c.loop-send.ends c.reserve_one.new.ends c.loop-send.invariant.kept c.reserve_one.ensures.kept

pub loop-send-preserved : goal.loop-send-preserved
loop-send-preserved c =
    reserves_next (length c.args.sends.now) c.loop-send.send-index c.send-item.result c.args.sends.now c.args.ends.now c.loop-send.ends c.reserve_one.new.ends
    (search rules) (search rules) c.loop-send.invariant c.reserve_one.ensures.kept (search rules)

pub returns-clause-ok : goal.returns-clause-ok
returns-clause-ok c = reserves_end (length c.args.sends.now) c.loop-send.send-index c.args.sends.now c.args.ends.now c.loop-send.ends (search rules) c.loop-send.invariant
