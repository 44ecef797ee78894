use Rattle.std.proofs.Common.{◌∙◌}
use Rattle.pack_thread.proofs.Building.{blocks_none, blocks_more}
use Rattle.pack_thread.proofs.opened.live_at.Goals as goal

pub loop-k-init : goal.loop-k-init
loop-k-init c = c.in_ok-reserve.ensures.items ∙ c.new-live.ensures.items ∙ blocks_none c.args.bytes.now c.args.at

pub loop-k-preserved : goal.loop-k-preserved
loop-k-preserved c =
    c.in_ok-push.ensures.items ∙ blocks_more c.args.bytes.now c.args.at c.loop-k.k c.read_u64-address.result c.read_u64-size.result c.loop-k.live.items c.loop-k.invariant c.read_u64-address.ensures c.read_u64-size.ensures
