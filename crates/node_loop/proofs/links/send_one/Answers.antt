use Rattle.std.proofs.Common.{◌≡◌, arith}
use Rattle.node_loop.proofs.Wiring.{sent_past}
use Rattle.node_loop.proofs.links.send_one.Goals as goal

pub returns-else-to-width : goal.returns-else-to-width
returns-else-to-width c =
    let same : c.to.inside.0 ≡ c.args.send.to = c.to.view_is in
    sent_past c.args.stamp c.args.send c.args.ends.now (omega (arith, same, c.if-to-width.false, c.width.ensures))
