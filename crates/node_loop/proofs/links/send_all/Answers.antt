use Rattle.std.proofs.Common.{rules, subst}
use Rattle.node_loop.proofs.Wiring.{Sends, sends_none, sends_more}
use Rattle.node_loop.proofs.links.send_all.Goals as goal

pub loop-send-init : goal.loop-send-init
loop-send-init c = subst (λ xs. Sends c.args.stamp c.args.sends.items xs c.args.ends.now c.args.ends.now) (search rules) (sends_none c.args.stamp c.args.sends.items c.args.ends.now c.requires)

pub loop-send-preserved : goal.loop-send-preserved
loop-send-preserved c =
    sends_more c.args.stamp c.in-Some.send c.args.sends.items c.next.new.self.rest.items c.args.ends.now c.loop-send.ends c.send_one.new.ends
    (subst (λ xs. Sends c.args.stamp c.args.sends.items xs c.args.ends.now c.loop-send.ends) (search rules) c.loop-send.invariant) c.send_one.ensures
