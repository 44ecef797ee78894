use Rattle.node_loop.proofs.Wiring.{Sends}
use Rattle.node_loop.proofs.links.send_all.Given as goal

-- what is left is still to be sent, and there is room for it
abbrev pub invariant-loop-send : goal.invariant-loop-send
invariant-loop-send l = Sends l.fn.stamp l.fn.sends.items l.send-iterator.rest.items l.fn.ends l.ends
