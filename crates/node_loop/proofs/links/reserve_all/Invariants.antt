use Rattle.std.proofs.Common.{length, drop}
use Rattle.node_loop.proofs.Wiring.{Reserves}
use Rattle.node_loop.proofs.links.reserve_all.Given as goal

-- with room for what is left there is room for all
abbrev pub invariant-loop-send : goal.invariant-loop-send
invariant-loop-send l = Reserves (length l.fn.sends) l.fn.sends (drop l.send-index l.fn.sends) l.fn.ends l.ends
