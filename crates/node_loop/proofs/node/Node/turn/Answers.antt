use Rattle.std.proofs.Common.{rules}
use Rattle.node_loop.proofs.Stepping.{still_booted}
use Rattle.node_loop.proofs.node.Node.turn.Goals as goal

pub returns-clause-still : goal.returns-clause-still
returns-clause-still c = let h = still_booted c.args.self.now c.step.new.self c.args.act c.requires.booted in search (rules, h)
