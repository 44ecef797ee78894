use Rattle.std.proofs.Common.{None, sym, subst}
use Rattle.node_loop.specs.Links.{Took}
use Rattle.node_loop.proofs.Wiring.{boot_takes, run_takes, move_takes}
use Rattle.node_loop.proofs.links.take.Goals as goal

pub returns-in-Boot : goal.returns-in-Boot
returns-in-Boot c = subst (λ a. Took a None c.args.ends.now c.args.ends.now) (sym c.in-Boot.is) (boot_takes c.args.ends.now)

pub returns-in-Run : goal.returns-in-Run
returns-in-Run c = subst (λ a. Took a None c.args.ends.now c.args.ends.now) (sym c.in-Run.is) (run_takes _ _ c.args.ends.now)

pub returns-in-Move : goal.returns-in-Move
returns-in-Move c = subst (λ a. Took a None c.args.ends.now c.args.ends.now) (sym c.in-Move.is) (move_takes _ _ c.args.ends.now)
