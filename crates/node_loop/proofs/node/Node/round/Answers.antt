use Rattle.std.proofs.Common.{ap}
use Rattle.run_trace.specs.Local.{Local}
use Rattle.node_loop.specs.View.{NodeView}
use Rattle.node_loop.proofs.Rounding.{rounded, stopped}
use Rattle.node_loop.proofs.node.Node.round.Goals as goal

pub returns-in-Ok : goal.returns-in-Ok
returns-in-Ok g c = rounded c.args.events c.args.self.now c.passes.new.self c.requires.booted c.in-Ok.ensures.ok

pub returns-in-Err : goal.returns-in-Err
returns-in-Err g c =
    stopped c.args.events c.args.self.now c.passes.new.self _ c.fresh.result c.requires.booted c.in-Err.ensures.err
    (ap (λ (v : NodeView). record v { state = c.fresh.result }) c.self-2.view_is) (ap (λ (z : Local). z.booted) c.fresh.ensures)
