use Rattle.std.proofs.Common.{subst, arith}
use Rattle.run_trace.specs.Program.{nodes_of}
use Rattle.run_trace.specs.declared.entry.Act.TheVariants.{Boot}
use Rattle.node_loop.specs.Turns.{Does}
use Rattle.node_loop.specs.View.{unbooted}
use Rattle.cluster.proofs.Starting.{of_parts, one_begins, one_left}
use Rattle.cluster.proofs.beginning.each_begun.Goals as goal

pub loop-ends-preserved-in_ok-push : goal.loop-ends-preserved-in_ok-push
loop-ends-preserved-in_ok-push c =
    let same = of_parts c.args.program.now c.setup.result.now c.image.result.now c.setup.ensures c.image.ensures in
    one_begins c.args.program.now (nodes_of c.args.program.now) c.loop-ends.yielded c.loop-ends.nodes.items c.loop-ends.rest.items c.in-Some.ends c.in_ok-boot.field-0 _ _
    (omega arith) c.in_ok-push.ensures.items (omega (arith, c.len-then-len-from.ensures, c.loop-ends.nodes.ok.0)) (record {
      does = subst (λ q. Does (unbooted q c.len-then-len-from.result c.in-Some.ends) Boot c.in_ok-boot.field-0) same c.in_ok-boot.ensures.booted;
      booted = c.in_ok-boot.ensures.begun;
    }) c.loop-ends.invariant

pub loop-ends-preserved : goal.loop-ends-preserved
loop-ends-preserved c =
    one_left c.args.program.now (nodes_of c.args.program.now) c.loop-ends.yielded c.loop-ends.nodes.items c.loop-ends.rest.items c.in-Some.ends _
    (omega arith) c.in_ok-push-2.ensures.items c.loop-ends.invariant
