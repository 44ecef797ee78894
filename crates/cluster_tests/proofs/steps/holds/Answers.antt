use Rattle.std.proofs.Common.{arith}
use Rattle.cluster_tests.proofs.Walking.{room, standing, walked}
use Rattle.cluster_tests.proofs.steps.holds.Goals as goal

pub step-requires-clause-node : goal.step-requires-clause-node
step-requires-clause-node c =
    let w = c.requires in
    let range = c.is_in_range.ensures c.if-not-is_in_range.false c.args.cluster.now.program w.two in
    omega (arith, range.0, w.two)

pub step-requires-clause-range : goal.step-requires-clause-range
step-requires-clause-range c = (c.is_in_range.ensures c.if-not-is_in_range.false c.args.cluster.now.program c.requires.two).1

pub step-requires-clause-room : goal.step-requires-clause-room
step-requires-clause-room c = room c.args.cluster.now c.requires (omega (arith, c.turns.ensures.value, c.if-turns-ge1000.false)) c.args.row.now.node

pub step-requires-clause-stands : goal.step-requires-clause-stands
step-requires-clause-stands c = standing c.args.cluster.now c.requires

pub returns : goal.returns
returns c = walked c.args.cluster.now c.step.new.self c.args.row.now.node c.args.row.now.act c.in_ok-turned.turned c.requires (c.in_ok-turned.ensures.steps _ c.requires.kept c.requires.stands)
