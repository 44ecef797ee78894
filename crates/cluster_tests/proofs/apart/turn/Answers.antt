use Rattle.std.proofs.Common.{ap, arith, length}
use Rattle.node_loop.specs.View.{NodeView}
use Rattle.cluster_tests.proofs.Driving.{driven_on, has_begun, in_range, same_read}
use Rattle.cluster_tests.proofs.apart.turn.Goals as goal

pub turn-requires-clause-booted : goal.turn-requires-clause-booted
turn-requires-clause-booted c = has_begun c.args.shell.now c.args.nodes.now c.requires.driven c.args.at c.requires.place c.index-nodes-at-2.result

pub turn-requires-clause-range : goal.turn-requires-clause-range
turn-requires-clause-range c = in_range c.args.shell.now c.args.nodes.now c.requires.driven c.args.at c.requires.place c.index-nodes-at-2.result c.args.act c.requires.range

pub returns : goal.returns
returns c =
    let same = same_read c.args.shell.now c.args.nodes.now c.requires.driven c.args.at c.requires.place c.index-nodes-at-2.result c.index-nodes-at.result in
    driven_on c.args.shell.now c.args.nodes.now c.requires.driven c.args.at c.requires.place c.index-nodes-at-2.result c.args.act c.requires.range c.turn.new.self c.in_ok-turn.field-0 c.in_ok-turn.ensures.turned c.in_ok-turn.ensures.still
    (omega (arith, c.if-entries-ge1000.false, ap length c.entries.ensures, ap (λ (z : NodeView). length z.entries) c.index-nodes-at.is, ap (λ (z : NodeView). length z.entries) same))
    c.nodes_go_on.ensures.goes_on
