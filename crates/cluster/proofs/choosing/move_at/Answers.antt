use Rattle.std.proofs.Common.{arith}
use Rattle.cluster.proofs.Picks.{none_at, past_names, moved_at}
use Rattle.cluster.proofs.choosing.move_at.Goals as goal

pub returns-then-others-eq0 : goal.returns-then-others-eq0
returns-then-others-eq0 c =
    none_at c.args.moves c.args.node.now c.args.count c.from-others.result c.args.place c.if-not-moves.false (omega (arith, c.me-own.ensures.inside, c.requires)) c.requires c.from-others.ensures c.if-others-eq0.true

pub returns-in-None : goal.returns-in-None
returns-in-None c =
    past_names c.args.moves c.args.node.now c.args.count c.from-others.result c.args.place c.ready_at.result c.if-not-moves.false (omega (arith, c.me-own.ensures.inside, c.requires)) c.requires
    c.from-others.ensures c.if-others-eq0.false c.ready_at.ensures c.in-None.is

pub returns-in-Some : goal.returns-in-Some
returns-in-Some c =
    moved_at c.args.moves c.args.node.now c.args.count c.from-others.result c.args.place c.me-own.result c.other.result c.ready_at.result c.in-Some.t c.if-not-moves.false
    (omega (arith, c.me-own.ensures.inside, c.requires)) c.requires c.from-others.ensures c.if-others-eq0.false c.ready_at.ensures c.in-Some.is c.me-own.ensures.value c.other.ensures
