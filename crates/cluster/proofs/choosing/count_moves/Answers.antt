use Rattle.std.proofs.Common.{arith}
use Rattle.cluster.proofs.Picks.{moves_counted}
use Rattle.cluster.proofs.choosing.count_moves.Goals as goal

pub returns : goal.returns
returns c =
    moves_counted c.args.moves c.args.node.now c.args.count c.listed.result c.from.result c.saturating_mul.result c.if-not-moves.false (omega (arith, c.me-own.ensures.inside, c.requires)) c.requires
    c.listed.ensures c.from.ensures c.saturating_mul.ensures
