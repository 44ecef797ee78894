use Rattle.std.proofs.Common.{refl, arith}
use Rattle.cluster.specs.Between.{moves_among}
use Rattle.cluster.proofs.Lists.{moves_more, moves_skip, none_left}
use Rattle.cluster.proofs.listing.push_moves_of.Goals as goal

pub loop-to-preserved : goal.loop-to-preserved
loop-to-preserved c =
    moves_more c.args.own c.args.t.now c.loop-to.to c.args.count _ _ _ (omega arith) c.in_ok-push.ensures.items c.if-to-own.false c.loop-to.invariant

pub loop-to-preserved-then-to-own : goal.loop-to-preserved-then-to-own
loop-to-preserved-then-to-own c =
    moves_skip c.args.own c.args.t.now c.loop-to.to c.args.count _ _ (omega arith) c.if-to-own.true c.loop-to.invariant

pub returns : goal.returns
returns c = none_left (moves_among c.args.own c.args.t.now) c.loop-to.to c.args.count _ _ refl (omega arith) c.loop-to.invariant
