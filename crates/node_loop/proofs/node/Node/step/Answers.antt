use Rattle.std.proofs.Common.{refl}
use Rattle.node_loop.proofs.Stepping.{stamp_within, lost, rests, idles, does, if_err}
use Rattle.node_loop.proofs.node.Node.step.Goals as goal

pub record-requires : goal.record-requires
record-requires c = rw c.next_stamp-stamp.ensures (stamp_within c.self.inside.clock _ c.take-took.result c.self.invariant.0)

pub returns-in_err-done-clause-err : goal.returns-in_err-done-clause-err
returns-in_err-done-clause-err c = if_err c.from_residual.result
    (lost _ _ _ c.args.act c.take-took.result c.event.new.state c.take-took.new.ends c.self.view_is c.take-took.ensures (rests _))

pub returns-in_err-record-in-Some-clause-err : goal.returns-in_err-record-in-Some-clause-err
returns-in_err-record-in-Some-clause-err c = if_err c.from_residual-in_err-record-in-Some.result
    (lost _ _ _ c.args.act c.take-took.result c.event.new.state c.take-took.new.ends c.self.view_is c.take-took.ensures c.in_err-record-in-Some.ensures.err)

pub returns-in-None-clause-turned : goal.returns-in-None-clause-turned
returns-in-None-clause-turned c =
    idles _ _ _ c.args.act c.event.new.state c.take-took.new.ends c.take-took.result c.in_ok-done.done c.self.view_is refl
    c.self.invariant.1 c.requires.booted c.requires.range c.take-took.ensures c.in_ok-done.ensures c.in-None.is

pub returns-in_ok-record-in-Some-clause-turned : goal.returns-in_ok-record-in-Some-clause-turned
returns-in_ok-record-in-Some-clause-turned c =
    does _ _ _ c.args.act c.event.new.state c.take-took.new.ends c.take-took.result c.in_ok-done.done c.in-Some.done c.next_stamp-stamp.result c.self.view_is
    c.in_ok-record-in-Some.ensures.ok c.take-took.ensures c.next_stamp-stamp.ensures c.in_ok-done.ensures c.in-Some.is
