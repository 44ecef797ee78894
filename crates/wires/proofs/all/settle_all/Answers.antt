use Rattle.std.proofs.Common.{refl, arith}
use Rattle.wires.specs.Link.{IsSettled}
use Rattle.wires.proofs.Walk.{going_on, pair_going, self_going, done_none, row_none, pair_done, pair_row, self_done, carried_no_more, all_settled}
use Rattle.wires.proofs.all.settle_all.Goals as goal

pub loop-j-init : goal.loop-j-init
loop-j-init g c = record { going = going_on c.args.nodes.now c.requires; done = done_none IsSettled c.args.nodes.now }

pub loop-i-init : goal.loop-i-init
loop-i-init g c = record { going = c.loop-j.invariant.going; done = c.loop-j.invariant.done; row = row_none IsSettled c.loop-j.j c.loop-j.nodes }

pub loop-i-preserved : goal.loop-i-preserved
loop-i-preserved g c =
    let h = c.loop-i.invariant in
    let k = c.settle_pair.ensures.settled in
    let i = c.loop-i.i in
    let j = c.loop-j.j in
    let fs = c.loop-i.nodes in
    let gs = c.settle_pair.new.nodes in
    record {
      going = pair_going IsSettled i j c.args.nodes.now fs gs h.going k;
      done = pair_done IsSettled i j fs gs (omega arith) h.done k;
      row = pair_row IsSettled i j fs gs (omega arith) h.row k;
    }

pub loop-j-preserved : goal.loop-j-preserved
loop-j-preserved g c =
    let h = c.loop-i.invariant in
    let k = c.settle_self.ensures.settled in
    let j = c.loop-j.j in
    let fs = c.loop-i.nodes in
    let gs = c.settle_self.new.nodes in
    record { going = self_going IsSettled j c.args.nodes.now fs gs h.going k; done = self_done IsSettled j fs gs h.done (record { each = λ p x y lt r s. h.row.each p x y (omega arith) r s }) k }

pub returns : goal.returns
returns g c =
    let h = c.loop-j.invariant in
    let fs = c.loop-j.nodes in
    record {
      ok = refl;
      wired = h.going.wired;
      same = carried_no_more c.args.nodes.now fs c.requires h.going;
      settled = all_settled fs h.going.wired (record { each = λ p q x y lp lq r s. h.done.each p q x y (omega (arith, h.going.nodes)) (omega (arith, h.going.nodes)) r s });
    }
