use Rattle.std.proofs.Common.{arith}
use Rattle.wires.specs.Link.{IsInOrder}
use Rattle.wires.proofs.Walk.{going_on, pair_going, self_going, done_none, row_none, pair_done, pair_row, self_done, carried_no_more, all_in_order}
use Rattle.wires.proofs.all.look_all.Goals as goal

pub loop-j-init : goal.loop-j-init
loop-j-init g c = record { going = going_on c.args.nodes.now c.requires; done = done_none IsInOrder c.args.nodes.now }

pub loop-i-init : goal.loop-i-init
loop-i-init g c = record { going = c.loop-j.invariant.going; done = c.loop-j.invariant.done; row = row_none IsInOrder c.loop-j.j c.loop-j.nodes }

pub loop-i-preserved : goal.loop-i-preserved
loop-i-preserved g c =
    let h = c.loop-i.invariant in
    let k = c.look_pair.ensures in
    let i = c.loop-i.i in
    let j = c.loop-j.j in
    let fs = c.loop-i.nodes in
    let gs = c.look_pair.new.nodes in
    record {
      going = pair_going IsInOrder i j c.args.nodes.now fs gs h.going k;
      done = pair_done IsInOrder i j fs gs (omega arith) h.done k;
      row = pair_row IsInOrder i j fs gs (omega arith) h.row k;
    }

pub loop-j-preserved : goal.loop-j-preserved
loop-j-preserved g c =
    let h = c.loop-i.invariant in
    let k = c.look_self.ensures in
    let j = c.loop-j.j in
    let fs = c.loop-i.nodes in
    let gs = c.look_self.new.nodes in
    record { going = self_going IsInOrder j c.args.nodes.now fs gs h.going k; done = self_done IsInOrder j fs gs h.done (record { each = λ p x y lt r s. h.row.each p x y (omega arith) r s }) k }

pub returns : goal.returns
returns g c =
    let h = c.loop-j.invariant in
    let fs = c.loop-j.nodes in
    record {
      wired = h.going.wired;
      same = carried_no_more c.args.nodes.now fs c.requires h.going;
      order = all_in_order fs h.going.wired (record { each = λ p q x y lp lq r s. h.done.each p q x y (omega (arith, h.going.nodes)) (omega (arith, h.going.nodes)) r s });
    }
