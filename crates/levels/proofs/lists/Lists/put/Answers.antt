use Rattle.std.proofs.Common.{arith}
use Rattle.levels.specs.Rows.{RunLists}
use Rattle.levels.proofs.Order.{in_order_arrived}
use Rattle.levels.proofs.lists.Lists.put.Goals as goal

pub invariant_of-self-2 : goal.invariant_of-self-2
invariant_of-self-2 c =
    let s : RunLists = record { tree = c.self.inside.tree; rows = c.self.inside.rows.items; next = c.self.inside.next } in
    let o = in_order_arrived c.args.e c.args.list c.args.priority s c.self.invariant (omega (arith, c.if-len-ge-MOST.false, c.len.ensures)) in
    grind (arith, o, c.in_ok-push.ensures.items, c.in-Some.ensures)
