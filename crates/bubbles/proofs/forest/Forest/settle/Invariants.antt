use Rattle.std.proofs.Common.{◌≡◌, drop}
use Rattle.bubbles.specs.Rows.{bubble_of, members_of}
use Rattle.bubbles.specs.Forests.{all_arrive}
use Rattle.bubbles.proofs.forest.Forest.settle.Given as goal

abbrev pub invariant-loop-i : goal.invariant-loop-i
invariant-loop-i l = (members_of (bubble_of l.b l.self.bubbles) ≡ members_of (bubble_of l.b l.fn.self.bubbles))
    × (all_arrive l.list (drop l.i (members_of (bubble_of l.b l.fn.self.bubbles))) l.self ≡ all_arrive l.list (members_of (bubble_of l.b l.fn.self.bubbles)) l.fn.self)
