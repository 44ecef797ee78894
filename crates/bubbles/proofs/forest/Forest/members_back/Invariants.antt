use Rattle.std.proofs.Common.{◌≡◌, drop}
use Rattle.bubbles.specs.Rows.{bubble_of, members_of}
use Rattle.bubbles.specs.Forests.{members_back}
use Rattle.bubbles.proofs.Gathering.{back_with}
use Rattle.bubbles.proofs.forest.Forest.members_back.Given as goal

abbrev pub invariant-loop-i : goal.invariant-loop-i
invariant-loop-i l = (members_of (bubble_of l.b l.self.bubbles) ≡ members_of (bubble_of l.b l.fn.self.bubbles))
    × (back_with l.kept.items (drop l.i (members_of (bubble_of l.b l.fn.self.bubbles))) l.self ≡ members_back l.b l.fn.self)
