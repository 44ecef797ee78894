use Rattle.std.proofs.Common.{◌≡◌, ◌∙◌, refl, ap, arith}
use Rattle.slot_space.specs.Sets.{insert}
use Rattle.slot_space.proofs.Ascending.{starting-none, starting-with, starting-without, proper-starting}
use Rattle.slot_space.proofs.slot_set.SlotSet.starting.Goals as goal
use Rattle.slot_space.proofs.slot_set.SlotSet.starting.Goals.{then-s-geometry, else-s-geometry}

pub loop-s-init : goal.loop-s-init
loop-s-init c = c.empty-set.ensures ∙ starting-none c.args.geometry.now.nodes c.node.inside.0

pub loop-s-preserved : goal.loop-s-preserved
loop-s-preserved c =
    let nodes = c.args.geometry.now.nodes in
    let node = c.node.inside.0 in
    let s = c.loop-s.s in
    elim c.if-s-geometry.branch [
      | then-s-geometry w ↦ w.set-is ∙ w.insert.ensures ∙ ap (insert s) c.loop-s.invariant ∙ starting-with nodes node s w.if-s-geometry.true
      | else-s-geometry w ↦ w.set-is ∙ c.loop-s.invariant ∙ starting-without nodes node s w.if-s-geometry.false
    ]

pub returns : goal.returns
returns c =
    let all : c.loop-s.s ≡ c.args.geometry.now.slots = omega arith in
    rw (c.loop-s.invariant, all, ← c.node.view_is) (record {
      slots = refl;
      proper = proper-starting c.args.geometry.now.nodes c.node.inside.0 c.args.geometry.now.slots c.args.geometry.now.few_slots;
    })
