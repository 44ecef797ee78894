use Rattle.std.proofs.Common.{arith, ◌+◌, sym, ap, ◌∙◌, refl, length}
use Rattle.slot_space.specs.Limits.{slot_size}
use Rattle.iso_blocks.proofs.FreeBytes.{heap}
use Rattle.iso_blocks.proofs.Edits.{length-join}
use Rattle.slot_space.proofs.Lemmas.{insert-same, length-insert}
use Rattle.iso_blocks.proofs.KeptBy.{kept-grow}
use Rattle.iso_blocks.proofs.layout.Layout.add_slot.Goals as goal

-- a slot that is there already changes nothing
pub returns-then-contains-clause-heap : goal.returns-then-contains-clause-heap
returns-then-contains-clause-heap c =
    let member = sym c.contains.ensures.member ∙ c.if-contains.true in
    ap (heap c.args.self.now.live.items) (sym (insert-same c.args.slot c.args.self.now.heap c.requires.kept.proper.ascending member))

pub returns-clause-kept : goal.returns-clause-kept
returns-clause-kept c =
    let new = sym c.contains.ensures.member ∙ c.if-contains.false in
    kept-grow c.args.self.now _ c.args.slot c.requires.kept c.requires.small new
    (record {
      live = refl;
      holes = rw c.base-start.ensures at c.release.ensures.items;
      heap = c.insert.ensures;
      met = refl;
      slots = refl;
      room = omega (arith, c.release.ensures.capacity, c.requires.room);
    })

pub returns-clause-added : goal.returns-clause-added
returns-clause-added c =
    let new = sym c.contains.ensures.member ∙ c.if-contains.false in
    let a = length-join c.base-start.result (c.base-start.result + slot_size) c.args.self.now.holes.items in
    let b = length-insert c.args.slot c.args.self.now.heap new in
    omega (arith, a, b, ap length c.release.ensures.items, ap length c.insert.ensures)
