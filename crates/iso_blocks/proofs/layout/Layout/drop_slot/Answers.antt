use Rattle.std.proofs.Common.{arith, refl}
use Rattle.slot_space.proofs.Lemmas.{length-minus}
use Rattle.iso_blocks.proofs.KeptBy.{kept-shrink, slot_free}
use Rattle.iso_blocks.proofs.layout.Layout.drop_slot.Goals as goal

pub occupy-requires-clause-free : goal.occupy-requires-clause-free
occupy-requires-clause-free c = rw c.base-start.ensures (slot_free c.args.self.now c.args.slot c.requires.kept c.requires.there c.requires.unmet)

pub returns-clause-kept : goal.returns-clause-kept
returns-clause-kept c =
    let n = length-minus c.args.slot c.args.self.now.heap c.requires.kept.proper.ascending c.requires.there in
    kept-shrink c.args.self.now _ c.args.slot c.requires.kept c.requires.there c.requires.unmet
    (record {
      live = refl;
      holes = rw c.base-start.ensures at c.occupy.ensures.items;
      heap = c.remove.ensures;
      met = refl;
      slots = omega (arith, n, c.requires.kept.counted);
      room = c.occupy.ensures.capacity;
    })
