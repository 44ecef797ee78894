use Rattle.std.proofs.Common.{arith, ℕ, List, sym, ap, ◌∙◌, refl}
use Rattle.iso_blocks.specs.Heap.{without}
use Rattle.iso_blocks.proofs.FreeBytes.{heap}
use Rattle.iso_blocks.proofs.LiveBlocks.{without-place}
use Rattle.iso_blocks.proofs.KeptBy.{block_within, kept-leave}
use Rattle.iso_blocks.proofs.Rows.{same_read}
use Rattle.iso_blocks.proofs.layout.Layout.lift.Goals as goal

pub overflow_add-address : goal.overflow_add-address
overflow_add-address c = let w = block_within c.args.self.now c.args.k c.remove-address.result c.requires.kept c.requires.within c.remove-address.ensures.value in omega (arith, w.1)

pub returns-clause-kept : goal.returns-clause-kept
returns-clause-kept c =
    let live = c.args.self.now.live.items in
    let b = c.remove-address.result in
    let read = c.remove-address.ensures.value in
    let gone = without-place 0 c.args.self.now.heap live b.0 c.args.k b c.requires.kept.sound c.requires.within (ap (λ (p : ℕ × ℕ). p.0) (sym read)) in
    kept-leave c.args.self.now _ b.0 b.1 c.args.k c.requires.kept
    (record {
      within = c.requires.within;
      block = read;
      live = c.remove-address.ensures.items ∙ sym gone;
      holes = c.release.ensures.items;
      heap = refl;
      met = c.met_without-met.ensures b read;
      slots = refl;
      room = c.release.ensures.capacity;
    })

pub returns-clause-heap : goal.returns-clause-heap
returns-clause-heap c d other =
    let live = c.args.self.now.live.items in
    let b = c.remove-address.result in
    let read = c.remove-address.ensures.value in
    let gone = without-place 0 c.args.self.now.heap live b.0 c.args.k b c.requires.kept.sound c.requires.within (ap (λ (p : ℕ × ℕ). p.0) (sym read)) in
    ap (λ (rows : List (ℕ × ℕ)). heap rows c.args.self.now.heap) (c.remove-address.ensures.items ∙ sym gone)
    ∙ ap (λ (p : ℕ × ℕ). heap (without live p.0) c.args.self.now.heap) (same_read live c.args.k b d c.requires.within read other)
