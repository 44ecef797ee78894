use Rattle.std.proofs.Common.{arith, ℕ, ◌+◌, ◌-◌, List, sym, ap, ◌∙◌, refl, subst}
use Rattle.iso_blocks.specs.Heap.{Heap, Fits, with_block}
use Rattle.iso_blocks.proofs.FreeBytes.{heap}
use Rattle.iso_blocks.proofs.LiveBlocks.{starts_rise, with_block-at}
use Rattle.iso_blocks.proofs.KeptBy.{kept-occupy, fits_within}
use Rattle.iso_blocks.proofs.layout.Layout.occupy.Goals as goal

pub starting_before-k-requires : goal.starting_before-k-requires
starting_before-k-requires c = rw c.deref.ensures.value (starts_rise 0 c.reserve.new.self.heap c.reserve.new.self.live.items c.in_ok-reserve.ensures.kept.sound)

pub overflow_add-end : goal.overflow_add-end
overflow_add-end c = let w = fits_within c.args.self.now c.args.size c.args.address c.requires.kept c.requires.fits c.requires.some in omega (arith, w.1)

pub slots_of-first-requires-clause-low : goal.slots_of-first-requires-clause-low
slots_of-first-requires-clause-low c = (fits_within c.args.self.now c.args.size c.args.address c.requires.kept c.requires.fits c.requires.some).0

pub slots_of-first-requires-clause-high : goal.slots_of-first-requires-clause-high
slots_of-first-requires-clause-high c = (fits_within c.args.self.now c.args.size c.args.address c.requires.kept c.requires.fits c.requires.some).1

pub returns-clause-kept : goal.returns-clause-kept
returns-clause-kept c =
    let l = c.reserve.new.self in
    let fits : Fits (heap l.live.items l.heap) c.args.size c.args.address =
    let P : Heap → Type 0 = λ h. Fits h c.args.size c.args.address in subst P (sym c.in_ok-reserve.ensures.same) c.requires.fits in
    let placed = with_block-at (c.args.address, c.args.size) l.live.items c.starting_before-k.result (rw c.deref.ensures.value at c.starting_before-k.ensures.bound)
    (rw c.deref.ensures.value at c.starting_before-k.ensures.before) (rw c.deref.ensures.value at c.starting_before-k.ensures.behind) in
    kept-occupy l _ c.args.address c.args.size c.slots_of-first.result.0 c.slots_of-first.result.1 (c.slots_of-first.result.0 + c.slots_of-first.result.1 - 1)
    c.in_ok-reserve.ensures.kept fits c.requires.some c.requires.whole
    (record {
      live = c.in_ok-insert.ensures.items ∙ sym placed;
      holes = c.occupy.ensures.items;
      heap = refl;
      met = c.insert_run.ensures;
      slots = refl;
      room = omega (arith, c.in_ok-reserve.ensures.room, c.occupy.ensures.capacity);
      starts = c.slots_of-first.ensures.first;
      ends = c.slots_of-first.ensures.last;
      counts = omega (arith, c.slots_of-first.ensures.some);
    })

pub returns-clause-ok : goal.returns-clause-ok
returns-clause-ok c =
    let l = c.reserve.new.self in
    let placed = with_block-at (c.args.address, c.args.size) l.live.items c.starting_before-k.result (rw c.deref.ensures.value at c.starting_before-k.ensures.bound)
    (rw c.deref.ensures.value at c.starting_before-k.ensures.before) (rw c.deref.ensures.value at c.starting_before-k.ensures.behind) in
    ap (λ (live : List (ℕ × ℕ)). heap live l.heap) (c.in_ok-insert.ensures.items ∙ sym placed)
    ∙ ap (λ (h : Heap). heap (with_block (c.args.address, c.args.size) h.live) h.slots) c.in_ok-reserve.ensures.same
