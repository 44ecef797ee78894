use Rattle.std.proofs.Common.{ℕ, List, sym, ap, ◌∙◌, subst, get_or, add-one}
use Rattle.iso_blocks.specs.Heap.{Heap, Fits, with_block}
use Rattle.iso_blocks.proofs.FreeBytes.{heap}
use Rattle.iso_blocks.proofs.LiveBlocks.{block_at}
use Rattle.iso_blocks.proofs.Rows.{same_default}
use Rattle.iso_blocks.proofs.Checks.{fits_next, with_block-next}
use Rattle.iso_blocks.proofs.layout.Layout.occupy_all.Goals as goal

pub occupy-requires-clause-some : goal.occupy-requires-clause-some
occupy-requires-clause-some c =
    let live = c.args.live.now in
    let i = c.loop-block.block-index in
    (block_at 0 c.args.self.now.heap live (get_or live i (0, 0)) i c.requires.sound c.loop-block-test.true (same_default live i (0, 0) c.loop-block-test.true)).some

pub occupy-requires-clause-whole : goal.occupy-requires-clause-whole
occupy-requires-clause-whole c =
    let live = c.args.live.now in
    let i = c.loop-block.block-index in
    (block_at 0 c.args.self.now.heap live (get_or live i (0, 0)) i c.requires.sound c.loop-block-test.true (same_default live i (0, 0) c.loop-block-test.true)).rounded

pub occupy-requires-clause-fits : goal.occupy-requires-clause-fits
occupy-requires-clause-fits c =
    let live = c.args.live.now in
    let i = c.loop-block.block-index in
    let b = get_or live i (0, 0) in
    let P : Heap → Type 0 = λ h. Fits h (get_or live i (0, 0)).1 (get_or live i (0, 0)).0 in
    subst P (sym c.loop-block.invariant.heap)
    (fits_next c.args.self.now.heap live i b c.requires.sound c.loop-block-test.true (same_default live i (0, 0) c.loop-block-test.true))

pub loop-block-preserved : goal.loop-block-preserved
loop-block-preserved c =
    let live = c.args.live.now in
    let i = c.loop-block.block-index in
    let b = get_or live i (0, 0) in
    record {
      kept = c.in_ok-occupy.ensures.kept;
      heap = c.in_ok-occupy.ensures.ok ∙ ap (λ (h : Heap). heap (with_block (get_or live i (0, 0)) h.live) h.slots) c.loop-block.invariant.heap
          ∙ rw add-one (ap (λ (rows : List (ℕ × ℕ)). heap rows c.args.self.now.heap)
          (with_block-next 0 c.args.self.now.heap live i b c.requires.sound c.loop-block-test.true (same_default live i (0, 0) c.loop-block-test.true)));
    }
