use Rattle.std.proofs.Common.{◌≡◌, take}
use Rattle.iso_blocks.specs.Kept.{heap_of, IsKept}
use Rattle.iso_blocks.proofs.FreeBytes.{heap}
use Rattle.iso_blocks.proofs.layout.Layout.occupy_all.Given as goal

abbrev pub invariant-loop-block : goal.invariant-loop-block
invariant-loop-block l = record {
  kept : IsKept l.self;
  heap : heap_of l.self ≡ heap (take l.block-index l.live) l.initial.self.heap;
}
