use Rattle.std.proofs.Common.{drop}
use Rattle.iso_blocks.specs.Heap.{StandFrom}
use Rattle.iso_blocks.proofs.check.are_sound.Given as goal

abbrev pub invariant-loop-block : goal.invariant-loop-block
invariant-loop-block l = record {
  onward : StandFrom 0 l.slots l.live → StandFrom l.end l.slots (drop l.block-index l.live);
  back : StandFrom l.end l.slots (drop l.block-index l.live) → StandFrom 0 l.slots l.live;
}
