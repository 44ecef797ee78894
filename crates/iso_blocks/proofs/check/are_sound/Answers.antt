use Rattle.std.proofs.Common.{arith}
use Rattle.iso_blocks.proofs.KeptBy.{slots_within}
use Rattle.iso_blocks.proofs.check.are_sound.Goals as goal

pub overflow_add-end : goal.overflow_add-end
overflow_add-end c =
    let block = c.is_block.ensures.0 c.if-not-is_block.false in
    let w = slots_within c.args.slots.now _ _ c.requires (omega (arith, block.some)) block.inside in
    omega (arith, w.1)
