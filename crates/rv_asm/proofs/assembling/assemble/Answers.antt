use Rattle.std.proofs.Common.{arith}
use Rattle.rv_asm.proofs.Readable.{readable}
use Rattle.rv_asm.proofs.assembling.assemble.Goals as goal

pub image_of_lines-requires : goal.image_of_lines-requires
image_of_lines-requires c =
    rw c.deref.ensures.value (readable c.in_ok-readings.readings.items c.args.source.now (omega arith) c.in_ok-readings.ensures.exact c.in_ok-readings.ensures.sound)
