use Rattle.std.proofs.Common.{rules}
use Rattle.rv_asm.specs.Images.{services_below}
use Rattle.rv_asm.proofs.assembling.services_below.Goals as goal

pub loop-number-init : goal.loop-number-init
unfolding services_below
loop-number-init c = search rules
