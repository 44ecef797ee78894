use Rattle.std.proofs.Common.{◌≡◌}
use Rattle.asm_targets.specs.Labels.{mark_in, service_in}
use Rattle.rv_asm.specs.Images.{services_below}
use Rattle.rv_asm.proofs.assembling.services_below.Given as goal

abbrev pub invariant-loop-number : goal.invariant-loop-number
invariant-loop-number l = l.table.items ≡ services_below l.number (mark_in l.labels) (service_in l.services)
