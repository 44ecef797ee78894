use Rattle.std.proofs.Common.{rules}
use Rattle.asm_targets.proofs.Loads.{longer}
use Rattle.asm_targets.proofs.expanding.+push_within.Goals as goal

pub returns : goal.returns
returns c = search (rules, longer)
