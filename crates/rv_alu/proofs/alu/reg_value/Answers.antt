use Rattle.std.proofs.Common.{arith}
use Rattle.std.proofs.lemmas.Grind.{common_steps}
use Rattle.rv_alu.proofs.alu.reg_value.Goals as goal

pub returns-in-Sraw : goal.returns-in-Sraw
returns-in-Sraw c = grind (arith, common_steps)
