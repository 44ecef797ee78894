use Rattle.std.proofs.Common.{refl}
use Rattle.asm_text.specs.Rows.{pseudo_instructions}
use Rattle.asm_text.proofs.rows.pseudo_instructions.Goals as goal

pub returns : goal.returns
unfolding pseudo_instructions
returns c = refl
