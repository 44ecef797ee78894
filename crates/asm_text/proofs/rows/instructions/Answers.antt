use Rattle.std.proofs.Common.{refl}
use Rattle.asm_text.specs.Rows.{instructions}
use Rattle.asm_text.proofs.rows.instructions.Goals as goal

pub returns : goal.returns
unfolding instructions
returns c = refl
