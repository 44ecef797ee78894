use Rattle.asm_laws.proofs.Running.{number_puts}
use Rattle.asm_laws.proofs.laws.load_number_law.Goals as goal

pub returns : goal.returns
returns c = number_puts
