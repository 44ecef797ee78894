use Rattle.asm_laws.proofs.Running.{address_puts}
use Rattle.asm_laws.proofs.laws.load_address_law.Goals as goal

pub returns : goal.returns
returns c = address_puts
