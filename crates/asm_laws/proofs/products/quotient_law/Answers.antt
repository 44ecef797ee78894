use Rattle.asm_laws.proofs.Quotients.{quotients}
use Rattle.asm_laws.proofs.products.quotient_law.Goals as goal

pub returns-clause-signed : goal.returns-clause-signed
returns-clause-signed c = quotients
