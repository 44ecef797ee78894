use Rattle.asm_laws.proofs.Uppers.{halves_signed, halves_mixed}
use Rattle.asm_laws.proofs.products.product_law.Goals as goal

pub returns-clause-signed : goal.returns-clause-signed
returns-clause-signed c = halves_signed

pub returns-clause-mixed : goal.returns-clause-mixed
returns-clause-mixed c = halves_mixed
