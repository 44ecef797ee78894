use Rattle.rv_alu.proofs.WideProducts.{signed_value, signed_bound}
use Rattle.rv_alu.proofs.products.product.Goals as goal

pub returns-clause-value : goal.returns-clause-value
returns-clause-value c = signed_value c.args.x c.args.y c.ranges.x c.ranges.y

pub returns-clause-bound : goal.returns-clause-bound
returns-clause-bound c = rw (signed_value c.args.x c.args.y c.ranges.x c.ranges.y) (signed_bound c.args.x c.args.y c.ranges.x c.ranges.y)
