use Rattle.rv_alu.proofs.WideProducts.{mixed_value, mixed_bound}
use Rattle.rv_alu.proofs.products.mixed_product.Goals as goal

pub returns-clause-value : goal.returns-clause-value
returns-clause-value c = mixed_value c.args.x c.args.y c.ranges.x c.ranges.y.fits

pub returns-clause-bound : goal.returns-clause-bound
returns-clause-bound c = rw (mixed_value c.args.x c.args.y c.ranges.x c.ranges.y.fits) (mixed_bound c.args.x c.args.y c.ranges.x c.ranges.y.fits)
