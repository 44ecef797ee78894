use Rattle.std.proofs.Common.{◌^◌}
use Rattle.std.proofs.lemmas.Nat.{mul-mod}
use Rattle.rv_alu.proofs.products.mulw.Goals as goal

pub returns : goal.returns
returns c = let wraps = mul-mod c.args.x c.args.y (2 ^ 32) in cc
