use Rattle.std.proofs.Common.{arith}
use Rattle.iso_blocks.proofs.Rows.{same_read, put-touching}
use Rattle.iso_blocks.proofs.holes.put.Goals as goal

pub returns-then-index-end-clause-items : goal.returns-then-index-end-clause-items
returns-then-index-end-clause-items c =
    put-touching c.args.holes.now.items c.args.k c.index-then-index-end.result.now c.args.from c.args.end (omega arith) c.index-then-index-end.ensures
    (rw (same_read c.args.holes.now.items c.args.k c.index-then-index-end.result.now c.index.result.now (omega arith) c.index-then-index-end.ensures c.index.ensures) c.if-index-end.true)
