use Rattle.std.proofs.Common.{arith, add-one}
use Rattle.iso_blocks.proofs.Rows.{same_read, parts-left, parts-right}
use Rattle.iso_blocks.proofs.holes.split.Goals as goal

pub returns-else-end-past-clause-items : goal.returns-else-end-past-clause-items
returns-else-end-past-clause-items c h read =
    rw (same_read c.args.holes.now.items c.args.k h c.index.result.now (omega arith) read c.index.ensures, add-one)
    (parts-left c.args.holes.now.items c.args.k c.index.result.now.0 c.args.from c.args.end c.index.result.now.1 (omega arith) c.if-start-from.true c.if-end-past.false)

pub returns-then-end-past-2-clause-items : goal.returns-then-end-past-2-clause-items
returns-then-end-past-2-clause-items c h read =
    rw (same_read c.args.holes.now.items c.args.k h c.index.result.now (omega arith) read c.index.ensures, add-one)
    (parts-right c.args.holes.now.items c.args.k c.index.result.now.0 c.args.from c.args.end c.index.result.now.1 (omega arith) c.if-start-from.false c.if-end-past-2.true)
