use Rattle.std.proofs.Common.{arith, ◌+◌}
use Rattle.iso_blocks.proofs.Rows.{same_read, extend-touching, extend-apart}
use Rattle.iso_blocks.proofs.holes.extend.Goals as goal
use Rattle.iso_blocks.proofs.holes.extend.Goals.{else-next-len-via-then-next-len+else-index-end, else-next-len-via-else-next-len}

pub returns-then-index-end-clause-items : goal.returns-then-index-end-clause-items
returns-then-index-end-clause-items c d = rw c.remove-past.ensures.items
    (extend-touching c.args.holes.now.items c.args.k (c.args.k + 1) c.index.result.now c.index-then-next-len.result.now c.remove-past.result c.args.end d (omega arith) (omega arith)
    c.index.ensures c.index-then-next-len.ensures c.if-index-end.true c.remove-past.ensures.value)

pub returns-else-next-len-clause-items : goal.returns-else-next-len-clause-items
returns-else-next-len-clause-items c d =
    extend-apart c.args.holes.now.items c.args.k (c.args.k + 1) c.index.result.now c.args.end d (omega arith) (omega arith) c.index.ensures
    (λ e l read same. elim c.else-next-len.branch [
      | else-next-len-via-then-next-len+else-index-end w ↦
          w.if-index-end.false (rw (same_read c.args.holes.now.items (c.args.k + 1) w.index-then-next-len.result.now e l w.index-then-next-len.ensures read) same)
      | else-next-len-via-else-next-len w ↦ omega (arith, w.if-next-len.false)
    ])
