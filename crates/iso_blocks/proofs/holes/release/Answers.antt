use Rattle.std.proofs.Common.{arith, sym, ◌∙◌, add-one}
use Rattle.iso_blocks.proofs.Rows.{same_read, join-left, join-right}
use Rattle.iso_blocks.proofs.holes.release.Goals as goal
use Rattle.iso_blocks.proofs.holes.release.Goals.{else-k-len-via-then-k-len+else-index-from, else-k-len-via-else-k-len}

pub returns-then-index-from-clause-items : goal.returns-then-index-from-clause-items
returns-then-index-from-clause-items c =
    let h = c.index.result.now in
    c.extend.ensures.items h ∙ rw add-one (sym (join-left c.args.holes.now.items c.ending_before-k.result h c.args.from c.args.end h (omega arith) c.index.ensures c.if-index-from.true
    (rw c.deref.ensures.value at c.ending_before-k.ensures.before)))

pub returns-else-k-len-clause-items : goal.returns-else-k-len-clause-items
returns-else-k-len-clause-items c =
    c.put.ensures.items ∙ sym (join-right c.args.holes.now.items c.ending_before-k.result c.args.from c.args.end (rw c.deref.ensures.value at c.ending_before-k.ensures.bound)
    (rw c.deref.ensures.value at c.ending_before-k.ensures.before) (rw c.deref.ensures.value at c.ending_before-k.ensures.behind)
    (λ e l read same. elim c.else-k-len.branch [
      | else-k-len-via-then-k-len+else-index-from w ↦
          w.if-index-from.false (rw (same_read c.args.holes.now.items c.ending_before-k.result w.index.result.now e l w.index.ensures read) same)
      | else-k-len-via-else-k-len w ↦ omega (arith, w.if-k-len.false)
    ]))
