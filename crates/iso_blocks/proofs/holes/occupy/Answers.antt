use Rattle.std.proofs.Common.{arith, get_or, sym, ◌∙◌, add-one}
use Rattle.iso_blocks.proofs.Rows.{cut-at, same_default}
use Rattle.iso_blocks.proofs.Parts.{found}
use Rattle.iso_blocks.proofs.holes.occupy.Goals as goal

pub split-requires-clause-within : goal.split-requires-clause-within
split-requires-clause-within c =
    let xs = c.args.holes.now.items in
    let r = found 0 xs c.ending_before-k.result c.args.from c.args.end (0, 0) c.requires.some c.requires.apart c.requires.free
    (rw c.deref.ensures.value at c.ending_before-k.ensures.before) (rw c.deref.ensures.value at c.ending_before-k.ensures.behind) (rw c.deref.ensures.value at c.ending_before-k.ensures.bound) in
    omega (arith, r.0, rw c.deref.ensures.value at c.deref.ensures.len)

pub returns-clause-items : goal.returns-clause-items
returns-clause-items c =
    let xs = c.args.holes.now.items in
    let k = c.ending_before-k.result in
    let r = found 0 xs k c.args.from c.args.end (0, 0) c.requires.some c.requires.apart c.requires.free
    (rw c.deref.ensures.value at c.ending_before-k.ensures.before) (rw c.deref.ensures.value at c.ending_before-k.ensures.behind) (rw c.deref.ensures.value at c.ending_before-k.ensures.bound) in
    let read = same_default xs k (0, 0) r.0 in
    c.split.ensures.items (get_or xs k (0, 0)) read ∙ rw add-one (sym (cut-at xs k (get_or xs k (0, 0)) c.args.from c.args.end r.0 read (omega (arith, r.2, c.requires.some)) (rw c.deref.ensures.value at c.ending_before-k.ensures.before)))
