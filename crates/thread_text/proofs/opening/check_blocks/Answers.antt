use Rattle.std.proofs.Common.{ℕ, arith}
use Rattle.std.proofs.lemmas.Result.{err_from_is_err_and}
use Rattle.iso_blocks.proofs.Lemmas.{slots_within}
use Rattle.thread_text.specs.Fields.{read}
use Rattle.thread_text.specs.Grammar.{block_fields}
use Rattle.thread_text.proofs.Steps.{block_read, block_refused, blocks_begin, blocks_all, block_stands, stand_begin, stand_all}
use Rattle.thread_text.proofs.opening.check_blocks.Goals as goal

pub loop-k-init : goal.loop-k-init
loop-k-init c = record {
  so_far = blocks_begin c.args.bytes.now c.args.at c.args.count c.args.slots.now;
  stand = stand_begin c.args.bytes.now c.args.at c.args.slots.now;
  there = omega (arith, c.requires.inside);
}

pub returns-in_err-address-clause-numbers : goal.returns-in_err-address-clause-numbers
returns-in_err-address-clause-numbers c =
    let p = err_from_is_err_and c.from_residual.result c.from_residual.ensures.1 in
    rw (p.1, p.2) (block_refused c.args.bytes.now c.args.at c.args.count c.loop-k.k c.loop-k.low c.in_err-address.field-0.0 c.args.slots.now
    (read (block_fields c.args.count 0 c.args.slots.now) c.args.bytes.now c.args.at) (omega arith) (c.in_err-address.ensures.numbers _) c.loop-k.invariant.so_far)

pub overflow_add-low : goal.overflow_add-low
overflow_add-low c =
    let block = c.in_ok-address.ensures.block.0 in
    let w = slots_within c.args.slots.now c.in_ok-address.address c.in_ok-address.size c.requires.proper (omega (arith, block.some)) block.inside in
    omega (arith, w.1)

pub loop-k-preserved : goal.loop-k-preserved
loop-k-preserved c =
    let bytes = c.args.bytes.now in
    let slots = c.args.slots.now in
    let k = c.loop-k.k in
    let i = c.loop-k.invariant in
    let e = c.in_ok-address.ensures in
    let b : ℕ × ℕ = (c.in_ok-address.address, c.in_ok-address.size) in
    record {
      so_far = block_read bytes c.args.at c.args.count k c.loop-k.low slots b (read (block_fields c.args.count 0 slots) bytes c.args.at) (omega arith) e.there.0 (e.numbers _) i.so_far;
      stand = block_stands bytes c.args.at k c.loop-k.low slots b e.there.0 e.block.0 e.block.1 i.stand;
      there = omega (arith, e.there.1);
    }

pub returns-clause-numbers : goal.returns-clause-numbers
returns-clause-numbers c = blocks_all c.args.bytes.now c.args.at c.args.count c.loop-k.k c.loop-k.low c.args.slots.now (read (block_fields c.args.count 0 c.args.slots.now) c.args.bytes.now c.args.at) (omega arith) c.loop-k.invariant.so_far

pub returns-clause-sound : goal.returns-clause-sound
returns-clause-sound c = stand_all c.args.bytes.now c.args.at c.loop-k.k c.args.count c.loop-k.low c.args.slots.now (omega arith) c.loop-k.invariant.stand
