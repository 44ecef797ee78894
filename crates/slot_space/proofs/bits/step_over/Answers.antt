use Rattle.std.proofs.Common.{◌*◌, get_or, arith}
use Rattle.slot_space.specs.Words.{bit_of}
use Rattle.slot_space.proofs.Words.{bit_of-in}
use Rattle.slot_space.proofs.Search.{start_found, full, place_found, from_high, no_zeros, none_said}
use Rattle.slot_space.proofs.bits.step_over.Goals as goal
use Rattle.slot_space.proofs.bits.step_over.Goals.{then-count-lt64+in_default, else-count-lt64}

pub returns-then-base-start : goal.returns-then-base-start
returns-then-base-start c =
    let word = get_or c.args.words.now c.args.i 0 in
    full (bit_of c.args.words.now) (64 * c.args.i) word c.args.count c.args.start (bit_of-in c.args.words.now c.args.i) (c.requires.words.fit c.args.i) c.requires.some c.requires.so_far
    (no_zeros word (omega arith)) (omega arith)

pub returns-else-base-start : goal.returns-else-base-start
returns-else-base-start c = (
  omega (arith, c.requires.so_far.within),
  start_found (bit_of c.args.words.now) (64 * c.args.i) (get_or c.args.words.now c.args.i 0) c.args.count c.args.start (bit_of-in c.args.words.now c.args.i) (c.requires.words.fit c.args.i) c.requires.some c.requires.so_far 64 (omega arith) (no_zeros (get_or c.args.words.now c.args.i 0) (omega arith)) (omega arith),
)

pub returns-then-start-count : goal.returns-then-start-count
returns-then-start-count c = (
  omega (arith, c.requires.so_far.within),
  start_found (bit_of c.args.words.now) (64 * c.args.i) (get_or c.args.words.now c.args.i 0) c.args.count c.args.start (bit_of-in c.args.words.now c.args.i) (c.requires.words.fit c.args.i) c.requires.some c.requires.so_far c.lowest-low.result (omega (arith, c.lowest-low.ensures.within)) c.lowest-low.ensures.below c.if-start-count.true,
)

pub returns-in-Some : goal.returns-in-Some
returns-in-Some c =
    let k = c.in-Some.ensures {u = tt} in (
      omega (arith, k.0),
      place_found (bit_of c.args.words.now) (64 * c.args.i) (get_or c.args.words.now c.args.i 0) c.args.count c.args.start (bit_of-in c.args.words.now c.args.i) (c.requires.words.fit c.args.i) c.requires.some c.requires.so_far c.lowest-low.result c.highest-high.result
          c.lowest-low.ensures.within c.highest-high.ensures.within c.lowest-low.ensures.set c.highest-high.ensures.set (omega arith) c.in-Some.place k.0 k.1 k.2,
    )

pub returns : goal.returns
returns c = from_high (bit_of c.args.words.now) (64 * c.args.i) (get_or c.args.words.now c.args.i 0) c.args.count c.args.start (bit_of-in c.args.words.now c.args.i) (c.requires.words.fit c.args.i) c.requires.some c.requires.so_far c.lowest-low.result c.highest-high.result
    c.lowest-low.ensures.within c.highest-high.ensures.within c.lowest-low.ensures.set c.highest-high.ensures.set (omega arith) c.highest-high.ensures.above
    (λ few. elim c.if-count-lt64.branch [ then-count-lt64+in_default w ↦ none_said _ _ _ w.lowest_ones.result w.lowest_ones.ensures w.in_default.not-Some | else-count-lt64 w ↦ absurd (omega arith) ])
