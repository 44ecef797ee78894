use Rattle.std.proofs.Common.{◌/◌, arith}
use Rattle.slot_space.proofs.Search.{first_of_rest, none_of_rest, first_in, none_more}
use Rattle.slot_space.proofs.bits.first_from.Goals as goal

pub returns-then-rest-ne0 : goal.returns-then-rest-ne0
returns-then-rest-ne0 c = first_of_rest c.args.words.now c.args.from c.lowest.result (omega arith) (c.requires.fit (c.args.from / 64)) c.lowest.ensures.set c.lowest.ensures.below

pub loop-i-init : goal.loop-i-init
loop-i-init c = none_of_rest c.args.words.now c.args.from (omega arith)

pub returns-then-words-i-ne0 : goal.returns-then-words-i-ne0
returns-then-words-i-ne0 c =
    let low = c.lowest-then-words-i-ne0 in
    first_in c.args.words.now c.loop-i.i c.args.from low.result (omega arith) low.ensures.within (omega arith) low.ensures.set low.ensures.below c.loop-i.invariant

pub loop-i-preserved : goal.loop-i-preserved
loop-i-preserved c = none_more c.args.words.now c.loop-i.i c.args.from (omega arith) c.loop-i.invariant
