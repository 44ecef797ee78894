use Rattle.std.proofs.Common.{◌/◌, ◌++◌, length, arith}
use Rattle.asm_list.specs.Listing.{line_at, word_lines}
use Rattle.basics.proofs.Lemmas.{one_more}
use Rattle.asm_list.proofs.listing.push_words.Goals as goal

pub loop-index-preserved : goal.loop-index-preserved
loop-index-preserved c =
    let bytes = c.args.image.now.bytes in
    one_more (line_at bytes) c.loop-index.out.items c.push_word_at.new.out.items (c.args.out.now.items ++ word_lines bytes) (length bytes / 4) c.loop-index.index
    (omega arith) c.in_ok-push_word_at.ensures c.loop-index.invariant
