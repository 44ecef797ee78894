use Rattle.std.proofs.Common.{◌≡◌, ◌++◌, ◌-◌, ◌/◌, length}
use Rattle.std.specs.List.{flat_map, range_with_len}
use Rattle.asm_list.specs.Listing.{line_at, word_lines}
use Rattle.asm_list.proofs.listing.push_words.Given as goal

abbrev pub invariant-loop-index : goal.invariant-loop-index
invariant-loop-index l =
    l.out.items ++ flat_map (line_at l.image.bytes) (range_with_len l.index (length l.image.bytes / 4 - l.index)) ≡ l.fn.out.items ++ word_lines l.image.bytes
