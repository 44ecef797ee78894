use Rattle.std.proofs.Common.{◌≡◌, ℕ, ◌+◌, ◌-◌, ◌*◌, ◌≤◌, List, ◌++◌, length}
use Rattle.iso_blocks.specs.Heap.{StandFrom}
use Rattle.thread_text.specs.Fields.{read}
use Rattle.thread_text.specs.Grammar.{block_fields}
use Rattle.thread_text.specs.Reading.{behind_all, blocks_at}
use Rattle.thread_text.specs.Numbers.{block_numbers}
use Rattle.thread_text.proofs.opening.check_blocks.Given as goal

abbrev pub invariant-loop-k : goal.invariant-loop-k
invariant-loop-k l = record {
  so_far : read (block_fields l.count 0 l.slots) l.bytes l.at ≡ behind_all (block_numbers (blocks_at l.bytes l.at l.k)) (read (block_fields (l.count - l.k) l.low l.slots) l.bytes (l.at + 16 * l.k));
  stand : (rest : List (ℕ × ℕ)) → StandFrom l.low l.slots rest → StandFrom 0 l.slots (blocks_at l.bytes l.at l.k ++ rest);
  there : l.at + 16 * l.k ≤ length l.bytes;
}
