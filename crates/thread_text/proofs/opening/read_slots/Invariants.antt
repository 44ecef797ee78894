use Rattle.std.proofs.Common.{◌≡◌, ◌+◌, ◌-◌, ◌*◌, ◌≤◌, [], false, length}
use Rattle.slot_space.specs.Limits.{slot_limit}
use Rattle.slot_space.specs.Sets.{has, IsAscending, AreBelow}
use Rattle.thread_text.specs.Fields.{read}
use Rattle.thread_text.specs.Grammar.{slot_fields}
use Rattle.thread_text.specs.Reading.{behind_all}
use Rattle.thread_text.proofs.opening.read_slots.Given as goal

abbrev pub invariant-loop-k : goal.invariant-loop-k
invariant-loop-k l = record {
  so_far : read (slot_fields l.count 0 l.stack []) l.bytes 285 ≡ behind_all l.slots (read (slot_fields (l.count - l.k) l.low l.stack l.slots) l.bytes (285 + 2 * l.k));
  ascending : IsAscending l.slots;
  below : AreBelow l.low l.slots;
  small : l.low ≤ slot_limit;
  apart : has l.stack l.slots ≡ false;
  counted : length l.slots ≡ l.k;
}
