use Rattle.std.proofs.Common.{◌≡◌, ◌+◌, ◌≤◌, ◌++◌, length}
use Rattle.std.specs.VecDeque.{deque_capacity, deque_len}
use Rattle.rtrb.specs.Ring.{sent, known_free, SameProducer}
use Rattle.wires.proofs.ring.flush.Given as goal

abbrev pub invariant-loop-n : goal.invariant-loop-n
invariant-loop-n g l = record {
  ring : SameProducer l.initial.to l.to;
  same_sent : sent l.to ++ l.outbox.items ≡ sent l.initial.to ++ l.initial.outbox.items;
  capacity : deque_capacity l.outbox ≡ deque_capacity l.initial.outbox;
  free : length (sent l.initial.to) + known_free l.initial.to ≤ length (sent l.to) + known_free l.to;
  left : deque_len l.outbox + l._n ≡ deque_len l.initial.outbox;
}
