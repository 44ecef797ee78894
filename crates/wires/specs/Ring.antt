-- What is said of the two ends of one ring and of the outbox before it.
use Rattle.std.specs.Prelude.{◌≡◌, ◌+◌, ◌≤◌, ◌⊎◌, [], ◌++◌, length}
use mathlib.Core.List.{IsPrefix}
use Rattle.std.specs.declared.alloc.Global.{Global}
use Rattle.std.specs.VecDeque.{deque_capacity, deque_len}
use Rattle.std.specs.declared.collections.VecDeque.{VecDeque}
use Rattle.rtrb.specs.declared.AnyItems.{AnyItems}
use Rattle.rtrb.specs.declared.producer.Producer.{Producer}
use Rattle.rtrb.specs.declared.consumer.Consumer.{Consumer}
use Rattle.rtrb.specs.Ring.{sent, received, known_free, known_items, producer_capacity, SameProducer, SameConsumer, ProducerLooked, ConsumerLooked}

module _ {P : Type 0} where
  -- packets went from the outbox into the ring, in order, until one of the two could do no more
  pub record Flushed (p : Producer P Global AnyItems) (o : VecDeque P Global) (p' : Producer P Global AnyItems) (o' : VecDeque P Global) : Type 0 where
    pub ring : SameProducer p p'
    pub same_sent : sent p' ++ o'.items ≡ sent p ++ o.items
    pub capacity : deque_capacity o' ≡ deque_capacity o
    pub free : length (sent p) + known_free p ≤ length (sent p') + known_free p'
    pub fewer : deque_len o' ≤ deque_len o
    pub done : (o'.items ≡ []) ⊎ (known_free p' ≡ 0)

  -- both ends were looked at: what was received and what is in the ring are what the ring was given
  pub record Seen (p : Producer P Global AnyItems) (c : Consumer P Global AnyItems) (p' : Producer P Global AnyItems) (c' : Consumer P Global AnyItems) : Type 0 where
    pub to : ProducerLooked p p'
    pub from : ConsumerLooked c c'
    pub fifo : received c' ++ known_items c' ≡ sent p'

  -- all that the ring holds is known, and it is full unless the outbox is empty
  pub record Settled (p : Producer P Global AnyItems) (o : VecDeque P Global) (c : Consumer P Global AnyItems) (p' : Producer P Global AnyItems) (o' : VecDeque P Global) (c' : Consumer P Global AnyItems) : Type 0 where
    pub to : SameProducer p p'
    pub from : SameConsumer c c'
    pub capacity : deque_capacity o' ≡ deque_capacity o
    pub fewer : deque_len o' ≤ deque_len o
    pub same_sent : sent p' ++ o'.items ≡ sent p ++ o.items
    pub same_received : received c' ≡ received c
    pub more_known : IsPrefix (known_items c) (known_items c')
    pub fifo : received c' ++ known_items c' ≡ sent p'
    pub full : (o'.items ≡ []) ⊎ (producer_capacity p ≤ length (known_items c'))
    pub shows : known_items c' ≡ [] → o'.items ≡ []
