-- What is seen of one node's side of the two links between it and another node.
use Rattle.std.specs.Prelude.{◌≡◌, ◌⊎◌, ℕ, ◌+◌, ◌-◌, ◌≤◌, List, [], ◌∷◌, ◌++◌, length, Option, Some, None}
use mathlib.Core.List.{IsPrefix}
use Rattle.std.specs.VecDeque.{deque_len, deque_capacity}
use Rattle.rtrb.specs.Ring.{sent, received, known_free, known_items, SameProducer, SameConsumer}
use Rattle.wires.specs.declared.link.Link.{Link}

module _ {P : Type 0} where
  -- every packet sent so far, oldest first
  abbrev pub link_sent : Link P → List P
  link_sent l = sent l.to ++ l.outbox.items

  -- the packets sent last, which have not gone into the ring yet
  abbrev pub link_waiting : Link P → List P
  link_waiting l = l.outbox.items

  -- every packet received so far, oldest first
  abbrev pub link_received : Link P → List P
  link_received l = received l.from

  -- the packets that the ring has shown: the next takes give them
  abbrev pub link_known : Link P → List P
  link_known l = known_items l.from

  -- how many packets can be sent without more memory
  abbrev pub link_spare : Link P → ℕ
  link_spare l = deque_capacity l.outbox - deque_len l.outbox

  -- how many packets the ring is known to have room for
  abbrev pub link_room : Link P → ℕ
  link_room l = known_free l.to

  -- the two hold the same ends of the same rings
  pub record SameRings (a b : Link P) : Type 0 where
    pub to : SameProducer a.to b.to
    pub from : SameConsumer a.from b.from

  -- a packet was sent, by one of the spare places
  pub record HasSent (packet : P) (a b : Link P) : Type 0 where
    pub sends : link_sent b ≡ link_sent a ++ packet ∷ []
    pub same_received : link_received b ≡ link_received a
    pub same_known : link_known b ≡ link_known a
    pub spare : link_spare b + 1 ≡ link_spare a

  -- a packet that was taken was received, and was the first of those that were known; none was taken only where none was known
  abbrev pub Takes : Option P → Link P → Link P → Type 0
  Takes None a b = (link_received b ≡ link_received a) × (link_known a ≡ []) × (link_known b ≡ [])
  Takes (Some x) a b = (link_received b ≡ link_received a ++ x ∷ []) × IsPrefix (link_known a) (x ∷ link_known b)

  pub record HasTaken (packet : Option P) (a b : Link P) : Type 0 where
    pub takes : Takes packet a b
    pub same_sent : link_sent b ≡ link_sent a
    pub same_waiting : link_waiting b ≡ link_waiting a
    pub same_spare : link_spare b ≡ link_spare a

  -- nothing was sent, received or learned, and no spare place is lost
  pub record SameLink (a b : Link P) : Type 0 where
    pub same_sent : link_sent b ≡ link_sent a
    pub same_received : link_received b ≡ link_received a
    pub same_known : link_known b ≡ link_known a
    pub spare : link_spare a ≤ link_spare b

  -- nothing waits any more, or the ring was seen to be full
  pub record HasFlushed (a b : Link P) : Type 0 where
    pub same : SameLink a b
    pub done : (link_waiting b ≡ []) ⊎ (link_room b ≡ 0)

  -- nothing was sent or received, more may be known, and no spare place is lost
  pub record KeptLink (a b : Link P) : Type 0 where
    pub same_sent : link_sent b ≡ link_sent a
    pub same_received : link_received b ≡ link_received a
    pub more_known : IsPrefix (link_known a) (link_known b)
    pub spare : link_spare a ≤ link_spare b

  -- what m received is a prefix of what l sent, in order
  abbrev pub IsInOrder : Link P → Link P → Type 0
  IsInOrder l m = IsPrefix (link_received m) (link_sent l)

  -- m knows all that l sent, but for what was received or waits in the outbox; nothing waits unless the ring of 64 is full
  pub record IsSettled (l m : Link P) : Type 0 where
    pub content : link_received m ++ (link_known m ++ link_waiting l) ≡ link_sent l
    pub full : (link_waiting l ≡ []) ⊎ (64 ≤ length (link_known m))
    pub shows : link_known m ≡ [] → link_received m ≡ link_sent l

  -- the two sides of two links carried no more, and Q now holds of each link
  pub record BothBecome (Q : Link P → Link P → Type 0) (x y x' y' : Link P) : Type 0 where
    pub kept_x : KeptLink x x'
    pub kept_y : KeptLink y y'
    pub there : Q x' y'
    pub back : Q y' x'

  -- a node's link with itself carried no more, and Q now holds of it
  pub record OwnBecomes (Q : Link P → Link P → Type 0) (x x' : Link P) : Type 0 where
    pub kept : KeptLink x x'
    pub own : Q x' x'
