-- What is seen of one node's ends.
use Rattle.std.specs.Prelude.{◌≡◌, ◌≢◌, ℕ, ◌<◌, List, [], Option, Some, None, vec_len, slice_get}
use Rattle.rtrb.specs.Ring.{IsPair}
use Rattle.wires.specs.Link.{link_sent, link_waiting, link_received, link_known, link_spare, HasFlushed}
use Rattle.wires.specs.declared.link.Link.{Link}
use Rattle.wires.specs.declared.ends.Ends.{Ends}

module _ {P : Type 0} where
  -- the node whose ends they are
  abbrev pub node_of : Ends P → ℕ
  node_of e = e.me

  -- the number of nodes
  abbrev pub width : Ends P → ℕ
  width e = vec_len e.links

  -- the side of the links with node k
  abbrev pub link_of : Ends P → ℕ → Option (Link P)
  link_of e k = slice_get e.links.items k

  -- the packets that a link has, and none where there is no link
  abbrev pub of_link : (Link P → List P) → Option (Link P) → List P
  of_link f None = []
  of_link f (Some l) = f l

  -- a number that a link has, and 0 where there is no link
  abbrev pub count_of_link : (Link P → ℕ) → Option (Link P) → ℕ
  count_of_link f None = 0
  count_of_link f (Some l) = f l

  -- every packet sent to node k, oldest first
  abbrev pub sent_to : Ends P → ℕ → List P
  sent_to e k = of_link link_sent (link_of e k)

  -- those of them that have not gone into the ring yet
  abbrev pub waiting_to : Ends P → ℕ → List P
  waiting_to e k = of_link link_waiting (link_of e k)

  -- every packet received from node k, oldest first
  abbrev pub received_from : Ends P → ℕ → List P
  received_from e k = of_link link_received (link_of e k)

  -- the packets that the ring of node k has shown: the next takes give them
  abbrev pub known_from : Ends P → ℕ → List P
  known_from e k = of_link link_known (link_of e k)

  -- how many packets can be sent to node k without more memory
  abbrev pub spare_to : Ends P → ℕ → ℕ
  spare_to e k = count_of_link link_spare (link_of e k)

  -- every link but that with node k is the same
  pub record SameOthers (k : ℕ) (a b : Ends P) : Type 0 where
    pub node : node_of b ≡ node_of a
    pub width : width b ≡ width a
    pub links : (i : ℕ) → i ≢ k → link_of b i ≡ link_of a i

  -- the link with node k changed by R, and no other
  pub record LinkChanged (k : ℕ) (R : Link P → Link P → Type 0) (a b : Ends P) : Type 0 where
    pub before : Link P
    pub after : Link P
    pub was : link_of a k ≡ Some before
    pub is : link_of b k ≡ Some after
    pub changed : R before after
    pub others : SameOthers k a b

  -- each link was flushed: nothing was sent, received or learned
  pub record AreFlushed (a b : Ends P) : Type 0 where
    pub node : node_of b ≡ node_of a
    pub width : width b ≡ width a
    pub each : (k : ℕ) (x y : Link P) → link_of a k ≡ Some x → link_of b k ≡ Some y → HasFlushed x y

  -- nothing was sent or received on any link, and nothing is known
  pub record AreUnused (a : Ends P) : Type 0 where
    pub none_sent : (k : ℕ) → sent_to a k ≡ []
    pub none_received : (k : ℕ) → received_from a k ≡ []
    pub none_known : (k : ℕ) → known_from a k ≡ []

  -- of each ring between the two nodes one holds one end, and the other the other; a node and itself share one ring
  pub record ArePaired (a b : Ends P) : Type 0 where
    pub there : node_of b < width a
    pub here : node_of a < width b
    pub rings : (x y : Link P) → link_of a (node_of b) ≡ Some x → link_of b (node_of a) ≡ Some y → IsPair x.to y.from × IsPair y.to x.from

  -- the links between two nodes changed by R, and no other
  pub record BothChanged (R : Link P → Link P → Link P → Link P → Type 0) (a b a' b' : Ends P) : Type 0 where
    pub x : Link P
    pub y : Link P
    pub x' : Link P
    pub y' : Link P
    pub was_x : link_of a (node_of b) ≡ Some x
    pub was_y : link_of b (node_of a) ≡ Some y
    pub is_x : link_of a' (node_of b) ≡ Some x'
    pub is_y : link_of b' (node_of a) ≡ Some y'
    pub changed : R x y x' y'
    pub others_a : SameOthers (node_of b) a a'
    pub others_b : SameOthers (node_of a) b b'
