-- What is seen of the ends of all nodes: each link by its sender and its receiver.
use Rattle.std.specs.Prelude.{◌≡◌, ◌⊎◌, ℕ, ◌≤◌, List, [], ◌++◌, length, Option, Some, None, slice_get, slice_set}
use mathlib.Core.List.{IsPrefix}
use Rattle.rtrb.specs.Ring.{IsPair}
use Rattle.wires.specs.declared.link.Link.{Link}
use Rattle.wires.specs.declared.ends.Ends.{Ends}
use Rattle.wires.specs.Link.{link_sent, link_waiting, link_received, link_known, link_spare}
use Rattle.wires.specs.Ends.{node_of, width, of_link, count_of_link}

module _ {P : Type 0} where
  -- a node's side of its links with node k, and nothing where the node isn't there
  abbrev pub row_link : Option (Ends P) → ℕ → Option (Link P)
  row_link None k = None
  row_link (Some a) k = slice_get a.links.items k

  -- node i's side of its links with node j
  abbrev pub link_at : List (Ends P) → ℕ → ℕ → Option (Link P)
  link_at es i j = row_link (slice_get es i) j

  -- every packet that node i sent to node j, oldest first
  abbrev pub sent_on : List (Ends P) → ℕ → ℕ → List P
  sent_on es i j = of_link link_sent (link_at es i j)

  -- those of them that wait in i's outbox
  abbrev pub waiting_on : List (Ends P) → ℕ → ℕ → List P
  waiting_on es i j = of_link link_waiting (link_at es i j)

  -- every packet that node j received of node i, oldest first
  abbrev pub received_on : List (Ends P) → ℕ → ℕ → List P
  received_on es i j = of_link link_received (link_at es j i)

  -- the packets of node i that the ring has shown to node j
  abbrev pub known_on : List (Ends P) → ℕ → ℕ → List P
  known_on es i j = of_link link_known (link_at es j i)

  -- how many packets node i can send to node j without more memory
  abbrev pub spare_on : List (Ends P) → ℕ → ℕ → ℕ
  spare_on es i j = count_of_link link_spare (link_at es i j)

  -- the nodes are in order, each has a link with each, and what i sends to j goes by the ring from which j receives of i
  pub record AreWired (es : List (Ends P)) : Type 0 where
    pub node : (i : ℕ) (a : Ends P) → slice_get es i ≡ Some a → node_of a ≡ i
    pub wide : (i : ℕ) (a : Ends P) → slice_get es i ≡ Some a → width a ≡ length es
    pub pair : (i j : ℕ) (x y : Link P) → link_at es i j ≡ Some x → link_at es j i ≡ Some y → IsPair x.to y.from

  -- wherever one node's ends become others, the ends of all nodes stay wired
  pub record StaysWired (a b : Ends P) : Type 0 where
    pub among : (es : List (Ends P)) (i : ℕ) → AreWired es → slice_get es i ≡ Some a → AreWired (slice_set es i b)

  -- on each link what was received is a prefix of what was sent, in order
  abbrev pub AreInOrder : List (Ends P) → Type 0
  AreInOrder es = (i j : ℕ) → IsPrefix (received_on es i j) (sent_on es i j)

  -- on each link all is known but what was received or waits in the outbox; nothing waits unless the ring of 64 is full,
  -- so something is known unless all was received
  pub record AreSettled (es : List (Ends P)) : Type 0 where
    pub content : (i j : ℕ) → received_on es i j ++ (known_on es i j ++ waiting_on es i j) ≡ sent_on es i j
    pub full : (i j : ℕ) → (waiting_on es i j ≡ []) ⊎ (64 ≤ length (known_on es i j))
    pub shows : (i j : ℕ) → known_on es i j ≡ [] → received_on es i j ≡ sent_on es i j

  -- on no link anything was sent or received, more may be known, and no spare place is lost
  pub record CarriedNoMore (es fs : List (Ends P)) : Type 0 where
    pub nodes : length fs ≡ length es
    pub same_sent : (i j : ℕ) → sent_on fs i j ≡ sent_on es i j
    pub same_received : (i j : ℕ) → received_on fs i j ≡ received_on es i j
    pub more_known : (i j : ℕ) → IsPrefix (known_on es i j) (known_on fs i j)
    pub spare : (i j : ℕ) → spare_on es i j ≤ spare_on fs i j

  -- wires for n nodes, on which nothing was sent or received and nothing is known
  pub record AreFreshFor (n : ℕ) (es : List (Ends P)) : Type 0 where
    pub wired : AreWired es
    pub nodes : length es ≡ n
    pub none_sent : (i j : ℕ) → sent_on es i j ≡ []
    pub none_received : (i j : ℕ) → received_on es i j ≡ []
    pub none_known : (i j : ℕ) → known_on es i j ≡ []
