-- Ends of the first nodes, which are added one by one.
use Rattle.std.specs.Prelude.{◌≡◌, ℕ, ◌<◌, ◌≤◌, List, [], ◌∷◌, ◌++◌, Some, slice_get}
use Rattle.rtrb.specs.Ring.{IsPair}
use Rattle.wires.specs.declared.link.Link.{Link}
use Rattle.wires.specs.declared.ends.Ends.{Ends}
use Rattle.wires.specs.Link.{link_sent, link_received, link_known}
use Rattle.wires.specs.Ends.{node_of, width, link_of}

module _ {P : Type 0} where
  -- nothing was sent or received, and nothing is known
  pub record IsFresh (l : Link P) : Type 0 where
    pub none_sent : link_sent l ≡ []
    pub none_received : link_received l ≡ []
    pub none_known : link_known l ≡ []

  -- the ends have one link more
  pub record Gains (l : Link P) (a b : Ends P) : Type 0 where
    pub node : node_of b ≡ node_of a
    pub links : b.links.items ≡ a.links.items ++ l ∷ []

  -- the ends of the nodes below n: each has n links, all pair, and nothing was sent
  pub record IsBuilt (n : ℕ) (es : List (Ends P)) : Type 0 where
    pub node : (i : ℕ) (a : Ends P) → slice_get es i ≡ Some a → node_of a ≡ i
    pub wide : (i : ℕ) (a : Ends P) → slice_get es i ≡ Some a → width a ≡ n
    pub fresh : (i k : ℕ) (a : Ends P) (l : Link P) → slice_get es i ≡ Some a → link_of a k ≡ Some l → IsFresh l
    pub own : (i : ℕ) (a : Ends P) (l : Link P) → slice_get es i ≡ Some a → link_of a i ≡ Some l → IsPair l.to l.from
    pub pairs : (i j : ℕ) (a b : Ends P) (x y : Link P) → i < j → slice_get es i ≡ Some a → slice_get es j ≡ Some b
        → link_of a j ≡ Some x → link_of b i ≡ Some y → IsPair x.to y.from × IsPair y.to x.from

  -- b is a with one link more, whose rings are those of m
  pub record Joined (a b : Ends P) (m : Link P) : Type 0 where
    pub link : Link P
    pub gains : Gains link a b
    pub there : IsPair link.to m.from
    pub back : IsPair m.to link.from
    pub fresh : IsFresh link

  -- the first k ends were joined to the links of `mine`, and the others are as before
  pub record JoinedBelow (k : ℕ) (before now : List (Ends P)) (mine : List (Link P)) : Type 0 where
    pub joined : (i : ℕ) (a b : Ends P) (m : Link P) → slice_get before i ≡ Some a → slice_get now i ≡ Some b → slice_get mine i ≡ Some m → Joined a b m
    pub rest : (i : ℕ) → k ≤ i → slice_get now i ≡ slice_get before i
    pub fresh : (i : ℕ) (m : Link P) → slice_get mine i ≡ Some m → IsFresh m
