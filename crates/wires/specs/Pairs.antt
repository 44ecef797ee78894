-- What one step of a walk over all links does.
use Rattle.std.specs.Prelude.{◌≡◌, ℕ, List, length, Some}
use Rattle.wires.specs.declared.link.Link.{Link}
use Rattle.wires.specs.declared.ends.Ends.{Ends}
use Rattle.wires.specs.Wires.{link_at, AreWired}

module _ {P : Type 0} where
  -- the links between nodes i and j changed by R, no other did, and all stay wired
  pub record PairChanged (i j : ℕ) (R : Link P → Link P → Link P → Link P → Type 0) (es fs : List (Ends P)) : Type 0 where
    pub x : Link P
    pub y : Link P
    pub x' : Link P
    pub y' : Link P
    pub was_x : link_at es i j ≡ Some x
    pub was_y : link_at es j i ≡ Some y
    pub is_x : link_at fs i j ≡ Some x'
    pub is_y : link_at fs j i ≡ Some y'
    pub changed : R x y x' y'
    pub others : (p q : ℕ) → (p ≡ i → q ≡ j → ⊥) → (p ≡ j → q ≡ i → ⊥) → link_at fs p q ≡ link_at es p q
    pub nodes : length fs ≡ length es
    pub wired : AreWired fs

  -- the link of node i with itself changed by R, no other did, and all stay wired
  pub record SelfChanged (i : ℕ) (R : Link P → Link P → Type 0) (es fs : List (Ends P)) : Type 0 where
    pub x : Link P
    pub x' : Link P
    pub was_x : link_at es i i ≡ Some x
    pub is_x : link_at fs i i ≡ Some x'
    pub changed : R x x'
    pub others : (p q : ℕ) → (p ≡ i → q ≡ i → ⊥) → link_at fs p q ≡ link_at es p q
    pub nodes : length fs ≡ length es
    pub wired : AreWired fs
