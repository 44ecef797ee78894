-- The nodes that want a turn to buy.
use Rattle.std.specs.Prelude.{◌≡◌, ℕ, ◌<◌, List, true, nat_eq}
use Rattle.std.specs.List.{list_any, IsDistinct}
use Rattle.slot_space.specs.Limits.{node_limit}

-- no node stands in the list twice, and each is below the limit of nodes
pub record AreOnceEach (nodes : List ℕ) : Type 0 where
  pub once : IsDistinct nat_eq nodes
  pub small : (n : ℕ) → list_any (nat_eq n) nodes ≡ true → n < node_limit
