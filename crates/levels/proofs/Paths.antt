-- The lists that cover a processor: as entities arrive, and on the way down.
use Rattle.std.proofs.Common.{◌≡◌, ℕ, zero, suc, ◌<◌, ◌≤◌, List, [], ◌∷◌, ◌++◌, Option, Some, None, true, false, cond, refl, arith}
use Rattle.std.specs.Prelude.{nat_le, ◌==◌, if◌then◌else◌}
use Rattle.levels.specs.Rows.{Row}
use Rattle.levels.specs.Trees.{Tree, tree_of, processors_below, processors, depth_of, covers, is_leaf, next_towards}
use Rattle.levels.specs.Choice.{has_ready}

pub ready_new : (tree : Tree) (vp : ℕ) (rows : List Row) (last : Row) → covers tree vp last.1.list ≡ true → has_ready tree vp (rows ++ last ∷ []) ≡ true
ready_new tree vp [] last h = rw h refl
ready_new tree vp (row ∷ rows) last h = elim (covers tree vp row.1.list) as (λ c. cond c true (has_ready tree vp (rows ++ last ∷ [])) ≡ true) [ true ↦ refl | false ↦ ready_new tree vp rows last h ]

pub ready_more : (tree : Tree) (vp : ℕ) (rows : List Row) (last : Row) → has_ready tree vp rows ≡ true → has_ready tree vp (rows ++ last ∷ []) ≡ true
ready_more tree vp [] last h = absurd (cc h)
ready_more tree vp (row ∷ rows) last h =
    elim (covers tree vp row.1.list) as (λ c. cond c true (has_ready tree vp rows) ≡ true → cond c true (has_ready tree vp (rows ++ last ∷ [])) ≡ true)
    [ true ↦ λ q. refl | false ↦ λ q. ready_more tree vp rows last q ] h

next_below : (first : ℕ) (second : Option ℕ) (list vp : ℕ) → vp < processors_below first second → covers (tree_of first second) vp list ≡ true → is_leaf (tree_of first second) list ≡ false
    → (covers (tree_of first second) vp (next_towards (tree_of first second) list vp) ≡ true) × (depth_of (tree_of first second) list < depth_of (tree_of first second) (next_towards (tree_of first second) list vp))
next_below first None zero vp p c l = (grind arith, grind arith)
next_below first None (suc list) vp p c l = absurd (grind (arith, p, c, l))
next_below first (Some second) zero vp p c l = (grind arith, grind arith)
next_below first (Some second) (suc list) vp p c l = (grind (arith, l), grind (arith, l))

pub next_goes : (tree : Tree) (list vp : ℕ) → vp < processors tree → covers tree vp list ≡ true → is_leaf tree list ≡ false
    → (covers tree vp (next_towards tree list vp) ≡ true) × (depth_of tree list < depth_of tree (next_towards tree list vp))
next_goes tree list vp p c l = next_below tree.first tree.second list vp p c l

pub depth_most : (tree : Tree) (list : ℕ) → depth_of tree list ≤ 2
depth_most tree list = elim (list == 0) as (λ c. (if c then 0 else (if nat_le list tree.first then 1 else 2)) ≤ 2) [ true ↦ omega arith | false ↦ elim (nat_le list tree.first) as (λ c. (if c then 1 else 2) ≤ 2) [ true ↦ omega arith | false ↦ omega arith ] ]
