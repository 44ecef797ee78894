-- The tree of run lists: below each list of a processor that is no leaf is the next one, and each leaf is one processor's.
use Rattle.std.proofs.Common.{◌≡◌, ◌<◌, ◌≤◌, ℕ, zero, suc, ◌+◌, ◌*◌, ◌/◌, List, [], ◌∷◌, Option, Some, None, true, false, eqb, cond, refl, sym, ap, ◌∙◌, subst, arith, ◌⊎◌, inl, inr}
use Rattle.std.specs.Prelude.{slice_get, unwrap_or}
use Rattle.std.proofs.lemmas.Bool.{eqb-true, eq-eqb}
use Rattle.std.proofs.lemmas.Bool.Decides.{nat_tests}
use Rattle.std.proofs.Math.Nat.{div-lt_iff_lt-mul}
use Rattle.slot_space.specs.Sets.{has}
use Rattle.levels.specs.Trees.{Tree, processors_below, processors, depth_of, path_below, path, covers, is_leaf, next_towards}

abbrev tree_with : ℕ → Option ℕ → Tree
tree_with first second = record { first = first; second = second }

has_first : (x : ℕ) (xs : List ℕ) → has x (x ∷ xs) ≡ true
has_first x xs = rw (eq-eqb x x refl) refl

has_later : (x y : ℕ) (xs : List ℕ) → has x xs ≡ true → has x (y ∷ xs) ≡ true
has_later x y xs h = elim (eqb y x) as (λ v. cond v true (has x xs) ≡ true) [ true ↦ refl | false ↦ h ]

depth_one : (tree : Tree) (list : ℕ) → zero < list → list ≤ tree.first → depth_of tree list ≡ 1
depth_one tree list a b = grind (arith, nat_tests, a, b)

depth_two : (tree : Tree) (list : ℕ) → zero < list → tree.first < list → depth_of tree list ≡ 2
depth_two tree list a b = grind (arith, nat_tests, a, b)

in_list : (x y : ℕ) (xs : List ℕ) → has x (y ∷ xs) ≡ true → (x ≡ y) ⊎ (has x xs ≡ true)
in_list x y xs = elim (eqb y x) as (λ v. eqb y x ≡ v → cond v true (has x xs) ≡ true → (x ≡ y) ⊎ (has x xs ≡ true)) [
  | true ↦ λ e h. inl (sym (eqb-true y x e))
  | false ↦ λ e h. inr h
] refl

-- a group of a processor is one of the groups
group_below : (first second vp : ℕ) → vp < first * second → vp / second < first
group_below first zero vp h = absurd (omega (arith, h))
group_below first (suc second) vp h = (div-lt_iff_lt-mul (omega arith)).1 h

abbrev IsNext : Tree → ℕ → ℕ → Type 0
IsNext tree vp list = (covers tree vp (next_towards tree list vp) ≡ true) × (depth_of tree (next_towards tree list vp) ≡ suc (depth_of tree list))

-- what the lists of a processor are
below_root : (first : ℕ) (second : Option ℕ) (vp : ℕ) → vp < processors_below first second → is_leaf (tree_with first second) 0 ≡ false → IsNext (tree_with first second) vp 0
below_root first None vp h l = (has_later (1 + vp) 0 ((1 + vp) ∷ []) (has_first (1 + vp) []), depth_one (tree_with first None) (1 + vp) (omega arith) (omega (arith, h)))
below_root first (Some second) vp h l =
    let g : vp / second < first = group_below first second vp h in
    (has_later (1 + vp / second) 0 ((1 + vp / second) ∷ (1 + first + vp) ∷ []) (has_first (1 + vp / second) ((1 + first + vp) ∷ [])), depth_one (tree_with first (Some second)) (1 + vp / second) (omega arith) (omega (arith, g)))

down_in : (first : ℕ) (second : Option ℕ) (vp list : ℕ) → vp < processors_below first second → has list (path_below first second vp) ≡ true → is_leaf (tree_with first second) list ≡ false → IsNext (tree_with first second) vp list
down_in first None vp list h c l = elim (in_list list (1 + vp) [] c) as (λ v. IsNext (tree_with first None) vp list) [
  | inl e ↦
      let one : depth_of (tree_with first None) list ≡ 1 = subst (λ z. depth_of (tree_with first None) z ≡ 1) (sym e) (depth_one (tree_with first None) (1 + vp) (omega arith) (omega (arith, h))) in
      absurd (cc (l, one))
  | inr e ↦ absurd (cc e)
]
down_in first (Some second) vp list h c l = elim (in_list list (1 + vp / second) ((1 + first + vp) ∷ []) c) as (λ v. IsNext (tree_with first (Some second)) vp list) [
  | inl e ↦
      let g : vp / second < first = group_below first second vp h in
      let tree : Tree = tree_with first (Some second) in
      let one : depth_of tree list ≡ 1 = subst (λ z. depth_of tree z ≡ 1) (sym e) (depth_one tree (1 + vp / second) (omega arith) (omega (arith, g))) in
      let next : next_towards tree list vp ≡ 1 + first + vp = ap (λ d. unwrap_or (slice_get (path tree vp) (suc d)) 0) one in (
        ap (covers tree vp) next ∙ has_later (1 + first + vp) 0 ((1 + vp / second) ∷ (1 + first + vp) ∷ []) (has_later (1 + first + vp) (1 + vp / second) ((1 + first + vp) ∷ []) (has_first (1 + first + vp) [])),
        ap (depth_of tree) next ∙ depth_two tree (1 + first + vp) (omega arith) (omega arith) ∙ ap suc (sym one),
      )
  | inr d ↦ elim (in_list list (1 + first + vp) [] d) as (λ v. IsNext (tree_with first (Some second)) vp list) [
    | inl e ↦
        let tree : Tree = tree_with first (Some second) in
        let two : depth_of tree list ≡ 2 = subst (λ z. depth_of tree z ≡ 2) (sym e) (depth_two tree (1 + first + vp) (omega arith) (omega arith)) in
        absurd (cc (l, two))
    | inr e ↦ absurd (cc e)
  ]
]

pub down : (tree : Tree) (vp list : ℕ) → vp < processors tree → covers tree vp list ≡ true → is_leaf tree list ≡ false
    → (covers tree vp (next_towards tree list vp) ≡ true) × (depth_of tree (next_towards tree list vp) ≡ suc (depth_of tree list))
down tree vp list h c l = elim (in_list list 0 (path_below tree.first tree.second vp) c) as (λ v. IsNext tree vp list) [
  | inl e ↦ subst (λ z. IsNext tree vp z) (sym e) (below_root tree.first tree.second vp h (subst (λ z. is_leaf tree z ≡ false) e l))
  | inr d ↦ down_in tree.first tree.second vp list h d l
]

-- a leaf is the last list of a processor
leaf_in : (first : ℕ) (second : Option ℕ) (vp list : ℕ) → vp < processors_below first second → has list (path_below first second vp) ≡ true → is_leaf (tree_with first second) list ≡ true
    → list ≡ (elim second as (λ o. ℕ) [ None ↦ 1 + vp | Some m ↦ 1 + first + vp ])
leaf_in first None vp list h c l = elim (in_list list (1 + vp) [] c) as (λ v. list ≡ 1 + vp) [ inl e ↦ e | inr e ↦ absurd (cc e) ]
leaf_in first (Some second) vp list h c l = elim (in_list list (1 + vp / second) ((1 + first + vp) ∷ []) c) as (λ v. list ≡ 1 + first + vp) [
  | inl e ↦
      let g : vp / second < first = group_below first second vp h in
      let tree : Tree = tree_with first (Some second) in
      let one : depth_of tree list ≡ 1 = subst (λ z. depth_of tree z ≡ 1) (sym e) (depth_one tree (1 + vp / second) (omega arith) (omega (arith, g))) in
      absurd (cc (l, one))
  | inr d ↦ elim (in_list list (1 + first + vp) [] d) as (λ v. list ≡ 1 + first + vp) [ inl e ↦ e | inr e ↦ absurd (cc e) ]
]

leaf_same : (first : ℕ) (second : Option ℕ) (vp other list : ℕ) → list ≡ (elim second as (λ o. ℕ) [ None ↦ 1 + vp | Some m ↦ 1 + first + vp ]) → list ≡ (elim second as (λ o. ℕ) [ None ↦ 1 + other | Some m ↦ 1 + first + other ]) → vp ≡ other
leaf_same first None vp other list x y = omega (arith, x, y)
leaf_same first (Some second) vp other list x y = omega (arith, x, y)

root_leaf : (first : ℕ) (second : Option ℕ) → is_leaf (tree_with first second) 0 ≡ true → ⊥
root_leaf first None l = cc l
root_leaf first (Some second) l = cc l

pub one_leaf : (tree : Tree) (vp other list : ℕ) → vp < processors tree → other < processors tree → covers tree vp list ≡ true → covers tree other list ≡ true → is_leaf tree list ≡ true → vp ≡ other
one_leaf tree vp other list h k c d l = elim (in_list list 0 (path_below tree.first tree.second vp) c) as (λ v. vp ≡ other) [
  | inl e ↦ absurd (root_leaf tree.first tree.second (subst (λ z. is_leaf tree z ≡ true) e l))
  | inr x ↦ elim (in_list list 0 (path_below tree.first tree.second other) d) as (λ v. vp ≡ other) [
    | inl e ↦ absurd (root_leaf tree.first tree.second (subst (λ z. is_leaf tree z ≡ true) e l))
    | inr y ↦ leaf_same tree.first tree.second vp other list (leaf_in tree.first tree.second vp list h x l) (leaf_in tree.first tree.second other list k y l)
  ]
]
