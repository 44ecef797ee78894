-- Ascending lists: kept by the changes, and determined by their members.
use Rattle.std.proofs.Common.{◌≡◌, ℕ, ◌+◌, ◌%◌, ◌++◌, ◌<◌, ◌≤◌, ◌≢◌, Option, Some, None, zero, suc, List, [], ◌∷◌, Bool, true, false, not, eqb, cond, refl, sym, ap, ◌∙◌, inl, inr, ne_eqb, arith}
use Rattle.std.specs.Prelude.{nat_lt, All, IsTrue}
use Rattle.std.specs.Option.{is_some}
use Rattle.std.specs.List.{filter}
use Rattle.std.proofs.lemmas.Bool.{eq-eqb, eqb-true, eqb-false, cases_eq, cases_lt, lt-ltb, le-ltb, ltb-true, ltb-false}
use Rattle.slot_space.specs.Limits.{slot_limit}
use Rattle.slot_space.specs.Sets.{has, IsAscending, AreBelow, IsSlotSet, insert, union, minus, least_from, run}
use Rattle.slot_space.specs.Addresses.{starting_slots}
use Rattle.slot_space.specs.WordsBack.{has-filter, has-run}
use Rattle.slot_space.proofs.Sets.{has-insert, has-union, has-minus, has-append}

pub ascending-insert : (x : ℕ) (ys : List ℕ) → IsAscending ys → IsAscending (insert x ys)
unfolding insert
ascending-insert x [] r = (λ s e. absurd (cc e), tt)
ascending-insert x (y ∷ ys) r = elim (nat_lt x y) as (λ o. nat_lt x y ≡ o → IsAscending (cond o (x ∷ y ∷ ys) (cond (eqb x y) (y ∷ ys) (y ∷ insert x ys)))) [
  | true ↦ λ e. (λ s g. grind (arith, g, e, r.0 s, eqb-true y s), r)
  | false ↦ λ e. elim (eqb x y) as (λ o. eqb x y ≡ o → IsAscending (cond o (y ∷ ys) (y ∷ insert x ys))) [
    | true ↦ λ f. r
    | false ↦ λ f. (λ s g. grind (arith, g, e, eqb-false x y f, has-insert x s ys, r.0 s, eqb-true x s), ascending-insert x ys r.1)
  ] refl
] refl

pub ascending-union : (xs ys : List ℕ) → IsAscending ys → IsAscending (union xs ys)
unfolding union
ascending-union [] ys r = r
ascending-union (x ∷ xs) ys r = ascending-insert x (union xs ys) (ascending-union xs ys r)

pub ascending-minus : (xs ys : List ℕ) → IsAscending xs → IsAscending (minus xs ys)
unfolding minus
ascending-minus [] ys r = tt
ascending-minus (x ∷ xs) ys r = elim (has x ys) as (λ o. IsAscending (cond o (minus xs ys) (x ∷ minus xs ys))) [
  | true ↦ ascending-minus xs ys r.1
  | false ↦ (λ s e. grind (arith, e, has-minus s xs ys, r.0 s), ascending-minus xs ys r.1)
]

pub ascending-filter : (p : ℕ → Bool) (xs : List ℕ) → IsAscending xs → IsAscending (filter p xs)
ascending-filter p [] r = tt
ascending-filter p (x ∷ xs) r = elim (p x) as (λ o. IsAscending (cond o (x ∷ filter p xs) (filter p xs))) [
  | true ↦ (λ s e. grind (arith, e, has-filter p s xs, r.0 s), ascending-filter p xs r.1)
  | false ↦ ascending-filter p xs r.1
]

pub ascending-run : (first count : ℕ) → IsAscending (run first count)
unfolding run
ascending-run first zero = tt
ascending-run first (suc count) = (λ s e. grind (arith, e, has-run s (suc first) count), ascending-run (suc first) count)

-- two ascending lists with the same members are one
pub same_members : (xs ys : List ℕ) → IsAscending xs → IsAscending ys → ((s : ℕ) → has s xs ≡ has s ys) → xs ≡ ys
same_members [] [] r q k = refl
same_members [] (y ∷ ys) r q k = let e : false ≡ true = k y ∙ rw (eq-eqb y y refl) refl in absurd (cc e)
same_members (x ∷ xs) [] r q k = let e : true ≡ false = sym (rw (eq-eqb x x refl) refl) ∙ k x in absurd (cc e)
same_members (x ∷ xs) (y ∷ ys) r q k =
    let e : x ≡ y = grind (arith, k x, k y, r.0 y, q.0 x, eq-eqb x x refl, eq-eqb y y refl, eqb-true x y, eqb-true y x, eqb-false x y, eqb-false y x) in
    let t : xs ≡ ys = same_members xs ys r.1 q.1 (λ s. grind (arith, e, k s, r.0 s, q.0 s, eqb-true x s, eqb-true y s, eqb-false x s, eqb-false y s)) in
    cc (e, t)

-- nothing from the limit on comes in
pub below-insert : (limit x : ℕ) (ys : List ℕ) → x < limit → AreBelow limit ys → AreBelow limit (insert x ys)
below-insert limit x ys h k s e = grind (arith, e, h, k s, has-insert x s ys, eqb-true x s)

pub below-union : (limit : ℕ) (xs ys : List ℕ) → AreBelow limit xs → AreBelow limit ys → AreBelow limit (union xs ys)
below-union limit xs ys h k s e = grind (arith, e, h s, k s, has-union s xs ys)

pub below-minus : (limit : ℕ) (xs ys : List ℕ) → AreBelow limit xs → AreBelow limit (minus xs ys)
below-minus limit xs ys h s e = grind (arith, e, h s, has-minus s xs ys)

pub below-run : (limit first count : ℕ) → first + count ≤ limit → AreBelow limit (run first count)
below-run limit first count h s e = grind (arith, e, h, has-run s first count)

-- ## A set built up slot by slot

-- any list with one more member
pub union-last : (xs : List ℕ) (x : ℕ) → insert x (union xs []) ≡ union (xs ++ x ∷ []) []
union-last xs x = same_members _ _ (ascending-insert x (union xs []) (ascending-union xs [] tt)) (ascending-union (xs ++ x ∷ []) [] tt)
    (λ s. grind (arith, has-insert x s (union xs []), has-union s xs [], has-union s (xs ++ x ∷ []) [], has-append s xs (x ∷ [])))

-- the union with no other keeps an ascending list
pub union-none : (xs : List ℕ) → IsAscending xs → union xs [] ≡ xs
union-none xs r = same_members (union xs []) xs (ascending-union xs [] tt) r (λ s. grind (arith, has-union s xs []))

-- numbers that are each below the limit
pub below-all : (limit : ℕ) (xs : List ℕ) → All (λ s. s < limit) xs → AreBelow limit xs
below-all limit [] h s e = absurd (cc e)
below-all limit (x ∷ xs) h s e =
    let first : x < limit = h 0 0 (omega arith) in
    grind (arith, e, first, eqb-true x s, below-all limit xs (λ k d l. h (suc k) d (omega arith)) s)

pub proper-of : (xs : List ℕ) → All (λ s. s < slot_limit) xs → IsSlotSet (union xs [])
proper-of xs h = record { ascending = ascending-union xs [] tt; small = below-union slot_limit xs [] (below-all slot_limit xs h) (λ s e. absurd (cc e)) }

-- ## The slots that start with a node

module _ (nodes node : ℕ) where
  pub has-starting : (slots s : ℕ) → has s (starting_slots nodes slots node) ≡ cond (eqb (s % nodes) node) (nat_lt s slots) false
  unfolding starting_slots
  has-starting slots s = grind (arith, has-filter (λ k. eqb (k % nodes) node) s (run 0 slots), has-run s 0 slots)

  pub ascending-starting : (slots : ℕ) → IsAscending (starting_slots nodes slots node)
  unfolding starting_slots
  ascending-starting slots = ascending-filter (λ k. eqb (k % nodes) node) (run 0 slots) (ascending-run 0 slots)

  pub starting-none : [] ≡ starting_slots nodes 0 node
  starting-none = same_members [] (starting_slots nodes 0 node) tt (ascending-starting 0) (λ s. grind (arith, has-starting 0 s))

  pub starting-with : (s : ℕ) → s % nodes ≡ node → insert s (starting_slots nodes s node) ≡ starting_slots nodes (s + 1) node
  starting-with s h = same_members _ _ (ascending-insert s (starting_slots nodes s node) (ascending-starting s)) (ascending-starting (s + 1))
      (λ k. elim (cases_eq s k) [
        | inl same ↦ has-insert s k (starting_slots nodes s node) ∙ rw (eq-eqb s k same) (sym (has-starting (s + 1) k ∙ rw (eq-eqb (k % nodes) node (ap (λ j. j % nodes) (sym same) ∙ h), lt-ltb k (s + 1) (omega arith)) refl))
        | inr other ↦ has-insert s k (starting_slots nodes s node) ∙ rw (ne_eqb s k other) (has-starting s k ∙ same_side s k other ∙ sym (has-starting (s + 1) k))
      ])
    where
      same_side : (s k : ℕ) → s ≢ k → cond (eqb (k % nodes) node) (nat_lt k s) false ≡ cond (eqb (k % nodes) node) (nat_lt k (s + 1)) false
      same_side s k other = ap (λ b. cond (eqb (k % nodes) node) b false) (elim (cases_lt k s) [
        | inl low ↦ lt-ltb k s low ∙ sym (lt-ltb k (s + 1) (omega arith))
        | inr high ↦ le-ltb k s high ∙ sym (le-ltb k (s + 1) (omega arith))
      ])

  pub starting-without : (s : ℕ) → s % nodes ≢ node → starting_slots nodes s node ≡ starting_slots nodes (s + 1) node
  starting-without s h = same_members _ _ (ascending-starting s) (ascending-starting (s + 1))
      (λ k. has-starting s k ∙ elim (cases_eq s k) [
        | inl same ↦ rw (ne_eqb (k % nodes) node (λ e. h (ap (λ j. j % nodes) same ∙ e))) (sym (has-starting (s + 1) k ∙ rw (ne_eqb (k % nodes) node (λ e. h (ap (λ j. j % nodes) same ∙ e))) refl))
        | inr other ↦ ap (λ b. cond (eqb (k % nodes) node) b false) (elim (cases_lt k s) [
          | inl low ↦ lt-ltb k s low ∙ sym (lt-ltb k (s + 1) (omega arith))
          | inr high ↦ le-ltb k s high ∙ sym (le-ltb k (s + 1) (omega arith))
        ]) ∙ sym (has-starting (s + 1) k)
      ])

  pub proper-starting : (slots : ℕ) → slots ≤ slot_limit → IsSlotSet (starting_slots nodes slots node)
  proper-starting slots h = record { ascending = ascending-starting slots; small = λ s e. grind (arith, e, h, has-starting slots s) }

-- ## The least member from a slot on

-- what isn't first is later
later : (x k : ℕ) (xs : List ℕ) → x ≢ k → has k xs ≡ has k (x ∷ xs)
later x k xs other = rw (ne_eqb x k other) refl

pub least_from-some : (s t : ℕ) (xs : List ℕ) → IsAscending xs → has t xs ≡ true → s ≤ t → ((k : ℕ) → s ≤ k → k < t → has k xs ≡ false) → least_from s xs ≡ Some t
unfolding least_from
least_from-some s t [] r h a g = absurd (cc h)
least_from-some s t (x ∷ xs) r h a g = elim (cases_lt x s) [
  | inl low ↦ rw (lt-ltb x s low) (least_from-some s t xs r.1 (later x t xs (omega arith) ∙ h) a (λ k from to. later x k xs (omega arith) ∙ g k from to))
  | inr high ↦ rw (le-ltb x s high) (elim (cases_eq x t) [
    | inl same ↦ ap (λ k. Some k) same
    | inr other ↦
        let after : x < t = r.0 t (later x t xs other ∙ h) in
        let e : false ≡ true = sym (g x high after) ∙ rw (eq-eqb x x refl) refl in absurd (cc e)
  ])
]

pub least_from-none : (s : ℕ) (xs : List ℕ) → ((k : ℕ) → s ≤ k → has k xs ≡ false) → least_from s xs ≡ None
unfolding least_from
least_from-none s [] g = refl
least_from-none s (x ∷ xs) g = elim (cases_lt x s) [
  | inl low ↦ rw (lt-ltb x s low) (least_from-none s xs (λ k from. later x k xs (omega arith) ∙ g k from))
  | inr high ↦ let e : false ≡ true = sym (g x high) ∙ rw (eq-eqb x x refl) refl in absurd (cc e)
]

pub least_from-found : (s t : ℕ) (xs : List ℕ) → least_from s xs ≡ Some t → (s ≤ t) × (has t xs ≡ true)
unfolding least_from
least_from-found s t [] e = absurd (cc e)
least_from-found s t (x ∷ xs) e = elim (nat_lt x s) as (λ o. nat_lt x s ≡ o → cond o (least_from s xs) (Some x) ≡ Some t → (s ≤ t) × (has t (x ∷ xs) ≡ true)) [
  | true ↦ λ h g. let k = least_from-found s t xs g in (k.0, grind (arith, k.1))
  | false ↦ λ h g. let same : x ≡ t = cc g in (omega (arith, ltb-false x s h), rw (eq-eqb x t same) refl)
] refl e

-- the members below a number
abbrev pub below : ℕ → List ℕ → List ℕ
below limit xs = filter (λ s. nat_lt s limit) xs

below-none : (limit : ℕ) (xs : List ℕ) → ((s : ℕ) → has s xs ≡ true → limit ≤ s) → below limit xs ≡ []
below-none limit [] h = refl
below-none limit (x ∷ xs) h = rw (le-ltb x limit (h x (rw (eq-eqb x x refl) refl))) (below-none limit xs (λ s e. h s (grind (arith, e))))

pub below-zero : (xs : List ℕ) → below 0 xs ≡ []
below-zero xs = below-none 0 xs (λ s e. omega arith)

-- with the least member from there on
pub below-next : (from s : ℕ) (xs : List ℕ) → IsAscending xs → least_from from xs ≡ Some s → below (s + 1) xs ≡ below from xs ++ s ∷ []
unfolding least_from
below-next from s [] r e = absurd (cc e)
below-next from s (x ∷ xs) r e = elim (nat_lt x from) as (λ o. nat_lt x from ≡ o → cond o (least_from from xs) (Some x) ≡ Some s → below (s + 1) (x ∷ xs) ≡ cond o (x ∷ below from xs) (below from xs) ++ s ∷ []) [
  | true ↦ λ h g. let k = least_from-found from s xs g in let l : x < from = ltb-true x from h in rw (lt-ltb x (s + 1) (omega (arith, k.0))) (ap (λ rest. x ∷ rest) (below-next from s xs r.1 g))
  | false ↦ λ h g.
      let same : x ≡ s = cc g in
      let up : from ≤ x = ltb-false x from h in
      rw (lt-ltb x (s + 1) (omega arith), below-none (s + 1) xs (λ k f. omega (arith, r.0 k f)), below-none from xs (λ k f. omega (arith, r.0 k f))) (ap (λ k. k ∷ []) same)
] refl e

-- all, where no member is left
pub below-all_of : (from : ℕ) (xs : List ℕ) → least_from from xs ≡ None → below from xs ≡ xs
unfolding least_from
below-all_of from [] e = refl
below-all_of from (x ∷ xs) e = elim (nat_lt x from) as (λ o. cond o (least_from from xs) (Some x) ≡ None → cond o (x ∷ below from xs) (below from xs) ≡ x ∷ xs) [
  | true ↦ λ g. ap (λ rest. x ∷ rest) (below-all_of from xs g)
  | false ↦ λ g. absurd (cc g)
] e

pub least_from-within : (from s : ℕ) (xs : List ℕ) → IsSlotSet xs → least_from from xs ≡ Some s → s < slot_limit
least_from-within from s xs h e = h.small s (least_from-found from s xs e).1

pub empty-least : (xs : List ℕ) → least_from 0 xs ≡ None → xs ≡ []
unfolding least_from
empty-least [] e = refl
empty-least (x ∷ xs) e = absurd (let g : Some x ≡ None = sym (rw (le-ltb x 0 (omega arith)) refl) ∙ e in cc g)

-- what a test of the answer tells
pub below-all_told : (from : ℕ) (xs : List ℕ) (r : Option ℕ) → r ≡ least_from from xs → ((s : ℕ) → r ≡ Some s → ⊥) → below from xs ≡ xs
below-all_told from xs None e g = below-all_of from xs (sym e)
below-all_told from xs (Some s) e g = absurd (g s refl)

pub empty-told : (xs : List ℕ) (r : Option ℕ) (b : Bool) → r ≡ least_from 0 xs → is_some r ≡ not b → (IsTrue b → xs ≡ []) × (xs ≡ [] → IsTrue b)
unfolding least_from
empty-told xs None true e g = (λ _. empty-least xs (sym e), λ _. refl)
empty-told xs None false e g = absurd (cc g)
empty-told xs (Some s) true e g = absurd (cc g)
empty-told xs (Some s) false e g = (λ h. absurd (cc h), λ h. let k : Some s ≡ None = e ∙ ap (least_from 0) h in absurd (cc k))
