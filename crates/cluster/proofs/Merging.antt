-- Entries in order are known by the entries of each node.
use Rattle.std.proofs.Common.{◌≡◌, ◌≢◌, ℕ, zero, suc, ◌+◌, ◌<◌, ◌⊎◌, inl, inr, List, [], ◌∷◌, ◌++◌, reverse, map, get_or, Some, Bool, true, false, cond, eqb, refl, sym, ap, ◌∙◌, subst, arith}
use Rattle.std.specs.Prelude.{⊤, slice_get}
use Rattle.std.proofs.lemmas.Bool.{eqb-true, eq-eqb, ne_eqb}
use Rattle.std.proofs.lemmas.List.{reverse-append, reverse-reverse}
use Rattle.run_trace.specs.declared.entry.Entry.{Entry}
use Rattle.run_trace.specs.Histories.{IsInOrder, IsEntryAbove, own_entries}
use Rattle.trace_merge.specs.Parts.{AreLater, IsPart, AreParts}
use Rattle.basics.proofs.Lemmas.{by_eq}
use Rattle.node_loop.specs.View.{NodeView}
use Rattle.cluster.specs.Between.{entries_of}
use Rattle.cluster.specs.Standing.{HasTrace, entries_at}
use Rattle.cluster.specs.View.{ClusterView}

-- ## Each node's entries are a part

abbrev AllBefore : ℕ → List Entry → Type 0
AllBefore stamp [] = ⊤
AllBefore stamp (x ∷ xs) = (x.stamp < stamp) × AllBefore stamp xs

abbrev Descends : ℕ → List Entry → Type 0
Descends n [] = ⊤
Descends n (x ∷ xs) = (x.node ≡ n) × AllBefore x.stamp xs × Descends n xs

own_before : (n : ℕ) (e : Entry) → e.node ≡ n → (xs : List Entry) → IsEntryAbove e xs → AllBefore e.stamp (own_entries n xs)
own_before n e s [] h = tt
own_before n e s (x ∷ xs) h = by (eqb x.node n) refl (own_before n e s xs h.1)
  where
    by : (b : Bool) → eqb x.node n ≡ b → AllBefore e.stamp (own_entries n xs) → AllBefore e.stamp (cond b (x ∷ own_entries n xs) (own_entries n xs))
    by true k r = (elim h.0 as (λ z. x.stamp < e.stamp) [ inl l ↦ l | inr m ↦ absurd (omega (arith, m.1, eqb-true x.node n k, s)) ], r)
    by false k r = r

own_descends : (n : ℕ) (xs : List Entry) → IsInOrder xs → Descends n (own_entries n xs)
own_descends n [] o = tt
own_descends n (x ∷ xs) o = by (eqb x.node n) refl (own_descends n xs o.1)
  where
    by : (b : Bool) → eqb x.node n ≡ b → Descends n (own_entries n xs) → Descends n (cond b (x ∷ own_entries n xs) (own_entries n xs))
    by true k r = (eqb-true x.node n k, own_before n x (eqb-true x.node n k) xs o.0, r)
    by false k r = r

later_more : (stamp : ℕ) (xs : List Entry) (y : Entry) → stamp < y.stamp → AreLater stamp xs → AreLater stamp (xs ++ y ∷ [])
later_more stamp [] y l h = (l, tt)
later_more stamp (x ∷ xs) y l h = (h.0, later_more stamp xs y l h.1)

part_more : (n : ℕ) (xs : List Entry) (y : Entry) → y.node ≡ n → AllBefore y.stamp xs → IsPart n xs → IsPart n (xs ++ y ∷ [])
part_more n [] y s b h = (s, tt, tt)
part_more n (x ∷ xs) y s b h = (h.0, later_more x.stamp xs y b.0 h.1, part_more n xs y s b.1 h.2)

before_more : (stamp : ℕ) (xs : List Entry) (y : Entry) → y.stamp < stamp → AllBefore stamp xs → AllBefore stamp (xs ++ y ∷ [])
before_more stamp [] y l h = (l, tt)
before_more stamp (x ∷ xs) y l h = (h.0, before_more stamp xs y l h.1)

before_reverse : (stamp : ℕ) (ys : List Entry) → AllBefore stamp ys → AllBefore stamp (reverse ys)
before_reverse stamp [] h = tt
before_reverse stamp (y ∷ ys) h = subst (λ zs. AllBefore stamp zs) (sym (reverse-append (y ∷ []) ys)) (before_more stamp (reverse ys) y h.0 (before_reverse stamp ys h.1))

part_reverse : (n : ℕ) (ys : List Entry) → Descends n ys → IsPart n (reverse ys)
part_reverse n [] h = tt
part_reverse n (y ∷ ys) h = subst (λ zs. IsPart n zs) (sym (reverse-append (y ∷ []) ys)) (part_more n (reverse ys) y h.0 (before_reverse y.stamp ys h.1) (part_reverse n ys h.2))

parts_from : (first : ℕ) (vs : List NodeView) → ((k : ℕ) (v : NodeView) → slice_get vs k ≡ Some v → IsPart (first + k) v.entries) → AreParts first (map entries_of vs)
parts_from first [] h = tt
parts_from first (v ∷ vs) h = (subst (λ k. IsPart k v.entries) (omega arith) (h 0 v refl), parts_from (suc first) vs (λ k w e. subst (λ m. IsPart m w.entries) (omega arith) (h (suc k) w e)))

pub are_parts : (c : ClusterView) (trace : List Entry) → HasTrace c trace → AreParts 0 (map entries_of c.nodes)
are_parts c trace t = parts_from 0 c.nodes (λ k v e.
    let own : own_entries k trace ≡ reverse v.entries = t.entries k ∙ ap (λ o. reverse (entries_at o)) e in
    let part : IsPart k (reverse (own_entries k trace)) = part_reverse k (own_entries k trace) (own_descends k trace t.order) in
    let z : k ≡ 0 + k = omega arith in
    subst (λ m. IsPart m v.entries) z (subst (λ xs. IsPart k xs) (ap reverse own ∙ reverse-reverse v.entries) part))

-- ## One list only

abbrev IsBelow : Entry → Entry → Type 0
IsBelow x e = (x.stamp < e.stamp) ⊎ ((x.stamp ≡ e.stamp) × (x.node < e.node))

own_below : (m : ℕ) (e x : Entry) (rest xs : List Entry) → IsEntryAbove e xs → own_entries m xs ≡ x ∷ rest → IsBelow x e
own_below m e x rest [] h k = absurd (cc k)
own_below m e x rest (y ∷ ys) h k = by (eqb y.node m) k (own_below m e x rest ys h.1)
  where
    by : (b : Bool) → cond b (y ∷ own_entries m ys) (own_entries m ys) ≡ x ∷ rest → (own_entries m ys ≡ x ∷ rest → IsBelow x e) → IsBelow x e
    by true f more = let same : y ≡ x = cc f in subst (λ z. IsBelow z e) same h.0
    by false f more = more f

never_both : (x y : Entry) → IsBelow x y → IsBelow y x → ⊥
never_both x y h k = elim h as (λ z. ⊥) [
  | inl l ↦ elim k as (λ z. ⊥) [ inl m ↦ omega (arith, l, m) | inr m ↦ omega (arith, l, m.0) ]
  | inr l ↦ elim k as (λ z. ⊥) [ inl m ↦ omega (arith, l.0, m) | inr m ↦ omega (arith, l.1, m.1) ]
]

own_head : (x : Entry) (xs : List Entry) → own_entries x.node (x ∷ xs) ≡ x ∷ own_entries x.node xs
own_head x xs = ap (λ b. cond b (x ∷ own_entries x.node xs) (own_entries x.node xs)) (eq-eqb x.node x.node refl)

own_skip : (n : ℕ) (y : Entry) (ys : List Entry) → y.node ≢ n → own_entries n (y ∷ ys) ≡ own_entries n ys
own_skip n y ys ne = ap (λ b. cond b (y ∷ own_entries n ys) (own_entries n ys)) (ne_eqb y.node n ne)

same_first : (x y : Entry) (xs ys : List Entry) → IsEntryAbove x xs → IsEntryAbove y ys → ((n : ℕ) → own_entries n (x ∷ xs) ≡ own_entries n (y ∷ ys)) → x ≡ y
same_first x y xs ys ax ay h = by_eq x.node y.node
    (λ e.
    let k : x ∷ own_entries x.node xs ≡ y ∷ own_entries x.node ys = sym (own_head x xs) ∙ h x.node ∙ ap (λ b. cond b (y ∷ own_entries x.node ys) (own_entries x.node ys)) (eq-eqb y.node x.node (sym e)) in
    cc k)
    (λ ne. absurd (never_both x y
    (own_below x.node y x (own_entries x.node xs) ys ay (sym (own_skip x.node y ys (λ e. ne (sym e))) ∙ sym (h x.node) ∙ own_head x xs))
    (own_below y.node x y (own_entries y.node ys) xs ax (sym (own_skip y.node x xs ne) ∙ h y.node ∙ own_head y ys))))

same_later : (x : Entry) (xs ys : List Entry) (n : ℕ) → own_entries n (x ∷ xs) ≡ own_entries n (x ∷ ys) → own_entries n xs ≡ own_entries n ys
same_later x xs ys n h = by (eqb x.node n) h
  where
    by : (b : Bool) → cond b (x ∷ own_entries n xs) (own_entries n xs) ≡ cond b (x ∷ own_entries n ys) (own_entries n ys) → own_entries n xs ≡ own_entries n ys
    by true k = cc k
    by false k = k

unique : (xs ys : List Entry) → IsInOrder xs → IsInOrder ys → ((n : ℕ) → own_entries n xs ≡ own_entries n ys) → xs ≡ ys
unique [] [] a b h = refl
unique [] (y ∷ ys) a b h = let k : [] ≡ y ∷ own_entries y.node ys = h y.node ∙ own_head y ys in absurd (cc k)
unique (x ∷ xs) [] a b h = let k : x ∷ own_entries x.node xs ≡ [] = sym (own_head x xs) ∙ h x.node in absurd (cc k)
unique (x ∷ xs) (y ∷ ys) a b h =
    let same : x ≡ y = same_first x y xs ys a.0 b.0 h in
    let rest : xs ≡ ys = unique xs ys a.1 b.1 (λ n. same_later x xs ys n (h n ∙ ap (λ z. own_entries n (z ∷ ys)) (sym same))) in
    ap (λ z. z ∷ xs) same ∙ ap (λ zs. y ∷ zs) rest

entries_there : (vs : List NodeView) (n : ℕ) → get_or (map entries_of vs) n [] ≡ entries_at (slice_get vs n)
entries_there [] n = refl
entries_there (v ∷ vs) zero = refl
entries_there (v ∷ vs) (suc n) = entries_there vs n

-- what is merged of the nodes' entries is the trace
pub merged_trace : (c : ClusterView) (trace merged : List Entry) (parts : List (List Entry)) → HasTrace c trace → parts ≡ map entries_of c.nodes
    → IsInOrder (reverse merged) → ((n : ℕ) → own_entries n (reverse merged) ≡ reverse (get_or parts n [])) → merged ≡ reverse trace
merged_trace c trace merged parts t p order own =
    let same : reverse merged ≡ trace = unique (reverse merged) trace order t.order
    (λ n. own n ∙ ap (λ ps. reverse (get_or ps n [])) p ∙ ap reverse (entries_there c.nodes n) ∙ sym (t.entries n)) in
    sym (reverse-reverse merged) ∙ ap reverse same
