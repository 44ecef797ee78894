-- The entries of one node among all.
use Rattle.std.proofs.Common.{◌≡◌, ℕ, zero, suc, ◌+◌, ◌<◌, ◌⊎◌, inl, inr, List, [], ◌∷◌, ◌++◌, Bool, true, false, cond, eqb, refl, sym, ap, ◌∙◌, subst, arith, length, get_or, reverse}
use Rattle.std.specs.List.{Contains}
use Rattle.std.proofs.lemmas.Bool.{ne_eqb, eq-eqb, eqb-true}
use Rattle.std.proofs.lemmas.List.{reverse-append, append-nil}
use Rattle.std.proofs.lemmas.List.Elements.{filter-append}
use Rattle.run_trace.specs.declared.entry.Entry.{Entry}
use Rattle.run_trace.specs.Histories.{own_entries}
use Rattle.trace_merge.specs.Parts.{AreLater, IsPart, AreParts}
use Rattle.trace_merge.proofs.Counts.{joined}

abbrev is_own : ℕ → Entry → Bool
is_own n e = eqb e.node n

-- ## In the parts

own_same : (n : ℕ) (xs : List Entry) → IsPart n xs → own_entries n xs ≡ xs
own_same n [] p = refl
own_same n (x ∷ xs) p = let t : eqb x.node n ≡ true = eq-eqb x.node n p.0 in rw t (ap (λ ys. x ∷ ys) (own_same n xs p.2))

own_other : (m n : ℕ) (xs : List Entry) → IsPart n xs → (n ≡ m → ⊥) → own_entries m xs ≡ []
own_other m n [] p ne = refl
own_other m n (x ∷ xs) p ne = let f : eqb x.node m ≡ false = ne_eqb x.node m (λ e. ne (sym p.0 ∙ e)) in rw f (own_other m n xs p.2 ne)

own_append : (m : ℕ) (xs ys : List Entry) → own_entries m (xs ++ ys) ≡ own_entries m xs ++ own_entries m ys
own_append m xs ys = filter-append (is_own m) xs ys

own_low : (m k : ℕ) (parts : List (List Entry)) → AreParts k parts → m < k → own_entries m (joined parts) ≡ []
own_low m k [] a h = refl
own_low m k (p ∷ ps) a h =
    let ne : k ≡ m → ⊥ = λ e. omega arith in
    own_append m p (joined ps) ∙ ap (λ ys. ys ++ own_entries m (joined ps)) (own_other m k p a.0 ne) ∙ own_low m (suc k) ps a.1 (omega arith)

own_parts_at : (j k m : ℕ) (parts : List (List Entry)) → m ≡ j + k → AreParts k parts → own_entries m (joined parts) ≡ get_or parts j []
own_parts_at j k m [] e a = refl
own_parts_at zero k m (p ∷ ps) e a =
    let same : k ≡ m = omega arith in
    let here : own_entries m p ≡ p = subst (λ n. own_entries n p ≡ p) same (own_same k p a.0) in
    own_append m p (joined ps) ∙ ap (λ ys. ys ++ own_entries m (joined ps)) here ∙ ap (λ ys. p ++ ys) (own_low m (suc k) ps a.1 (omega arith)) ∙ append-nil p
own_parts_at (suc j) k m (p ∷ ps) e a =
    let ne : k ≡ m → ⊥ = λ h. omega arith in
    own_append m p (joined ps) ∙ ap (λ ys. ys ++ own_entries m (joined ps)) (own_other m k p a.0 ne) ∙ own_parts_at j (suc k) m ps (omega arith) a.1

pub own_parts : (n : ℕ) (parts : List (List Entry)) → AreParts 0 parts → own_entries n (joined parts) ≡ get_or parts n []
own_parts n parts a = own_parts_at n 0 n parts (omega arith) a

is_part_at : (j k m : ℕ) (parts : List (List Entry)) → m ≡ j + k → AreParts k parts → IsPart m (get_or parts j [])
is_part_at j k m [] e a = tt
is_part_at zero k m (p ∷ ps) e a = let same : k ≡ m = omega arith in subst (λ n. IsPart n p) same a.0
is_part_at (suc j) k m (p ∷ ps) e a = is_part_at j (suc k) m ps (omega arith) a.1

pub is_part : (n : ℕ) (parts : List (List Entry)) → AreParts 0 parts → IsPart n (get_or parts n [])
is_part n parts a = is_part_at n 0 n parts (omega arith) a

-- ## Members

in_cons_at : (b : Entry) (bs : List Entry) (x : Entry) (k : ℕ) → k < length (b ∷ bs) → get_or (b ∷ bs) k x ≡ x → (b ≡ x) ⊎ Contains bs x
in_cons_at b bs x zero h e = inl e
in_cons_at b bs x (suc k) h e = inr (k, omega arith, e)

in_cons : (b : Entry) (bs : List Entry) (x : Entry) → Contains (b ∷ bs) x → (b ≡ x) ⊎ Contains bs x
in_cons b bs x c = in_cons_at b bs x c.0 c.1 c.2

in_tail : (b : Entry) (bs : List Entry) (x : Entry) → Contains bs x → Contains (b ∷ bs) x
in_tail b bs x c = (suc c.0, omega (arith, c.1), c.2)

in_head : (b : Entry) (bs : List Entry) → Contains (b ∷ bs) b
in_head b bs = (zero, omega arith, refl)

not_in_none : (x : Entry) → Contains [] x → ⊥
not_in_none x c = omega (arith, c.1)

pub in_own : (n : ℕ) (xs : List Entry) (x : Entry) → Contains xs x → x.node ≡ n → Contains (own_entries n xs) x
in_own n [] x c e = c
in_own n (y ∷ ys) x c e = elim (in_cons y ys x c) as (λ _. Contains (own_entries n (y ∷ ys)) x) [
  | inl s ↦ let t : eqb y.node n ≡ true = eq-eqb y.node n (ap (λ (z : Entry). z.node) s ∙ e) in
      rw t (subst (λ z. Contains (y ∷ own_entries n ys) z) s (in_head y (own_entries n ys)))
  | inr r ↦ let rec : Contains (own_entries n ys) x = in_own n ys x r e in
      elim (eqb y.node n) as (λ b. Contains (cond b (y ∷ own_entries n ys) (own_entries n ys)) x) [ true ↦ in_tail y (own_entries n ys) x rec | false ↦ rec ]
]

pub from_own : (n : ℕ) (xs : List Entry) (x : Entry) → Contains (own_entries n xs) x → Contains xs x × (x.node ≡ n)
from_own n [] x c = absurd (not_in_none x c)
from_own n (y ∷ ys) x c = elim (eqb y.node n) as (λ b. eqb y.node n ≡ b → Contains (cond b (y ∷ own_entries n ys) (own_entries n ys)) x → Contains (y ∷ ys) x × (x.node ≡ n)) [
  | true ↦ λ t h. elim (in_cons y (own_entries n ys) x h) as (λ _. Contains (y ∷ ys) x × (x.node ≡ n)) [
    | inl s ↦ (subst (λ z. Contains (y ∷ ys) z) s (in_head y ys), sym (ap (λ (z : Entry). z.node) s) ∙ eqb-true y.node n t)
    | inr r ↦ let rec : Contains ys x × (x.node ≡ n) = from_own n ys x r in (in_tail y ys x rec.0, rec.1)
  ]
  | false ↦ λ t h. let rec : Contains ys x × (x.node ≡ n) = from_own n ys x h in (in_tail y ys x rec.0, rec.1)
] refl c

-- ## Lists whose stamps ascend

abbrev pub Climbs : List Entry → Type 0
Climbs [] = Unit {0}
Climbs (x ∷ xs) = AreLater x.stamp xs × Climbs xs

later_at : (s : ℕ) (xs : List Entry) (k : ℕ) (d : Entry) → AreLater s xs → k < length xs → s < (get_or xs k d).stamp
later_at s [] k d a h = absurd (omega arith)
later_at s (x ∷ xs) zero d a h = a.0
later_at s (x ∷ xs) (suc k) d a h = later_at s xs k d a.1 (omega arith)

later_in : (s : ℕ) (xs : List Entry) (x : Entry) → AreLater s xs → Contains xs x → s < x.stamp
later_in s xs x a c = subst (λ (y : Entry). s < y.stamp) c.2 (later_at s xs c.0 x a c.1)

pub part_climbs : (n : ℕ) (xs : List Entry) → IsPart n xs → Climbs xs
part_climbs n [] p = tt
part_climbs n (x ∷ xs) p = (p.1, part_climbs n xs p.2)

abbrev Within : List Entry → List Entry → Type 0
Within xs ys = (x : Entry) → Contains xs x → Contains ys x

heads : (a : Entry) (rest : List Entry) (b : Entry) (bs : List Entry) → Climbs (a ∷ rest) → Climbs (b ∷ bs) → Within (a ∷ rest) (b ∷ bs) → Within (b ∷ bs) (a ∷ rest) → a ≡ b
heads a rest b bs ca cb f g = elim (in_cons b bs a (f a (in_head a rest))) as (λ _. a ≡ b) [
  | inl e ↦ sym e
  | inr r ↦ elim (in_cons a rest b (g b (in_head b bs))) as (λ _. a ≡ b) [
    | inl e ↦ e
    | inr q ↦ absurd (omega (arith, later_in b.stamp bs a cb.0 r, later_in a.stamp rest b ca.0 q))
  ]
]

-- a member of the rest is a member of the other's rest
tails : (a : Entry) (rest : List Entry) (b : Entry) (bs : List Entry) → AreLater a.stamp rest → a ≡ b → Within (a ∷ rest) (b ∷ bs) → Within rest bs
tails a rest b bs la e f x c = elim (in_cons b bs x (f x (in_tail a rest x c))) as (λ _. Contains bs x) [
  | inl s ↦ let same : a.stamp ≡ x.stamp = ap (λ (z : Entry). z.stamp) (e ∙ s) in absurd (omega (arith, later_in a.stamp rest x la c))
  | inr r ↦ r
]

pub same_list : (rest bs : List Entry) → Climbs rest → Climbs bs → Within rest bs → Within bs rest → rest ≡ bs
same_list [] [] ca cb f g = refl
same_list [] (b ∷ bs) ca cb f g = absurd (not_in_none b (g b (in_head b bs)))
same_list (a ∷ rest) [] ca cb f g = absurd (not_in_none a (f a (in_head a rest)))
same_list (a ∷ rest) (b ∷ bs) ca cb f g =
    let e : a ≡ b = heads a rest b bs ca cb f g in
    let more : rest ≡ bs = same_list rest bs ca.1 cb.1 (tails a rest b bs ca.0 e f) (tails b bs a rest cb.0 (sym e) g) in
    cc

pub own_reverse : (n : ℕ) (xs : List Entry) → own_entries n (reverse xs) ≡ reverse (own_entries n xs)
own_reverse n [] = refl
own_reverse n (x ∷ xs) =
    let rec : own_entries n (reverse xs) ≡ reverse (own_entries n xs) = own_reverse n xs in
    ap (own_entries n) (reverse-append (x ∷ []) xs) ∙ own_append n (reverse xs) (x ∷ [])
    ∙ elim (eqb x.node n) as (λ b. own_entries n (reverse xs) ++ cond b (x ∷ []) [] ≡ reverse (cond b (x ∷ own_entries n xs) (own_entries n xs))) [
      | true ↦ ap (λ ys. ys ++ x ∷ []) rec ∙ sym (reverse-append (x ∷ []) (own_entries n xs))
      | false ↦ append-nil (own_entries n (reverse xs)) ∙ rec
    ]
