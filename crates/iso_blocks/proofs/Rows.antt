-- What an edit of the row of holes at one place leaves.
use Rattle.std.proofs.Common.{refl, subst, sym, ◌∙◌, ap, ◌≡◌, ℕ, ◌+◌, ◌<◌, ◌≤◌, List, [], ◌∷◌, ◌++◌, length, get_or, arith, zero, suc, take, drop}
use Rattle.std.proofs.Math.ListN.{set}
use Rattle.std.specs.List.{AllWithin, insert, remove}
use Rattle.std.proofs.lemmas.Bool.{le-leb, lt-leb, lt-ltb, le-ltb, eq-eqb, ne_eqb}
use Rattle.iso_blocks.specs.Holes.{hole, merged, cut, join}

-- two reads of one place give the same
pub same_read : (xs : List (ℕ × ℕ)) (i : ℕ) (a b : ℕ × ℕ) → i < length xs → a ≡ get_or xs i a → b ≡ get_or xs i b → a ≡ b
same_read [] i a b l p q = absurd (omega arith)
same_read (x ∷ xs) zero a b l p q = p ∙ sym q
same_read (x ∷ xs) (suc i) a b l p q = same_read xs i a b (omega arith) p q

-- what a read gives doesn't depend on the default
pub same_default : (xs : List (ℕ × ℕ)) (i : ℕ) (d : ℕ × ℕ) → i < length xs → get_or xs i d ≡ get_or xs i (get_or xs i d)
same_default [] i d l = absurd (omega arith)
same_default (x ∷ xs) zero d l = refl
same_default (x ∷ xs) (suc i) d l = same_default xs i d (omega arith)

pub extend-touching : (xs : List (ℕ × ℕ)) (k n : ℕ) (h q r : ℕ × ℕ) (end : ℕ) (d : ℕ × ℕ) → n ≡ suc k → n < length xs → h ≡ get_or xs k h → q ≡ get_or xs n q → q.0 ≡ end → r ≡ get_or xs n r
    → set (remove xs n) k (h.0, r.1) ≡ take k xs ++ merged (get_or xs k d).0 end (drop n xs)
extend-touching xs k n h q r end d is l hs qs e rs =
    rw is (extend_at xs k h r end d (rw is at l) hs (rw is at rs) (ap (λ (p : ℕ × ℕ). p.0) (same_read xs n r q l rs qs) ∙ e))
  where
    extend_at : (xs : List (ℕ × ℕ)) (k : ℕ) (h r : ℕ × ℕ) (end : ℕ) (d : ℕ × ℕ) → suc k < length xs → h ≡ get_or xs k h → r ≡ get_or xs (suc k) r → r.0 ≡ end
        → set (remove xs (suc k)) k (h.0, r.1) ≡ take k xs ++ merged (get_or xs k d).0 end (drop (suc k) xs)
    extend_at [] k h r end d l hs rs e = absurd (omega arith)
    extend_at (h0 ∷ []) k h r end d l hs rs e = absurd (omega arith)
    extend_at (h0 ∷ (r0 ∷ xs)) zero h r end d l hs rs e =
        let f : end ≡ r0.0 = sym e ∙ ap (λ (p : ℕ × ℕ). p.0) rs in rw (eq-eqb end r0.0 f, hs, rs) refl
    extend_at (h0 ∷ (r0 ∷ xs)) (suc k) h r end d l hs rs e = ap (λ t. h0 ∷ t) (extend_at (r0 ∷ xs) k h r end d (omega arith) hs rs e)

pub extend-apart : (xs : List (ℕ × ℕ)) (k n : ℕ) (h : ℕ × ℕ) (end : ℕ) (d : ℕ × ℕ) → n ≡ suc k → k < length xs → h ≡ get_or xs k h
    → ((e : ℕ × ℕ) → n < length xs → e ≡ get_or xs n e → e.0 ≡ end → ⊥)
    → set xs k (h.0, end) ≡ take k xs ++ merged (get_or xs k d).0 end (drop n xs)
extend-apart xs k n h end d is l hs apart = rw is (extend_at xs k h end d l hs (let P : ℕ → Type 0 = λ n. (e : ℕ × ℕ) → n < length xs → e ≡ get_or xs n e → e.0 ≡ end → ⊥ in subst P is apart))
  where
    extend_at : (xs : List (ℕ × ℕ)) (k : ℕ) (h : ℕ × ℕ) (end : ℕ) (d : ℕ × ℕ) → k < length xs → h ≡ get_or xs k h
        → ((e : ℕ × ℕ) → suc k < length xs → e ≡ get_or xs (suc k) e → e.0 ≡ end → ⊥)
        → set xs k (h.0, end) ≡ take k xs ++ merged (get_or xs k d).0 end (drop (suc k) xs)
    extend_at [] k h end d l hs apart = absurd (omega arith)
    extend_at (h0 ∷ []) zero h end d l hs apart = rw hs refl
    extend_at (h0 ∷ (r0 ∷ xs)) zero h end d l hs apart = rw (ne_eqb end r0.0 (λ e. apart r0 (omega arith) refl (sym e)), hs) refl
    extend_at (h0 ∷ xs) (suc k) h end d l hs apart = ap (λ t. h0 ∷ t) (extend_at xs k h end d (omega arith) hs (λ e m. apart e (omega arith)))

pub put-touching : (xs : List (ℕ × ℕ)) (k : ℕ) (h : ℕ × ℕ) (from end : ℕ) → k < length xs → h ≡ get_or xs k h → h.0 ≡ end
    → set xs k (from, h.1) ≡ take k xs ++ merged from end (drop k xs)
put-touching [] k h from end l hs e = absurd (omega arith)
put-touching (h0 ∷ xs) zero h from end l hs e = let f : end ≡ h0.0 = sym e ∙ ap (λ (p : ℕ × ℕ). p.0) hs in rw (eq-eqb end h0.0 f, hs) refl
put-touching (h0 ∷ xs) (suc k) h from end l hs e = ap (λ t. h0 ∷ t) (put-touching xs k h from end (omega arith) hs e)

-- a join at a hole that ends where it begins
pub join-left : (xs : List (ℕ × ℕ)) (k : ℕ) (h : ℕ × ℕ) (from end : ℕ) (d : ℕ × ℕ) → k < length xs → h ≡ get_or xs k h → h.1 ≡ from → AllWithin (λ (h : ℕ × ℕ). h.1 < from) xs 0 k
    → join from end xs ≡ take k xs ++ merged (get_or xs k d).0 end (drop (suc k) xs)
join-left [] k h from end d l hs e before = absurd (omega arith)
join-left (h0 ∷ xs) zero h from end d l hs e before =
    let f : h0.1 ≡ from = ap (λ (p : ℕ × ℕ). p.1) (sym hs) ∙ e in rw (le-ltb h0.1 from (omega arith), eq-eqb h0.1 from f) refl
join-left (h0 ∷ xs) (suc k) h from end d l hs e before =
    let first : h0.1 < from = before 0 h0 (omega arith) (omega arith) in
    rw (lt-ltb h0.1 from first) (ap (λ t. h0 ∷ t) (join-left xs k h from end d (omega arith) hs e (λ j f low high. before (suc j) f (omega arith) (omega arith))))

-- a join between two holes of which the first doesn't touch it
pub join-right : (xs : List (ℕ × ℕ)) (k : ℕ) (from end : ℕ) → k ≤ length xs → AllWithin (λ (h : ℕ × ℕ). h.1 < from) xs 0 k
    → AllWithin (λ (h : ℕ × ℕ). from ≤ h.1) xs k (length xs) → ((e : ℕ × ℕ) → k < length xs → e ≡ get_or xs k e → e.1 ≡ from → ⊥)
    → join from end xs ≡ take k xs ++ merged from end (drop k xs)
join-right [] zero from end l before behind apart = refl
join-right [] (suc k) from end l before behind apart = absurd (omega arith)
join-right (h0 ∷ xs) zero from end l before behind apart =
    rw (le-ltb h0.1 from (behind 0 h0 (omega arith) (omega arith)), ne_eqb h0.1 from (apart h0 (omega arith) refl)) refl
join-right (h0 ∷ xs) (suc k) from end l before behind apart =
    let first : h0.1 < from = before 0 h0 (omega arith) (omega arith) in
    rw (lt-ltb h0.1 from first) (ap (λ t. h0 ∷ t) (join-right xs k from end (omega arith) (λ j f low high. before (suc j) f (omega arith) (omega arith))
    (λ j f low high. behind (suc j) f (omega arith) (omega arith)) (λ e m. apart e (omega arith))))

-- a cut of the hole at k
pub cut-at : (xs : List (ℕ × ℕ)) (k : ℕ) (h : ℕ × ℕ) (from end : ℕ) → k < length xs → h ≡ get_or xs k h → from < h.1 → AllWithin (λ (h : ℕ × ℕ). h.1 < from + 1) xs 0 k
    → cut from end xs ≡ take k xs ++ (hole h.0 from ++ (hole end h.1 ++ drop (suc k) xs))
cut-at [] k h from end l hs past before = absurd (omega arith)
cut-at (h0 ∷ xs) zero h from end l hs past before =
    let f : h0.1 ≡ h.1 = ap (λ (p : ℕ × ℕ). p.1) (sym hs) in rw (lt-leb h0.1 from (omega arith), hs) refl
cut-at (h0 ∷ xs) (suc k) h from end l hs past before =
    let first : h0.1 < from + 1 = before 0 h0 (omega arith) (omega arith) in
    rw (le-leb h0.1 from (omega arith)) (ap (λ t. h0 ∷ t) (cut-at xs k h from end (omega arith) hs past (λ j f low high. before (suc j) f (omega arith) (omega arith))))

pub parts-both : (xs : List (ℕ × ℕ)) (k a from end b : ℕ) → k < length xs → a < from → end < b
    → insert (set xs k (a, from)) (suc k) (end, b) ≡ take k xs ++ (hole a from ++ (hole end b ++ drop (suc k) xs))
parts-both [] k a from end b l p q = absurd (omega arith)
parts-both (h0 ∷ xs) zero a from end b l p q = rw (lt-ltb a from p, lt-ltb end b q) refl
parts-both (h0 ∷ xs) (suc k) a from end b l p q = ap (λ t. h0 ∷ t) (parts-both xs k a from end b (omega arith) p q)

pub parts-left : (xs : List (ℕ × ℕ)) (k a from end b : ℕ) → k < length xs → a < from → b ≤ end
    → set xs k (a, from) ≡ take k xs ++ (hole a from ++ (hole end b ++ drop (suc k) xs))
parts-left [] k a from end b l p q = absurd (omega arith)
parts-left (h0 ∷ xs) zero a from end b l p q = rw (lt-ltb a from p, le-ltb end b q) refl
parts-left (h0 ∷ xs) (suc k) a from end b l p q = ap (λ t. h0 ∷ t) (parts-left xs k a from end b (omega arith) p q)

pub parts-right : (xs : List (ℕ × ℕ)) (k a from end b : ℕ) → k < length xs → from ≤ a → end < b
    → set xs k (end, b) ≡ take k xs ++ (hole a from ++ (hole end b ++ drop (suc k) xs))
parts-right [] k a from end b l p q = absurd (omega arith)
parts-right (h0 ∷ xs) zero a from end b l p q = rw (le-ltb a from p, lt-ltb end b q) refl
parts-right (h0 ∷ xs) (suc k) a from end b l p q = ap (λ t. h0 ∷ t) (parts-right xs k a from end b (omega arith) p q)

pub parts-none : (xs : List (ℕ × ℕ)) (k a from end b : ℕ) → k < length xs → from ≤ a → b ≤ end
    → remove xs k ≡ take k xs ++ (hole a from ++ (hole end b ++ drop (suc k) xs))
parts-none xs k a from end b l p q = rw (le-ltb a from p, le-ltb end b q) refl
