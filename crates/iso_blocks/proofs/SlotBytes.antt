-- Which bytes lie in which slots, and which slots blocks meet.
use Rattle.std.proofs.Common.{refl, sym, ◌∙◌, ◌≡◌, ℕ, ◌+◌, ◌-◌, ◌/◌, ◌<◌, ◌≤◌, Bool, true, false, List, [], ◌∷◌, arith, ⊎_elim, eqb, not, ◌||◌, ◌&&◌, cond}
use Rattle.std.specs.Prelude.{nat_lt}
use Rattle.std.proofs.lemmas.Bool.Decides.{nat_tests}
use Rattle.std.proofs.lemmas.Bool.{false≢true, le-leb, lt-ltb, eq-eqb, ne_eqb, cases_lt, cases_eq, cases_Bool, or_cases, or_right, both_ways, eqb-true, eqb-false}
use Rattle.slot_space.specs.Limits.{slot_size}
use Rattle.slot_space.specs.Sets.{has, insert, minus, run}
use Rattle.slot_space.specs.Addresses.{slot_base, HoldsAddress}
use Rattle.slot_space.proofs.Lemmas.{has-insert}
use Rattle.slot_space.specs.WordsBack.{has-run}
use Rattle.iso_blocks.specs.Bytes.{lies_in, in_slots, in_blocks, is_met}
use Rattle.iso_blocks.specs.Heap.{IsBlock, StandFrom}
use Rattle.iso_blocks.proofs.Fit.{lies_in-true}
use Rattle.iso_blocks.proofs.LiveBlocks.{meets, or_parts}

-- a byte of slot s lies in the slots exactly where s is one of them
pub in_slots-has : (slots : List ℕ) (s x : ℕ) → HoldsAddress s x → in_slots slots x ≡ has s slots
in_slots-has [] s x h = refl
in_slots-has (t ∷ slots) s x h =
    ⊎_elim (λ e. rw (eq-eqb t s e, e, le-leb (slot_base s) x h.0, lt-ltb x (slot_base s + slot_size) h.1) refl)
    (λ e. let out : lies_in (slot_base t) (slot_base t + slot_size) x ≡ false = grind (arith, nat_tests) in rw (ne_eqb t s e, out) (in_slots-has slots s x h))
    (cases_eq t s)

-- a byte that lies in the slots lies in one of them
pub in_slots-some : (slots : List ℕ) (x : ℕ) → in_slots slots x ≡ true → (s : ℕ) × (has s slots ≡ true) × HoldsAddress s x
in_slots-some [] x e = absurd (false≢true e)
in_slots-some (t ∷ slots) x e =
    ⊎_elim (λ i. (t, rw (eq-eqb t t refl) refl, lies_in-true (slot_base t) (slot_base t + slot_size) x i))
    (λ i. let r = in_slots-some slots x i in (r.0, elim (eqb t r.0) as (λ v. cond v true (has r.0 slots) ≡ true) [ true ↦ refl | false ↦ r.1 ], r.2))
    (or_cases (lies_in (slot_base t) (slot_base t + slot_size) x) (in_slots slots x) e)

-- the slot of a byte
pub slot_of : ℕ → ℕ
slot_of x = (x - slot_base 0) / slot_size

pub slot_of-holds : (x : ℕ) → slot_base 0 ≤ x → HoldsAddress (slot_of x) x
unfolding slot_of
slot_of-holds x h = (omega arith, omega arith)

pub same_slot : (s t x : ℕ) → HoldsAddress s x → HoldsAddress t x → s ≡ t
same_slot s t x h k = omega (arith, h.0, h.1, k.0, k.1)

-- the bytes of slots with one more
pub in_slots-insert : (s : ℕ) (slots : List ℕ) (x : ℕ) → in_slots (insert s slots) x ≡ (in_slots slots x || lies_in (slot_base s) (slot_base s + slot_size) x)
in_slots-insert s slots x = ⊎_elim
    (λ (e : lies_in (slot_base s) (slot_base s + slot_size) x ≡ true).
    let h = lies_in-true (slot_base s) (slot_base s + slot_size) x e in
    rw (in_slots-has (insert s slots) s x h, has-insert s s slots, eq-eqb s s refl, e) (sym (or_right (in_slots slots x) true refl)))
    (λ (e : lies_in (slot_base s) (slot_base s + slot_size) x ≡ false). ⊎_elim
    (λ low. rw (below (insert s slots) x low, below slots x low, e) refl)
    (λ high. let h = slot_of-holds x high in
    rw (
      in_slots-has (insert s slots) (slot_of x) x h,
      in_slots-has slots (slot_of x) x h,
      has-insert s (slot_of x) slots,
      ne_eqb s (slot_of x) (λ i. both_ways (lies_in (slot_base s) (slot_base s + slot_size) x) e (rw (i, le-leb (slot_base (slot_of x)) x h.0, lt-ltb x (slot_base (slot_of x) + slot_size) h.1) refl)),
      e,
    )
    (sym (or-false (has (slot_of x) slots))))
    (cases_lt x (slot_base 0)))
    (cases_Bool (lies_in (slot_base s) (slot_base s + slot_size) x))
  where
    or-false : (a : Bool) → (a || false) ≡ a
    or-false true = refl
    or-false false = refl

    below : (slots : List ℕ) (x : ℕ) → x < slot_base 0 → in_slots slots x ≡ false
    below [] x l = refl
    below (t ∷ slots) x l = let out : lies_in (slot_base t) (slot_base t + slot_size) x ≡ false = grind (arith, nat_tests) in rw out (below slots x l)

-- where no block meets a slot, its bytes lie in no block
pub is_met-false : (live : List (ℕ × ℕ)) (s x : ℕ) → is_met live s ≡ false → HoldsAddress s x → in_blocks live x ≡ false
is_met-false [] s x e h = refl
is_met-false (b ∷ live) s x e h =
    let parts = or_parts (meets b s) (is_met live s) e in
    let first : meets b s ≡ false = parts.0 in
    let out : lies_in b.0 (b.0 + b.1) x ≡ false = not_met b s x first h in
    rw (out, is_met-false live s x parts.1 h) refl
  where
    not_met : (b : ℕ × ℕ) (s x : ℕ) → meets b s ≡ false → HoldsAddress s x → lies_in b.0 (b.0 + b.1) x ≡ false
    not_met b s x e h = ⊎_elim (λ i. let r = lies_in-true b.0 (b.0 + b.1) x i in
        absurd (both_ways (meets b s) e (rw (lt-ltb b.0 (slot_base s + slot_size) (omega (arith, r.0, h.1)), lt-ltb (slot_base s) (b.0 + b.1) (omega (arith, r.1, h.0))) refl)))
        (λ i. i) (cases_Bool (lies_in b.0 (b.0 + b.1) x))

-- a slot that a block in the slots meets is one of them
pub is_met-has : (low : ℕ) (slots : List ℕ) (live : List (ℕ × ℕ)) (s : ℕ) → StandFrom low slots live → is_met live s ≡ true → has s slots ≡ true
is_met-has low slots [] s h e = absurd (false≢true e)
is_met-has low slots (b ∷ live) s h e =
    ⊎_elim (λ i. meets_has slots b s h.0 i) (λ i. is_met-has (b.0 + b.1) slots live s h.2 i) (or_cases (meets b s) (is_met live s) e)
  where
    meets_has : (slots : List ℕ) (b : ℕ × ℕ) (s : ℕ) → IsBlock slots b → meets b s ≡ true → has s slots ≡ true
    meets_has slots b s block e =
        let low : b.0 < slot_base s + slot_size = grind (arith, nat_tests) in
        let high : slot_base s < b.0 + b.1 = grind (arith, nat_tests) in
        ⊎_elim (λ i. sym (in_slots-has slots s (slot_base s) (omega arith, omega arith)) ∙ block.inside (slot_base s) (omega arith) high)
        (λ i. sym (in_slots-has slots s b.0 (i, low)) ∙ block.inside b.0 (omega arith) (omega (arith, block.some)))
        (cases_lt b.0 (slot_base s))

-- the slots that a block meets are those from the slot of its first byte to that of its last
pub meets-run : (a n s first last count : ℕ) → 0 < n → HoldsAddress first a → HoldsAddress last (a + n - 1) → first + count ≡ last + 1 → meets (a, n) s ≡ has s (run first count)
meets-run a n s first last count some f l e = rw (has-run s first count) (meets_between a n s first (first + count) last some f l e)
  where
    meets_between : (a n s first end last : ℕ) → 0 < n → HoldsAddress first a → HoldsAddress last (a + n - 1) → end ≡ last + 1
        → (nat_lt a (slot_base s + slot_size) && nat_lt (slot_base s) (a + n)) ≡ cond (nat_lt s first) false (nat_lt s end)
    meets_between a n s first end last some f l e = grind (arith, nat_tests, f.0, f.1, l.0, l.1)

-- the bytes of slots with one less
pub in_slots-minus : (s : ℕ) (slots : List ℕ) (x : ℕ) → in_slots (minus slots (s ∷ [])) x ≡ (in_slots slots x && not (lies_in (slot_base s) (slot_base s + slot_size) x))
unfolding minus
in_slots-minus s [] x = refl
in_slots-minus s (t ∷ slots) x =
    ⊎_elim (λ (e : eqb s t ≡ true). rw (e, in_slots-minus s slots x, eqb-true s t e)
    (drops (lies_in (slot_base t) (slot_base t + slot_size) x) (in_slots slots x)))
    (λ (e : eqb s t ≡ false). rw (e, in_slots-minus s slots x)
    (keeps (lies_in (slot_base t) (slot_base t + slot_size) x) (in_slots slots x) (lies_in (slot_base s) (slot_base s + slot_size) x)
    (λ i j. eqb-false s t e (same_slot s t x (lies_in-true (slot_base s) (slot_base s + slot_size) x j) (lies_in-true (slot_base t) (slot_base t + slot_size) x i)))))
    (cases_Bool (eqb s t))
  where
    drops : (i r : Bool) → (r && not i) ≡ ((i || r) && not i)
    drops true true = refl
    drops true false = refl
    drops false r = refl

    keeps : (i r l : Bool) → (i ≡ true → l ≡ true → ⊥) → (i || (r && not l)) ≡ ((i || r) && not l)
    keeps true r true h = absurd (h refl refl)
    keeps true r false h = refl
    keeps false r l h = refl
