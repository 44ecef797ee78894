-- The rules of a block's two fields say that it is a block of the heap slots, at or after the end of the one before.
use Rattle.std.proofs.Common.{◌≡◌, ℕ, ◌+◌, ◌-◌, ◌%◌, ◌<◌, ◌≤◌, Bool, true, false, leb, eqb, ◌&&◌, List, refl, sym, subst, ◌∙◌, arith}
use Rattle.std.proofs.lemmas.Bool.{and_parts, and_from, eqb-true, eq-eqb, leb-true, le-leb}
use Rattle.slot_space.specs.Sets.{has_run}
use Rattle.slot_space.proofs.Lemmas.{has_run-each, has_run-all}
use Rattle.iso_blocks.specs.Bytes.{in_slots}
use Rattle.iso_blocks.specs.Heap.{IsBlock}
use Rattle.iso_blocks.proofs.Lemmas.{in_slots-some, in_slots-has}
use Rattle.thread_text.specs.Grammar.{is_start, is_size}

pub same_test : (b c : Bool) → (b ≡ true → c ≡ true) → (c ≡ true → b ≡ true) → b ≡ c
same_test true true f g = refl
same_test true false f g = sym (f refl)
same_test false true f g = g refl
same_test false false f g = refl

-- all numbers of a run are in the set
pub run_all : (set : ℕ → Bool) (s count x : ℕ) → has_run set s count ≡ true → s ≤ x → x < s + count → set x ≡ true
run_all set s count x e lo hi = let same : s + (x - s) ≡ x = omega arith in subst (λ y. set y ≡ true) same (has_run-each set s count (x - s) e (omega arith))

-- so a run is one where all of them are
pub all_run : (set : ℕ → Bool) (s count : ℕ) → ((x : ℕ) → s ≤ x → x < s + count → set x ≡ true) → has_run set s count ≡ true
all_run set s count h = has_run-all set s count (λ u less. h (s + u) (omega arith) (omega arith))

-- 16 bytes from a multiple of 16 on lie in one slot
pub start_block : (slots : List ℕ) (a : ℕ) → a % 16 ≡ 0 → in_slots slots a ≡ true → IsBlock slots (a, 16)
start_block slots a aligned first =
    let s = in_slots-some slots a first in
    record {
      aligned = aligned;
      rounded = refl;
      some = omega arith;
      inside = λ x lo hi. in_slots-has slots s.0 x (omega (arith, s.2.0), omega (arith, s.2.1)) ∙ s.1;
    }

pub start_from : (slots : List ℕ) (low a : ℕ) (b : Bool) → (b ≡ true → IsBlock slots (a, 16)) → (IsBlock slots (a, 16) → b ≡ true) → (b && leb low a) ≡ is_start slots low a
start_from slots low a b block back = same_test _ _
    (λ e. let p = and_parts b (leb low a) e in
    let block = block p.0 in
    and_from (eqb (a % 16) 0 && in_slots slots a) (leb low a) (and_from _ _ (eq-eqb _ _ block.aligned) (block.inside a (omega arith) (omega arith))) p.1)
    (λ e. let p = and_parts (eqb (a % 16) 0 && in_slots slots a) (leb low a) e in
    let q = and_parts (eqb (a % 16) 0) (in_slots slots a) p.0 in
    and_from b (leb low a) (back (start_block slots a (eqb-true _ _ q.0) q.1)) p.1)

pub size_from : (slots : List ℕ) (a n : ℕ) (b : Bool) → a % 16 ≡ 0 → (b ≡ true → IsBlock slots (a, n)) → (IsBlock slots (a, n) → b ≡ true) → b ≡ is_size slots a n
size_from slots a n b aligned block back = same_test _ _
    (λ e. let block = block e in
    and_from (eqb (n % 16) 0 && leb 16 n) (has_run (in_slots slots) a n) (and_from _ _ (eq-eqb _ _ block.rounded) (le-leb _ _ block.some)) (all_run (in_slots slots) a n block.inside))
    (λ e. let p = and_parts (eqb (n % 16) 0 && leb 16 n) (has_run (in_slots slots) a n) e in
    let q = and_parts (eqb (n % 16) 0) (leb 16 n) p.0 in
    back (record { aligned = aligned; rounded = eqb-true _ _ q.0; some = leb-true _ _ q.1; inside = λ x lo hi. run_all (in_slots slots) a n x p.1 lo hi }))
