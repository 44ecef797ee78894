-- How many slots and blocks there can be.
use Rattle.std.proofs.Common.{◌≡◌, ℕ, ◌+◌, ◌*◌, ◌^◌, ◌<◌, ◌≤◌, true, false, cond, eqb, List, [], ◌∷◌, length, refl, arith}
use Rattle.std.proofs.lemmas.Bool.{eq-eqb}
use Rattle.slot_space.specs.Limits.{slots_end, slot_limit}
use Rattle.slot_space.proofs.Lemmas.{ascending-insert, below-insert}
use Rattle.slot_space.specs.Sets.{has, insert, IsAscending, AreBelow, IsSlotSet}
use Rattle.iso_blocks.specs.Heap.{StandFrom}
use Rattle.iso_blocks.proofs.Lemmas.{slots_within}

-- numbers that ascend from one on and stay below a limit are no more than there are
count_between : (low limit : ℕ) (xs : List ℕ) → low ≤ limit → IsAscending xs → ((s : ℕ) → has s xs ≡ true → low ≤ s) → AreBelow limit xs → low + length xs ≤ limit
count_between low limit [] le asc from below = omega arith
count_between low limit (x ∷ xs) le asc from below =
    let here : has x (x ∷ xs) ≡ true = first x xs in
    let rest = count_between (x + 1) limit xs (omega (arith, below x here)) asc.1 (λ s e. omega (arith, asc.0 s e)) (λ s e. below s (later x s xs e)) in
    omega (arith, from x here, rest)
  where
    first : (x : ℕ) (xs : List ℕ) → has x (x ∷ xs) ≡ true
    first x xs = rw (eq-eqb x x refl) refl

    later : (x s : ℕ) (xs : List ℕ) → has s xs ≡ true → has s (x ∷ xs) ≡ true
    later x s xs e = elim (eqb x s) as (λ b. cond b true (has s xs) ≡ true) [ true ↦ refl | false ↦ e ]

pub slots_few : (xs : List ℕ) → IsSlotSet xs → length xs ≤ slot_limit
slots_few xs proper = let h = count_between 0 slot_limit xs (omega arith) proper.ascending (λ s e. omega arith) proper.small in omega (arith, h)

-- each block takes 16 bytes at least
blocks_between : (low : ℕ) (slots : List ℕ) (live : List (ℕ × ℕ)) → IsSlotSet slots → low ≤ slots_end → StandFrom low slots live → low + 16 * length live ≤ slots_end
blocks_between low slots [] proper le stand = omega arith
blocks_between low slots (b ∷ live) proper le stand =
    let w = slots_within slots b.0 b.1 proper (omega (arith, stand.0.some)) stand.0.inside in
    let rest = blocks_between (b.0 + b.1) slots live proper w.1 stand.2 in
    omega (arith, rest, stand.0.some, stand.1)

pub blocks_few : (slots : List ℕ) (live : List (ℕ × ℕ)) → IsSlotSet slots → StandFrom 0 slots live → length live < 2 ^ 32
blocks_few slots live proper stand = let h = blocks_between 0 slots live proper (omega arith) stand in omega (arith, h)

pub with_stack : (stack : ℕ) (heap : List ℕ) → stack < slot_limit → IsSlotSet heap → IsSlotSet (insert stack heap)
with_stack stack heap small proper = record { ascending = ascending-insert stack heap proper.ascending; small = below-insert slot_limit stack heap small proper.small }
