-- What one more field adds to a reading, as a loop reads it.
use Rattle.std.proofs.Common.{◌≡◌, ℕ, zero, suc, ◌+◌, ◌-◌, ◌*◌, ◌<◌, ◌≤◌, Bool, true, false, cond, ltb, leb, eqb, not, ◌&&◌, List, [], ◌∷◌, ◌++◌, length, set, take, drop, Result, Ok, Err, refl, sym, ap, ◌∙◌, append_assoc, arith}
use Rattle.std.proofs.lemmas.Bool.{and_parts, not-true, ltb-true, leb-true, eq-eqb, ne_eqb, le-ltb, lt-ltb, ltb-false}
use Rattle.slot_space.specs.Limits.{slot_limit}
use Rattle.slot_space.specs.Sets.{has, insert, IsAscending, AreBelow}
use Rattle.slot_space.proofs.Lemmas.{has-insert, ascending-insert, below-insert}
use Rattle.byteorder.specs.Endian.{little_number}
use Rattle.thread_text.specs.Fields.{Fields, Field, Reading, behind, number_at, read}
use Rattle.std.proofs.lemmas.List.{append-nil, take_all, take_more_set, length-take}
use Rattle.thread_text.specs.Grammar.{any, register_fields, place_fields, is_heap_slot, slot_fields, live_fields, block_fields}
use Rattle.thread_text.specs.Reading.{behind_all, block_at, blocks_at}
use Rattle.thread_text.specs.Numbers.{block_numbers}
use Rattle.iso_blocks.specs.Heap.{IsBlock, StandFrom}

pub behind_all-append : (ns ms : List ℕ) (left : Result Reading ℕ) → behind_all (ns ++ ms) left ≡ behind_all ns (behind_all ms left)
behind_all-append [] ms left = refl
behind_all-append (n ∷ ns) ms left = ap (behind n) (behind_all-append ns ms left)

pub behind_all-err : (ns : List ℕ) (offset : ℕ) → behind_all ns (Err offset) ≡ Err offset
behind_all-err [] offset = refl
behind_all-err (n ∷ ns) offset = ap (behind n) (behind_all-err ns offset)

-- ## A field by what number_at answers

told : (short : Bool) (length n m : ℕ) (x : Result ℕ ℕ) → cond short (Err length) (Ok n) ≡ x → x ≡ Ok m → (short ≡ false) × (n ≡ m)
told true length n m x e is = absurd cc
told false length n m x e is = (refl, cc)

refused : (short : Bool) (length n offset : ℕ) (x : Result ℕ ℕ) → cond short (Err length) (Ok n) ≡ x → x ≡ Err offset → (short ≡ true) × (length ≡ offset)
refused true length n offset x e is = (refl, cc)
refused false length n offset x e is = absurd cc

pub field_number : (width : ℕ) (rule : ℕ → Bool) (next : ℕ → Fields) (bytes : List ℕ) (at n : ℕ) → Ok n ≡ number_at bytes at width → rule n ≡ true
    → read (Field width rule next) bytes at ≡ behind n (read (next n) bytes (at + width))
unfolding read
field_number width rule next bytes at n e obeys =
    let t = told (ltb (length bytes) (at + width)) (length bytes) (little_number width (drop at bytes)) n (number_at bytes at width) refl (sym e) in
    rw (t.0, t.1, obeys) refl

pub field_short : (width : ℕ) (rule : ℕ → Bool) (next : ℕ → Fields) (bytes : List ℕ) (at offset : ℕ) → Err offset ≡ number_at bytes at width
    → read (Field width rule next) bytes at ≡ Err offset
unfolding read
field_short width rule next bytes at offset e =
    let t = refused (ltb (length bytes) (at + width)) (length bytes) (little_number width (drop at bytes)) offset (number_at bytes at width) refl (sym e) in
    rw t.0 (ap (λ (o : ℕ). Err o) t.1)

pub field_broken : (width : ℕ) (rule : ℕ → Bool) (next : ℕ → Fields) (bytes : List ℕ) (at n : ℕ) → Ok n ≡ number_at bytes at width → rule n ≡ false
    → read (Field width rule next) bytes at ≡ Err at
unfolding read
field_broken width rule next bytes at n e breaks =
    let t = told (ltb (length bytes) (at + width)) (length bytes) (little_number width (drop at bytes)) n (number_at bytes at width) refl (sym e) in
    rw (t.0, t.1, breaks) refl

-- ## The same behind the numbers that were read before

pub goes_further : (width : ℕ) (rule : ℕ → Bool) (next : ℕ → Fields) (bytes : List ℕ) (at n : ℕ) (before : List ℕ) (whole : Result Reading ℕ) → Ok n ≡ number_at bytes at width → rule n ≡ true
    → whole ≡ behind_all before (read (Field width rule next) bytes at) → whole ≡ behind_all (before ++ n ∷ []) (read (next n) bytes (at + width))
goes_further width rule next bytes at n before whole e obeys so_far =
    so_far ∙ ap (behind_all before) (field_number width rule next bytes at n e obeys) ∙ sym (behind_all-append before (n ∷ []) (read (next n) bytes (at + width)))

pub is_short : (width : ℕ) (rule : ℕ → Bool) (next : ℕ → Fields) (bytes : List ℕ) (at offset : ℕ) (before : List ℕ) (whole : Result Reading ℕ) → Err offset ≡ number_at bytes at width
    → whole ≡ behind_all before (read (Field width rule next) bytes at) → whole ≡ Err offset
is_short width rule next bytes at offset before whole e so_far =
    so_far ∙ ap (behind_all before) (field_short width rule next bytes at offset e) ∙ behind_all-err before offset

pub is_broken : (width : ℕ) (rule : ℕ → Bool) (next : ℕ → Fields) (bytes : List ℕ) (at n : ℕ) (before : List ℕ) (whole : Result Reading ℕ) → Ok n ≡ number_at bytes at width → rule n ≡ false
    → whole ≡ behind_all before (read (Field width rule next) bytes at) → whole ≡ Err at
is_broken width rule next bytes at n before whole e breaks so_far =
    so_far ∙ ap (behind_all before) (field_broken width rule next bytes at n e breaks) ∙ behind_all-err before at

-- ## Registers

pub register_read : (bytes : List ℕ) (r n : ℕ) (before : List ℕ) (whole : Result Reading ℕ) → r < 32 → Ok n ≡ number_at bytes (17 + 8 * r) 8
    → whole ≡ behind_all before (read (register_fields (32 - r)) bytes (17 + 8 * r)) → whole ≡ behind_all (before ++ n ∷ []) (read (register_fields (32 - (r + 1))) bytes (17 + 8 * (r + 1)))
unfolding register_fields
register_read bytes r n before whole lt e so_far =
    let k : 32 - r ≡ suc (32 - (r + 1)) = omega arith in
    let at : 17 + 8 * (r + 1) ≡ 17 + 8 * r + 8 = omega arith in
    rw at (goes_further 8 any (λ x. register_fields (32 - (r + 1))) bytes (17 + 8 * r) n before whole e refl (rw k at so_far))

pub register_short : (bytes : List ℕ) (r offset : ℕ) (before : List ℕ) (whole : Result Reading ℕ) → r < 32 → Err offset ≡ number_at bytes (17 + 8 * r) 8
    → whole ≡ behind_all before (read (register_fields (32 - r)) bytes (17 + 8 * r)) → whole ≡ Err offset
unfolding register_fields
register_short bytes r offset before whole lt e so_far =
    let k : 32 - r ≡ suc (32 - (r + 1)) = omega arith in
    is_short 8 any (λ x. register_fields (32 - (r + 1))) bytes (17 + 8 * r) offset before whole e (rw k at so_far)

pub registers_all : (bytes : List ℕ) (r : ℕ) (regs : List ℕ) (whole : Result Reading ℕ) → 32 ≤ r → length regs ≤ r → r ≤ 32
    → whole ≡ behind_all (drop 1 (take r regs)) (read (register_fields (32 - r)) bytes (17 + 8 * r)) → whole ≡ behind_all (drop 1 regs) (read place_fields bytes 273)
unfolding register_fields
registers_all bytes r regs whole ge len le so_far =
    let k : r ≡ 32 = omega arith in
    let all : take r regs ≡ regs = take_all r regs len in
    rw (all, k) at so_far

-- the registers with one more
pub register_set : (regs : List ℕ) (r n : ℕ) → 1 ≤ r → r < length regs → drop 1 (take (r + 1) (set regs r n)) ≡ drop 1 (take r regs) ++ n ∷ []
register_set regs r n some lt = ap (drop 1) (take_more_set regs r n lt) ∙ behind_first (take r regs) (omega (arith, length-take r regs))
  where
    behind_first : (front : List ℕ) → 1 ≤ length front → drop 1 (front ++ n ∷ []) ≡ drop 1 front ++ n ∷ []
    behind_first [] h = absurd (omega arith)
    behind_first (x ∷ front) h = refl

-- ## Heap slots

-- a member above all others comes last
pub insert-last : (x : ℕ) (xs : List ℕ) → AreBelow x xs → insert x xs ≡ xs ++ x ∷ []
unfolding insert
insert-last x [] h = refl
insert-last x (y ∷ ys) h =
    let y-low : y < x = h y (rw (eq-eqb y y refl) refl) in
    let tests : (ltb x y ≡ false) × (eqb x y ≡ false) = (le-ltb x y (omega arith), ne_eqb x y (λ e. omega arith)) in
    rw (tests.0, tests.1, insert-last x ys (λ s e. h s (elim (eqb y s) as (λ v. cond v true (has s ys) ≡ true) [ true ↦ refl | false ↦ e ]))) refl

pub slot_read : (bytes : List ℕ) (count k low stack n : ℕ) (slots : List ℕ) (whole : Result Reading ℕ) → k < count → Ok n ≡ number_at bytes (285 + 2 * k) 2 → is_heap_slot low stack n ≡ true
    → whole ≡ behind_all slots (read (slot_fields (count - k) low stack slots) bytes (285 + 2 * k))
    → whole ≡ behind_all (slots ++ n ∷ []) (read (slot_fields (count - (k + 1)) (n + 1) stack (slots ++ n ∷ [])) bytes (285 + 2 * (k + 1)))
unfolding slot_fields
slot_read bytes count k low stack n slots whole lt e obeys so_far =
    let left : count - k ≡ suc (count - (k + 1)) = omega arith in
    let at : 285 + 2 * (k + 1) ≡ 285 + 2 * k + 2 = omega arith in
    rw at (goes_further 2 (is_heap_slot low stack) (λ s. slot_fields (count - (k + 1)) (s + 1) stack (slots ++ s ∷ [])) bytes (285 + 2 * k) n slots whole e obeys (rw left at so_far))

pub slot_short : (bytes : List ℕ) (count k low stack offset : ℕ) (slots : List ℕ) (whole : Result Reading ℕ) → k < count → Err offset ≡ number_at bytes (285 + 2 * k) 2
    → whole ≡ behind_all slots (read (slot_fields (count - k) low stack slots) bytes (285 + 2 * k)) → whole ≡ Err offset
unfolding slot_fields
slot_short bytes count k low stack offset slots whole lt e so_far =
    let left : count - k ≡ suc (count - (k + 1)) = omega arith in
    is_short 2 (is_heap_slot low stack) (λ s. slot_fields (count - (k + 1)) (s + 1) stack (slots ++ s ∷ [])) bytes (285 + 2 * k) offset slots whole e (rw left at so_far)

pub slot_broken : (bytes : List ℕ) (count k low stack n : ℕ) (slots : List ℕ) (whole : Result Reading ℕ) → k < count → Ok n ≡ number_at bytes (285 + 2 * k) 2 → is_heap_slot low stack n ≡ false
    → whole ≡ behind_all slots (read (slot_fields (count - k) low stack slots) bytes (285 + 2 * k)) → whole ≡ Err (285 + 2 * k)
unfolding slot_fields
slot_broken bytes count k low stack n slots whole lt e breaks so_far =
    let left : count - k ≡ suc (count - (k + 1)) = omega arith in
    is_broken 2 (is_heap_slot low stack) (λ s. slot_fields (count - (k + 1)) (s + 1) stack (slots ++ s ∷ [])) bytes (285 + 2 * k) n slots whole e breaks (rw left at so_far)

pub slots_all : (bytes : List ℕ) (count k low stack : ℕ) (slots : List ℕ) (whole : Result Reading ℕ) → k ≡ count
    → whole ≡ behind_all slots (read (slot_fields (count - k) low stack slots) bytes (285 + 2 * k)) → whole ≡ behind_all slots (read (live_fields slots) bytes (285 + 2 * count))
unfolding slot_fields
slots_all bytes count k low stack slots whole e so_far =
    let left : count - k ≡ 0 = omega arith in
    rw (left, e) at so_far

-- the slots with one more, which is past them and isn't the stack slot
pub record WithSlot (low stack n : ℕ) (slots more : List ℕ) : Type 0 where
  pub last : more ≡ slots ++ n ∷ []
  pub below : AreBelow (n + 1) more
  pub small : n < slot_limit
  pub apart : has stack more ≡ false
  pub ascending : IsAscending more

pub with_slot : (low stack n : ℕ) (slots : List ℕ) → is_heap_slot low stack n ≡ true → AreBelow low slots → has stack slots ≡ false → IsAscending slots → WithSlot low stack n slots (insert n slots)
with_slot low stack n slots obeys below apart ascending =
    let p = and_parts (ltb n slot_limit && leb low n) (not (eqb n stack)) obeys in
    let q = and_parts (ltb n slot_limit) (leb low n) p.0 in
    let past : low ≤ n = leb-true _ _ q.1 in
    let other : eqb n stack ≡ false = not-true _ p.1 in
    let under : AreBelow n slots = λ s e. omega (arith, below s e, past) in
    record {
      last = insert-last n slots under;
      below = below-insert (n + 1) n slots (omega arith) (λ s e. omega (arith, under s e));
      small = ltb-true _ _ q.0;
      apart = has-insert n stack slots ∙ rw other apart;
      ascending = ascending-insert n slots ascending;
    }

-- ## Blocks

pub block_numbers-append : (blocks others : List (ℕ × ℕ)) → block_numbers (blocks ++ others) ≡ block_numbers blocks ++ block_numbers others
unfolding block_numbers
block_numbers-append [] others = refl
block_numbers-append (b ∷ blocks) others = ap (λ (ns : List ℕ). b.0 ∷ b.1 ∷ ns) (block_numbers-append blocks others)

pub block_read : (bytes : List ℕ) (at count k low : ℕ) (slots : List ℕ) (b : ℕ × ℕ) (whole : Result Reading ℕ) → k < count → b ≡ block_at bytes (at + 16 * k)
    → read (block_fields (suc (count - (k + 1))) low slots) bytes (at + 16 * k) ≡ behind_all (b.0 ∷ b.1 ∷ []) (read (block_fields (count - (k + 1)) (b.0 + b.1) slots) bytes (at + 16 * k + 16))
    → whole ≡ behind_all (block_numbers (blocks_at bytes at k)) (read (block_fields (count - k) low slots) bytes (at + 16 * k))
    → whole ≡ behind_all (block_numbers (blocks_at bytes at (k + 1))) (read (block_fields (count - (k + 1)) (b.0 + b.1) slots) bytes (at + 16 * (k + 1)))
unfolding blocks_at block_numbers
block_read bytes at count k low slots b whole lt e one so_far =
    let left : count - k ≡ suc (count - (k + 1)) = omega arith in
    let place : at + 16 * (k + 1) ≡ at + 16 * k + 16 = omega arith in
    let more : k + 1 ≡ suc k = omega arith in
    let numbers : block_numbers (blocks_at bytes at (k + 1)) ≡ block_numbers (blocks_at bytes at k) ++ b.0 ∷ b.1 ∷ [] =
    ap (λ n. block_numbers (blocks_at bytes at n)) more ∙ block_numbers-append (blocks_at bytes at k) (block_at bytes (at + 16 * k) ∷ []) ∙ ap (λ (b : ℕ × ℕ). block_numbers (blocks_at bytes at k) ++ b.0 ∷ b.1 ∷ []) (sym e) in
    let before : whole ≡ behind_all (block_numbers (blocks_at bytes at k)) (read (block_fields (suc (count - (k + 1))) low slots) bytes (at + 16 * k)) = rw left at so_far in
    before ∙ ap (behind_all (block_numbers (blocks_at bytes at k))) one
    ∙ sym (behind_all-append (block_numbers (blocks_at bytes at k)) (b.0 ∷ b.1 ∷ []) (read (block_fields (count - (k + 1)) (b.0 + b.1) slots) bytes (at + 16 * k + 16)))
    ∙ ap (λ ns. behind_all ns (read (block_fields (count - (k + 1)) (b.0 + b.1) slots) bytes (at + 16 * k + 16))) (sym numbers)
    ∙ ap (λ at. behind_all (block_numbers (blocks_at bytes at' (k + 1))) (read (block_fields (count - (k + 1)) (b.0 + b.1) slots) bytes at)) (sym place)
  where
    at' : ℕ
    at' = at

pub block_refused : (bytes : List ℕ) (at count k low offset : ℕ) (slots : List ℕ) (whole : Result Reading ℕ) → k < count
    → read (block_fields (suc (count - (k + 1))) low slots) bytes (at + 16 * k) ≡ Err offset
    → whole ≡ behind_all (block_numbers (blocks_at bytes at k)) (read (block_fields (count - k) low slots) bytes (at + 16 * k)) → whole ≡ Err offset
block_refused bytes at count k low offset slots whole lt one so_far =
    let left : count - k ≡ suc (count - (k + 1)) = omega arith in
    let before : whole ≡ behind_all (block_numbers (blocks_at bytes at k)) (read (block_fields (suc (count - (k + 1))) low slots) bytes (at + 16 * k)) = rw left at so_far in
    before ∙ ap (behind_all (block_numbers (blocks_at bytes at k))) one ∙ behind_all-err (block_numbers (blocks_at bytes at k)) offset

pub blocks_begin : (bytes : List ℕ) (at count : ℕ) (slots : List ℕ)
    → read (block_fields count 0 slots) bytes at ≡ behind_all (block_numbers (blocks_at bytes at 0)) (read (block_fields (count - 0) 0 slots) bytes (at + 0))
unfolding blocks_at block_numbers
blocks_begin bytes at count slots =
    let left : count - 0 ≡ count = omega arith in
    let place : at + 0 ≡ at = omega arith in
    rw (left, place) refl

pub stand_begin : (bytes : List ℕ) (at : ℕ) (slots : List ℕ) (rest : List (ℕ × ℕ)) → StandFrom 0 slots rest → StandFrom 0 slots (blocks_at bytes at 0 ++ rest)
unfolding blocks_at
stand_begin bytes at slots rest stand = stand

pub stand_all : (bytes : List ℕ) (at k count low : ℕ) (slots : List ℕ) → k ≡ count → ((rest : List (ℕ × ℕ)) → StandFrom low slots rest → StandFrom 0 slots (blocks_at bytes at k ++ rest)) → StandFrom 0 slots (blocks_at bytes at count)
stand_all bytes at k count low slots e so_far = rw (← append-nil (blocks_at bytes at count), ← e) (so_far [] tt)

pub blocks_all : (bytes : List ℕ) (at count k low : ℕ) (slots : List ℕ) (whole : Result Reading ℕ) → k ≡ count
    → whole ≡ behind_all (block_numbers (blocks_at bytes at k)) (read (block_fields (count - k) low slots) bytes (at + 16 * k))
    → whole ≡ behind_all (block_numbers (blocks_at bytes at count)) (Ok (record { numbers = []; at = at + 16 * count; blocks = length slots + 1 }))
unfolding block_fields read
blocks_all bytes at count k low slots whole e so_far =
    let left : count - k ≡ 0 = omega arith in
    rw (left, e) at so_far

-- blocks that stand one after another stand so with one more before the rest
pub block_stands : (bytes : List ℕ) (at k low : ℕ) (slots : List ℕ) (b : ℕ × ℕ) → b ≡ block_at bytes (at + 16 * k) → IsBlock slots b → low ≤ b.0
    → ((rest : List (ℕ × ℕ)) → StandFrom low slots rest → StandFrom 0 slots (blocks_at bytes at k ++ rest))
    → (rest : List (ℕ × ℕ)) → StandFrom (b.0 + b.1) slots rest → StandFrom 0 slots (blocks_at bytes at (k + 1) ++ rest)
unfolding blocks_at
block_stands bytes at k low slots b e block past so_far rest stand =
    let more : k + 1 ≡ suc k = omega arith in
    let same : blocks_at bytes at (k + 1) ++ rest ≡ blocks_at bytes at k ++ (b ∷ rest) =
    ap (λ n. blocks_at bytes at n ++ rest) more ∙ append_assoc (blocks_at bytes at k) (block_at bytes (at + 16 * k) ∷ []) rest ∙ ap (λ (b : ℕ × ℕ). blocks_at bytes at k ++ (b ∷ rest)) (sym e) in
    rw same (so_far (b ∷ rest) (block, past, stand))

-- a reading behind others
pub ruleset chained = (behind_all-append, behind_all-err)

pub behind_all-ok : (ns : List ℕ) (at blocks : ℕ) → behind_all ns (Ok (record { numbers = []; at = at; blocks = blocks })) ≡ Ok (record { numbers = ns; at = at; blocks = blocks })
behind_all-ok [] at blocks = refl
behind_all-ok (n ∷ ns) at blocks = ap (behind n) (behind_all-ok ns at blocks)

pub ruleset finished = (behind_all-ok, ltb-false, le-ltb, lt-ltb)
