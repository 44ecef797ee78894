-- The slots of a memory, one after another.
use Rattle.std.proofs.Common.{◌≡◌, ℕ, zero, suc, ◌+◌, ◌-◌, ◌*◌, ◌<◌, true, false, cond, eqb, List, [], ◌∷◌, ◌++◌, leb, length, get_or, take, drop, Some, None, refl, sym, ap, ◌∙◌, arith}
use Rattle.std.specs.List.{insert}
use Rattle.std.proofs.lemmas.List.{append-nil, take_more, take_all, drop_all, length-map, length-take, length-drop, get_or-map, get_or-take, map-append}
use Rattle.std.proofs.Math.Seq.{take-add}
use Rattle.std.proofs.lemmas.List.Kept.{AllPairs-cons}
use Rattle.std.proofs.lemmas.Grind.{flat_map-append}
use Rattle.std.proofs.lemmas.Option.{slice_get-get_or}
use Rattle.std.proofs.lemmas.Bool.{eq-eqb, lt-leb}
use Rattle.slot_space.specs.Limits.{slot_size}
use Rattle.slot_space.specs.Sets as sets
use Rattle.rv_step.specs.declared.memory.Held.{Held}
use Rattle.rv_step.specs.Memory.{Memory, IsAscending, slots_of, slot_place, block_of, new_place}
use Rattle.rv_step.proofs.Lemmas.{place_at, no_place}
use Rattle.pack_thread.specs.Threads.{bytes_of, AreWhole}

-- each slot is one of the slots
has_at : (m : Memory) (i : ℕ) (d : Held) → i < length m → sets.has (get_or m i d).slot (slots_of m) ≡ true
has_at [] i d lt = absurd (omega arith)
has_at (h ∷ m) zero d lt = rw (eq-eqb h.slot h.slot refl) refl
has_at (h ∷ m) (suc i) d lt = elim (eqb h.slot (get_or m i d).slot) as (λ b. cond b true (sets.has (get_or m i d).slot (slots_of m)) ≡ true) [ true ↦ refl | false ↦ has_at m i d (omega arith) ]

-- the slots ascend where their numbers do
pub ascending_memory : (m : Memory) → sets.IsAscending (slots_of m) → IsAscending m
ascending_memory [] asc = λ i j d before within. absurd (omega arith)
ascending_memory (h ∷ m) asc =
    AllPairs-cons (λ a b. a.slot < b.slot) h m (λ k d lt. asc.0 (get_or m k d).slot (has_at m k d lt)) (ascending_memory m asc.1)

-- the slot at an index, and its bytes
pub held_at : (m : Memory) (held : List ℕ) (i s : ℕ) (d : Held) → IsAscending m → slots_of m ≡ held → i < length held → s ≡ get_or held i s
    → (i < length m) × (block_of m s ≡ Some (get_or m i d).block)
held_at m held i s d asc holds lt at =
    let within : i < length m = omega (arith, ap length holds, length-map m (λ (h : Held). h.slot)) in
    let same : (get_or m i d).slot ≡ s = sym (at ∙ ap (λ (xs : List ℕ). get_or xs i s) (sym holds) ∙ get_or-map (λ (h : Held). h.slot) m i d s within) in
    let place : slot_place m s ≡ Some i = place_at m s i d asc within same in
    (within, rw (place, slice_get-get_or m i d within) refl)

pub bytes_of-append : (m n : Memory) → bytes_of (m ++ n) ≡ bytes_of m ++ bytes_of n
bytes_of-append m n = flat_map-append (λ (h : Held). h.block) m n

pub whole-append : (m n : Memory) → AreWhole m → AreWhole n → AreWhole (m ++ n)
whole-append [] n p q = q
whole-append (h ∷ m) n p q = (p.0, whole-append m n p.1 q)

-- the bytes of one slot more
pub memory_more : (m : Memory) (i s : ℕ) (block : List ℕ) (d : Held) → i < length m → block_of m s ≡ Some (get_or m i d).block → block_of m s ≡ Some block → length block ≡ slot_size → AreWhole (take i m)
    → (bytes_of (take (i + 1) m) ≡ bytes_of (take i m) ++ block) × AreWhole (take (i + 1) m)
memory_more m i s block d lt found is len before =
    let same : (get_or m i d).block ≡ block = cc in
    let more : take (i + 1) m ≡ take i m ++ get_or m i d ∷ [] = take_more m i d lt in (
      rw more (bytes_of-append (take i m) (get_or m i d ∷ []) ∙ ap (λ (b : List ℕ). bytes_of (take i m) ++ b) (append-nil (get_or m i d).block ∙ same)),
      rw more (whole-append (take i m) (get_or m i d ∷ []) before (ap length same ∙ len, tt)),
    )

-- ## A grant of the slot after all others

-- each slot of the memory is below this one
abbrev pub AllBelow : Memory → ℕ → Type 0
AllBelow m s = (k : ℕ) (d : Held) → k < length m → (get_or m k d).slot < s

has_get : (xs : List ℕ) (i d : ℕ) → i < length xs → sets.has (get_or xs i d) xs ≡ true
has_get [] i d lt = absurd (omega arith)
has_get (x ∷ xs) zero d lt = rw (eq-eqb x x refl) refl
has_get (x ∷ xs) (suc i) d lt = elim (eqb x (get_or xs i d)) as (λ b. cond b true (sets.has (get_or xs i d) xs) ≡ true) [ true ↦ refl | false ↦ has_get xs i d (omega arith) ]

ascending_at : (xs : List ℕ) (k i d e : ℕ) → sets.IsAscending xs → k < i → i < length xs → get_or xs k d < get_or xs i e
ascending_at [] k i d e asc before within = absurd (omega arith)
ascending_at (x ∷ xs) k zero d e asc before within = absurd (omega arith)
ascending_at (x ∷ xs) zero (suc i) d e asc before within = asc.0 (get_or xs i e) (has_get xs i e (omega arith))
ascending_at (x ∷ xs) (suc k) (suc i) d e asc before within = ascending_at xs k i d e asc.1 (omega arith) (omega arith)

pub all_below : (m : Memory) (held : List ℕ) (i s : ℕ) → sets.IsAscending held → slots_of m ≡ take i held → i < length held → s ≡ get_or held i s → AllBelow m s
all_below m held i s asc slots lt at = λ k d inside.
    let count : length m ≡ i = omega (arith, ap length slots, length-map m (λ (h : Held). h.slot), length-take i held) in
    let before : k < i = omega arith in
    let same : (get_or m k d).slot ≡ get_or held k s = sym (get_or-map (λ (h : Held). h.slot) m k d s inside) ∙ ap (λ (xs : List ℕ). get_or xs k s) slots ∙ get_or-take i held k s before in
    let up = ascending_at held k i s s asc before lt in
    omega (arith, same, up, at)

pub not_held : (m : Memory) (s : ℕ) → AllBelow m s → block_of m s ≡ None
not_held m s below = rw (no_place m s (λ k d inside e. let h = below k d inside in omega (arith, e))) refl

-- it belongs at the end
last_place : (m : Memory) (s : ℕ) → AllBelow m s → new_place m s ≡ length m
last_place [] s below = refl
last_place (h ∷ m) s below =
    let out : leb s h.slot ≡ false = lt-leb s h.slot (below 0 h (omega arith)) in
    let rest = last_place m s (λ k d inside. below (suc k) d (omega arith)) in
    rw (out, rest) (omega arith)

pub granted_last : (m : Memory) (s : ℕ) (block : List ℕ) → AllBelow m s → insert m (new_place m s) (record { slot = s; block = block }) ≡ m ++ (record { slot = s; block = block }) ∷ []
granted_last m s block below = rw (last_place m s below, take_all (length m) m (omega arith), drop_all (length m) m (omega arith)) refl

-- what a memory has once the next slot of the list was granted
pub record Granted (held bytes : List ℕ) (i : ℕ) (m : Memory) : Type 0 where
  pub slots : slots_of m ≡ take i held
  pub text : bytes_of m ≡ take (slot_size * i) bytes
  pub whole : AreWhole m

pub granted_next : (m : Memory) (held bytes block : List ℕ) (i s : ℕ) → i < length held → s ≡ get_or held i s → Granted held bytes i m
    → block ≡ take slot_size (drop (slot_size * i) bytes) → length block ≡ slot_size → Granted held bytes (i + 1) (m ++ (record { slot = s; block = block }) ∷ [])
granted_next m held bytes block i s lt at g is len =
    let n : Held = record { slot = s; block = block } in
    record {
      slots = map-append (λ (h : Held). h.slot) m (n ∷ []) ∙ ap (λ (xs : List ℕ). xs ++ s ∷ []) g.slots ∙ ap (λ k. take i held ++ k ∷ []) at ∙ sym (take_more held i s lt);
      text = bytes_of-append m (n ∷ []) ∙ ap (λ (xs : List ℕ). xs ++ (block ++ [])) g.text ∙ ap (λ (xs : List ℕ). take (slot_size * i) bytes ++ xs) (append-nil block ∙ is)
          ∙ sym (take-add (slot_size * i) slot_size bytes) ∙ ap (λ k. take k bytes) (next i);
      whole = whole-append m (n ∷ []) g.whole (len, tt);
    }
  where
    next : (i : ℕ) → slot_size * i + slot_size ≡ slot_size * (i + 1)
    next i = omega arith

-- the bytes of one of the slots
pub length-part : (bytes : List ℕ) (i n : ℕ) → i < n → length bytes ≡ slot_size * n → length (take slot_size (drop (slot_size * i) bytes)) ≡ slot_size
length-part bytes i n lt e = omega (arith, length-take slot_size (drop (slot_size * i) bytes), length-drop (slot_size * i) bytes)

pub width_of : (at : ℕ) → at + slot_size - at ≡ slot_size
width_of at = omega arith
