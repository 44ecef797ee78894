-- The rules of the fields, section by section, and what they say of a thread.
use Rattle.std.proofs.Common.{◌≡◌, ℕ, zero, suc, ◌+◌, ◌%◌, ◌<◌, ◌≤◌, Bool, true, false, cond, ltb, leb, eqb, not, ◌&&◌, List, [], ◌∷◌, ◌++◌, length, drop, refl, sym, arith, append_assoc}
use Rattle.std.proofs.lemmas.Bool.{and_parts, and_from, eq-eqb, eqb-true, lt-ltb, ltb-true, le-leb, leb-true, not-true, not_from_false, true≢false}
use Rattle.std.proofs.lemmas.List.{append-nil, length-drop}
use Rattle.slot_space.specs.Limits.{slot_limit}
use Rattle.slot_space.specs.Sets.{has, insert, IsAscending, AreBelow, has_run}
use Rattle.iso_blocks.specs.Bytes.{in_slots}
use Rattle.iso_blocks.specs.Heap.{IsBlock, StandFrom}
use Rattle.lrpc.specs.declared.duty.Duty.{Duty}
use Rattle.lrpc.specs.declared.duty.Duty.TheVariants as duties
use Rattle.thread_text.specs.Fields.{Obey}
use Rattle.thread_text.specs.Grammar.{thread_fields, duty_fields, register_fields, place_fields, slot_fields, live_fields, block_fields, is_start, is_size}
use Rattle.pack_thread.specs.Rules.{ServesNodes, KeepsRules}
use Rattle.thread_text.specs.Numbers.{duty_numbers, block_numbers}
use Rattle.pack_thread.specs.Threads.{PackedThread, heap_numbers, numbers_of}
use Rattle.thread_text.proofs.Lemmas.{run_all, all_run}
use Rattle.pack_thread.proofs.Limits.{slots_few, with_stack}
use Rattle.slot_space.proofs.Lemmas.{length-insert}

-- ## Blocks

start_obeys : (slots : List ℕ) (low : ℕ) (b : ℕ × ℕ) → IsBlock slots b → low ≤ b.0 → is_start slots low b.0 ≡ true
start_obeys slots low b block past =
    and_from (eqb (b.0 % 16) 0 && in_slots slots b.0) (leb low b.0) (and_from _ _ (eq-eqb _ _ block.aligned) (block.inside b.0 (omega arith) (omega (arith, block.some)))) (le-leb _ _ past)

size_obeys : (slots : List ℕ) (b : ℕ × ℕ) → IsBlock slots b → is_size slots b.0 b.1 ≡ true
size_obeys slots b block =
    and_from (eqb (b.1 % 16) 0 && leb 16 b.1) (has_run (in_slots slots) b.0 b.1) (and_from _ _ (eq-eqb _ _ block.rounded) (le-leb _ _ block.some)) (all_run (in_slots slots) b.0 b.1 block.inside)

block_obeyed : (slots : List ℕ) (low : ℕ) (b : ℕ × ℕ) → is_start slots low b.0 ≡ true → is_size slots b.0 b.1 ≡ true → IsBlock slots b × (low ≤ b.0)
block_obeyed slots low b start size =
    let p = and_parts (eqb (b.0 % 16) 0 && in_slots slots b.0) (leb low b.0) start in
    let q = and_parts (eqb (b.0 % 16) 0) (in_slots slots b.0) p.0 in
    let r = and_parts (eqb (b.1 % 16) 0 && leb 16 b.1) (has_run (in_slots slots) b.0 b.1) size in
    let s = and_parts (eqb (b.1 % 16) 0) (leb 16 b.1) r.0 in
    (record { aligned = eqb-true _ _ q.0; rounded = eqb-true _ _ s.0; some = leb-true _ _ s.1; inside = λ x lo hi. run_all (in_slots slots) b.0 b.1 x r.1 lo hi }, leb-true _ _ p.1)

obey_blocks : (live : List (ℕ × ℕ)) (low : ℕ) (slots : List ℕ) → StandFrom low slots live → Obey (block_fields (length live) low slots) (block_numbers live)
unfolding Obey block_fields block_numbers
obey_blocks [] low slots stand = tt
obey_blocks (b ∷ live) low slots stand = (start_obeys slots low b stand.0 stand.1, (size_obeys slots b stand.0, obey_blocks live (b.0 + b.1) slots stand.2))

blocks_obeyed : (live : List (ℕ × ℕ)) (low : ℕ) (slots : List ℕ) → Obey (block_fields (length live) low slots) (block_numbers live) → StandFrom low slots live
unfolding Obey block_fields block_numbers
blocks_obeyed [] low slots o = tt
blocks_obeyed (b ∷ live) low slots o = let p = block_obeyed slots low b o.0 o.1.0 in (p.0, p.1, blocks_obeyed live (b.0 + b.1) slots o.1.1)

obey_live : (live : List (ℕ × ℕ)) (slots : List ℕ) → StandFrom 0 slots live → Obey (live_fields slots) (length live ∷ block_numbers live)
unfolding Obey live_fields
obey_live live slots stand = (refl, obey_blocks live 0 slots stand)

live_obeyed : (live : List (ℕ × ℕ)) (slots : List ℕ) → Obey (live_fields slots) (length live ∷ block_numbers live) → StandFrom 0 slots live
unfolding Obey live_fields
live_obeyed live slots o = blocks_obeyed live 0 slots o.1

-- ## Heap slots

-- what a list of slots from one on, past which others may stand, is
record AreSlots (low stack : ℕ) (slots : List ℕ) : Type 0 where
  from : (s : ℕ) → has s slots ≡ true → low ≤ s
  ascending : IsAscending slots
  small : AreBelow slot_limit slots
  apart : has stack slots ≡ false

has_first : (s : ℕ) (slots : List ℕ) → has s (s ∷ slots) ≡ true
has_first s slots = rw (eq-eqb s s refl) refl

has_later : (s t : ℕ) (slots : List ℕ) → has t slots ≡ true → has t (s ∷ slots) ≡ true
has_later s t slots e = elim (eqb s t) as (λ b. cond b true (has t slots) ≡ true) [ true ↦ refl | false ↦ e ]

-- a member of a list is its first, or one of the others
has_cases : (P : ℕ → Type 0) (s t : ℕ) (slots : List ℕ) → P s → (has t slots ≡ true → P t) → has t (s ∷ slots) ≡ true → P t
has_cases P s t slots first later e = step (eqb s t) refl e
  where
    step : (b : Bool) → eqb s t ≡ b → cond b true (has t slots) ≡ true → P t
    step true is e = let same : s ≡ t = eqb-true s t is in rw (← same) first
    step false is e = later e

no_first : (s t : ℕ) (slots : List ℕ) → has t (s ∷ slots) ≡ false → (eqb s t ≡ false) × (has t slots ≡ false)
no_first s t slots e = step (eqb s t) refl e
  where
    step : (b : Bool) → eqb s t ≡ b → cond b true (has t slots) ≡ false → (eqb s t ≡ false) × (has t slots ≡ false)
    step true is e = absurd (true≢false e)
    step false is e = (is, e)

obey_slots : (slots : List ℕ) (low stack : ℕ) (before rest : List ℕ) → AreSlots low stack slots → Obey (live_fields (before ++ slots)) rest → Obey (slot_fields (length slots) low stack before) (slots ++ rest)
unfolding Obey slot_fields
obey_slots [] low stack before rest are o = rw append-nil at o
obey_slots (s ∷ slots) low stack before rest are o =
    let out = no_first s stack slots are.apart in
    let later : AreSlots (s + 1) stack slots = record { from = λ t e. omega (arith, are.ascending.0 t e); ascending = are.ascending.1; small = λ t e. are.small t (has_later s t slots e); apart = out.1 } in (
      and_from (ltb s slot_limit && leb low s) (not (eqb s stack)) (and_from _ _ (lt-ltb _ _ (are.small s (has_first s slots))) (le-leb _ _ (are.from s (has_first s slots)))) (not_from_false _ out.0),
      obey_slots slots (s + 1) stack (before ++ s ∷ []) rest later (rw append_assoc o),
    )

slots_obeyed : (slots : List ℕ) (low stack : ℕ) (before rest : List ℕ) → Obey (slot_fields (length slots) low stack before) (slots ++ rest) → AreSlots low stack slots × Obey (live_fields (before ++ slots)) rest
unfolding Obey slot_fields
slots_obeyed [] low stack before rest o = (record { from = λ s e. absurd (true≢false (sym e)); ascending = tt; small = λ s e. absurd (true≢false (sym e)); apart = refl }, rw append-nil o)
slots_obeyed (s ∷ slots) low stack before rest o =
    let p = and_parts (ltb s slot_limit && leb low s) (not (eqb s stack)) o.0 in
    let q = and_parts (ltb s slot_limit) (leb low s) p.0 in
    let small : s < slot_limit = ltb-true _ _ q.0 in
    let past : low ≤ s = leb-true _ _ q.1 in
    let r = slots_obeyed slots (s + 1) stack (before ++ s ∷ []) rest o.1 in (
      record {
        from = λ t e. has_cases (λ t. low ≤ t) s t slots past (λ later. omega (arith, r.0.from t later, past)) e;
        ascending = (λ t e. omega (arith, r.0.from t e), r.0.ascending);
        small = λ t e. has_cases (λ t. t < slot_limit) s t slots small (r.0.small t) e;
        apart = rw (not-true _ p.1) r.0.apart;
      },
      rw append_assoc at r.1,
    )

-- ## Registers and the duty

obey_registers : (n : ℕ) (xs rest : List ℕ) → length xs ≡ n → Obey place_fields rest → Obey (register_fields n) (xs ++ rest)
unfolding Obey register_fields
obey_registers zero [] rest e o = o
obey_registers zero (x ∷ xs) rest e o = absurd (omega arith)
obey_registers (suc n) [] rest e o = absurd (omega arith)
obey_registers (suc n) (x ∷ xs) rest e o = (refl, obey_registers n xs rest (omega arith) o)

registers_obeyed : (n : ℕ) (xs rest : List ℕ) → length xs ≡ n → Obey (register_fields n) (xs ++ rest) → Obey place_fields rest
unfolding Obey register_fields
registers_obeyed zero [] rest e o = o
registers_obeyed zero (x ∷ xs) rest e o = absurd (omega arith)
registers_obeyed (suc n) [] rest e o = absurd (omega arith)
registers_obeyed (suc n) (x ∷ xs) rest e o = registers_obeyed n xs rest (omega arith) o.1

obey_duty : (d : Duty) (rest : List ℕ) → ServesNodes d → Obey (register_fields 31) rest → Obey duty_fields (duty_numbers d ++ rest)
unfolding Obey duty_fields
obey_duty duties.None rest nodes o = (refl, (refl, (refl, (refl, (refl, o)))))
obey_duty (duties.Cast call) rest nodes o = (refl, (lt-ltb _ _ nodes.0, (refl, (refl, (lt-ltb _ _ nodes.1, o)))))
obey_duty (duties.Owes call) rest nodes o = (refl, (lt-ltb _ _ nodes.0, (refl, (refl, (lt-ltb _ _ nodes.1, o)))))
obey_duty (duties.Paid call) rest nodes o = (refl, (lt-ltb _ _ nodes.0, (refl, (refl, (lt-ltb _ _ nodes.1, o)))))

duty_obeyed : (d : Duty) (rest : List ℕ) → Obey duty_fields (duty_numbers d ++ rest) → ServesNodes d × Obey (register_fields 31) rest
unfolding Obey duty_fields
duty_obeyed duties.None rest o = (tt, o.1.1.1.1.1)
duty_obeyed (duties.Cast call) rest o = ((ltb-true _ _ o.1.0, ltb-true _ _ o.1.1.1.1.0), o.1.1.1.1.1)
duty_obeyed (duties.Owes call) rest o = ((ltb-true _ _ o.1.0, ltb-true _ _ o.1.1.1.1.0), o.1.1.1.1.1)
duty_obeyed (duties.Paid call) rest o = ((ltb-true _ _ o.1.0, ltb-true _ _ o.1.1.1.1.0), o.1.1.1.1.1)

-- ## The whole thread

abbrev behind_regs : PackedThread → List ℕ
behind_regs t = t.state.pc ∷ t.stack ∷ length t.heap.slots ∷ heap_numbers t.heap

pub obeys : (t : PackedThread) → length t.state.regs ≡ 32 → KeepsRules t → Obey thread_fields (numbers_of t)
unfolding Obey thread_fields place_fields
obeys t regs k =
    let few : length t.heap.slots < slot_limit = omega (arith, slots_few (insert t.stack t.heap.slots) (with_stack t.stack t.heap.slots k.stack k.heap), length-insert t.stack t.heap.slots k.apart) in
    let are : AreSlots 0 t.stack t.heap.slots = record { from = λ s e. omega arith; ascending = k.heap.ascending; small = k.heap.small; apart = k.apart } in
    let heap = obey_slots t.heap.slots 0 t.stack [] (length t.heap.live ∷ block_numbers t.heap.live) are (obey_live t.heap.live t.heap.slots k.sound) in
    let place : Obey place_fields (behind_regs t) = (eq-eqb _ _ k.pc, (lt-ltb _ _ k.stack, (lt-ltb _ _ few, heap))) in (
      refl,
      (
        lt-ltb _ _ k.home,
        (
          refl,
          (
            le-leb _ _ k.priority,
            (
              refl,
              obey_duty t.duty (drop 1 t.state.regs ++ behind_regs t) k.duty (obey_registers 31 (drop 1 t.state.regs) (behind_regs t) (omega (arith, length-drop 1 t.state.regs)) place),
            ),
          ),
        ),
      ),
    )

pub keeps : (t : PackedThread) → length t.state.regs ≡ 32 → Obey thread_fields (numbers_of t) → KeepsRules t
unfolding Obey thread_fields place_fields
keeps t regs o =
    let d = duty_obeyed t.duty (drop 1 t.state.regs ++ behind_regs t) o.1.1.1.1.1 in
    let p = registers_obeyed 31 (drop 1 t.state.regs) (behind_regs t) (omega (arith, length-drop 1 t.state.regs)) d.1 in
    let s = slots_obeyed t.heap.slots 0 t.stack [] (length t.heap.live ∷ block_numbers t.heap.live) p.1.1.1 in
    record {
      home = ltb-true _ _ o.1.0;
      priority = leb-true _ _ o.1.1.1.0;
      duty = d.0;
      pc = eqb-true _ _ p.0;
      stack = ltb-true _ _ p.1.0;
      heap = record { ascending = s.0.ascending; small = s.0.small };
      apart = s.0.apart;
      sound = live_obeyed t.heap.live t.heap.slots s.1;
    }
