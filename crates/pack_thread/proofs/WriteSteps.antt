-- Fields that are written one after another.
use Rattle.std.proofs.Common.{◌≡◌, ℕ, suc, ◌+◌, ◌-◌, ◌^◌, ◌<◌, ◌≤◌, Bool, List, [], ◌∷◌, ◌++◌, length, get_or, take, drop, refl, sym, ap, ◌∙◌, append_assoc, arith}
use Rattle.std.proofs.lemmas.List.{append-nil, take_all, take_more, length-take}
use Rattle.byteorder.specs.Endian.{little_bytes}
use Rattle.thread_text.specs.Fields.{Fields, Blocks, Field, spelled, Fit}
use Rattle.thread_text.specs.Grammar.{magic, any, is_heap_slot, is_start, is_size, thread_fields, duty_fields, register_fields, place_fields, slot_fields, live_fields, block_fields}
use Rattle.thread_text.specs.Numbers.{duty_numbers, block_numbers}
use Rattle.pack_thread.specs.Threads.{PackedThread, numbers_of}
use Rattle.pack_thread.specs.Writing.{Writes}

pub writes_none : (old : List ℕ) (f : Fields) → Writes old old f [] f
writes_none old f = record { text = λ rest. refl; fit = λ rest h. h }

pub writes_then : (a b c : List ℕ) (f g h : Fields) (ns ms : List ℕ) → Writes a b f ns g → Writes b c g ms h → Writes a c f (ns ++ ms) h
writes_then a b c f g h ns ms p q = record {
  text = λ rest. ap (λ (ks : List ℕ). a ++ spelled f ks) (append_assoc ns ms rest) ∙ p.text (ms ++ rest) ∙ q.text rest;
  fit = λ rest fit. rw append_assoc (p.fit (ms ++ rest) (q.fit rest fit));
}

-- one more number, in the bytes of its field
pub writes_number : (old mid new : List ℕ) (width : ℕ) (rule : ℕ → Bool) (next : ℕ → Fields) (n m : ℕ) (ns : List ℕ) (left : Fields) → m ≡ n → mid ≡ old ++ little_bytes width m → m < 256 ^ width
    → Writes mid new (next n) ns left → Writes old new (Field width rule next) (n ∷ ns) left
unfolding spelled Fit
writes_number old mid new width rule next n m ns left same e fits w = record {
  text = λ rest. sym (append_assoc old (little_bytes width n) (spelled (next n) (ns ++ rest)))
      ∙ ap (λ (b : List ℕ). b ++ spelled (next n) (ns ++ rest)) (ap (λ k. old ++ little_bytes width k) (sym same) ∙ sym e) ∙ w.text rest;
  fit = λ rest fit. (rw same at fits, w.fit rest fit);
}

-- ## Registers

pub register_written : (old mid new : List ℕ) (r n : ℕ) (ns : List ℕ) → r < 32 → new ≡ mid ++ little_bytes 8 n → n < 256 ^ 8
    → Writes old mid (register_fields 31) ns (register_fields (32 - r)) → Writes old new (register_fields 31) (ns ++ n ∷ []) (register_fields (32 - (r + 1)))
unfolding register_fields
register_written old mid new r n ns lt e fits w =
    let left : 32 - r ≡ suc (32 - (r + 1)) = omega arith in
    let one : Writes mid new (register_fields (32 - r)) (n ∷ []) (register_fields (32 - (r + 1))) =
    rw left (writes_number mid new new 8 any (λ x. register_fields (32 - (r + 1))) n n [] (register_fields (32 - (r + 1))) refl e fits (writes_none new (register_fields (32 - (r + 1))))) in
    writes_then old mid new (register_fields 31) (register_fields (32 - r)) (register_fields (32 - (r + 1))) ns (n ∷ []) w one

pub register_more : (regs : List ℕ) (r n : ℕ) → 1 ≤ r → r < length regs → n ≡ get_or regs r 0 → drop 1 (take (r + 1) regs) ≡ drop 1 (take r regs) ++ n ∷ []
register_more regs r n some lt e = ap (drop 1) (take_more regs r 0 lt ∙ ap (λ k. take r regs ++ k ∷ []) (sym e)) ∙ behind_first (take r regs) (omega (arith, length-take r regs))
  where
    behind_first : (front : List ℕ) → 1 ≤ length front → drop 1 (front ++ n ∷ []) ≡ drop 1 front ++ n ∷ []
    behind_first [] h = absurd (omega arith)
    behind_first (x ∷ front) h = refl

pub registers_written : (old new regs : List ℕ) (r : ℕ) → r ≡ 32 → length regs ≡ 32 → Writes old new (register_fields 31) (drop 1 (take r regs)) (register_fields (32 - r)) → Writes old new (register_fields 31) (drop 1 regs) place_fields
unfolding register_fields
registers_written old new regs r e len w =
    let all : take r regs ≡ regs = take_all r regs (omega arith) in
    rw (all, e) at w

-- ## Heap slots

-- the slots before a place are written
pub record SlotsWritten (old new slots : List ℕ) (i stack : ℕ) : Type 0 where
  pub low : ℕ
  pub written : Writes old new (slot_fields (length slots) 0 stack []) (take i slots) (slot_fields (length slots - i) low stack (take i slots))

pub slots_begin : (old slots : List ℕ) (stack : ℕ) → SlotsWritten old old slots 0 stack
slots_begin old slots stack = record { low = 0; written = rw (sub_zero (length slots)) (writes_none old (slot_fields (length slots) 0 stack [])) }
  where
    sub_zero : (n : ℕ) → n - 0 ≡ n
    sub_zero n = omega arith

pub slot_written : (old mid new slots : List ℕ) (i stack n : ℕ) → i < length slots → n ≡ get_or slots i n → new ≡ mid ++ little_bytes 2 n → n < 256 ^ 2
    → SlotsWritten old mid slots i stack → SlotsWritten old new slots (i + 1) stack
unfolding slot_fields
slot_written old mid new slots i stack n lt at e fits w =
    let left : length slots - i ≡ suc (length slots - (i + 1)) = omega arith in
    let next : ℕ → Fields = λ s. slot_fields (length slots - (i + 1)) (s + 1) stack (take i slots ++ s ∷ []) in
    let one : Writes mid new (slot_fields (length slots - i) w.low stack (take i slots)) (n ∷ []) (next n) =
    rw left (writes_number mid new new 2 (is_heap_slot w.low stack) next n n [] (next n) refl e fits (writes_none new (next n))) in
    let more : take (i + 1) slots ≡ take i slots ++ n ∷ [] = take_more slots i n lt ∙ ap (λ k. take i slots ++ k ∷ []) (sym at) in
    record { low = n + 1; written = rw more (writes_then old mid new (slot_fields (length slots) 0 stack []) (slot_fields (length slots - i) w.low stack (take i slots)) (next n) (take i slots) (n ∷ []) w.written one) }

pub slots_written : (old new slots : List ℕ) (i stack : ℕ) → length slots ≤ i → SlotsWritten old new slots i stack → Writes old new (slot_fields (length slots) 0 stack []) slots (live_fields slots)
unfolding slot_fields
slots_written old new slots i stack le w =
    let all : take i slots ≡ slots = take_all i slots le in
    let left : length slots - i ≡ 0 = omega arith in
    rw (all, left) at w.written

-- ## Live blocks

-- the number of blocks and those before a place are written
pub record LiveWritten (old new : List ℕ) (live : List (ℕ × ℕ)) (slots : List ℕ) (i : ℕ) : Type 0 where
  pub low : ℕ
  pub written : Writes old new (live_fields slots) (length live ∷ block_numbers (take i live)) (block_fields (length live - i) low slots)

pub live_begin : (old new : List ℕ) (live : List (ℕ × ℕ)) (slots : List ℕ) → new ≡ old ++ little_bytes 4 (length live) → length live < 256 ^ 4 → LiveWritten old new live slots 0
unfolding live_fields block_numbers
live_begin old new live slots e fits = record {
  low = 0;
  written = rw (sub_zero (length live)) (writes_number old new new 4 any (λ n. block_fields n 0 slots) (length live) (length live) [] (block_fields (length live) 0 slots) refl e fits (writes_none new (block_fields (length live) 0 slots)));
}
  where
    sub_zero : (n : ℕ) → n - 0 ≡ n
    sub_zero n = omega arith

pub block_written : (old mid half new : List ℕ) (live : List (ℕ × ℕ)) (slots : List ℕ) (i : ℕ) (b : ℕ × ℕ) → i < length live → b ≡ get_or live i b
    → half ≡ mid ++ little_bytes 8 b.0 → b.0 < 256 ^ 8 → new ≡ half ++ little_bytes 8 b.1 → b.1 < 256 ^ 8 → LiveWritten old mid live slots i → LiveWritten old new live slots (i + 1)
unfolding block_fields block_numbers
block_written old mid half new live slots i b lt at e fits e' fits' w =
    let left : length live - i ≡ suc (length live - (i + 1)) = omega arith in
    let rest : Fields = block_fields (length live - (i + 1)) (b.0 + b.1) slots in
    let second = writes_number half new new 8 (is_size slots b.0) (λ size. block_fields (length live - (i + 1)) (b.0 + size) slots) b.1 b.1 [] rest refl e' fits' (writes_none new rest) in
    let both : Writes mid new (block_fields (length live - i) w.low slots) (b.0 ∷ b.1 ∷ []) rest =
    rw left (writes_number mid half new 8 (is_start slots w.low) (λ a. Field 8 (is_size slots a) (λ size. block_fields (length live - (i + 1)) (a + size) slots)) b.0 b.0 (b.1 ∷ []) rest refl e fits second) in
    let more : block_numbers (take (i + 1) live) ≡ block_numbers (take i live) ++ b.0 ∷ b.1 ∷ [] =
    ap block_numbers (take_more live i b lt ∙ ap (λ (k : ℕ × ℕ). take i live ++ k ∷ []) (sym at)) ∙ last (take i live) in
    record {
      low = b.0 + b.1;
      written = rw more (writes_then old mid new (live_fields slots) (block_fields (length live - i) w.low slots) rest (length live ∷ block_numbers (take i live)) (b.0 ∷ b.1 ∷ []) w.written both);
    }
  where
    last : (blocks : List (ℕ × ℕ)) → block_numbers (blocks ++ b ∷ []) ≡ block_numbers blocks ++ b.0 ∷ b.1 ∷ []
    last [] = refl
    last (c ∷ blocks) = ap (λ (ns : List ℕ). c.0 ∷ c.1 ∷ ns) (last blocks)

pub live_written : (old new : List ℕ) (live : List (ℕ × ℕ)) (slots : List ℕ) (i : ℕ) → length live ≤ i → LiveWritten old new live slots i
    → Writes old new (live_fields slots) (length live ∷ block_numbers live) (Blocks (length slots + 1))
unfolding block_fields
live_written old new live slots i le w =
    let all : take i live ≡ live = take_all i live le in
    let left : length live - i ≡ 0 = omega arith in
    rw (all, left) at w.written

-- all fields are written
pub writes_all : (old new : List ℕ) (f : Fields) (ns : List ℕ) (count : ℕ) → Writes old new f ns (Blocks count) → (new ≡ old ++ spelled f ns) × Fit f ns
unfolding spelled Fit
writes_all old new f ns count w =
    (sym (append-nil new) ∙ sym (w.text []) ∙ ap (λ (ks : List ℕ). old ++ spelled f ks) (append-nil ns), rw append-nil at (w.fit [] tt))

-- the sections of a thread's head, one after another
pub head_written : (t : PackedThread) (a b c d e f g : List ℕ) (left : Fields) → Writes a b thread_fields (magic ∷ t.tid.home ∷ t.tid.seq ∷ t.priority ∷ t.calls ∷ []) duty_fields
    → Writes b c duty_fields (duty_numbers t.duty) (register_fields 31) → Writes c d (register_fields 31) (drop 1 t.state.regs) place_fields
    → Writes d e place_fields (t.state.pc ∷ t.stack ∷ length t.heap.slots ∷ []) (slot_fields (length t.heap.slots) 0 t.stack [])
    → Writes e f (slot_fields (length t.heap.slots) 0 t.stack []) t.heap.slots (live_fields t.heap.slots)
    → Writes f g (live_fields t.heap.slots) (length t.heap.live ∷ block_numbers t.heap.live) left → Writes a g thread_fields (numbers_of t) left
head_written t a b c d e f g left who duty regs place slots live =
    let live_part : List ℕ = length t.heap.live ∷ block_numbers t.heap.live in
    let from_slots = writes_then d' f g (slot_fields (length t.heap.slots) 0 t.stack []) (live_fields t.heap.slots) left t.heap.slots live_part slots live in
    let from_place = writes_then d e g place_fields (slot_fields (length t.heap.slots) 0 t.stack []) left (t.state.pc ∷ t.stack ∷ length t.heap.slots ∷ []) (t.heap.slots ++ live_part) place from_slots in
    let from_regs = writes_then c d g (register_fields 31) place_fields left (drop 1 t.state.regs) (t.state.pc ∷ t.stack ∷ length t.heap.slots ∷ (t.heap.slots ++ live_part)) regs from_place in
    let from_duty = writes_then b c g duty_fields (register_fields 31) left (duty_numbers t.duty) (drop 1 t.state.regs ++ (t.state.pc ∷ t.stack ∷ length t.heap.slots ∷ (t.heap.slots ++ live_part))) duty from_regs in
    writes_then a b g thread_fields duty_fields left (magic ∷ t.tid.home ∷ t.tid.seq ∷ t.priority ∷ t.calls ∷ [])
    (duty_numbers t.duty ++ (drop 1 t.state.regs ++ (t.state.pc ∷ t.stack ∷ length t.heap.slots ∷ (t.heap.slots ++ live_part)))) who from_duty
  where
    d' : List ℕ
    d' = e
