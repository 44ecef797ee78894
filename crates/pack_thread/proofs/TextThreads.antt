-- The thread that is computed from a thread's text is that thread.
use Rattle.std.proofs.Common.{◌≡◌, ℕ, suc, ◌+◌, List, [], ◌∷◌, ◌++◌, length, get_or, take, drop, refl, sym, ap, ◌∙◌, arith}
use Rattle.std.proofs.lemmas.List.{length-drop, drop-drop, take_at, drop_at, get_or-drop}
use Rattle.slot_space.specs.Limits.{slot_size}
use Rattle.slot_space.specs.Sets.{insert}
use Rattle.lrpc.specs.declared.duty.Duty.{Duty}
use Rattle.lrpc.specs.declared.duty.Duty.TheVariants as duties
use Rattle.rv_step.specs.Memory.{Memory, slots_of}
use Rattle.pack_thread.specs.Packed.{duty_numbered, call_numbered, blocks_numbered, memory_in, heap_numbered, thread_numbered, thread_read, thread_in}
use Rattle.thread_text.specs.Numbers.{duty_numbers, block_numbers}
use Rattle.pack_thread.specs.Threads.{PackedThread, heap_numbers, numbers_of, bytes_of, head_of, text_of, AreWhole, IsThread, IsTyped}
use Rattle.pack_thread.specs.declared.moving.Moving.{Moving}
use Rattle.pack_thread.specs.Moving.{text_of_moving, IsMovingOf}
use Rattle.pack_thread.proofs.Movings.{moving_text}
use Rattle.pack_thread.proofs.Texts.{text_read, same_pair, same_held, same_call, same_thread}

-- ## Each section

pub blocks_again : (live : List (ℕ × ℕ)) → blocks_numbered (block_numbers live) ≡ live
unfolding blocks_numbered block_numbers
blocks_again [] = refl
blocks_again (b ∷ live) = let first : (b.0, b.1) ≡ b = same_pair (b.0, b.1) b refl refl in cc (first, blocks_again live)

-- the ten numbers up to the registers
duty_again : (d : Duty) (xs : List ℕ) → duty_numbered (get_or (duty_numbers d ++ xs) 0 0) (call_numbered (drop 1 (duty_numbers d ++ xs))) ≡ d
duty_again duties.None xs = refl
duty_again (duties.Cast c) xs = ap (λ k. duties.Cast k) (same_call _ c refl refl refl refl)
duty_again (duties.Owes c) xs = ap (λ k. duties.Owes k) (same_call _ c refl refl refl refl)
duty_again (duties.Paid c) xs = ap (λ k. duties.Paid k) (same_call _ c refl refl refl refl)

behind_duty : (d : Duty) (xs : List ℕ) → drop 5 (duty_numbers d ++ xs) ≡ xs
behind_duty duties.None xs = refl
behind_duty (duties.Cast c) xs = refl
behind_duty (duties.Owes c) xs = refl
behind_duty (duties.Paid c) xs = refl

with_zero : (regs : List ℕ) → length regs ≡ 32 → get_or regs 0 0 ≡ 0 → 0 ∷ drop 1 regs ≡ regs
with_zero [] len first = absurd (omega arith)
with_zero (x ∷ regs) len first = ap (λ y. y ∷ regs) (sym first)

pub memory_again : (m : Memory) → AreWhole m → memory_in (slots_of m) (bytes_of m) ≡ m
unfolding memory_in
memory_again [] whole = refl
memory_again (h ∷ m) whole =
    let first : take slot_size (h.block ++ bytes_of m) ≡ h.block = take_at h.block (bytes_of m) slot_size whole.0 in
    let rest : drop slot_size (h.block ++ bytes_of m) ≡ bytes_of m = drop_at h.block (bytes_of m) slot_size whole.0 in
    cc (same_held (record { slot = h.slot; block = take slot_size (h.block ++ bytes_of m) }) h refl first, ap (memory_in (slots_of m)) rest ∙ memory_again m whole.1)

-- ## The whole thread

abbrev behind_regs : PackedThread → List ℕ
behind_regs t = t.state.pc ∷ t.stack ∷ length t.heap.slots ∷ heap_numbers t.heap

-- what stands behind the slots and one more number
behind_slots : (xs ys : List ℕ) (n : ℕ) → drop (suc (length xs)) (xs ++ n ∷ ys) ≡ ys
behind_slots [] ys n = refl
behind_slots (x ∷ xs) ys n = behind_slots xs ys n

numbers_again : (t : PackedThread) → IsThread t → IsTyped t → thread_numbered (numbers_of t) (bytes_of t.state.memory) ≡ t
numbers_again t rules typed =
    let ns : List ℕ = numbers_of t in
    let regs : List ℕ = drop 1 t.state.regs in
    let slots = t.heap.slots in
    let live = t.heap.live in
    let blocks : List ℕ = length live ∷ block_numbers live in
    let count : length regs ≡ 31 = omega (arith, length-drop 1 t.state.regs, typed.regs) in
    let rest : drop 10 ns ≡ regs ++ behind_regs t = behind_duty t.duty (regs ++ behind_regs t) in
    let place : drop 41 ns ≡ behind_regs t = sym (drop-drop 31 10 ns) ∙ ap (drop 31) rest ∙ drop_at regs (behind_regs t) 31 count in
    let heap : drop 43 ns ≡ length slots ∷ (slots ++ blocks) = sym (drop-drop 2 41 ns) ∙ ap (drop 2) place in
    let pc : get_or ns 41 0 ≡ t.state.pc = sym (get_or-drop' ns 41 0) ∙ ap (λ (xs : List ℕ). get_or xs 0 0) place in
    let stack : get_or ns 42 0 ≡ t.stack = sym (get_or-drop' ns 41 1) ∙ ap (λ (xs : List ℕ). get_or xs 1 0) place in
    let all_regs : 0 ∷ take 31 (drop 10 ns) ≡ t.state.regs =
    ap (λ (xs : List ℕ). 0 ∷ take 31 xs) rest ∙ ap (λ (xs : List ℕ). 0 ∷ xs) (take_at regs (behind_regs t) 31 count) ∙ with_zero t.state.regs typed.regs rules.zero in
    let all_slots : (heap_numbered (drop 43 ns)).slots ≡ slots = ap (λ (xs : List ℕ). (heap_numbered xs).slots) heap ∙ take_at slots blocks (length slots) refl in
    let all_live : (heap_numbered (drop 43 ns)).live ≡ live =
    ap (λ (xs : List ℕ). (heap_numbered xs).live) heap ∙ ap blocks_numbered (behind_slots slots (block_numbers live) (length live)) ∙ blocks_again live in
    let held : insert (get_or ns 42 0) (heap_numbered (drop 43 ns)).slots ≡ slots_of t.state.memory =
    ap (λ s. insert s (heap_numbered (drop 43 ns)).slots) stack ∙ ap (insert t.stack) all_slots ∙ sym rules.holds in
    let memory : memory_in (insert (get_or ns 42 0) (heap_numbered (drop 43 ns)).slots) (bytes_of t.state.memory) ≡ t.state.memory =
    ap (λ (ss : List ℕ). memory_in ss (bytes_of t.state.memory)) held ∙ memory_again t.state.memory typed.blocks in
    same_thread (thread_numbered ns (bytes_of t.state.memory)) t refl refl refl refl (duty_again t.duty (regs ++ behind_regs t)) all_regs pc memory stack all_live all_slots
  where
    get_or-drop' : (xs : List ℕ) (n i : ℕ) → get_or (drop n xs) i 0 ≡ get_or xs (n + i) 0
    get_or-drop' xs n i = rw get_or-drop refl

pub thread_again : (t : PackedThread) → IsThread t → IsTyped t → thread_in (text_of t) ≡ t
unfolding thread_in
thread_again t rules typed =
    ap (thread_read (text_of t)) (text_read t rules typed)
    ∙ ap (thread_numbered (numbers_of t)) (drop_at (head_of t) (bytes_of t.state.memory) (length (head_of t)) refl)
    ∙ numbers_again t rules typed

-- ## The thread of what moves

pub moving_thread : (m : Moving) (t : PackedThread) → IsMovingOf m t → thread_in (text_of_moving m) ≡ t
moving_thread m t is = ap thread_in (moving_text m t is) ∙ thread_again t is.rules is.typed

-- what moves is of the thread that is computed from its text
pub moving_again : (m : Moving) (t : PackedThread) → IsMovingOf m t → IsMovingOf m (thread_in (text_of_moving m))
moving_again m t is = rw (moving_thread m t is) is
