-- The text of a thread is read as its numbers, and two threads with one text are one thread.
use Rattle.std.proofs.Common.{◌≡◌, ℕ, zero, suc, ◌+◌, ◌*◌, Bool, true, false, cond, ltb, List, [], ◌∷◌, ◌++◌, length, get_or, drop, Result, Ok, Err, refl, sym, ap, ◌∙◌, arith, append_assoc, zero-add}
use Rattle.std.proofs.lemmas.Bool.{le-ltb}
use Rattle.std.proofs.lemmas.List.{append-nil, length-append, length-drop, length-map}
use Rattle.slot_space.specs.Limits.{slot_size}
use Rattle.slot_space.specs.Sets.{insert}
use Rattle.lrpc.specs.declared.call.CallNo.{CallNo}
use Rattle.lrpc.specs.declared.duty.Duty.{Duty}
use Rattle.lrpc.specs.declared.duty.Duty.TheVariants as duties
use Rattle.rv_step.specs.declared.memory.Held.{Held}
use Rattle.rv_step.specs.Memory.{Memory, slots_of}
use Rattle.thread_text.specs.Fields.{Reading, spelled, Obey, Fit, blocks_behind, read}
use Rattle.thread_text.specs.Grammar.{thread_fields, duty_fields, register_fields, place_fields, slot_fields, live_fields, block_fields, ends, read_text}
use Rattle.thread_text.specs.Numbers.{duty_numbers, block_numbers}
use Rattle.pack_thread.specs.Threads.{PackedThread, heap_numbers, numbers_of, bytes_of, head_of, text_of, AreWhole, IsThread, IsTyped, IsTextOf}
use Rattle.thread_text.proofs.Lemmas.{IsBytes, takes, again}
use Rattle.slot_space.proofs.Lemmas.{length-insert}
use Rattle.pack_thread.proofs.RuleLaws.{keeps}

-- ## How many blocks stand behind the numbers

behind_blocks : (live : List (ℕ × ℕ)) (low : ℕ) (slots : List ℕ) → blocks_behind (block_fields (length live) low slots) (block_numbers live) ≡ length slots + 1
unfolding blocks_behind block_fields block_numbers
behind_blocks [] low slots = refl
behind_blocks (b ∷ live) low slots = behind_blocks live (b.0 + b.1) slots

behind_slots : (more : List ℕ) (low stack : ℕ) (before rest : List ℕ) → blocks_behind (slot_fields (length more) low stack before) (more ++ rest) ≡ blocks_behind (live_fields (before ++ more)) rest
unfolding blocks_behind slot_fields
behind_slots [] low stack before rest = ap (λ xs. blocks_behind (live_fields xs) rest) (sym (append-nil before))
behind_slots (s ∷ more) low stack before rest = behind_slots more (s + 1) stack (before ++ s ∷ []) rest ∙ ap (λ xs. blocks_behind (live_fields xs) rest) (append_assoc before (s ∷ []) more)

behind_registers : (n : ℕ) (xs rest : List ℕ) → length xs ≡ n → blocks_behind (register_fields n) (xs ++ rest) ≡ blocks_behind place_fields rest
unfolding blocks_behind register_fields
behind_registers zero [] rest e = refl
behind_registers zero (x ∷ xs) rest e = absurd (omega arith)
behind_registers (suc n) [] rest e = absurd (omega arith)
behind_registers (suc n) (x ∷ xs) rest e = behind_registers n xs rest (omega arith)

behind_duty : (d : Duty) (rest : List ℕ) → blocks_behind duty_fields (duty_numbers d ++ rest) ≡ blocks_behind (register_fields 31) rest
unfolding blocks_behind duty_fields
behind_duty duties.None rest = refl
behind_duty (duties.Cast call) rest = refl
behind_duty (duties.Owes call) rest = refl
behind_duty (duties.Paid call) rest = refl

behind_live : (live : List (ℕ × ℕ)) (slots : List ℕ) → blocks_behind (live_fields slots) (length live ∷ block_numbers live) ≡ length slots + 1
unfolding blocks_behind live_fields
behind_live live slots = behind_blocks live 0 slots

pub blocks_of_thread : (t : PackedThread) → length t.state.regs ≡ 32 → blocks_behind thread_fields (numbers_of t) ≡ length t.heap.slots + 1
unfolding blocks_behind thread_fields place_fields
blocks_of_thread t regs =
    behind_duty t.duty _ ∙ behind_registers 31 (drop 1 t.state.regs) _ (omega (arith, length-drop 1 t.state.regs))
    ∙ behind_slots t.heap.slots 0 t.stack [] _ ∙ behind_live t.heap.live t.heap.slots

-- ## The length of a text

length-bytes_of : (m : Memory) → AreWhole m → length (bytes_of m) ≡ slot_size * length m
length-bytes_of [] whole = refl
length-bytes_of (h ∷ m) whole = omega (arith, length-append h.block (bytes_of m), whole.0, length-bytes_of m whole.1)

pub count_memory : (t : PackedThread) → IsThread t → length t.state.regs ≡ 32 → length t.state.memory ≡ length t.heap.slots + 1
count_memory t rules regs =
    sym (length-map t.state.memory (λ (h : Held). h.slot)) ∙ ap length rules.holds ∙ length-insert t.stack t.heap.slots (keeps t regs rules.rules).apart

pub length-memory : (t : PackedThread) → IsThread t → IsTyped t → length (bytes_of t.state.memory) ≡ slot_size * (length t.heap.slots + 1)
length-memory t rules typed = length-bytes_of t.state.memory typed.blocks ∙ ap (λ n. slot_size * n) (count_memory t rules typed.regs)

-- ## A text is read

abbrev pub reading : PackedThread → Reading
reading t = record { numbers = numbers_of t; at = length (head_of t); blocks = length t.heap.slots + 1 }

pub head_read : (t : PackedThread) (rest : List ℕ) → IsThread t → IsTyped t → read thread_fields (head_of t ++ rest) 0 ≡ Ok (reading t)
head_read t rest rules typed =
    again thread_fields (numbers_of t) [] rest rules.rules typed.numbers
    ∙ ap (λ at. Ok (record { numbers = numbers_of t; at = at; blocks = blocks_behind thread_fields (numbers_of t) })) (zero-add (length (head_of t)))
    ∙ ap (λ n. Ok (record { numbers = numbers_of t; at = length (head_of t); blocks = n })) (blocks_of_thread t typed.regs)

pub ends_whole : (bytes : List ℕ) (r : Reading) → length bytes ≡ r.at + slot_size * r.blocks → ends bytes (Ok r) ≡ Ok r
ends_whole bytes r e = rw (le-ltb (length bytes) (r.at + slot_size * r.blocks) (omega (arith, e)), le-ltb (r.at + slot_size * r.blocks) (length bytes) (omega (arith, e))) refl

pub text_read : (t : PackedThread) → IsThread t → IsTyped t → read_text (text_of t) ≡ Ok (reading t)
text_read t rules typed =
    ap (ends (text_of t)) (head_read t (bytes_of t.state.memory) rules typed)
    ∙ ends_whole (text_of t) (reading t) (length-append (head_of t) (bytes_of t.state.memory) ∙ ap (λ n. length (head_of t) + n) (length-memory t rules typed))

-- ## Two threads with one text are one thread

-- lists with fronts of one length
pub split_same : {A : Type 0} (xs ys : List A) (vs ws : List A) → length xs ≡ length ys → xs ++ vs ≡ ys ++ ws → (xs ≡ ys) × (vs ≡ ws)
split_same [] [] vs ws len e = (refl, e)
split_same [] (y ∷ ys) vs ws len e = absurd (omega arith)
split_same (x ∷ xs) [] vs ws len e = absurd (omega arith)
split_same (x ∷ xs) (y ∷ ys) vs ws len e =
    let rest = split_same xs ys vs ws (omega arith) cc in
    (cc (rest.0), rest.1)

call_of : (home seq count at : ℕ) → CallNo
call_of home seq count at = record { by = record { home = home; seq = seq }; count = count; at = at }

pub same_call : (a b : CallNo) → a.by.home ≡ b.by.home → a.by.seq ≡ b.by.seq → a.count ≡ b.count → a.at ≡ b.at → a ≡ b
unfolding call_of
same_call a b home seq count at =
    let made : call_of a.by.home a.by.seq a.count a.at ≡ call_of b.by.home b.by.seq b.count b.at = rw (home, seq, count, at) refl in
    made

same_duty : (a b : Duty) (x y : List ℕ) → duty_numbers a ++ x ≡ duty_numbers b ++ y → (a ≡ b) × (x ≡ y)
same_duty duties.None duties.None x y e = (refl, cc)
same_duty duties.None (duties.Cast d) x y e = absurd cc
same_duty duties.None (duties.Owes d) x y e = absurd cc
same_duty duties.None (duties.Paid d) x y e = absurd cc
same_duty (duties.Cast c) duties.None x y e = absurd cc
same_duty (duties.Cast c) (duties.Cast d) x y e = (ap (λ k. duties.Cast k) (same_call c d (cc) (cc) (cc) (cc)), cc)
same_duty (duties.Cast c) (duties.Owes d) x y e = absurd cc
same_duty (duties.Cast c) (duties.Paid d) x y e = absurd cc
same_duty (duties.Owes c) duties.None x y e = absurd cc
same_duty (duties.Owes c) (duties.Cast d) x y e = absurd cc
same_duty (duties.Owes c) (duties.Owes d) x y e = (ap (λ k. duties.Owes k) (same_call c d (cc) (cc) (cc) (cc)), cc)
same_duty (duties.Owes c) (duties.Paid d) x y e = absurd cc
same_duty (duties.Paid c) duties.None x y e = absurd cc
same_duty (duties.Paid c) (duties.Cast d) x y e = absurd cc
same_duty (duties.Paid c) (duties.Owes d) x y e = absurd cc
same_duty (duties.Paid c) (duties.Paid d) x y e = (ap (λ k. duties.Paid k) (same_call c d (cc) (cc) (cc) (cc)), cc)

same_regs : (a b : List ℕ) → length a ≡ 32 → length b ≡ 32 → get_or a 0 0 ≡ 0 → get_or b 0 0 ≡ 0 → drop 1 a ≡ drop 1 b → a ≡ b
same_regs [] b la lb za zb e = absurd (omega arith)
same_regs (x ∷ a) [] la lb za zb e = absurd (omega arith)
same_regs (x ∷ a) (y ∷ b) la lb za zb e = cc

pair_of : ℕ → ℕ → ℕ × ℕ
pair_of m n = (m, n)

pub same_pair : (a b : ℕ × ℕ) → a.0 ≡ b.0 → a.1 ≡ b.1 → a ≡ b
unfolding pair_of
same_pair a b first second =
    let made : pair_of a.0 a.1 ≡ pair_of b.0 b.1 = rw (first, second) refl in
    made

same_blocks : (a b : List (ℕ × ℕ)) → block_numbers a ≡ block_numbers b → a ≡ b
unfolding block_numbers
same_blocks [] [] e = refl
same_blocks [] (b ∷ ws) e = absurd cc
same_blocks (a ∷ vs) [] e = absurd cc
same_blocks (a ∷ vs) (b ∷ ws) e =
    let rest = same_blocks vs ws cc in
    let first : a.0 ≡ b.0 = cc in
    let second : a.1 ≡ b.1 = cc in
    cc (same_pair a b first second, rest)

held_of : ℕ → List ℕ → Held
held_of slot block = record { slot = slot; block = block }

pub same_held : (h k : Held) → h.slot ≡ k.slot → h.block ≡ k.block → h ≡ k
unfolding held_of
same_held h k slot block =
    let made : held_of h.slot h.block ≡ held_of k.slot k.block = rw (slot, block) refl in
    made

same_memory : (m n : Memory) → slots_of m ≡ slots_of n → AreWhole m → AreWhole n → bytes_of m ≡ bytes_of n → m ≡ n
same_memory [] [] slots wm wn e = refl
same_memory [] (k ∷ n) slots wm wn e = absurd cc
same_memory (h ∷ m) [] slots wm wn e = absurd cc
same_memory (h ∷ m) (k ∷ n) slots wm wn e =
    let parts = split_same h.block k.block (bytes_of m) (bytes_of n) (wm.0 ∙ sym wn.0) e in
    let rest = same_memory m n (cc) wm.1 wn.1 parts.1 in
    let slot : h.slot ≡ k.slot = cc in
    cc (same_held h k slot parts.0, rest)

thread_of_parts : (home seq priority calls : ℕ) → Duty → (regs : List ℕ) (pc : ℕ) → Memory → (stack : ℕ) → List (ℕ × ℕ) → List ℕ → PackedThread
thread_of_parts home seq priority calls duty regs pc memory stack live slots = record {
  tid = record { home = home; seq = seq };
  priority = priority;
  calls = calls;
  duty = duty;
  state = record { regs = regs; pc = pc; memory = memory };
  stack = stack;
  heap = record { live = live; slots = slots };
}

pub same_thread : (t u : PackedThread) → t.tid.home ≡ u.tid.home → t.tid.seq ≡ u.tid.seq → t.priority ≡ u.priority → t.calls ≡ u.calls → t.duty ≡ u.duty → t.state.regs ≡ u.state.regs
    → t.state.pc ≡ u.state.pc → t.state.memory ≡ u.state.memory → t.stack ≡ u.stack → t.heap.live ≡ u.heap.live → t.heap.slots ≡ u.heap.slots → t ≡ u
unfolding thread_of_parts
same_thread t u home seq priority calls duty regs pc memory stack live slots =
    let made : thread_of_parts t.tid.home t.tid.seq t.priority t.calls t.duty t.state.regs t.state.pc t.state.memory t.stack t.heap.live t.heap.slots
    ≡ thread_of_parts u.tid.home u.tid.seq u.priority u.calls u.duty u.state.regs u.state.pc u.state.memory u.stack u.heap.live u.heap.slots
    = rw (home, seq, priority, calls, duty, regs, pc, memory, stack, live, slots) refl in
    made

abbrev behind_regs : PackedThread → List ℕ
behind_regs t = t.state.pc ∷ t.stack ∷ length t.heap.slots ∷ heap_numbers t.heap

-- the numbers and the bytes of the memory are the thread
same_parts : (t u : PackedThread) → IsThread t → IsTyped t → IsThread u → IsTyped u → numbers_of t ≡ numbers_of u → bytes_of t.state.memory ≡ bytes_of u.state.memory → t ≡ u
same_parts t u rt yt ru yu e m =
    let home : t.tid.home ≡ u.tid.home = cc in
    let seq : t.tid.seq ≡ u.tid.seq = cc in
    let priority : t.priority ≡ u.priority = cc in
    let calls : t.calls ≡ u.calls = cc in
    let from_duty : duty_numbers t.duty ++ (drop 1 t.state.regs ++ behind_regs t) ≡ duty_numbers u.duty ++ (drop 1 u.state.regs ++ behind_regs u) = cc in
    let d = same_duty t.duty u.duty (drop 1 t.state.regs ++ behind_regs t) (drop 1 u.state.regs ++ behind_regs u) from_duty in
    let r = split_same (drop 1 t.state.regs) (drop 1 u.state.regs) (behind_regs t) (behind_regs u) (omega (arith, length-drop 1 t.state.regs, length-drop 1 u.state.regs, yt.regs, yu.regs)) d.1 in
    let regs : t.state.regs ≡ u.state.regs = same_regs t.state.regs u.state.regs yt.regs yu.regs rt.zero ru.zero r.0 in
    let after : behind_regs t ≡ behind_regs u = r.1 in
    let pc : t.state.pc ≡ u.state.pc = cc (after) in
    let stack : t.stack ≡ u.stack = cc (after) in
    let count : length t.heap.slots ≡ length u.heap.slots = cc (after) in
    let from_heap : heap_numbers t.heap ≡ heap_numbers u.heap = cc (after) in
    let s = split_same t.heap.slots u.heap.slots (length t.heap.live ∷ block_numbers t.heap.live) (length u.heap.live ∷ block_numbers u.heap.live) count from_heap in
    let slots : t.heap.slots ≡ u.heap.slots = s.0 in
    let behind : length t.heap.live ∷ block_numbers t.heap.live ≡ length u.heap.live ∷ block_numbers u.heap.live = s.1 in
    let live : t.heap.live ≡ u.heap.live = same_blocks t.heap.live u.heap.live (cc (behind)) in
    let held : slots_of t.state.memory ≡ slots_of u.state.memory = rt.holds ∙ ap (λ x. insert x t.heap.slots) stack ∙ ap (insert u.stack) slots ∙ sym ru.holds in
    same_thread t u home seq priority calls d.0 regs pc (same_memory t.state.memory u.state.memory held yt.blocks yu.blocks m) stack live slots

pub one_thread : (t u : PackedThread) → IsThread t → IsTyped t → IsThread u → IsTyped u → text_of t ≡ text_of u → t ≡ u
one_thread t u rt yt ru yu e =
    let both : Ok (reading t) ≡ Ok (reading u) = sym (text_read t rt yt) ∙ ap read_text e ∙ text_read u ru yu in
    let same : reading t ≡ reading u = cc in
    let parts = split_same (head_of t) (head_of u) (bytes_of t.state.memory) (bytes_of u.state.memory) (ap (λ (r : Reading). r.at) same) e in
    same_parts t u rt yt ru yu (ap (λ (r : Reading). r.numbers) same) parts.1

-- ## What is read is the thread's text

chosen : (short long : Bool) (a b : ℕ) (r x : Result Reading ℕ) → cond short (Err a) (cond long (Err b) r) ≡ x → ((o : ℕ) → x ≡ Err o → ⊥) → r ≡ x
chosen true long a b r x e ok = absurd (ok a (sym e))
chosen false true a b r x e ok = absurd (ok b (sym e))
chosen false false a b r x e ok = e

ends_ok : (bytes : List ℕ) (r : Result Reading ℕ) (x : Reading) → ends bytes r ≡ Ok x → r ≡ Ok x
ends_ok bytes (Err offset) x e = e
ends_ok bytes (Ok r) x e = chosen (ltb (length bytes) (r.at + slot_size * r.blocks)) (ltb (r.at + slot_size * r.blocks) (length bytes)) (length bytes) (r.at + slot_size * r.blocks) (Ok r) (Ok x) e (λ o is. absurd cc)

-- what was read of bytes obeys the rules, and is spelled so
pub record IsRead (bytes : List ℕ) (numbers : List ℕ) (at : ℕ) : Type 0 where
  pub rules : Obey thread_fields numbers
  pub fit : Fit thread_fields numbers
  pub text : bytes ≡ spelled thread_fields numbers ++ drop at bytes

pub is_read : (bytes numbers : List ℕ) (at blocks : ℕ) → IsBytes bytes → read_text bytes ≡ Ok (record { numbers = numbers; at = at; blocks = blocks }) → IsRead bytes numbers at
is_read bytes numbers at blocks fits e =
    let r : Reading = record { numbers = numbers; at = at; blocks = blocks } in
    let t = takes thread_fields bytes 0 r fits (omega arith) (ends_ok bytes (read thread_fields bytes 0) r e) in
    record { rules = t.obey; fit = t.fit; text = t.text }

-- a thread with the numbers that were read, and with the bytes behind them, is a thread whose text the bytes are
pub found : (bytes numbers : List ℕ) (at blocks : ℕ) (t : PackedThread) → IsBytes bytes → read_text bytes ≡ Ok (record { numbers = numbers; at = at; blocks = blocks }) → numbers_of t ≡ numbers
    → (get_or t.state.regs 0 0 ≡ 0) × (length t.state.regs ≡ 32) → slots_of t.state.memory ≡ insert t.stack t.heap.slots → (bytes_of t.state.memory ≡ drop at bytes) × AreWhole t.state.memory → IsTextOf bytes t
found bytes numbers at blocks t fits e same regs holds memory =
    let r = is_read bytes numbers at blocks fits e in
    record {
      rules = record { rules = rw same r.rules; zero = regs.0; holds = holds };
      typed = record { numbers = rw same r.fit; regs = regs.1; blocks = memory.1 };
      text = r.text ∙ ap (λ (ns : List ℕ). spelled thread_fields ns ++ drop at bytes) (sym same) ∙ ap (λ (b : List ℕ). head_of t ++ b) (sym memory.0);
    }
