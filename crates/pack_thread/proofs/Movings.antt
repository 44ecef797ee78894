-- A moving thread's head is read as the thread's numbers, and what is read of a head is the thread's.
use Rattle.std.proofs.Common.{◌≡◌, ℕ, ◌+◌, Bool, true, false, cond, ltb, eqb, List, [], ◌∷◌, ◌++◌, length, get_or, drop, Result, Ok, Err, refl, sym, ap, ◌∙◌, arith}
use Rattle.std.specs.List.{flat_map}
use Rattle.std.proofs.lemmas.Bool.{le-ltb, eq-eqb}
use Rattle.std.proofs.lemmas.List.{append-nil, drop_all, length-map}
use Rattle.slot_space.specs.Sets.{insert}
use Rattle.rv_step.specs.declared.memory.Held.{Held}
use Rattle.rv_step.specs.Memory.{Memory, slots_of}
use Rattle.thread_text.specs.declared.opening.Opened.{Opened}
use Rattle.thread_text.specs.Fields.{Reading, spelled, read}
use Rattle.thread_text.specs.Grammar.{thread_fields, ends_head}
use Rattle.thread_text.specs.Opened.{slots_at, opened_numbers, reading_of}
use Rattle.thread_text.proofs.Lemmas.{IsBytes, takes}
use Rattle.pack_thread.specs.declared.moving.Moving.{Moving}
use Rattle.pack_thread.specs.Threads.{PackedThread, numbers_of, bytes_of, head_of, text_of, AreWhole}
use Rattle.pack_thread.specs.Moving.{text_of_moving, blocks_of, read_moving, IsMovingOf}
use Rattle.pack_thread.proofs.Texts.{reading, head_read, count_memory}

-- ## The text

joined_blocks : (memory : Memory) → flat_map (λ block. block) (blocks_of memory) ≡ bytes_of memory
joined_blocks [] = refl
joined_blocks (h ∷ memory) = ap (λ bytes. h.block ++ bytes) (joined_blocks memory)

pub moving_text : (m : Moving) (t : PackedThread) → IsMovingOf m t → text_of_moving m ≡ text_of t
moving_text m t is = rw (is.head, is.blocks) (ap (λ bytes. head_of t ++ bytes) (joined_blocks t.state.memory))

-- ## The head is read

ends_there : (bytes : List ℕ) (n : ℕ) (r : Reading) → r.at ≡ length bytes → n ≡ r.blocks → ends_head bytes n (Ok r) ≡ Ok r
ends_there bytes n r at count = rw (le-ltb r.at (length bytes) (omega (arith, at)), eq-eqb n r.blocks count) refl

pub moving_read : (m : Moving) (t : PackedThread) → IsMovingOf m t → read_moving m ≡ Ok (reading t)
moving_read m t is =
    let whole : read thread_fields m.head.items 0 ≡ Ok (reading t) =
    ap (λ bytes. read thread_fields bytes 0) (is.head ∙ sym (append-nil (head_of t))) ∙ head_read t [] is.rules is.typed in
    let count : length m.blocks.items ≡ length t.heap.slots + 1 =
    ap length is.blocks ∙ length-map t.state.memory (λ (h : Held). h.block) ∙ count_memory t is.rules is.typed.regs in
    ap (ends_head m.head.items (length m.blocks.items)) whole ∙ ends_there m.head.items (length m.blocks.items) (reading t) (sym (ap length is.head)) count

-- ## What is read is the thread's

kept : (past right : Bool) (at : ℕ) (r x : Result Reading ℕ) → cond past (Err at) (cond right r (Err at)) ≡ x → ((o : ℕ) → x ≡ Err o → ⊥) → r ≡ x
kept true right at r x e ok = absurd (ok at (sym e))
kept false true at r x e ok = e
kept false false at r x e ok = absurd (ok at (sym e))

ends_head_ok : (bytes : List ℕ) (n : ℕ) (r : Result Reading ℕ) (x : Reading) → ends_head bytes n r ≡ Ok x → r ≡ Ok x
ends_head_ok bytes n (Err offset) x e = e
ends_head_ok bytes n (Ok r) x e = kept (ltb r.at (length bytes)) (eqb n r.blocks) r.at (Ok r) (Ok x) e (λ o is. absurd cc)

-- a thread with the numbers that were read of a head, and with the blocks beside it, is what the head and the blocks are of
pub found_moving : (m : Moving) (o : Opened) (t : PackedThread) → IsBytes m.head.items → read_moving m ≡ Ok (reading_of m.head.items o) → slots_at o ≡ length m.head.items
    → numbers_of t ≡ opened_numbers m.head.items o → (get_or t.state.regs 0 0 ≡ 0) × (length t.state.regs ≡ 32) → slots_of t.state.memory ≡ insert t.stack t.heap.slots
    → (blocks_of t.state.memory ≡ m.blocks.items) × AreWhole t.state.memory → IsMovingOf m t
found_moving m o t fits e end same regs holds memory =
    let head = m.head.items in
    let r = takes thread_fields head 0 (reading_of head o) fits (omega arith) (ends_head_ok head (length m.blocks.items) (read thread_fields head 0) (reading_of head o) e) in
    let none : drop (slots_at o) head ≡ [] = drop_all (slots_at o) head (omega (arith, end)) in
    record {
      rules = record { rules = rw same r.obey; zero = regs.0; holds = holds };
      typed = record { numbers = rw same r.fit; regs = regs.1; blocks = memory.1 };
      head = r.text ∙ ap (λ (rest : List ℕ). spelled thread_fields (opened_numbers head o) ++ rest) none ∙ append-nil (spelled thread_fields (opened_numbers head o)) ∙ ap (spelled thread_fields) (sym same);
      blocks = sym memory.0;
    }
