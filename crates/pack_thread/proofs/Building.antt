-- The thread that is built has the numbers that were read.
use Rattle.std.proofs.Common.{◌≡◌, ℕ, zero, suc, ◌+◌, ◌-◌, ◌*◌, List, [], ◌∷◌, ◌++◌, length, take, drop, Option, Some, None, refl, ap, ◌∙◌, arith}
use Rattle.std.specs.Option.{SomeIff}
use Rattle.std.proofs.lemmas.List.{length-append, length-drop, take_all}
use Rattle.rv_step.specs.Step.{HartState}
use Rattle.byteorder.specs.Endian.{little_number}
use Rattle.iso_blocks.specs.Heap.{Heap}
use Rattle.thread_text.specs.declared.opening.Opened.{Opened}
use Rattle.thread_text.specs.Opened.{live_at, live_of, opened_numbers, IsOpen}
use Rattle.thread_text.specs.Reading.{block_at, blocks_at}
use Rattle.pack_thread.specs.Threads.{numbers_of}

pub length-blocks_at : (bytes : List ℕ) (at n : ℕ) → length (blocks_at bytes at n) ≡ n
unfolding blocks_at
length-blocks_at bytes at zero = refl
length-blocks_at bytes at (suc n) = omega (arith, length-append (blocks_at bytes at n) (block_at bytes (at + 16 * n) ∷ []), length-blocks_at bytes at n)

pub made : (r : Option Heap) (P : Type 0) (v h : Heap) → SomeIff r P v → r ≡ Some h → h ≡ v
made None P v h s e = absurd cc
made (Some x) P v h s e = cc (s.1)

pub built : (bytes : List ℕ) (o : Opened) (heap : Heap) (state : HartState) → IsOpen bytes o → state.regs ≡ o.regs → state.pc ≡ o.place.pc → heap ≡ record { live = live_of bytes o; slots = o.slots }
    → numbers_of (record { tid = o.who.tid; priority = o.who.priority; calls = o.who.calls; duty = o.duty; state = state; stack = o.place.stack; heap = heap }) ≡ opened_numbers bytes o
built bytes o heap state rules regs pc e = rw (e, regs, pc, rules.counted, length-blocks_at bytes (live_at o) o.live) refl

-- ## The blocks, one more at a time

pub blocks_none : (bytes : List ℕ) (at : ℕ) → [] ≡ blocks_at bytes at 0
unfolding blocks_at
blocks_none bytes at = refl

rest : (bytes : List ℕ) (at : ℕ) → take (length bytes - at) (drop at bytes) ≡ drop at bytes
rest bytes at = take_all (length bytes - at) (drop at bytes) (omega (arith, length-drop at bytes))

pub blocks_more : (bytes : List ℕ) (at k address size : ℕ) (live : List (ℕ × ℕ)) → live ≡ blocks_at bytes at k
    → address ≡ little_number 8 (take (length bytes - (at + 16 * k)) (drop (at + 16 * k) bytes))
    → size ≡ little_number 8 (take (length bytes - (at + 16 * k + 8)) (drop (at + 16 * k + 8) bytes))
    → live ++ (address, size) ∷ [] ≡ blocks_at bytes at (k + 1)
unfolding blocks_at
blocks_more bytes at k address size live so_far a s =
    let more : k + 1 ≡ suc k = omega arith in
    rw (so_far, a ∙ ap (little_number 8) (rest bytes (at + 16 * k)), s ∙ ap (little_number 8) (rest bytes (at + 16 * k + 8)), more) refl
