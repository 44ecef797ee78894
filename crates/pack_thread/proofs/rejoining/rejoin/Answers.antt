use Rattle.std.proofs.Common.{◌≡◌, ℕ, List, length, Ok, Err, sym, ap, ◌∙◌, refl, arith}
use Rattle.slot_space.specs.Sets.{insert}
use Rattle.iso_blocks.specs.Heap.{Heap}
use Rattle.rv_step.specs.Memory.{slots_of}
use Rattle.rv_step.specs.Step.{HartState}
use Rattle.thread_text.specs.Opened.{live_of, reading_of, IsOpen}
use Rattle.thread_text.proofs.Lemmas.{IsBytes}
use Rattle.pack_thread.specs.Threads.{PackedThread, thread_of, numbers_of}
use Rattle.pack_thread.specs.Moving.{read_moving, IsMovingOf}
use Rattle.pack_thread.proofs.Building.{built}
use Rattle.pack_thread.proofs.Texts.{reading, one_thread}
use Rattle.pack_thread.proofs.Movings.{moving_text, moving_read, found_moving}
use Rattle.pack_thread.proofs.rejoining.rejoin.Goals as goal

pub returns-in-Err-clause-again : goal.returns-in-Err-clause-again
returns-in-Err-clause-again c = λ t is.
    let count : c.len.result ≡ length c.args.m.blocks.items = omega (arith, c.len.ensures) in
    let bad : read_moving c.args.m ≡ Err c.in-Err.offset = rw (c.deref.ensures.value, count) at c.in-Err.ensures.reading in
    let good : read_moving c.args.m ≡ Ok (reading t) = moving_read c.args.m t is in
    absurd cc

-- what was made is the thread of what came
is_found : (c : goal.After-joined) → IsMovingOf c.args.m (thread_of c.joined.result)
is_found c =
    let m = c.args.m in
    let head : List ℕ = m.head.items in
    let o = c.in-Ok.opened in
    let t = thread_of c.joined.result in
    let same : c.deref.result.now ≡ head = c.deref.ensures.value in
    let same-2 : c.deref-2.result.now ≡ head = c.deref-2.ensures.value in
    let fits : IsBytes head = rw same-2 at c.in-Ok-lists_of.ensures.bytes in
    let count : c.len.result ≡ length m.blocks.items = omega (arith, c.len.ensures) in
    let read : read_moving m ≡ Ok (reading_of head o) = rw (same, count) at c.in-Ok.ensures.reading in
    let rules : IsOpen head o = rw same at c.in-Ok.ensures.rules in
    let made : c.in-Ok-lists_of.lists.blocks ≡ record { live = live_of head o; slots = o.slots } = rw same-2 at c.in-Ok-lists_of.ensures.blocks in
    let state : HartState = record { regs = o.regs; pc = o.place.pc; memory = c.joined.result.hart.mem.0 } in
    let numbers = ap numbers_of c.joined.ensures.thread ∙ built head o c.in-Ok-lists_of.lists.blocks state rules refl refl made in
    let regs : t.state.regs ≡ o.regs = ap (λ (x : PackedThread). x.state.regs) c.joined.ensures.thread in
    let stack : t.stack ≡ o.place.stack = ap (λ (x : PackedThread). x.stack) c.joined.ensures.thread in
    let slots : t.heap.slots ≡ o.slots = ap (λ (x : PackedThread). x.heap.slots) c.joined.ensures.thread ∙ ap (λ (h : Heap). h.slots) made in
    let holds : slots_of t.state.memory ≡ insert t.stack t.heap.slots =
    c.joined.ensures.slots ∙ c.in-Ok-lists_of.ensures.held.0 ∙ ap (λ s. insert s o.slots) (sym stack) ∙ ap (insert t.stack) (sym slots) in
    found_moving m o t fits read (rw same at c.in-Ok.ensures.whole.0) numbers (rw regs rules.zero, rw regs rules.regs) holds c.joined.ensures.blocks

pub returns-in-Ok-lists_of-clause-found : goal.returns-in-Ok-lists_of-clause-found
returns-in-Ok-lists_of-clause-found c = is_found c

pub returns-in-Ok-lists_of-clause-text : goal.returns-in-Ok-lists_of-clause-text
returns-in-Ok-lists_of-clause-text c = moving_text c.args.m (thread_of c.joined.result) (is_found c)

pub returns-in-Ok-lists_of-clause-again : goal.returns-in-Ok-lists_of-clause-again
returns-in-Ok-lists_of-clause-again c = λ t is.
    let w = is_found c in
    one_thread (thread_of c.joined.result) t w.rules w.typed is.rules is.typed (sym (moving_text c.args.m (thread_of c.joined.result) w) ∙ moving_text c.args.m t is)
