use Rattle.std.proofs.Common.{◌≡◌, ◌++◌, [], append_assoc, ap, sym, ◌∙◌, arith, Some, List, ℕ, take}
use Rattle.rv_step.specs.declared.memory.Held.{Held}
use Rattle.rv_step.specs.Memory.{block_of}
use Rattle.pack_thread.specs.Threads.{bytes_of}
use Rattle.pack_thread.proofs.Memories.{held_at, memory_more}
use Rattle.pack_thread.proofs.packing.put_memory.Goals as goal

pub unreachable-requires : goal.unreachable-requires
unreachable-requires c =
    let d : Held = record { slot = 0; block = [] } in
    let h = held_at c.args.memory.now.0 c.args.held.now c.loop-slot.slot-index c.slot-item.result d c.requires.ascending c.requires.holds (omega arith) c.slot-item.is in
    cc (h.1, c.in-None.ensures.bytes)

pub loop-slot-preserved : goal.loop-slot-preserved
loop-slot-preserved c =
    let m = c.args.memory.now.0 in
    let i = c.loop-slot.slot-index in
    let d : Held = record { slot = 0; block = [] } in
    let h = held_at m c.args.held.now i c.slot-item.result d c.requires.ascending c.requires.holds (omega arith) c.slot-item.is in
    let found : block_of m c.slot-item.result ≡ Some c.in-Some.block.now = sym c.in-Some.ensures.bytes in
    let more = memory_more m i c.slot-item.result c.in-Some.block.now d h.0 h.1 found c.in-Some.ensures.len c.loop-slot.invariant.whole in
    record {
      text = c.in_ok-extend_from_slice-in-Some.ensures.items ∙ ap (λ (b : List ℕ). b ++ c.in-Some.block.now) c.loop-slot.invariant.text
          ∙ append_assoc c.args.bytes.now.items (bytes_of (take i m)) c.in-Some.block.now ∙ ap (λ (b : List ℕ). c.args.bytes.now.items ++ b) (sym more.0);
      whole = more.1;
    }
