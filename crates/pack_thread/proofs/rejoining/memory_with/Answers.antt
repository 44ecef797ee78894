use Rattle.std.proofs.Common.{◌≡◌, ◌≤◌, length, ap, ◌∙◌, arith}
use Rattle.std.proofs.lemmas.List.{length-append, take_all}
use Rattle.std.specs.Vec.Iter.{into_iter_items}
use Rattle.rv_step.specs.Memory.{slots_of}
use Rattle.pack_thread.proofs.Memories.{ascending_memory}
use Rattle.pack_thread.proofs.rejoining.memory_with.Goals as goal

pub of-requires : goal.of-requires
of-requires c =
    let at = c.loop-block in
    let held = c.args.held.now in
    let none : length (into_iter_items at.block-iterator) ≡ 0 = omega (arith, c.in-None.ensures.steps.0) in
    let whole : length held ≤ at.at = omega (arith, none, length-append at.yielded (into_iter_items at.block-iterator), ap length at.invariant.all, c.requires.count, at.invariant.at) in
    let all : slots_of at.all.items ≡ held = at.invariant.slots ∙ take_all at.at held whole in
    ascending_memory at.all.items (rw all c.requires.ascending)
