use Rattle.std.proofs.Common.{◌≡◌, List, ℕ, refl, sym, ap, ◌∙◌, subst}
use Rattle.slot_space.specs.Sets.{has, minus}
use Rattle.iso_blocks.specs.Heap.{Heap, emptied}
use Rattle.rv_step.specs.declared.hart.Hart.{Hart}
use Rattle.run_trace.specs.Guests.{without_slots}
use Rattle.node_thread.specs.Views.{IsOwn}
use Rattle.node_thread.proofs.Own.{empty_held, frees_own}
use Rattle.node_thread.proofs.Aligned.{still}
use Rattle.node_thread.proofs.thread.Thread.free.Goals as goal

pub give_slots-requires : goal.give_slots-requires
give_slots-requires c = record {
  held = λ s h. empty_held c.self.inside.stack c.args.address c.self.inside.hart c.self.inside.slots c.self.inside.blocks c.self.invariant.0 s (ap (has s) (sym c.in-Some.ensures.given.1) ∙ h);
}

pub invariant_of-self-2 : goal.invariant_of-self-2
invariant_of-self-2 c =
    let given : c.in-Some.slots ≡ emptied c.self.inside.blocks c.args.address = c.in-Some.ensures.given.1 in
    let new : Hart = record { regs = c.self.inside.hart.regs; pc = c.self.inside.hart.pc; mem = c.give_slots.new.mem } in
    let own : IsOwn c.self.inside.stack new c.remove_all.new.self c.free.new.self =
    subst (λ (xs : List ℕ). IsOwn c.self.inside.stack new xs c.free.new.self) (sym (c.remove_all.ensures ∙ ap (minus c.self.inside.slots) given))
    (subst (λ (b : Heap). IsOwn c.self.inside.stack new (minus c.self.inside.slots (emptied c.self.inside.blocks c.args.address)) b) (sym c.in-Some.ensures.some)
    (frees_own c.self.inside.stack c.args.address c.self.inside.hart new c.self.inside.slots c.self.inside.blocks c.self.invariant.0 (c.give_slots.ensures.slots ∙ ap (λ xs. without_slots xs c.self.inside.hart.mem.0) given))) in
    (own, still new c.self.inside.hart c.self.inside.priority refl refl c.self.invariant.1)
