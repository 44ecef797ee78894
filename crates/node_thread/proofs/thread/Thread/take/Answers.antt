use Rattle.std.proofs.Common.{◌≡◌, List, ℕ, false, true, refl, sym, ap, ◌∙◌, subst}
use Rattle.slot_space.specs.Sets.{has, run, union}
use Rattle.iso_blocks.specs.Heap.{Heap}
use Rattle.rv_step.specs.declared.hart.Hart.{Hart}
use Rattle.rv_step.specs.Memory.{Memory, slots_of}
use Rattle.run_trace.specs.Guests.{with_zero_slots}
use Rattle.run_trace.specs.Guests.{Thread, guest_slots}
use Rattle.node_thread.specs.Views.{IsOwn}
use Rattle.node_thread.proofs.Own.{takes_own}
use Rattle.node_thread.proofs.Aligned.{still}
use Rattle.node_thread.proofs.thread.Thread.take.Goals as goal

pub take_run-requires-clause-new : goal.take_run-requires-clause-new
take_run-requires-clause-new c = λ s h. ap (λ m. has s (slots_of m)) c.in_ok-make_room.ensures.slots
    ∙ ap (λ (x : Thread). has s (guest_slots x.guest)) c.self.view_is ∙ c.requires.new s (ap (λ k. has s (run k c.args.count)) (sym c.first.view_is) ∙ h)

pub invariant_of-self-2 : goal.invariant_of-self-2
invariant_of-self-2 c =
    let fresh : (s : ℕ) → has s (run c.args.first c.args.count) ≡ true → has s (slots_of c.self.inside.hart.mem.0) ≡ false =
    λ s h. ap (λ (x : Thread). has s (guest_slots x.guest)) c.self.view_is ∙ c.requires.new s h in
    let mem : c.take_run.new.mem.0 ≡ with_zero_slots (run c.args.first c.args.count) c.self.inside.hart.mem.0 =
    c.take_run.ensures.slots ∙ ap (λ (m : Memory). with_zero_slots (run c.first.inside.0 c.args.count) m) c.in_ok-make_room.ensures.slots
    ∙ ap (λ k. with_zero_slots (run k c.args.count) c.self.inside.hart.mem.0) c.first.view_is in
    let new : Hart = record { regs = c.self.inside.hart.regs; pc = c.self.inside.hart.pc; mem = c.take_run.new.mem } in
    let own : IsOwn c.self.inside.stack new c.insert_run.new.self c.add_slots.new.self =
    subst (λ (xs : List ℕ). IsOwn c.self.inside.stack new xs c.add_slots.new.self) (sym c.insert_run.ensures)
    (subst (λ (b : Heap). IsOwn c.self.inside.stack new (union c.self.inside.slots (run c.args.first c.args.count)) b) (sym c.in_ok-add_slots.ensures.ok)
    (takes_own c.self.inside.stack c.args.first c.args.count c.self.inside.hart new c.self.inside.slots c.self.inside.blocks c.self.invariant.0 c.contains-stack.ensures.proper fresh mem)) in
    (own, still new c.self.inside.hart c.self.inside.priority refl refl c.self.invariant.1)
