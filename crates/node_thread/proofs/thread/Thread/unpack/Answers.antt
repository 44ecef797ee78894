use Rattle.std.proofs.Common.{refl, ap, ◌∙◌}
use Rattle.slot_space.specs.Sets.{insert}
use Rattle.pack_thread.specs.Threads.{thread_of}
use Rattle.node_thread.proofs.Travel.{stack_below, comes_own, comes_able}
use Rattle.node_thread.proofs.thread.Thread.unpack.Goals as goal

pub insert-requires : goal.insert-requires
insert-requires c = stack_below (thread_of c.args.baggage) c.requires.rules c.requires.typed

pub invariant_of-result : goal.invariant_of-result
invariant_of-result c = (
  comes_own c.args.baggage.stack c.args.baggage.hart c.args.baggage.blocks c.insert.new.self (thread_of c.args.baggage) c.requires.rules c.requires.typed refl refl refl
      (c.insert.ensures ∙ ap (insert c.args.baggage.stack) c.heap_slots-slots.ensures.slots),
  comes_able c.args.baggage.hart c.args.baggage.priority (thread_of c.args.baggage) c.requires.rules c.requires.typed refl refl,
)
