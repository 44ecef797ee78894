use Rattle.std.proofs.Common.{◌≡◌, ◌+◌, ◌-◌, ap, sym, ◌∙◌, arith, List, ℕ, subst}
use Rattle.slot_space.specs.Sets.{has, run}
use Rattle.run_trace.specs.Guests.{with_zero_slots}
use Rattle.node_thread.proofs.RunsTaken.{granted_none, granted_same, granted_new, granted_all, granted_start}
use Rattle.node_thread.proofs.heap_slots.take_run.Goals as goal

pub loop-n-init : goal.loop-n-init
loop-n-init c = record {
  same = ap (λ (xs : List ℕ). with_zero_slots xs c.args.mem.now.0) (granted_start c.args.first c.args.count);
  new = λ s h. c.requires.new s (sym (ap (has s) (granted_start c.args.first c.args.count)) ∙ h);
  spare = omega arith;
  room = omega arith;
}

pub spare_block-block-requires : goal.spare_block-block-requires
spare_block-block-requires c = let inv = c.loop-n.invariant in omega (arith, inv.spare, c.requires.spare, c.loop-n-test.true)

pub grant-requires-clause-held : goal.grant-requires-clause-held
grant-requires-clause-held c = granted_none c.args.first c.args.count c.loop-n.n c.loop-n.mem.0 c.loop-n-test.true c.loop-n.invariant.new

pub grant-requires-clause-room : goal.grant-requires-clause-room
grant-requires-clause-room c = let inv = c.loop-n.invariant in omega (arith, inv.room, c.requires.room, c.loop-n-test.true)

pub loop-n-preserved : goal.loop-n-preserved
loop-n-preserved c =
    let inv = c.loop-n.invariant in
    record {
      same = granted_same c.args.first c.args.count c.loop-n.n c.loop-n.mem.0 c.grant.new.self.0 _ c.spare_block-block.result c.loop-n-test.true inv.same c.grant.ensures.slots c.spare_block-block.ensures.zeros;
      new = granted_new c.args.first c.args.count c.loop-n.n c.loop-n.mem.0 c.grant.new.self.0 c.spare_block-block.result c.loop-n-test.true inv.new c.grant.ensures.slots c.spare_block-block.ensures.zeros;
      spare = omega (arith, inv.spare, c.spare_block-block.ensures.spare);
      room = omega (arith, inv.room, c.grant.ensures.room);
    }

pub returns-clause-slots : goal.returns-clause-slots
returns-clause-slots c =
    let at : c.loop-n.n ≡ c.args.count = omega (arith, c.loop-n.auto.n-end, c.loop-n-test.false) in
    granted_all c.args.first c.args.count c.loop-n.mem.0 (with_zero_slots (run c.args.first c.args.count) c.args.mem.now.0)
    (subst (λ k. with_zero_slots (run (c.args.first + k) (c.args.count - k)) c.loop-n.mem.0 ≡ with_zero_slots (run c.args.first c.args.count) c.args.mem.now.0) at c.loop-n.invariant.same)
