use Rattle.std.proofs.Common.{◌≡◌, true, arith, sym, ◌∙◌}
use Rattle.std.proofs.lemmas.Grind.{common_steps}
use Rattle.slot_space.specs.Sets.{has}
use Rattle.run_trace.proofs.Lemmas.{some_held}
use Rattle.node_thread.proofs.RunsTaken.{all_gone, given_same, given_gone, given_held}
use Rattle.node_thread.proofs.heap_slots.give_slots.Goals as goal

pub give_back-block-requires : goal.give_back-block-requires
give_back-block-requires c =
    let inside : has c.loop-n.n c.args.slots.now ≡ true = sym c.contains.ensures.member ∙ c.if-not-contains.false in
    some_held c.loop-n.mem.0 c.loop-n.n (c.loop-n.invariant.held c.loop-n.n (omega arith) inside)

pub loop-n-preserved : goal.loop-n-preserved
loop-n-preserved c =
    let inv = c.loop-n.invariant in
    let slots = c.args.slots.now in
    let n = c.loop-n.n in
    let inside : has n slots ≡ true = sym c.contains.ensures.member ∙ c.if-not-contains.false in
    record {
      same = given_same slots c.loop-n.mem.0 c.give_back-block.new.self.0 _ n c.give_back-block.result inside (some_held c.loop-n.mem.0 n (inv.held n (omega arith) inside)) c.give_back-block.ensures.slots inv.same;
      gone = given_gone slots c.loop-n.mem.0 c.give_back-block.new.self.0 n c.give_back-block.ensures.gone c.give_back-block.ensures.others inv.gone;
      held = given_held slots c.loop-n.mem.0 c.give_back-block.new.self.0 n c.give_back-block.ensures.others inv.held;
      spare = let some = some_held c.loop-n.mem.0 n (inv.held n (omega arith) inside) in (grind (arith, common_steps, some, inv.spare, c.give_back-block.ensures.slots), grind (arith, common_steps));
    }

pub returns-clause-slots : goal.returns-clause-slots
returns-clause-slots c =
    let inv = c.loop-n.invariant in
    sym (all_gone c.args.slots.now c.loop-n.mem.0 (λ s h. let low = c.next_from-first.ensures.proper.small s h in inv.gone s (omega (arith, low, c.loop-n-test.false)) h)) ∙ inv.same
