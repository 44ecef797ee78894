use Rattle.std.proofs.Common.{◌≡◌, ℕ, ◌<◌, ◌-◌, ◌^◌, List, [], drop, length, subst, refl, sym, arith, ◌∙◌}
use Rattle.outside.specs.Outside.{Appends, AppendsPrefix}
use Rattle.run_trace.specs.Program.{nodes_of}
use Rattle.node_loop.specs.Turns.{IsActInRange}
use Rattle.cluster.specs.Standing.{Steps}
use Rattle.cluster.proofs.Lemmas.{has_room}
use Rattle.cluster.specs.View.{console_in}
use Rattle.simulation.specs.Replayed.{HasReplayed}
use Rattle.simulation.specs.declared.simulation.RunEnd.TheVariants.{NotPossible}
use Rattle.simulation.proofs.Course.{low_clock}
use Rattle.simulation.proofs.Replaying.{in_range, item_at, trace_by, begins_by, impossible, is_done_by, is_stalled_by, goes_on_after, lost_by, goes_on_by, refused_by}
use Rattle.simulation.proofs.schedule.do_acts.Goals as goal

pub loop-next-init : goal.loop-next-init
loop-next-init g c = record {
  underway = begins_by c.args.schedule.now c.args.cluster.now (g.K.Sink.written c.args.out.now) c.requires.begun c.requires.first.0 c.requires.first.1;
  uncounted = refl;
  later = omega arith;
}

pub step-requires-clause-node : goal.step-requires-clause-node
step-requires-clause-node g c =
    let s = c.next-item.result in
    subst (λ q. s.node < nodes_of q) (sym c.loop-next.invariant.underway.so_far.come.program)
    (in_range c.args.cluster.now.program _ _ s c.requires.range (item_at _ _ s c.loop-next-test.true c.next-item.is)).0

pub step-requires-clause-range : goal.step-requires-clause-range
step-requires-clause-range g c =
    let s = c.next-item.result in
    subst (λ q. IsActInRange q s.node s.act) (sym c.loop-next.invariant.underway.so_far.come.program)
    (in_range c.args.cluster.now.program _ _ s c.requires.range (item_at _ _ s c.loop-next-test.true c.next-item.is)).1

pub step-requires-clause-room : goal.step-requires-clause-room
step-requires-clause-room g c =
    let u = c.loop-next.invariant.underway in
    has_room c.loop-next.cluster [] (trace_by u) u.so_far.come.stands.agrees (low_clock _ _ _ _ _ _ u.so_far _ c.loop-next-test.true c.requires.few) _

pub step-requires-clause-stands : goal.step-requires-clause-stands
step-requires-clause-stands g c = let u = c.loop-next.invariant.underway in ([], trace_by u, u.so_far.come.stands)

pub returns-in-Ok-Idle-clause-ran : goal.returns-in-Ok-Idle-clause-ran
returns-in-Ok-Idle-clause-ran g c =
    let u = c.loop-next.invariant.underway in
    let s = c.next-item.result in
    let same : c.step.new.self ≡ c.loop-next.cluster =
    subst (λ t. Steps c.loop-next.cluster [] (trace_by u) s.node s.act c.step.new.self t) c.in-Ok-Idle.field-0-is (c.in-Ok-Idle.ensures.steps [] (trace_by u) u.so_far.come.stands) in
    subst (λ z. HasReplayed c.args.schedule.now c.args.cluster.now z (g.K.Sink.written c.args.out.now) (g.K.Sink.written c.loop-next.out) (NotPossible s.line)) (sym same)
    (impossible _ _ _ _ _ _ u s s.line (item_at _ _ s c.loop-next-test.true c.next-item.is) refl ((c.in-Ok-Idle.ensures.idle [] (trace_by u) u.so_far.come.stands).0 c.in-Ok-Idle.field-0-is))

pub returns-in-Err-clause-ran : goal.returns-in-Err-clause-ran
returns-in-Err-clause-ran g c =
    let u = c.loop-next.invariant.underway in
    lost_by _ _ _ _ _ _ u c.step.new.self (c.in-Err.ensures.err [] (trace_by u) u.so_far.come.stands)

pub returns-in-Err-show-clause-ran : goal.returns-in-Err-show-clause-ran
returns-in-Err-show-clause-ran g c =
    let u = c.loop-next.invariant.underway in
    let s = c.next-item.result in
    let below : c.loop-next.next-index < 2 ^ 64 - 1 = omega (arith, c.loop-next-test.true, c.requires.few) in
    let d = subst (λ t. Steps c.loop-next.cluster [] (trace_by u) s.node s.act c.step.new.self t) c.in-Ok-Did.field-0-is (c.in-Ok-Did.ensures.steps [] (trace_by u) u.so_far.come.stands) in
    refused_by _ _ _ _ _ _ u s c.step.new.self (item_at _ _ s c.loop-next-test.true c.next-item.is) d below (g.K.Sink.written c.show.new.out) c.in-Err-show.refusal c.from.result
    (subst (λ (xs : List ℕ). AppendsPrefix (g.K.Sink.written c.loop-next.out) (drop (length xs) (console_in c.step.new.self)) (g.K.Sink.written c.show.new.out)) c.console-shown.ensures.value c.in-Err-show.ensures.err) c.from.ensures

pub loop-next-preserved : goal.loop-next-preserved
loop-next-preserved g c =
    let u = c.loop-next.invariant.underway in
    let s = c.next-item.result in
    let below : c.loop-next.next-index < 2 ^ 64 - 1 = omega (arith, c.loop-next-test.true, c.requires.few) in
    let d = subst (λ t. Steps c.loop-next.cluster [] (trace_by u) s.node s.act c.step.new.self t) c.in-Ok-Did.field-0-is (c.in-Ok-Did.ensures.steps [] (trace_by u) u.so_far.come.stands) in
    record {
      underway = goes_on_by _ _ _ _ _ _ u s c.step.new.self (item_at _ _ s c.loop-next-test.true c.next-item.is) d below (g.K.Sink.written c.show.new.out)
          (subst (λ (xs : List ℕ). Appends (g.K.Sink.written c.loop-next.out) (drop (length xs) (console_in c.step.new.self)) (g.K.Sink.written c.show.new.out)) c.console-shown.ensures.value c.in-Ok.ensures.ok);
      uncounted = c.in-Ok.ensures.uncounted ∙ c.loop-next.invariant.uncounted;
      later = omega (arith, c.loop-next.invariant.later, c.show.ensures.later);
    }

pub returns-in-Done-clause-ran : goal.returns-in-Done-clause-ran
returns-in-Done-clause-ran g c =
    let u = c.loop-next.invariant.underway in
    is_done_by _ _ _ _ _ _ u (omega (arith, c.loop-next-test.false, c.loop-next.auto.next-index-end)) (c.in-Done.ensures [] (trace_by u) u.so_far.come.stands)

pub returns-in-Stalled-clause-ran : goal.returns-in-Stalled-clause-ran
returns-in-Stalled-clause-ran g c =
    let u = c.loop-next.invariant.underway in
    is_stalled_by _ _ _ _ _ _ u (omega (arith, c.loop-next-test.false, c.loop-next.auto.next-index-end)) (c.in-Stalled.ensures [] (trace_by u) u.so_far.come.stands)

pub returns-in-Going-clause-ran : goal.returns-in-Going-clause-ran
returns-in-Going-clause-ran g c =
    let u = c.loop-next.invariant.underway in
    goes_on_after _ _ _ _ _ _ u (omega (arith, c.loop-next-test.false, c.loop-next.auto.next-index-end)) (c.in-Going.ensures [] (trace_by u) u.so_far.come.stands)
