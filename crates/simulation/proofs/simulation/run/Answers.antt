use Rattle.std.proofs.Common.{ℕ, List, [], drop, length, ap, subst, arith, ◌∷◌, ◌<◌, ◌^◌, ◌-◌, refl, ◌∙◌}
use Rattle.outside.specs.Outside.{Appends, AppendsPrefix}
use Rattle.rand_pcg.specs.Lcg.{Lcg}
use Rattle.cluster.specs.View.{console_in}
use Rattle.simulation.proofs.Course.{low_clock}
use Rattle.simulation.proofs.Running.{some_act, begins, goes_on, refused, is_done, is_stalled, out_of_turns, lost, trace_of}
use Rattle.simulation.proofs.simulation.run.Goals as goal

pub loop-done-init : goal.loop-done-init
loop-done-init g c = record {
  underway = begins c.args.moves c.args.seed c.args.cluster.now c.generator-words.result (g.K.Sink.written c.args.out.now) c.requires.begun c.requires.first.0 c.requires.first.1 c.generator-words.ensures;
  uncounted = refl;
  later = omega arith;
}

pub draw-requires-clause-few : goal.draw-requires-clause-few
draw-requires-clause-few g c = low_clock _ _ _ _ _ _ c.loop-done.invariant.underway.so_far c.args.turns c.loop-done-test.true c.requires.turns.1

pub draw-requires-clause-some : goal.draw-requires-clause-some
draw-requires-clause-some g c =
    let u = c.loop-done.invariant.underway in
    (trace_of u, u.so_far.come.stands, some_act _ _ _ _ _ _ _ _ u)

pub returns-in-Err-clause-ran : goal.returns-in-Err-clause-ran
returns-in-Err-clause-ran g c =
    let l = c.loop-done in
    let u = l.invariant.underway in
    lost _ _ _ _ _ _ _ _ u c.args.turns c.draw.new.cluster c.loop-done-test.true (c.in-Err.ensures.err (trace_of u) u.so_far.come.stands)

pub returns-in-Err-show-clause-ran : goal.returns-in-Err-show-clause-ran
returns-in-Err-show-clause-ran g c =
    let l = c.loop-done in
    let u = l.invariant.underway in
    let word = ap (λ (z : ℕ × Lcg). z.0) c.next_word.ensures in
    let below : l.done < 2 ^ 64 - 1 = omega (arith, c.loop-done-test.true, c.requires.turns.1) in
    refused _ _ _ _ _ _ _ _ u c.next_word.result c.draw.new.cluster
    (c.in-Ok.ensures.ok (trace_of u) u.so_far.come.stands) word below c.args.turns (g.K.Sink.written c.show.new.out) c.in-Err-show.refusal c.from.result c.loop-done-test.true
    (subst (λ (xs : List ℕ). AppendsPrefix (g.K.Sink.written l.out) (drop (length xs) (console_in c.draw.new.cluster)) (g.K.Sink.written c.show.new.out)) c.console-shown.ensures.value c.in-Err-show.ensures.err) c.from.ensures

pub returns-in-Done-clause-ran : goal.returns-in-Done-clause-ran
returns-in-Done-clause-ran g c =
    let l = c.loop-done in
    let u = l.invariant.underway in
    let word = ap (λ (z : ℕ × Lcg). z.0) c.next_word.ensures in
    let below : l.done < 2 ^ 64 - 1 = omega (arith, c.loop-done-test.true, c.requires.turns.1) in
    let d = c.in-Ok.ensures.ok (trace_of u) u.so_far.come.stands in
    is_done _ _ _ _ _ _ _ _ u c.next_word.result c.draw.new.cluster
    d word below c.args.turns (g.K.Sink.written c.show.new.out) c.loop-done-test.true
    (subst (λ (xs : List ℕ). Appends (g.K.Sink.written l.out) (drop (length xs) (console_in c.draw.new.cluster)) (g.K.Sink.written c.show.new.out)) c.console-shown.ensures.value c.in-Ok-show.ensures.ok) (c.in-Done.ensures [] (d.adds.entry ∷ trace_of u) d.adds.stands)

pub returns-in-Stalled-clause-ran : goal.returns-in-Stalled-clause-ran
returns-in-Stalled-clause-ran g c =
    let l = c.loop-done in
    let u = l.invariant.underway in
    let word = ap (λ (z : ℕ × Lcg). z.0) c.next_word.ensures in
    let below : l.done < 2 ^ 64 - 1 = omega (arith, c.loop-done-test.true, c.requires.turns.1) in
    let d = c.in-Ok.ensures.ok (trace_of u) u.so_far.come.stands in
    is_stalled _ _ _ _ _ _ _ _ u c.next_word.result c.draw.new.cluster
    d word below c.args.turns (g.K.Sink.written c.show.new.out) c.loop-done-test.true
    (subst (λ (xs : List ℕ). Appends (g.K.Sink.written l.out) (drop (length xs) (console_in c.draw.new.cluster)) (g.K.Sink.written c.show.new.out)) c.console-shown.ensures.value c.in-Ok-show.ensures.ok) (c.in-Stalled.ensures [] (d.adds.entry ∷ trace_of u) d.adds.stands)

pub loop-done-preserved : goal.loop-done-preserved
loop-done-preserved g c =
    let l = c.loop-done in
    let u = l.invariant.underway in
    let word = ap (λ (z : ℕ × Lcg). z.0) c.next_word.ensures in
    let below : l.done < 2 ^ 64 - 1 = omega (arith, c.loop-done-test.true, c.requires.turns.1) in
    let next = ap (λ (z : ℕ × Lcg). z.1) c.next_word.ensures in
    let d = c.in-Ok.ensures.ok (trace_of u) u.so_far.come.stands in
    record {
      underway = goes_on _ _ _ _ _ _ _ _ u c.next_word.result c.draw.new.cluster
          d word below c.next_word.new.self (g.K.Sink.written c.show.new.out) next
          (subst (λ (xs : List ℕ). Appends (g.K.Sink.written l.out) (drop (length xs) (console_in c.draw.new.cluster)) (g.K.Sink.written c.show.new.out)) c.console-shown.ensures.value c.in-Ok-show.ensures.ok) (c.in-Going.ensures [] (d.adds.entry ∷ trace_of u) d.adds.stands);
      uncounted = c.in-Ok-show.ensures.uncounted ∙ l.invariant.uncounted;
      later = omega (arith, l.invariant.later, c.in-Ok-show.ensures.later);
    }

pub returns-clause-ran : goal.returns-clause-ran
returns-clause-ran g c =
    let l = c.loop-done in
    out_of_turns _ _ _ _ _ _ _ _ l.invariant.underway c.args.turns (omega (arith, c.loop-done-test.false, l.auto.done-end))
