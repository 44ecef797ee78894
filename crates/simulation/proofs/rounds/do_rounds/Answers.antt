use Rattle.std.proofs.Common.{ℕ, List, [], drop, length, subst, arith, refl, ◌∙◌}
use Rattle.outside.specs.Outside.{Appends, AppendsPrefix}
use Rattle.cluster.specs.View.{console_in}
use Rattle.simulation.proofs.Rounding.{begins_rounds, trace_in, room_for, come_now, goes_further, refused_in, is_done_in, is_stalled_in, is_out_of_turns}
use Rattle.simulation.proofs.rounds.do_rounds.Goals as goal

pub loop-done-init : goal.loop-done-init
loop-done-init g c = record {
  underway = begins_rounds c.args.turns c.args.cluster.now (g.K.Sink.written c.args.out.now) c.requires.begun c.requires.first.0 c.requires.first.1 c.requires.turns.0;
  uncounted = refl;
  later = omega arith;
}

pub round_threads-requires-clause-room : goal.round_threads-requires-clause-room
round_threads-requires-clause-room g c κs within n v at = room_for _ _ _ _ _ _ c.loop-done.invariant.underway c.requires.turns.1 n v at

pub returns-in-Err-Failed-clause-ran : goal.returns-in-Err-Failed-clause-ran
returns-in-Err-Failed-clause-ran g c =
    let u = c.loop-done.invariant.underway in
    let c2 = c.round_threads.new.self in
    let d = c.in_ok-round_threads.ensures.round [] (trace_in u) u.come.stands in
    refused_in _ _ _ _ _ _ u c.requires.turns.1 c2 d (g.K.Sink.written c.show.new.out)
    (subst (λ (xs : List ℕ). AppendsPrefix (g.K.Sink.written c.loop-done.out) (drop (length xs) (console_in c.round_threads.new.self)) (g.K.Sink.written c.show.new.out)) c.console-shown.ensures.value c.in-Err-Failed.ensures.err)

pub returns-in-Done-clause-ran : goal.returns-in-Done-clause-ran
returns-in-Done-clause-ran g c =
    let u = c.loop-done.invariant.underway in
    let c2 = c.round_threads.new.self in
    let d = c.in_ok-round_threads.ensures.round [] (trace_in u) u.come.stands in
    is_done_in _ _ _ _ _ _ u c.requires.turns.1 c2 d (g.K.Sink.written c.show.new.out)
    (subst (λ (xs : List ℕ). Appends (g.K.Sink.written c.loop-done.out) (drop (length xs) (console_in c.round_threads.new.self)) (g.K.Sink.written c.show.new.out)) c.console-shown.ensures.value c.in-Ok.ensures.ok)
    (c.in-Done.ensures [] _ (come_now _ _ _ _ _ _ u c.requires.turns.1 c2 d).stands)

pub returns-in-Stalled-clause-ran : goal.returns-in-Stalled-clause-ran
returns-in-Stalled-clause-ran g c =
    let u = c.loop-done.invariant.underway in
    let c2 = c.round_threads.new.self in
    let d = c.in_ok-round_threads.ensures.round [] (trace_in u) u.come.stands in
    is_stalled_in _ _ _ _ _ _ u c.requires.turns.1 c2 d (g.K.Sink.written c.show.new.out)
    (subst (λ (xs : List ℕ). Appends (g.K.Sink.written c.loop-done.out) (drop (length xs) (console_in c.round_threads.new.self)) (g.K.Sink.written c.show.new.out)) c.console-shown.ensures.value c.in-Ok.ensures.ok)
    (c.in-Stalled.ensures [] _ (come_now _ _ _ _ _ _ u c.requires.turns.1 c2 d).stands)

pub returns-then-turns-clause-ran : goal.returns-then-turns-clause-ran
returns-then-turns-clause-ran g c =
    let u = c.loop-done.invariant.underway in
    let c2 = c.round_threads.new.self in
    let d = c.in_ok-round_threads.ensures.round [] (trace_in u) u.come.stands in
    is_out_of_turns _ _ _ _ _ _ u c.requires.turns.1 c2 d (g.K.Sink.written c.show.new.out) c.turns.result
    (subst (λ (xs : List ℕ). Appends (g.K.Sink.written c.loop-done.out) (drop (length xs) (console_in c.round_threads.new.self)) (g.K.Sink.written c.show.new.out)) c.console-shown.ensures.value c.in-Ok.ensures.ok)
    (c.in-Going.ensures [] _ (come_now _ _ _ _ _ _ u c.requires.turns.1 c2 d).stands)
    c.turns.ensures.value (omega (arith, c.if-turns.true))

pub loop-done-preserved : goal.loop-done-preserved
loop-done-preserved g c =
    let u = c.loop-done.invariant.underway in
    let c2 = c.round_threads.new.self in
    let d = c.in_ok-round_threads.ensures.round [] (trace_in u) u.come.stands in
    record {
      underway = goes_further _ _ _ _ _ _ u c.requires.turns.1 c2 d (g.K.Sink.written c.show.new.out) c.turns.result
          (subst (λ (xs : List ℕ). Appends (g.K.Sink.written c.loop-done.out) (drop (length xs) (console_in c.round_threads.new.self)) (g.K.Sink.written c.show.new.out)) c.console-shown.ensures.value c.in-Ok.ensures.ok)
          (c.in-Going.ensures [] _ (come_now _ _ _ _ _ _ u c.requires.turns.1 c2 d).stands)
          c.turns.ensures.value (omega (arith, c.if-turns.false));
      uncounted = c.in-Ok.ensures.uncounted ∙ c.loop-done.invariant.uncounted;
      later = omega (arith, c.loop-done.invariant.later, c.show.ensures.later);
    }
