use Rattle.std.proofs.Common.{◌∙◌, sym, ap, subst, arith, length}
use Rattle.std.proofs.lemmas.List.{with_items_is}
use Rattle.cluster.specs.Between.{AllOf}
use Rattle.cluster.proofs.Acting.{if_err}
use Rattle.cluster.proofs.Resettling.{still_numbered}
use Rattle.cluster.proofs.TheStep.{asks_range, asks_ready, few_turns_left, right_idle, right_steps, right_exact, right_err, acted_all, failed_all, acted_long, failed_long}
use Rattle.cluster.proofs.cluster.Cluster.step.Goals as goal

pub returns-then-not-possible-clause-idle : goal.returns-then-not-possible-clause-idle
returns-then-not-possible-clause-idle c =
    right_idle _ _ _ _ _ c.self.view_is c.args.node c.requires.node c.args.act c.requires.range c.requires.room
    c.from-at.result (c.from-at.ensures ∙ c.node.view_is) c.index.result.now c.index.result.now c.index.ensures c.possible.result c.possible.ensures c.if-not-possible.true

pub possible-requires : goal.possible-requires
possible-requires c =
    asks_range _ _ _ _ _ c.self.view_is c.args.node c.requires.node c.args.act c.requires.range c.requires.room
    c.from-at.result (c.from-at.ensures ∙ c.node.view_is) c.index.result.now c.index.result.now c.index.ensures c.requires.stands

pub carry_out-requires-clause-numbered : goal.carry_out-requires-clause-numbered
carry_out-requires-clause-numbered c =
    let s = c.requires.stands in
    still_numbered _ _ _ _ _ c.self.view_is c.deref_mut.result.now c.deref_mut.ensures.value s.0 s.1 s.2.agrees

pub overflow_add-self : goal.overflow_add-self
overflow_add-self c = omega (arith, few_turns_left _ _ _ _ _ c.self.view_is c.requires.stands)

pub carry_out-requires-clause-ready : goal.carry_out-requires-clause-ready
carry_out-requires-clause-ready c =
    asks_ready _ _ _ _ _ c.self.view_is c.args.node c.requires.node c.args.act c.requires.range c.requires.room
    c.from-at.result (c.from-at.ensures ∙ c.node.view_is) c.index.result.now c.index.result.now c.index.ensures c.deref_mut.result.now c.deref_mut.ensures.value c.requires.stands

pub invariant_of-self : goal.invariant_of-self
invariant_of-self c =
    let i = c.self.inside in
    let h = c.in_err-turned.ensures.err in
    let same = with_items_is i.nodes c.carry_out.new.nodes (omega (arith, failed_long _ _ _ _ h, ap length c.deref_mut.ensures.value, i.nodes.ok.0)) in
    subst (λ ys. AllOf i.program ys) (sym same) (failed_all i.program _ _ _ _ (subst (λ ys. AllOf i.program ys) (sym c.deref_mut.ensures.value) c.self.invariant) h)

pub returns-in_err-turned-clause-err : goal.returns-in_err-turned-clause-err
returns-in_err-turned-clause-err c =
    let i = c.self.inside in
    let h = c.in_err-turned.ensures.err in
    let same = with_items_is i.nodes c.carry_out.new.nodes (omega (arith, failed_long _ _ _ _ h, ap length c.deref_mut.ensures.value, i.nodes.ok.0)) in
    λ before kept s. if_err c.from_residual.result (right_err _ _ _ _ _ c.self.view_is c.args.node c.requires.node c.args.act c.requires.range c.requires.room
    c.from-at.result (c.from-at.ensures ∙ c.node.view_is) c.index.result.now c.index.result.now c.index.ensures _ _ _ _ c.deref_mut.ensures.value h same before kept s)

pub invariant_of-self-2 : goal.invariant_of-self-2
invariant_of-self-2 c =
    let i = c.self.inside in
    let h = c.in_ok-turned.ensures.acted in
    let same = with_items_is i.nodes c.carry_out.new.nodes (omega (arith, acted_long _ _ _ _ _ _ _ h, ap length c.deref_mut.ensures.value, i.nodes.ok.0)) in
    subst (λ ys. AllOf i.program ys) (sym same) (acted_all i.program _ _ _ _ _ _ _ (subst (λ ys. AllOf i.program ys) (sym c.deref_mut.ensures.value) c.self.invariant) h)

pub returns-clause-steps : goal.returns-clause-steps
returns-clause-steps c =
    let i = c.self.inside in
    let h = c.in_ok-turned.ensures.acted in
    let same = with_items_is i.nodes c.carry_out.new.nodes (omega (arith, acted_long _ _ _ _ _ _ _ h, ap length c.deref_mut.ensures.value, i.nodes.ok.0)) in
    λ before kept s. right_steps _ _ _ _ _ c.self.view_is c.args.node c.requires.node c.args.act c.requires.range c.requires.room
    c.from-at.result (c.from-at.ensures ∙ c.node.view_is) c.index.result.now c.index.result.now c.index.ensures c.possible.result c.possible.ensures c.if-not-possible.false
    _ _ _ _ c.in_ok-turned.turned _ _ c.deref_mut.ensures.value c.deref-2.ensures.value c.deref.ensures.value c.next_clock-clock.ensures.value h same before kept s

pub returns-clause-idle : goal.returns-clause-idle
returns-clause-idle c = λ before kept s.
    right_exact _ _ _ _ _ c.self.view_is c.args.node c.requires.node c.args.act c.requires.range c.requires.room
    c.from-at.result (c.from-at.ensures ∙ c.node.view_is) c.index.result.now c.index.result.now c.index.ensures c.possible.result c.possible.ensures c.if-not-possible.false
    _ _ _ c.in_ok-turned.turned _ _ c.deref_mut.ensures.value c.deref-2.ensures.value c.deref.ensures.value c.next_clock-clock.ensures.value c.in_ok-turned.ensures.acted before kept s
