use Rattle.std.proofs.Common.{◌∙◌, sym, ap, subst, arith, length}
use Rattle.std.proofs.lemmas.List.{with_items_is}
use Rattle.cluster.specs.Between.{AllOf}
use Rattle.cluster.specs.SideBySide.{entries_together}
use Rattle.cluster.proofs.Acting.{if_err}
use Rattle.cluster.proofs.Resettling.{still_numbered}
use Rattle.cluster.proofs.TheRound.{asks_few, asks_few_after, asks_may, asks_more, asks_turns, asks_wired, right_err, right_round, rounded_all, rounded_long, stopped_all}
use Rattle.cluster.proofs.cluster.Cluster.round_threads.Goals as goal

pub entries_together-before-requires : goal.entries_together-before-requires
entries_together-before-requires g c = asks_few _ _ _ _ _ c.self.view_is c.deref-2.result.now c.deref-2.ensures.value c.requires.stands c.requires.room

pub round_all-requires-clause-ready : goal.round_all-requires-clause-ready
round_all-requires-clause-ready g c κs within = asks_may _ _ _ _ _ c.self.view_is c.deref_mut.result.now c.next_clock-clock.result c.deref_mut.ensures.value c.requires.stands c.requires.room

pub round_all-requires-clause-wired : goal.round_all-requires-clause-wired
round_all-requires-clause-wired g c κs within =
    asks_wired _ _ _ _ _ c.self.view_is c.deref_mut.result.now c.deref-3.result.now c.deref_mut.ensures.value c.deref-3.ensures.value c.requires.stands c.requires.room

pub round_all-requires-clause-numbered : goal.round_all-requires-clause-numbered
round_all-requires-clause-numbered g c κs within =
    let s = c.requires.stands in
    still_numbered _ _ _ _ _ c.self.view_is c.deref_mut.result.now c.deref_mut.ensures.value s.0 s.1 s.2.agrees

pub invariant_of-self : goal.invariant_of-self
invariant_of-self g c =
    let i = c.self.inside in
    let h = c.in_err-round_all.ensures.err in
    let same = with_items_is i.nodes c.round_all.new.nodes (omega (arith, h.count, ap length c.deref_mut.ensures.value, i.nodes.ok.0)) in
    subst (λ ys. AllOf i.program ys) (sym same) (stopped_all i.program _ _ _ (subst (λ ys. AllOf i.program ys) (sym c.deref_mut.ensures.value) c.self.invariant) h)

pub returns-in_err-round_all-clause-err : goal.returns-in_err-round_all-clause-err
returns-in_err-round_all-clause-err g c =
    let i = c.self.inside in
    let h = c.in_err-round_all.ensures.err in
    let same = with_items_is i.nodes c.round_all.new.nodes (omega (arith, h.count, ap length c.deref_mut.ensures.value, i.nodes.ok.0)) in
    λ before kept s. if_err c.from_residual.result (right_err _ _ _ _ _ c.self.view_is c.deref_mut.result.now c.deref-3.result.now _ c.deref.result.now _ c.deref_mut.ensures.value c.deref-3.ensures.value c.deref.ensures.value c.next_clock-clock.ensures.value h _ same before kept s c.requires.room)

pub entries_together-requires : goal.entries_together-requires
entries_together-requires g c =
    let i = c.self.inside in
    let h = c.in_ok-round_all.ensures.rounded in
    let same = with_items_is i.nodes c.round_all.new.nodes (omega (arith, rounded_long _ _ _ _ h, ap length c.deref_mut.ensures.value, i.nodes.ok.0)) in
    asks_few_after _ _ _ _ _ c.self.view_is c.deref_mut.result.now c.deref-3.result.now _ c.deref.result.now _ c.deref_mut.ensures.value c.deref-3.ensures.value c.deref.ensures.value c.next_clock-clock.ensures.value h c.rounds_gather.ensures _ same c.deref-4.result.now c.deref-4.ensures.value c.requires.stands c.requires.room

pub overflow_sub-self : goal.overflow_sub-self
overflow_sub-self g c =
    let i = c.self.inside in
    let h = c.in_ok-round_all.ensures.rounded in
    let same = with_items_is i.nodes c.round_all.new.nodes (omega (arith, rounded_long _ _ _ _ h, ap length c.deref_mut.ensures.value, i.nodes.ok.0)) in
    asks_more _ _ _ _ _ c.self.view_is c.deref_mut.result.now c.deref-3.result.now _ c.deref.result.now _ c.deref_mut.ensures.value c.deref-3.ensures.value c.deref.ensures.value c.next_clock-clock.ensures.value h c.rounds_gather.ensures _ same
    c.entries_together.result c.entries_together-before.result (c.entries_together.ensures ∙ ap entries_together c.deref-4.ensures.value) (c.entries_together-before.ensures ∙ ap entries_together c.deref-2.ensures.value) c.requires.stands c.requires.room

pub overflow_add-self : goal.overflow_add-self
overflow_add-self g c =
    let i = c.self.inside in
    let h = c.in_ok-round_all.ensures.rounded in
    let same = with_items_is i.nodes c.round_all.new.nodes (omega (arith, rounded_long _ _ _ _ h, ap length c.deref_mut.ensures.value, i.nodes.ok.0)) in
    omega (
      arith,
      asks_turns _ _ _ _ _ c.self.view_is c.deref_mut.result.now c.deref-3.result.now _ c.deref.result.now _ c.deref_mut.ensures.value c.deref-3.ensures.value c.deref.ensures.value c.next_clock-clock.ensures.value h c.rounds_gather.ensures _ same
          c.entries_together.result c.entries_together-before.result (c.entries_together.ensures ∙ ap entries_together c.deref-4.ensures.value) (c.entries_together-before.ensures ∙ ap entries_together c.deref-2.ensures.value) c.requires.stands c.requires.room,
    )

pub invariant_of-self-2 : goal.invariant_of-self-2
invariant_of-self-2 g c =
    let i = c.self.inside in
    let h = c.in_ok-round_all.ensures.rounded in
    let same = with_items_is i.nodes c.round_all.new.nodes (omega (arith, rounded_long _ _ _ _ h, ap length c.deref_mut.ensures.value, i.nodes.ok.0)) in
    subst (λ ys. AllOf i.program ys) (sym same) (rounded_all i.program _ _ _ _ (subst (λ ys. AllOf i.program ys) (sym c.deref_mut.ensures.value) c.self.invariant) h)

pub returns-clause-round : goal.returns-clause-round
returns-clause-round g c =
    let i = c.self.inside in
    let h = c.in_ok-round_all.ensures.rounded in
    let same = with_items_is i.nodes c.round_all.new.nodes (omega (arith, rounded_long _ _ _ _ h, ap length c.deref_mut.ensures.value, i.nodes.ok.0)) in
    λ before kept s. right_round _ _ _ _ _ c.self.view_is c.deref_mut.result.now c.deref-3.result.now _ c.deref.result.now _ c.deref_mut.ensures.value c.deref-3.ensures.value c.deref.ensures.value c.next_clock-clock.ensures.value h c.rounds_gather.ensures _ same
    c.entries_together.result c.entries_together-before.result (c.entries_together.ensures ∙ ap entries_together c.deref-4.ensures.value) (c.entries_together-before.ensures ∙ ap entries_together c.deref-2.ensures.value) c.requires.room before kept s
