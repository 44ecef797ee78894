use Rattle.std.proofs.Common.{ap, arith, length}
use Rattle.std.proofs.lemmas.List.{with_items_is}
use Rattle.cluster.proofs.Resettling.{still_numbered, right_all, right_same, right_stands}
use Rattle.cluster.proofs.cluster.Cluster.settle.Goals as goal

pub settle_all-requires-clause-numbered : goal.settle_all-requires-clause-numbered
settle_all-requires-clause-numbered c =
    let s = c.requires.agrees in
    still_numbered _ _ _ _ _ c.self.view_is c.deref_mut.result.now c.deref_mut.ensures.value s.0 s.1 s.2

pub invariant_of-self : goal.invariant_of-self
invariant_of-self c =
    let h = c.settle_all.ensures.settled in
    let same = with_items_is c.self.inside.nodes c.settle_all.new.nodes (omega (arith, h.nodes.count, ap length c.deref_mut.ensures.value, c.self.inside.nodes.ok.0)) in
    right_all _ _ _ _ _ c.self.view_is _ _ _ c.deref.result.now c.deref_mut.ensures.value c.deref.ensures.value h same c.self.invariant

pub returns-clause-stands : goal.returns-clause-stands
returns-clause-stands c =
    let h = c.settle_all.ensures.settled in
    let same = with_items_is c.self.inside.nodes c.settle_all.new.nodes (omega (arith, h.nodes.count, ap length c.deref_mut.ensures.value, c.self.inside.nodes.ok.0)) in
    right_stands _ _ _ _ _ c.self.view_is _ _ _ c.deref.result.now c.deref_mut.ensures.value c.deref.ensures.value h same

pub returns-clause-same : goal.returns-clause-same
returns-clause-same c =
    let h = c.settle_all.ensures.settled in
    let same = with_items_is c.self.inside.nodes c.settle_all.new.nodes (omega (arith, h.nodes.count, ap length c.deref_mut.ensures.value, c.self.inside.nodes.ok.0)) in
    right_same _ _ _ _ _ c.self.view_is _ _ _ c.deref.result.now c.deref_mut.ensures.value c.deref.ensures.value h same
