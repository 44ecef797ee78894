use Rattle.std.proofs.Common.{ap, arith, length}
use Rattle.std.proofs.lemmas.List.{with_items_is}
use Rattle.cluster.proofs.Counting.{put_all, put_stands}
use Rattle.cluster.proofs.cluster.Cluster.gather.Goals as goal

pub invariant_of-result : goal.invariant_of-result
invariant_of-result c =
    let h = c.settle_all-settled.ensures.settled in
    let same = with_items_is c.args.nodes c.settle_all-settled.new.nodes (omega (arith, h.nodes.count, ap length c.deref_mut.ensures.value, c.args.nodes.ok.0)) in
    put_all _ _ _ c.shell.view_is c.shell.invariant _ c.requires.fits _ _ _ c.deref-2.result.now c.deref_mut.ensures.value c.deref-2.ensures.value h same

pub returns-clause-stands : goal.returns-clause-stands
returns-clause-stands c =
    let h = c.settle_all-settled.ensures.settled in
    let same = with_items_is c.args.nodes c.settle_all-settled.new.nodes (omega (arith, h.nodes.count, ap length c.deref_mut.ensures.value, c.args.nodes.ok.0)) in
    put_stands _ _ _ c.shell.view_is c.shell.invariant _ c.requires.fits _ _ _ c.deref-2.result.now c.deref_mut.ensures.value c.deref-2.ensures.value h same
    c.rounds_gather.ensures c.turns_together-turns.result c.deref.result.now c.deref.ensures.value c.turns_together-turns.ensures
