use Rattle.std.proofs.Common.{◌≡◌, ◌∙◌, ◌++◌, subst}
use Rattle.slot_space.specs.Sets.{run}
use Rattle.cluster.specs.Between.{moves_among}
use Rattle.cluster.proofs.Going.{gives_more}
use Rattle.cluster.proofs.listing.push_moves.Goals as goal

pub loop-t-preserved : goal.loop-t-preserved
loop-t-preserved c =
    gives_more (λ t. moves_among c.args.node.now.me t (run 0 c.args.count)) c.deref-t-items.result.now c.loop-t.t-index c.t-item.result c.args.acts.now.items c.loop-t.acts.items
    c.push_moves_of.new.acts.items c.loop-t-test.true c.t-item.is c.loop-t.invariant
    (subst (λ n. c.push_moves_of.new.acts.items ≡ c.loop-t.acts.items ++ moves_among n c.t-item.result (run 0 c.args.count)) (c.own.view_is ∙ c.me-own.ensures.value) c.in_ok-push_moves_of.ensures)
