use Rattle.std.proofs.Common.{[], ◌∙◌, ◌<◌, ◌≤◌, ap, subst, length, get_or}
use Rattle.std.specs.List.{flat_map}
use Rattle.cluster.specs.Between.{acts_by}
use Rattle.cluster.specs.View.{ClusterView}
use Rattle.cluster.proofs.Lists.{take_all}
use Rattle.cluster.proofs.Going.{gives_more}
use Rattle.cluster.proofs.Listings.{all_acts}
use Rattle.cluster.proofs.cluster.Cluster.acts.Goals as goal

pub returns : goal.returns
returns c = λ before kept s.
    let past = subst (λ vs. length vs ≤ c.loop-node.node-index) (c.deref-node-items.ensures.value ∙ ap (λ (z : ClusterView). z.nodes) c.self.view_is) c.loop-node-test.false in
    c.loop-node.invariant ∙ ap (λ vs. flat_map (λ v. acts_by c.args.moves v) vs) (take_all c.args.self.now.nodes c.loop-node.node-index past) ∙ all_acts c.args.self.now before kept s c.args.moves

pub loop-node-preserved : goal.loop-node-preserved
loop-node-preserved c =
    let i = c.loop-node.node-index in
    let x = c.node-item.result in
    let now = c.deref-node-items.ensures.value ∙ ap (λ (z : ClusterView). z.nodes) c.self.view_is in
    gives_more (λ v. acts_by c.args.moves v) c.args.self.now.nodes i x [] c.loop-node.acts.items c.push_acts.new.acts.items
    (subst (λ vs. i < length vs) now c.loop-node-test.true) (c.node-item.is ∙ ap (λ vs. get_or vs i x) now) c.loop-node.invariant c.in_ok-push_acts.ensures
