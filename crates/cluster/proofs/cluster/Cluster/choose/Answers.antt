use Rattle.std.proofs.Common.{◌%◌, length, ap, ◌∙◌, subst}
use Rattle.std.specs.Prelude.{flat_map, slice_get}
use Rattle.cluster.specs.Choosing.{IsCapped}
use Rattle.cluster.specs.Between.{acts_by}
use Rattle.cluster.specs.View.{ClusterView}
use Rattle.cluster.proofs.ByWord.{nothing_chosen, chosen_by}
use Rattle.cluster.proofs.cluster.Cluster.choose.Goals as goal

pub returns-then-total-eq0 : goal.returns-then-total-eq0
returns-then-total-eq0 c = λ before kept s.
    let now = c.deref.ensures.value ∙ ap (λ (z : ClusterView). z.nodes) c.self.view_is in
    nothing_chosen c.args.self.now before kept s c.args.moves c.count_all-total.result c.args.word
    (subst (λ vs. IsCapped c.count_all-total.result (length (flat_map (acts_by c.args.moves) vs))) now c.count_all-total.ensures) c.if-total-eq0.true

pub returns : goal.returns
returns c = λ before kept s.
    let now = c.deref.ensures.value ∙ ap (λ (z : ClusterView). z.nodes) c.self.view_is in
    let then = c.deref-2.ensures.value ∙ ap (λ (z : ClusterView). z.nodes) c.self.view_is in
    chosen_by c.args.self.now before kept s c.args.moves c.count_all-total.result c.args.word c.act_at.result
    (subst (λ vs. IsCapped c.count_all-total.result (length (flat_map (acts_by c.args.moves) vs))) now c.count_all-total.ensures) c.ranges.word.fits
    (c.act_at.ensures ∙ ap (λ vs. slice_get (flat_map (acts_by c.args.moves) vs) (c.args.word % c.count_all-total.result)) then)
