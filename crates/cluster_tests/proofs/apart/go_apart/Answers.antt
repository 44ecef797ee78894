use Rattle.std.proofs.Common.{◌∙◌, [], ◌++◌, ap, arith, length, subst, sym}
use Rattle.std.proofs.lemmas.List.{with_items_is}
use Rattle.cluster.specs.Apart.{Fits, HaveGoneOn}
use Rattle.cluster_tests.proofs.apart.go_apart.Goals as goal

pub driven-requires : goal.driven-requires
driven-requires c =
    let w = c.in_ok-cluster.ensures.walked in
    record {
      from = c.in_ok-cluster.cluster;
      kept = w.kept;
      agrees = w.stands.agrees;
      shell_is = c.apart-shell.ensures.parts.0;
      nodes_are = c.deref_mut.ensures.value ∙ c.apart-shell.ensures.parts.1;
      two = w.two;
    }

pub gather-cluster-requires : goal.gather-cluster-requires
gather-cluster-requires c =
    let w = c.in_ok-cluster.ensures.walked in
    let d = c.in_ok-both.ensures in
    let nodes = c.apart-shell.result.1 in
    let same = with_items_is nodes c.driven.new.nodes (omega (arith, d.fits.count, d.two, ap length c.apart-shell.ensures.parts.1, w.stands.agrees.count, w.two, nodes.ok.0)) in
    record { fits = subst (λ us. Fits c.apart-shell.result.0 us) (sym same) d.fits }

pub settle-requires : goal.settle-requires
settle-requires c =
    let w = c.in_ok-cluster.ensures.walked in
    let d = c.in_ok-both.ensures in
    let nodes = c.apart-shell.result.1 in
    let same = with_items_is nodes c.driven.new.nodes (omega (arith, d.fits.count, d.two, ap length c.apart-shell.ensures.parts.1, w.stands.agrees.count, w.two, nodes.ok.0)) in
    let r = c.gather-cluster.ensures.stands [] d.kept d.began d.round d.turns (subst (λ us. HaveGoneOn c.apart-shell.result.0 us [] d.kept d.began d.round d.turns) (sym same) d.gone) in
    record { agrees = ([], r.merge ++ d.kept, r.stands.agrees) }

pub finish-requires : goal.finish-requires
finish-requires c =
    let w = c.in_ok-cluster.ensures.walked in
    let d = c.in_ok-both.ensures in
    let nodes = c.apart-shell.result.1 in
    let same = with_items_is nodes c.driven.new.nodes (omega (arith, d.fits.count, d.two, ap length c.apart-shell.ensures.parts.1, w.stands.agrees.count, w.two, nodes.ok.0)) in
    let r = c.gather-cluster.ensures.stands [] d.kept d.began d.round d.turns (subst (λ us. HaveGoneOn c.apart-shell.result.0 us [] d.kept d.began d.round d.turns) (sym same) d.gone) in
    (r.merge ++ d.kept, (c.settle.ensures.stands [] (r.merge ++ d.kept) r.stands.agrees).agrees.trace)
