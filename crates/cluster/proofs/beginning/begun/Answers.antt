use Rattle.std.proofs.Common.{sym, subst, arith}
use Rattle.std.proofs.lemmas.List.{with_items_is}
use Rattle.wires.specs.Wires.{AreWired}
use Rattle.cluster.specs.Between.{AreNumbered, HaveBooted, SettlesAll, wires_in}
use Rattle.cluster.proofs.Booting.{all_numbered, begun_wired, booted}
use Rattle.cluster.proofs.beginning.begun.Goals as goal

pub settle_all-requires-clause-numbered : goal.settle_all-requires-clause-numbered
settle_all-requires-clause-numbered c =
    subst (λ vs. AreNumbered vs) (sym c.deref_mut.ensures.value)
    (all_numbered c.args.program.now c.args.wires.items c.requires.wide c.in_ok-nodes.nodes.items c.in_ok-nodes.rest.items c.in_ok-nodes.ensures)

pub settle_all-requires-clause-wired : goal.settle_all-requires-clause-wired
settle_all-requires-clause-wired c =
    subst (λ vs. AreWired (wires_in vs c.deref.result.now)) (sym c.deref_mut.ensures.value) (subst (λ es. AreWired (wires_in c.in_ok-nodes.nodes.items es)) (sym c.deref.ensures.value)
    (begun_wired c.args.program.now c.args.wires.items c.requires.wide c.in_ok-nodes.nodes.items c.in_ok-nodes.rest.items c.in_ok-nodes.ensures c.requires.fresh.wired))

pub returns : goal.returns
returns c =
    let p = c.args.program.now in
    let ws = c.settle_all.new.nodes in
    let vs = c.in_ok-nodes.nodes.items in
    let es = c.in_ok-nodes.rest.items in
    let settled : SettlesAll es vs ws = subst (λ zs. SettlesAll zs vs ws) c.deref.ensures.value (subst (λ us. SettlesAll c.deref.result.now us ws) c.deref_mut.ensures.value c.settle_all.ensures.settled) in
    let same = with_items_is c.in_ok-nodes.nodes ws (omega (arith, settled.nodes.count, c.in_ok-nodes.nodes.ok.0)) in
    subst (λ us. HaveBooted p c.args.wires.items us es) (sym same)
    (booted p c.args.wires.items c.requires.fresh c.requires.wide ws es (record { first = vs; begun = c.in_ok-nodes.ensures; settled = settled }) c.requires.quantum.0 c.requires.quantum.1 c.requires.image)
