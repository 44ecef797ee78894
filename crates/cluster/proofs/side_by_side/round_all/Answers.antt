use Rattle.std.proofs.Common.{◌∙◌, length, sym, ap, subst}
use Rattle.cluster.specs.SideBySide.{EachHasRun}
use Rattle.cluster.proofs.Acting.{if_ok, raised_length}
use Rattle.cluster.proofs.SideDriven.{ran_numbered, ran_wired}
use Rattle.cluster.proofs.side_by_side.round_all.Goals as goal

pub settle_all-requires-clause-numbered : goal.settle_all-requires-clause-numbered
settle_all-requires-clause-numbered g c =
    ran_numbered c.args.clock c.args.nodes.now c.raise_all.new.nodes c.run_all.new.nodes c.raise_all.ensures c.run_all.auto.nodes c.run_all.ensures c.requires.numbered

pub settle_all-requires-clause-wired : goal.settle_all-requires-clause-wired
settle_all-requires-clause-wired g c =
    ran_wired c.args.clock c.args.nodes.now c.raise_all.new.nodes c.run_all.new.nodes c.args.rest.now c.raise_all.ensures c.run_all.auto.nodes c.run_all.ensures c.requires.wired

pub returns-clause-rounded : goal.returns-clause-rounded
returns-clause-rounded g c = if_ok c.settle_all.result (record {
  ran = c.run_all.new.nodes;
  count = c.run_all.auto.nodes ∙ ap length c.raise_all.ensures ∙ raised_length c.args.clock c.args.nodes.now;
  each = subst (λ us. EachHasRun us c.run_all.new.nodes) c.raise_all.ensures c.run_all.ensures;
  stand = sym c.all_stand.ensures ∙ c.if-not-all_stand.false;
  settled = c.settle_all.ensures.settled;
})
