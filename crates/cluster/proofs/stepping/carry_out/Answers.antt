use Rattle.std.proofs.Common.{set, sym, subst, ap}
use Rattle.wires.specs.Wires.{AreWired}
use Rattle.basics.proofs.Lemmas.{some_at}
use Rattle.node_loop.specs.View.{raised}
use Rattle.node_loop.specs.Turns.{IsLost, Turns}
use Rattle.cluster.specs.Between.{AreNumbered, SettlesOf, wires_in}
use Rattle.cluster.proofs.Acting.{raised_at, turn_keeps, mid_numbered, mid_wired, asks_range, asks_booted, asks_entries, if_err}
use Rattle.cluster.proofs.stepping.carry_out.Goals as goal

pub turn-requires-clause-booted : goal.turn-requires-clause-booted
turn-requires-clause-booted c =
    let vs = c.args.nodes.now in
    let v = some_at vs c.args.at c.requires.place in
    asks_booted c.args.clock v.0 _ c.args.act (raised_at c.args.clock vs c.raise_all.new.nodes c.args.at c.index-nodes-at.result v.0 c.raise_all.ensures v.1) (c.requires.ready v.0 v.1)

pub turn-requires-clause-range : goal.turn-requires-clause-range
turn-requires-clause-range c =
    let vs = c.args.nodes.now in
    let v = some_at vs c.args.at c.requires.place in
    asks_range c.args.clock v.0 _ c.args.act (raised_at c.args.clock vs c.raise_all.new.nodes c.args.at c.index-nodes-at.result v.0 c.raise_all.ensures v.1) (c.requires.ready v.0 v.1)

pub turn-requires-clause-entries : goal.turn-requires-clause-entries
turn-requires-clause-entries c =
    let vs = c.args.nodes.now in
    let v = some_at vs c.args.at c.requires.place in
    asks_entries c.args.clock v.0 _ c.args.act (raised_at c.args.clock vs c.raise_all.new.nodes c.args.at c.index-nodes-at.result v.0 c.raise_all.ensures v.1) (c.requires.ready v.0 v.1)

pub returns-in_err-turned-clause-err : goal.returns-in_err-turned-clause-err
returns-in_err-turned-clause-err c =
    let vs = c.args.nodes.now in
    let v = some_at vs c.args.at c.requires.place in
    let e = raised_at c.args.clock vs c.raise_all.new.nodes c.args.at c.index-nodes-at.result v.0 c.raise_all.ensures v.1 in
    let lost = subst (λ z. IsLost z c.turn.new.self) e c.in_err-turned.ensures.err in
    if_err c.from_residual.result (record {
      node = v.0;
      was = v.1;
      new = c.turn.new.self;
      lost = lost;
      is = ap (λ us. set us c.args.at c.turn.new.self) c.raise_all.ensures;
    })

pub settle_links-requires-clause-numbered : goal.settle_links-requires-clause-numbered
settle_links-requires-clause-numbered c =
    let vs = c.args.nodes.now in
    let at = c.args.at in
    let new = c.turn.new.self in
    let v = some_at vs at c.requires.place in
    let e = raised_at c.args.clock vs c.raise_all.new.nodes at c.index-nodes-at.result v.0 c.raise_all.ensures v.1 in
    let turns = subst (λ z. Turns z c.args.act new c.in_ok-turned.turned) e c.in_ok-turned.ensures.turned in
    subst (λ us. AreNumbered (set us at new)) (sym c.raise_all.ensures)
    (mid_numbered c.args.clock at vs v.0 new v.1 (turn_keeps (raised c.args.clock v.0) new c.args.act c.in_ok-turned.turned turns) c.requires.numbered)

pub settle_links-requires-clause-wired : goal.settle_links-requires-clause-wired
settle_links-requires-clause-wired c =
    let vs = c.args.nodes.now in
    let at = c.args.at in
    let new = c.turn.new.self in
    let v = some_at vs at c.requires.place in
    let e = raised_at c.args.clock vs c.raise_all.new.nodes at c.index-nodes-at.result v.0 c.raise_all.ensures v.1 in
    let turns = subst (λ z. Turns z c.args.act new c.in_ok-turned.turned) e c.in_ok-turned.ensures.turned in
    subst (λ us. AreWired (wires_in (set us at new) c.args.rest.now)) (sym c.raise_all.ensures)
    (mid_wired c.args.clock at vs v.0 new v.1 (turn_keeps (raised c.args.clock v.0) new c.args.act c.in_ok-turned.turned turns) c.args.rest.now c.requires.wired)

pub returns-clause-acted : goal.returns-clause-acted
returns-clause-acted c =
    let vs = c.args.nodes.now in
    let at = c.args.at in
    let new = c.turn.new.self in
    let v = some_at vs at c.requires.place in
    let e = raised_at c.args.clock vs c.raise_all.new.nodes at c.index-nodes-at.result v.0 c.raise_all.ensures v.1 in
    record {
      node = v.0;
      was = v.1;
      new = new;
      turns = subst (λ z. Turns z c.args.act new c.in_ok-turned.turned) e c.in_ok-turned.ensures.turned;
      booted = c.in_ok-turned.ensures.still;
      settled = subst (λ us. SettlesOf at c.args.rest.now (set us at new) c.settle_links.new.nodes) c.raise_all.ensures c.settle_links.ensures.settled;
    }
