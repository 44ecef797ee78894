use Rattle.std.proofs.Common.{refl}
use Rattle.wires.specs.Link.{SameLink}
use Rattle.wires.proofs.Changed.{Wrote, wrote_at, changed, stays_wired, spare_at}
use Rattle.wires.proofs.ends.Ends.reserve.Goals as goal

pub returns-in_err-reserve-clause-same : goal.returns-in_err-reserve-clause-same
returns-in_err-reserve-clause-same g c =
    let w : Wrote c.args.to c.args.self.now _ c.index_mut.result.now c.reserve.new.self = wrote_at c.args.to c.to.inside.0 c.args.self.now _ c.index_mut.result.now c.reserve.new.self c.to.view_is c.index_mut.ensures.value c.requires refl refl in
    changed c.args.to SameLink c.args.self.now _ c.index_mut.result.now c.reserve.new.self w c.reserve.ensures.same

pub returns-in_err-reserve-clause-wired : goal.returns-in_err-reserve-clause-wired
returns-in_err-reserve-clause-wired g c =
    let w : Wrote c.args.to c.args.self.now _ c.index_mut.result.now c.reserve.new.self = wrote_at c.args.to c.to.inside.0 c.args.self.now _ c.index_mut.result.now c.reserve.new.self c.to.view_is c.index_mut.ensures.value c.requires refl refl in
    stays_wired c.args.to c.args.self.now _ c.index_mut.result.now c.reserve.new.self w c.reserve.ensures.rings

pub returns : goal.returns
returns g c =
    let w : Wrote c.args.to c.args.self.now _ c.index_mut.result.now c.reserve.new.self = wrote_at c.args.to c.to.inside.0 c.args.self.now _ c.index_mut.result.now c.reserve.new.self c.to.view_is c.index_mut.ensures.value c.requires refl refl in
    record { same = changed c.args.to SameLink c.args.self.now _ c.index_mut.result.now c.reserve.new.self w c.reserve.ensures.same; ok = spare_at c.args.to c.args.count c.args.self.now _ c.index_mut.result.now c.reserve.new.self w c.in_ok-reserve.ensures.ok; wired = stays_wired c.args.to c.args.self.now _ c.index_mut.result.now c.reserve.new.self w c.reserve.ensures.rings }
