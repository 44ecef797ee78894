use Rattle.std.proofs.Common.{rules, ◌≡◌, refl}
use Rattle.rv_step.specs.Memory.{slots_of}
use Rattle.node_thread.proofs.Own.{alone}
use Rattle.node_thread.proofs.Aligned.{born_so}
use Rattle.node_thread.proofs.thread.Thread.newborn.Goals as goal

pub invariant_of-result : goal.invariant_of-result
invariant_of-result c =
    let held : slots_of c.grant.new.self.0 ≡ c.only.result = search rules in (
      alone c.args.slot _ c.only.result c.new.result held c.only.ensures c.new.ensures,
      born_so c.args.entry c.args.a0 c.args.sp c.args.priority c.birth-hart.result _ c.birth-hart.ensures.state refl refl c.requires.aligned c.requires.low,
    )
