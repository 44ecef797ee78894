use Rattle.std.proofs.Common.{arith, ◌≡◌, ◌-◌, suc, sym, ap, ◌∙◌}
use Rattle.iso_blocks.specs.Neighbours.{end_before}
use Rattle.iso_blocks.proofs.Beside.{end_before-read}
use Rattle.iso_blocks.proofs.live.end_before.Goals as goal

pub returns : goal.returns
returns c =
    let up : suc (c.args.k - 1) ≡ c.args.k = omega arith in
    sym (end_before-read 0 c.args.live.now (c.args.k - 1) (0, 0) (omega arith)) ∙ ap (end_before 0 c.args.live.now) up
