use Rattle.std.proofs.Common.{arith, ap, ◌∙◌, sym, ◌≡◌}
use Rattle.run_trace.specs.declared.entry.Entry.{Entry}
use Rattle.run_judge.proofs.SoundLemmas.{boot_is}
use Rattle.run_judge.proofs.judging.is_beginning.Goals as goal

pub returns-in-Boot : goal.returns-in-Boot
returns-in-Boot c =
    let f = c.are_first_labels.ensures in
    let labels : c.as_slice.result.now ≡ c.args.entry.now.labels = c.as_slice.ensures in (
      λ h. boot_is c.args.program.now c.args.number c.args.entry.now (omega arith) (sym c.node.view_is ∙ c.if-node-number.false) (omega arith) c.in-Boot.is (sym labels ∙ f.0 h),
      λ e. f.1 (labels ∙ ap (λ (x : Entry). x.labels) e),
    )
