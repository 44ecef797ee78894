use Rattle.std.proofs.lemmas.Slice.Eq.{slice_eq-Decides}
use Rattle.run_judge.proofs.SameLabels.{tells}
use Rattle.run_judge.proofs.labels.same_labels.Goals as goal

pub returns : goal.returns
returns c = slice_eq-Decides tells c.args.a.now c.args.b.now c.eq.result c.eq.ensures
