use Rattle.std.proofs.Common.{◌≡◌, ◌++◌, drop}
use Rattle.std.specs.List.{flat_map}
use Rattle.run_texts.specs.Stress.{filled}
use Rattle.run_texts.proofs.stress.push_line.Given as goal

abbrev pub invariant-loop-letter : goal.invariant-loop-letter
invariant-loop-letter l = l.out.items ++ flat_map (filled l.job) (drop l.letter-index l.line) ≡ l.fn.out.items ++ flat_map (filled l.job) l.line
