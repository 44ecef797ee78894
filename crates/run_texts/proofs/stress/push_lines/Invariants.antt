use Rattle.std.proofs.Common.{◌≡◌, ◌++◌, drop}
use Rattle.std.specs.Prelude.{map}
use Rattle.run_texts.specs.Stress.{job_lines}
use Rattle.run_texts.proofs.stress.push_lines.Given as goal

abbrev pub invariant-loop-line : goal.invariant-loop-line
invariant-loop-line l = l.out.items ++ job_lines (map (λ line. line.now) (drop l.line-index l.lines)) l.job ≡ l.fn.out.items ++ job_lines (map (λ line. line.now) l.lines) l.job
