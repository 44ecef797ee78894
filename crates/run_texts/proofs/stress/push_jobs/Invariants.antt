use Rattle.std.proofs.Common.{◌≡◌, ◌-◌, ◌++◌}
use Rattle.std.specs.Prelude.{map}
use Rattle.std.specs.List.{flat_map, range_with_len}
use Rattle.run_texts.specs.Stress.{all_jobs, job_lines}
use Rattle.run_texts.proofs.stress.push_jobs.Given as goal

abbrev pub invariant-loop-job : goal.invariant-loop-job
invariant-loop-job l =
    l.out.items ++ flat_map (job_lines (map (λ line. line.now) l.lines)) (range_with_len l.job (l.jobs - l.job)) ≡ l.fn.out.items ++ all_jobs (map (λ line. line.now) l.lines) l.jobs
