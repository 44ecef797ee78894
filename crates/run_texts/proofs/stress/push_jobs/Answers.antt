use Rattle.std.proofs.Common.{◌++◌}
use Rattle.std.specs.Prelude.{map}
use Rattle.run_texts.specs.Stress.{all_jobs, job_lines}
use Rattle.basics.proofs.Lemmas.{one_more}
use Rattle.run_texts.proofs.stress.push_jobs.Goals as goal

pub loop-job-preserved : goal.loop-job-preserved
loop-job-preserved c =
    let lines = map (λ line. line.now) c.args.lines.now in
    one_more (job_lines lines) c.loop-job.out.items c.push_lines.new.out.items (c.args.out.now.items ++ all_jobs lines c.args.jobs) c.args.jobs c.loop-job.job
    c.loop-job-test.true c.in_ok-push_lines.ensures c.loop-job.invariant
