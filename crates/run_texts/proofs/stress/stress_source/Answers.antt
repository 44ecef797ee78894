use Rattle.std.specs.Prelude.{codes}
use Rattle.run_texts.specs.Stress.{all_jobs, in_job, in_main}
use Rattle.run_texts.proofs.Joins.{four}
use Rattle.run_texts.proofs.stress.stress_source.Goals as goal

pub returns : goal.returns
returns c =
    let jobs = c.args.jobs in
    let first = c.push_jobs.new.out.items in
    four (codes "main:\n") (all_jobs in_main jobs) (codes "  mv a0, s1\n  ret\n") (all_jobs in_job jobs) c.extend_from_slice.new.self.items c.push_jobs.new.out.items c.extend_from_slice-2.new.self.items c.push_jobs-2.new.out.items
    (rw c.new-out.ensures.items at c.in_ok-extend_from_slice.ensures.items) (rw c.in_main.ensures at c.in_ok-push_jobs.ensures) c.in_ok-extend_from_slice-2.ensures.items (rw c.in_job.ensures at c.in_ok-push_jobs-2.ensures)
