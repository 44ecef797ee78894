use Rattle.pm2_top.proofs.Ran.{on_err, whole_part}
use Rattle.pm2_top.proofs.delivery.deliver.Goals as goal

pub returns-clause-err : goal.returns-clause-err
returns-clause-err g c = on_err c.put_files.result _ (whole_part _ _ _ c.in_ok-tell_summary.ensures.ok)
