use Rattle.pm2_top.proofs.Ran.{is_told_as, source, schedule, usage, bad, bad_schedule, no_settings, usual, missing, as_read, as_written}
use Rattle.pm2_top.proofs.Traced.{legal, carried}
use Rattle.pm2_top.proofs.top.pm2_main.Goals as goal

pub returns-clause-ended : goal.returns-clause-ended
returns-clause-ended g c = (c.obey-ended.result, c.obey-ended.ensures.ended, c.tell.ensures.told, c.obey-ended.ensures.counted)

pub returns-clause-legal : goal.returns-clause-legal
returns-clause-legal g c = legal _ _ c.requires.wires _ _ _ c.obey-ended.result c.tell.result.trace c.obey-ended.ensures.ended c.tell.ensures.told.trace

pub returns-clause-carried : goal.returns-clause-carried
returns-clause-carried g c =
    let r = c.tell.ensures.told in
    carried _ _ c.requires.wires _ _ _ c.obey-ended.result c.tell.result c.obey-ended.ensures.ended (is_told_as c.obey-ended.result c.tell.result.status _ _ _ _ r.told) r.trace r.wires

pub returns-clause-usage : goal.returns-clause-usage
returns-clause-usage g c = usage _ _ _ _ _ c.obey-ended.result c.tell.result.status c.obey-ended.ensures.ended (is_told_as c.obey-ended.result c.tell.result.status _ _ _ _ c.tell.ensures.told.told)

pub returns-clause-no_settings : goal.returns-clause-no_settings
returns-clause-no_settings g c = no_settings _ _ _ _ _ c.obey-ended.result c.tell.result.status c.obey-ended.ensures.ended (is_told_as c.obey-ended.result c.tell.result.status _ _ _ _ c.tell.ensures.told.told)

pub returns-clause-missing : goal.returns-clause-missing
returns-clause-missing g c = missing _ _ c.obey-ended.result c.tell.result.status c.obey-ended.ensures.missing (is_told_as c.obey-ended.result c.tell.result.status _ _ _ _ c.tell.ensures.told.told)

pub returns-clause-source : goal.returns-clause-source
returns-clause-source g c = source _ _ _ _ _ c.obey-ended.result c.tell.result.status c.obey-ended.ensures.ended (is_told_as c.obey-ended.result c.tell.result.status _ _ _ _ c.tell.ensures.told.told)

pub returns-clause-bad : goal.returns-clause-bad
returns-clause-bad g c = bad _ _ _ _ _ c.obey-ended.result c.tell.result.status c.obey-ended.ensures.ended (is_told_as c.obey-ended.result c.tell.result.status _ _ _ _ c.tell.ensures.told.told)

pub returns-clause-schedule : goal.returns-clause-schedule
returns-clause-schedule g c = schedule _ _ _ _ _ c.obey-ended.result c.tell.result.status c.obey-ended.ensures.ended (is_told_as c.obey-ended.result c.tell.result.status _ _ _ _ c.tell.ensures.told.told)

pub returns-clause-bad_schedule : goal.returns-clause-bad_schedule
returns-clause-bad_schedule g c = bad_schedule _ _ _ _ _ c.obey-ended.result c.tell.result.status c.obey-ended.ensures.ended (is_told_as c.obey-ended.result c.tell.result.status _ _ _ _ c.tell.ensures.told.told)

pub returns-clause-usual : goal.returns-clause-usual
returns-clause-usual g c =
    let told = is_told_as c.obey-ended.result c.tell.result.status _ _ _ _ c.tell.ensures.told.told in
    usual _ _ _ _ _ c.obey-ended.result c.tell.result.status _ _ _ c.obey-ended.ensures.ended told
    (λ is. c.obey-ended.ensures.read (as_read c.obey-ended.result c.tell.result.status told is)) (λ is. c.obey-ended.ensures.failed (as_written c.obey-ended.result c.tell.result.status told is))

pub returns-clause-read : goal.returns-clause-read
returns-clause-read g c is =
    c.obey-ended.ensures.read (as_read c.obey-ended.result c.tell.result.status (is_told_as c.obey-ended.result c.tell.result.status _ _ _ _ c.tell.ensures.told.told) is)

pub returns-clause-write : goal.returns-clause-write
returns-clause-write g c is =
    c.obey-ended.ensures.failed (as_written c.obey-ended.result c.tell.result.status (is_told_as c.obey-ended.result c.tell.result.status _ _ _ _ c.tell.ensures.told.told) is)
