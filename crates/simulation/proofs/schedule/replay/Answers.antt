use Rattle.simulation.proofs.Course.{runs_out, shown_out, carried_out, failed_out, uncounted_out}
use Rattle.simulation.proofs.schedule.replay.Goals as goal

pub ended-requires : goal.ended-requires
ended-requires g c = let r = c.do_acts-end.ensures.ran in (r.entries, r.trace)

pub returns-clause-replayed : goal.returns-clause-replayed
returns-clause-replayed g c = let r = c.do_acts-end.ensures.ran in runs_out _ _ _ _ _ _ _ r c.in-Ok.ensures.program c.ended.result (c.ended.ensures r.entries r.trace)

pub returns-clause-shown : goal.returns-clause-shown
returns-clause-shown g c = let r = c.do_acts-end.ensures.ran in shown_out _ _ _ _ _ _ _ r c.in-Ok.ensures.program c.ended.result (c.ended.ensures r.entries r.trace)

pub returns-clause-carried : goal.returns-clause-carried
returns-clause-carried g c = let r = c.do_acts-end.ensures.ran in carried_out _ _ _ _ _ _ _ r c.in-Ok.ensures.program c.ended.result (c.ended.ensures r.entries r.trace) _ c.in-Ok.ensures.wires

pub returns-clause-failed : goal.returns-clause-failed
returns-clause-failed g c e = let r = c.do_acts-end.ensures.ran in c.do_acts-end.ensures.failed (failed_out _ _ _ _ _ _ _ r c.in-Ok.ensures.program c.ended.result (c.ended.ensures r.entries r.trace) e)

pub returns-clause-uncounted : goal.returns-clause-uncounted
returns-clause-uncounted g c some other =
    let r = c.do_acts-end.ensures.ran in
    c.do_acts-end.ensures.uncounted (uncounted_out _ _ _ _ _ _ _ r c.in-Ok.ensures.program c.ended.result (c.ended.ensures r.entries r.trace) some other)
