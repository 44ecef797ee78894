use Rattle.node_state.specs.Events.{program}
use Rattle.pm2_top.proofs.Acts.{fine_of, countable}
use Rattle.pm2_top.proofs.top.acts_in.Goals as goal

pub read_schedule-requires : goal.read_schedule-requires
read_schedule-requires c = countable c.args.schedule.now c.in-Some.text c.as_slice.result.now c.requires.within c.in-Some.is c.as_slice.ensures c.schedules_fit.ensures.lines

pub returns-in-Some-clause-fine : goal.returns-in-Some-clause-fine
returns-in-Some-clause-fine c image = fine_of (program c.args.setup.now image) c.as_slice.result.now c.read_schedule.result c.read_schedule.ensures c.schedules_fit.ensures.acts
