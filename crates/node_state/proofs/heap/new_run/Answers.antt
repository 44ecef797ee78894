use Rattle.std.proofs.Common.{ap, ◌∙◌}
use Rattle.run_trace.specs.Machine.{free_run}
use Rattle.node_state.proofs.Lowest.{runs_within, runs_new}
use Rattle.node_state.proofs.heap.new_run.Goals as goal

pub returns-clause-within : goal.returns-clause-within
returns-clause-within c = runs_within c.remove_all.new.self c.args.count c.lowest_run.result c.contains-some.ensures.proper c.requires c.lowest_run.ensures

pub returns-clause-new : goal.returns-clause-new
returns-clause-new c = runs_new c.args.own.now c.args.held.now c.args.count c.lowest_run.result (c.lowest_run.ensures ∙ ap (λ xs. free_run xs c.args.count) c.remove_all.ensures)
