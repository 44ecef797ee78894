use Rattle.std.proofs.Common.{subst, sym}
use Rattle.run_trace.specs.declared.call.Call.{Call}
use Rattle.node_state.specs.Asking.{IsChecked}
use Rattle.node_state.proofs.checks.check_numbers.Goals as goal

pub returns-in-Join : goal.returns-in-Join
returns-in-Join c x = subst (λ (k : Call). IsChecked c.args.program.now c.args.t.now x k c.check_join.result) (sym c.in-Join.is) (c.check_join.ensures x)

pub returns-in-Isomalloc : goal.returns-in-Isomalloc
returns-in-Isomalloc c x =
    subst (λ (k : Call). IsChecked c.args.program.now c.args.t.now x k c.check_len.result) (sym c.in-Isomalloc.is) (c.check_len.ensures c.args.t.now x)
