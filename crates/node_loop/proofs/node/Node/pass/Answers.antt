use Rattle.std.proofs.Common.{arith, subst, sym, ◌<◌, ◌≤◌}
use Rattle.run_trace.specs.Program.{Program, quantum_limit}
use Rattle.node_loop.proofs.Rounding.{fails_after, pass_done}
use Rattle.node_loop.proofs.Stepping.{if_err}
use Rattle.node_loop.proofs.node.Node.pass.Goals as goal

pub run_each-requires-clause-entries : goal.run_each-requires-clause-entries
run_each-requires-clause-entries g c = let t = c.in_ok-takes.ensures.ok in omega (arith, t.does.entries, t.many, t.few, c.requires.entries)

pub run_each-requires-clause-quantum : goal.run_each-requires-clause-quantum
run_each-requires-clause-quantum g c = λ _ _. subst (λ (q : Program). (0 < q.setup.quantum) × (q.setup.quantum ≤ quantum_limit)) (sym c.in_ok-takes.ensures.ok.does.program) c.requires.quantum

pub run_each-requires-clause-booted : goal.run_each-requires-clause-booted
run_each-requires-clause-booted g c = λ _ _. c.in_ok-takes.ensures.ok.does.booted

pub returns-in_err-runs-clause-err : goal.returns-in_err-runs-clause-err
returns-in_err-runs-clause-err g c =
    let t = c.in_ok-takes.ensures.ok in
    if_err c.from_residual-in_err-runs.result (fails_after t.acts c.args.self.now c.take_each.new.self c.run_each.new.self t.does c.in_err-runs.ensures.err)

pub returns-clause-ok : goal.returns-clause-ok
returns-clause-ok g c =
    pass_done c.args.room c.in_ok-takes.takes c.in_ok-runs.runs c.args.self.now c.take_each.new.self c.run_each.new.self c.in_ok-takes.ensures.ok c.in_ok-runs.ensures.ok
