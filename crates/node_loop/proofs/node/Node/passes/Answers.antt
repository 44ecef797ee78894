use Rattle.std.proofs.Common.{rules, arith, subst, sym, ◌<◌, ◌≤◌}
use Rattle.run_trace.specs.Program.{Program, quantum_limit}
use Rattle.node_loop.specs.Passes.{acts_in}
use Rattle.node_loop.proofs.Rounding.{fails_after, no_passes, passes_full, passes_idle, passes_more, passes_over}
use Rattle.node_loop.proofs.Stepping.{if_err}
use Rattle.node_loop.proofs.node.Node.passes.Goals as goal

pub loop-n-init : goal.loop-n-init
loop-n-init g c = no_passes c.args.events c.args.self.now c.requires.booted

pub pass-requires-clause-entries : goal.pass-requires-clause-entries
pass-requires-clause-entries g c = let i = c.loop-n.invariant in omega (arith, i.does.entries, i.many, c.requires.entries)

pub pass-requires-clause-quantum : goal.pass-requires-clause-quantum
pass-requires-clause-quantum g c = λ _ _. subst (λ (q : Program). (0 < q.setup.quantum) × (q.setup.quantum ≤ quantum_limit)) (sym c.loop-n.invariant.does.program) c.requires.quantum

pub pass-requires-clause-booted : goal.pass-requires-clause-booted
pass-requires-clause-booted g c = λ _ _. c.loop-n.invariant.does.booted

pub returns-in_err-done-clause-err : goal.returns-in_err-done-clause-err
returns-in_err-done-clause-err g c =
    let l = c.loop-n in
    if_err c.from_residual.result (fails_after (acts_in l.invariant.passes) c.args.self.now l.self c.pass.new.self l.invariant.does c.in_err-done.ensures.err)

pub returns-then-done-eq0-clause-ok : goal.returns-then-done-eq0-clause-ok
returns-then-done-eq0-clause-ok g c =
    let l = c.loop-n in
    passes_idle c.args.events l._n l.left c.in_ok-done.done c.args.self.now l.self c.pass.new.self l.invariant c.in_ok-done.ensures.ok (search rules)

pub returns-then-left-eq0-clause-ok : goal.returns-then-left-eq0-clause-ok
returns-then-left-eq0-clause-ok g c =
    let l = c.loop-n in
    let few = c.in_ok-done.ensures.ok.few in
    passes_full c.args.events l._n l.left c.in_ok-done.done c.args.self.now l.self c.pass.new.self l.invariant c.in_ok-done.ensures.ok (search (rules, few))

pub loop-n-preserved : goal.loop-n-preserved
loop-n-preserved g c =
    let l = c.loop-n in
    let few = c.in_ok-done.ensures.ok.few in
    passes_more c.args.events l._n l.left c.in_ok-done.done c.args.self.now l.self c.pass.new.self l.invariant c.in_ok-done.ensures.ok (search rules) (search (rules, few))

pub returns-clause-ok : goal.returns-clause-ok
returns-clause-ok g c =
    let l = c.loop-n in
    passes_over c.args.events l._n l.left c.args.self.now l.self (search rules) l.invariant
