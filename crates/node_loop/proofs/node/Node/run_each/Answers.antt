use Rattle.std.proofs.Common.{rules, subst}
use Rattle.run_trace.specs.declared.entry.Act.TheVariants.{Run}
use Rattle.node_loop.specs.Turns.{Turns}
use Rattle.node_loop.proofs.Rounding.{fails_now, no_runs, run_did, run_idle}
use Rattle.node_loop.proofs.Stepping.{if_err}
use Rattle.node_loop.proofs.node.Node.run_each.Goals as goal

pub loop-vp-init : goal.loop-vp-init
loop-vp-init g c = no_runs c.args.room c.args.self.now c.requires.booted

pub returns-in_err-event-clause-err : goal.returns-in_err-event-clause-err
returns-in_err-event-clause-err g c =
    let l = c.loop-vp in
    if_err c.from_residual.result (fails_now l.invariant.acts c.args.self.now l.self c.event.new.self l.invariant.does c.in_err-event.ensures.err)

pub loop-vp-preserved-in-Idle : goal.loop-vp-preserved-in-Idle
loop-vp-preserved-in-Idle g c =
    let l = c.loop-vp in
    run_idle c.args.room l.vp l.ran c.quantum-limit.result c.args.self.now l.self c.event.new.self l.invariant c.quantum-limit.ensures c.in_ok-event.ensures.still
    (subst (λ t. Turns l.self (Run l.vp c.quantum-limit.result) c.event.new.self t) c.in-Idle.is c.in_ok-event.ensures.turned)

pub loop-vp-preserved : goal.loop-vp-preserved
loop-vp-preserved g c =
    let l = c.loop-vp in
    run_did c.args.room l.vp l.ran c.quantum-limit.result c.args.self.now l.self c.event.new.self l.invariant c.quantum-limit.ensures c.in_ok-event.ensures.still (search rules) (search rules)
    (subst (λ t. Turns l.self (Run l.vp c.quantum-limit.result) c.event.new.self t) c.in-Did.is c.in_ok-event.ensures.turned)
