use Rattle.std.proofs.Common.{rules, subst}
use Rattle.run_trace.specs.declared.entry.Act.TheVariants.{Take}
use Rattle.node_loop.specs.Turns.{Turns}
use Rattle.node_loop.proofs.Rounding.{fails_now, no_takes, take_did, take_idle}
use Rattle.node_loop.proofs.Stepping.{if_err}
use Rattle.node_loop.proofs.node.Node.take_each.Goals as goal

pub loop-sender-init : goal.loop-sender-init
loop-sender-init g c = no_takes c.args.room c.args.self.now c.requires.booted

pub returns-in_err-event-clause-err : goal.returns-in_err-event-clause-err
returns-in_err-event-clause-err g c =
    let l = c.loop-sender in
    if_err c.from_residual.result (fails_now l.invariant.acts c.args.self.now l.self c.event.new.self l.invariant.does c.in_err-event.ensures.err)

pub loop-sender-preserved-in-Idle : goal.loop-sender-preserved-in-Idle
loop-sender-preserved-in-Idle g c =
    let l = c.loop-sender in
    take_idle c.args.room l.sender l.taken c.args.self.now l.self c.event.new.self l.invariant
    (subst (λ t. Turns l.self (Take l.sender) c.event.new.self t) c.in-Idle.is c.in_ok-event.ensures.turned) c.in_ok-event.ensures.still

pub loop-sender-preserved : goal.loop-sender-preserved
loop-sender-preserved g c =
    let l = c.loop-sender in
    take_did c.args.room l.sender l.taken c.args.self.now l.self c.event.new.self l.invariant (search rules) (search rules)
    (subst (λ t. Turns l.self (Take l.sender) c.event.new.self t) c.in-Did.is c.in_ok-event.ensures.turned) c.in_ok-event.ensures.still
