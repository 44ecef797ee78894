use Rattle.std.proofs.Common.{◌≡◌, ℕ, Some, ◌∙◌, sym, ap, arith}
use Rattle.run_trace.specs.Program.{Program, processors_of}
use Rattle.run_trace.specs.declared.entry.Setup.{Setup}
use Rattle.cluster.specs.Between.{run_on}
use Rattle.cluster.proofs.Picks.{run_here, act_later, no_act, past_acts}
use Rattle.cluster.proofs.choosing.act_of.Goals as goal

pub loop-vp-preserved-then-not-has_pick : goal.loop-vp-preserved-then-not-has_pick
loop-vp-preserved-then-not-has_pick c =
    let v = c.args.node.now in
    no_act v (run_on v) c.loop-vp.vp (processors_of v.program) c.loop-vp.left _ _ (omega (arith, ap processors_of c.requires)) (sym (c.has_pick.ensures v.program.setup.quantum) ∙ c.if-not-has_pick.true) c.loop-vp.invariant

pub loop-vp-preserved : goal.loop-vp-preserved
loop-vp-preserved c =
    let v = c.args.node.now in
    act_later v (run_on v) c.loop-vp.vp (processors_of v.program) c.loop-vp.left _ _ (omega (arith, ap processors_of c.requires)) (sym (c.has_pick.ensures v.program.setup.quantum) ∙ c.if-not-has_pick.false)
    c.if-left-eq0.false c.loop-vp.invariant

pub returns : goal.returns
returns c =
    let v = c.args.node.now in
    past_acts v (run_on v) c.loop-vp.vp (processors_of v.program) c.loop-vp.left _ _ c.later_act.result (omega (arith, ap processors_of c.requires)) c.later_act.ensures c.loop-vp.invariant

pub returns-then-left-eq0 : goal.returns-then-left-eq0
returns-then-left-eq0 c =
    let v = c.args.node.now in
    let own = ap (λ (s : Setup). s.quantum) c.setup.ensures ∙ ap (λ (p : Program). p.setup.quantum) (sym c.requires) in
    run_here v c.loop-vp.vp (processors_of v.program) c.loop-vp.left c.me.result _ _ _ (omega (arith, ap processors_of c.requires)) (sym (c.has_pick.ensures v.program.setup.quantum) ∙ c.if-not-has_pick.false)
    c.if-left-eq0.true c.me.ensures.value own c.loop-vp.invariant
