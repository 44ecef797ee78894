use Rattle.std.proofs.Common.{◌≡◌, ℕ, ◌∙◌, refl, sym, ap, arith}
use Rattle.run_trace.specs.Program.{Program, processors_of}
use Rattle.run_trace.specs.declared.entry.Setup.{Setup}
use Rattle.cluster.specs.Between.{acts_from, run_on}
use Rattle.cluster.proofs.Lists.{runs_more, acts_skip, none_left}
use Rattle.cluster.proofs.listing.push_runs.Goals as goal

pub loop-vp-preserved : goal.loop-vp-preserved
loop-vp-preserved c =
    let v = c.args.node.now in
    let many = ap processors_of c.requires in
    let own = ap (λ (s : Setup). s.quantum) c.setup.ensures ∙ ap (λ (p : Program). p.setup.quantum) (sym c.requires) in
    runs_more v c.loop-vp.vp (processors_of v.program) c.me.result _ _ _ _ (omega (arith, many)) c.in_ok-push.ensures.items own c.me.ensures.value
    (sym (c.has_pick.ensures v.program.setup.quantum) ∙ c.if-not-has_pick.false) c.loop-vp.invariant

pub loop-vp-preserved-then-not-has_pick : goal.loop-vp-preserved-then-not-has_pick
loop-vp-preserved-then-not-has_pick c =
    let v = c.args.node.now in
    let many = ap processors_of c.requires in
    acts_skip v (run_on v) c.loop-vp.vp (processors_of v.program) _ _ (omega (arith, many)) (sym (c.has_pick.ensures v.program.setup.quantum) ∙ c.if-not-has_pick.true) c.loop-vp.invariant

pub returns : goal.returns
returns c =
    let v = c.args.node.now in
    let many = ap processors_of c.requires in
    none_left (acts_from v (run_on v)) c.loop-vp.vp (processors_of v.program) _ _ refl (omega (arith, many)) c.loop-vp.invariant
