use Rattle.std.proofs.Common.{◌∙◌, sym, ap, arith}
use Rattle.run_trace.specs.Program.{processors_of}
use Rattle.cluster.specs.Between.{run_on}
use Rattle.cluster.proofs.Picks.{count_act, count_no_act, count_all_acts}
use Rattle.cluster.proofs.choosing.ready_processors.Goals as goal

pub loop-vp-preserved : goal.loop-vp-preserved
loop-vp-preserved c =
    let v = c.args.node.now in
    record {
      all = count_act v (run_on v) c.loop-vp.vp (processors_of v.program) c.loop-vp.ready _ (omega (arith, ap processors_of c.requires)) (sym (c.has_pick.ensures v.program.setup.quantum) ∙ c.if-not-has_pick.false) c.loop-vp.invariant.all;
      few = (let h = c.loop-vp.invariant.few in omega (arith, h));
    }

pub loop-vp-preserved-then-not-has_pick : goal.loop-vp-preserved-then-not-has_pick
loop-vp-preserved-then-not-has_pick c =
    let v = c.args.node.now in
    record {
      all = count_no_act v (run_on v) c.loop-vp.vp (processors_of v.program) c.loop-vp.ready _ (omega (arith, ap processors_of c.requires)) (sym (c.has_pick.ensures v.program.setup.quantum) ∙ c.if-not-has_pick.true) c.loop-vp.invariant.all;
      few = (let h = c.loop-vp.invariant.few in omega (arith, h));
    }

pub returns-clause-ready : goal.returns-clause-ready
returns-clause-ready c =
    let v = c.args.node.now in
    count_all_acts v (run_on v) c.loop-vp.vp (processors_of v.program) c.loop-vp.ready _ (omega (arith, ap processors_of c.requires)) c.loop-vp.invariant.all
