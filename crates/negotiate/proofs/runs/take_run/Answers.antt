use Rattle.std.proofs.Common.{◌≡◌, ◌-◌, ◌<◌, min, ◌∙◌, ap, arith}
use Rattle.slot_space.specs.Limits.{slot_limit}
use Rattle.slot_space.specs.Sets.{minus, run}
use Rattle.negotiate.proofs.CutOff.{past_all, starts_low, cut_off}
use Rattle.negotiate.proofs.runs.take_run.Goals as goal

pub overflow_sub-first-inside : goal.overflow_sub-first-inside
overflow_sub-first-inside c =
    let low : c.first.inside.0 < slot_limit = starts_low c.args.set.now c.first.inside.0 c.in-Some.field-0 c.in-Some.ensures.proper c.in-Some.ensures.least in
    omega arith

pub remove_run-requires : goal.remove_run-requires
remove_run-requires c =
    let low : c.first.inside.0 < slot_limit = starts_low c.args.set.now c.first.inside.0 c.in-Some.field-0 c.in-Some.ensures.proper c.in-Some.ensures.least in
    let same : c.first.inside.0 ≡ c.args.first = c.first.view_is in
    omega (arith, same, c.min.ensures)

pub returns-in-Some : goal.returns-in-Some
returns-in-Some c =
    let cut : c.min.result ≡ min c.args.count (slot_limit - c.args.first) = c.min.ensures ∙ ap (λ f. min c.args.count (slot_limit - f)) c.first.view_is in
    c.remove_run.ensures ∙ ap (λ n. minus c.args.set.now (run c.args.first n)) cut ∙ cut_off c.args.set.now c.args.first c.args.count c.in-Some.ensures.proper

pub returns-in-None : goal.returns-in-None
returns-in-None c = past_all c.args.set.now c.args.first c.args.count (rw (← c.first.view_is) c.in-None.ensures.least)
