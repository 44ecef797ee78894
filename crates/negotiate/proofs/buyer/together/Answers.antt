use Rattle.std.proofs.Common.{sym, ◌∙◌}
use Rattle.negotiate.proofs.Hands.{joins, passes, together}
use Rattle.negotiate.proofs.buyer.together.Goals as goal
use Rattle.negotiate.proofs.buyer.together.Goals.{in-Some, in-None}

pub loop-loan-preserved : goal.loop-loan-preserved
loop-loan-preserved c s =
    elim c.match-loan.branch [
      | in-Some w ↦ joins c.loop-loan.all w.in-Some.set c.match-loan.all c.args.loans.now c.loop-loan.loan-index c.loan-item.result c.loop-loan-test.true (sym c.loan-item.is ∙ w.in-Some.is) (w.all-is ∙ w.union_with.ensures) s
      | in-None w ↦ passes c.loop-loan.all c.match-loan.all c.args.loans.now c.loop-loan.loan-index c.loan-item.result c.loop-loan-test.true (sym c.loan-item.is ∙ w.in-None.is) w.all-is s
    ] ∙ c.loop-loan.invariant s

pub returns : goal.returns
returns c = together c.args.own.now c.loop-loan.all c.args.loans.now c.loop-loan.loan-index c.loop-loan-test.false c.loop-loan.invariant
