use Rattle.std.proofs.Common.{ap, ◌∙◌}
use Rattle.slot_space.specs.Limits.{slot_limit}
use Rattle.slot_space.specs.Sets.{has}
use Rattle.slot_space.proofs.Lemmas.{lowest_run-same}
use Rattle.negotiate.specs.Buying.{BuyerView, hand, is_in_one}
use Rattle.negotiate.proofs.buyer.Buyer.decide.Goals as goal

pub returns : goal.returns
returns c = c.lowest_run.ensures ∙ lowest_run-same (λ s. has s c.together.result) (is_in_one (hand c.args.own.now c.args.self.now.loans)) c.args.count slot_limit (λ s. c.together.ensures s ∙ ap (λ (b : BuyerView). is_in_one (hand c.args.own.now b.loans) s) c.self.view_is)
