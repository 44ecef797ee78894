use Rattle.std.proofs.Common.{◌∙◌, sym, arith}
use Rattle.slot_space.specs.Limits.{slot_limit}
use Rattle.slot_space.specs.Sets.{has}
use Rattle.slot_space.specs.Words.{bit_of, members}
use Rattle.slot_space.specs.WordsBack.{has-members}
use Rattle.slot_space.proofs.Runs.{lowest_run-same, lowest_run-found}
use Rattle.slot_space.proofs.slot_set.SlotSet.lowest_run.Goals as goal

pub overflow_cast-result : goal.overflow_cast-result
overflow_cast-result c = let k = lowest_run-found (bit_of c.self.inside.words) c.args.count slot_limit c.in-Some.place (sym (c.in-Some.ensures {u = tt})) in omega (arith, k.below)

pub returns-in-Some : goal.returns-in-Some
returns-in-Some c = rw (← c.self.view_is) (c.in-Some.ensures {u = tt} ∙ lowest_run-same (bit_of c.self.inside.words) (λ s. has s (members c.self.inside.words)) c.args.count slot_limit (λ s. sym (has-members c.self.inside.words s)))

pub returns-in-None : goal.returns-in-None
returns-in-None c = rw (← c.self.view_is) (c.in-None.ensures {u = tt} ∙ lowest_run-same (bit_of c.self.inside.words) (λ s. has s (members c.self.inside.words)) c.args.count slot_limit (λ s. sym (has-members c.self.inside.words s)))
