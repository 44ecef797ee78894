use Rattle.bubbles.proofs.Nesting.{none_inside, nested_empty, nested_new, nested_wakes, nested_inserts, nested_enters, nested_leaves, nested_gathers, nested_step}
use Rattle.bubbles.proofs.laws.no_bubble_is_inside_itself.Goals as goal

pub returns-clause-none : goal.returns-clause-none
returns-clause-none c = none_inside

pub returns-clause-empty : goal.returns-clause-empty
returns-clause-empty c = λ tree. nested_empty

pub returns-clause-new_bubble : goal.returns-clause-new_bubble
returns-clause-new_bubble c = nested_new

pub returns-clause-wake : goal.returns-clause-wake
returns-clause-wake c = nested_wakes

pub returns-clause-insert : goal.returns-clause-insert
returns-clause-insert c = nested_inserts

pub returns-clause-add_thread : goal.returns-clause-add_thread
returns-clause-add_thread c = nested_enters

pub returns-clause-again : goal.returns-clause-again
returns-clause-again c = λ t w n. n

pub returns-clause-leave : goal.returns-clause-leave
returns-clause-leave c = nested_leaves

pub returns-clause-gather : goal.returns-clause-gather
returns-clause-gather c = nested_gathers

pub returns-clause-choice : goal.returns-clause-choice
returns-clause-choice c = nested_step
