use Rattle.bubbles.proofs.Gathering.{forest_gathers}
use Rattle.bubbles.proofs.Leaving.{forest_leaves}
use Rattle.bubbles.proofs.Calls.{forest_empty, forest_new, forest_wakes, forest_inserts, forest_enters, forest_goes_on}
use Rattle.bubbles.proofs.laws.calls_keep_forests.Goals as goal

pub returns-clause-empty : goal.returns-clause-empty
returns-clause-empty c = forest_empty

pub returns-clause-new_bubble : goal.returns-clause-new_bubble
returns-clause-new_bubble c = forest_new

pub returns-clause-wake : goal.returns-clause-wake
returns-clause-wake c = forest_wakes

pub returns-clause-insert : goal.returns-clause-insert
returns-clause-insert c = forest_inserts

pub returns-clause-add_thread : goal.returns-clause-add_thread
returns-clause-add_thread c = forest_enters

pub returns-clause-again : goal.returns-clause-again
returns-clause-again c = forest_goes_on

pub returns-clause-leave : goal.returns-clause-leave
returns-clause-leave c = forest_leaves

pub returns-clause-gather : goal.returns-clause-gather
returns-clause-gather c = forest_gathers
