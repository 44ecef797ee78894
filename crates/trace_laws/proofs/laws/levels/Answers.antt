use Rattle.trace_laws.proofs.Lists.ListTrees.{down, one_leaf}
use Rattle.trace_laws.proofs.laws.levels.Goals as goal

pub returns : goal.returns
returns c = record { next = down; leaf = one_leaf }
