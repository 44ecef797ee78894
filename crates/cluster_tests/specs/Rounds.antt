-- A cluster that was booted and has made some rounds.
use Rattle.std.specs.Prelude.{◌≤◌, ◌+◌, List, [], length}
use Rattle.run_trace.specs.declared.entry.Entry.{Entry}
use Rattle.cluster.specs.Standing.{StandsFor}
use Rattle.cluster.specs.View.{ClusterView}

-- it stands for a trace in which each node has one beginning at most
pub record IsInRounds (c : ClusterView) : Type 0 where
  pub kept : List Entry
  pub stands : StandsFor c [] kept
  pub few : length kept ≤ c.turns + 8
