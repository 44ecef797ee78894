-- A cluster of two nodes that was booted and has done some acts, each in a round of its own.
use Rattle.std.specs.Prelude.{◌≡◌, suc, List, []}
use Rattle.run_trace.specs.declared.entry.Entry.{Entry}
use Rattle.run_trace.specs.Program.{nodes_of}
use Rattle.cluster.specs.Standing.{StandsFor}
use Rattle.cluster.specs.View.{ClusterView, greatest_clock}

pub record IsWalked (c : ClusterView) : Type 0 where
  pub kept : List Entry
  pub stands : StandsFor c [] kept
  pub clock : greatest_clock c.nodes ≡ suc c.turns
  pub two : nodes_of c.program ≡ 2
