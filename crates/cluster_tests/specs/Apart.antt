-- Two nodes that are driven apart from their cluster.
use Rattle.std.specs.Prelude.{◌≡◌, ◌≤◌, ℕ, List, [], Some, slice_get}
use Rattle.run_trace.specs.declared.entry.Entry.{Entry}
use Rattle.run_trace.specs.Histories.{Turn}
use Rattle.run_trace.specs.Program.{nodes_of}
use Rattle.node_loop.specs.View.{NodeView}
use Rattle.cluster.specs.Apart.{Fits, HaveGoneOn}
use Rattle.cluster.specs.Standing.{AgreesWith}
use Rattle.cluster.specs.View.{ClusterView, ShellView, shell_of}

-- they were taken from a cluster of two nodes that agrees with a trace
pub record AreTaken (shell : ShellView) (nodes : List NodeView) : Type 0 where
  pub from : ClusterView
  pub kept : List Entry
  pub agrees : AgreesWith from [] kept
  pub shell_is : shell ≡ shell_of from
  pub nodes_are : nodes ≡ from.nodes
  pub two : nodes_of from.program ≡ 2

-- they can be put into the shell, and then stand for what they did in a round
pub record AreDriven (shell : ShellView) (nodes : List NodeView) : Type 0 where
  pub kept : List Entry
  pub began : ℕ
  pub round : ℕ
  pub turns : ℕ → List Turn
  pub fits : Fits shell nodes
  pub gone : HaveGoneOn shell nodes [] kept began round turns
  pub reached : (n : ℕ) (v : NodeView) → slice_get nodes n ≡ Some v → began ≤ v.clock
  pub two : nodes_of shell.program ≡ 2
