-- A run by a schedule, under way and ended.
use Rattle.std.specs.Prelude.{ℕ, List, Option}
use Rattle.run_trace.specs.declared.entry.Entry.{Entry}
use Rattle.cluster.specs.View.{ClusterView}
use Rattle.simulation.specs.Course.{HasDone, HasEnded}
use Rattle.simulation.specs.Schedules.{AreFirstOf, RunsBy}
use Rattle.run_texts.specs.declared.schedule.Scheduled.{Scheduled}
use Rattle.simulation.specs.declared.simulation.RunEnd.{RunEnd}

-- after so many acts of a run that began as old
pub record IsReplaying (schedule : List Scheduled) (old : ClusterView) (written : Option (List ℕ)) (done : ℕ) (c : ClusterView) (now : Option (List ℕ)) : Type 0 where
  pub later : List Entry
  pub so_far : HasDone old written done later c now
  pub acts : AreFirstOf schedule later

-- a run that began as old has ended
abbrev pub HasReplayed : List Scheduled → ClusterView → ClusterView → Option (List ℕ) → Option (List ℕ) → RunEnd → Type 0
HasReplayed schedule old new written now end = HasEnded (λ p trace e. RunsBy p schedule trace e) old new written now end
