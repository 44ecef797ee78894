-- A run of drawn acts, under way and ended.
use Rattle.std.specs.Prelude.{◌≡◌, ◌≢◌, ℕ, Bool, List, [], ◌++◌, Option, Some}
use Rattle.rand_pcg.specs.Lcg.{Lcg}
use Rattle.run_trace.specs.declared.entry.Act.{Act}
use Rattle.run_trace.specs.declared.entry.Entry.{Entry}
use Rattle.run_trace.specs.Legality.{boot_entries}
use Rattle.run_trace.specs.Program.{nodes_of}
use Rattle.cluster.specs.View.{ClusterView}
use Rattle.cluster.specs.Standing.{Adds}
use Rattle.simulation.specs.Course.{HasDone, HasEnded}
use Rattle.simulation.specs.Drawn.{AreDrawn, chosen, generator_after, possible_after}
use Rattle.simulation.specs.Ends.{WentOn, Runs}
use Rattle.simulation.specs.declared.simulation.RunEnd.{RunEnd}

-- the act that the word chooses after a trace is done
pub record Draws (moves : Bool) (word : ℕ) (trace : List Entry) (old new : ClusterView) : Type 0 where
  pub node : ℕ
  pub act : Act
  pub chosen_is : chosen word (possible_after moves old.program trace) ≡ Some (node, act)
  pub adds : Adds old [] trace node act new

-- after so many acts of a run that began as old: it goes on
pub record IsUnderway (moves : Bool) (seed : ℕ) (old : ClusterView) (written : Option (List ℕ)) (done : ℕ) (c : ClusterView) (words : Lcg) (now : Option (List ℕ)) : Type 0 where
  pub later : List Entry
  pub so_far : HasDone old written done later c now
  pub drawn : AreDrawn moves old.program seed (boot_entries old.program (nodes_of old.program)) later
  pub went_on : WentOn old.program (boot_entries old.program (nodes_of old.program)) later
  pub possible : possible_after moves old.program (later ++ boot_entries old.program (nodes_of old.program)) ≢ []
  pub generator : words ≡ generator_after seed done

-- a run that began as old has ended
abbrev pub HasRun : Bool → (turns seed : ℕ) → ClusterView → ClusterView → Option (List ℕ) → Option (List ℕ) → RunEnd → Type 0
HasRun moves turns seed old new written now end = HasEnded (λ p trace e. Runs moves p turns seed trace e) old new written now end
