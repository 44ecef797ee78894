-- Whether a trace is done, is stuck, or goes on.
use Rattle.std.specs.Prelude.{◌≢◌, Bool, List, []}
use Rattle.run_trace.specs.declared.entry.Entry.{Entry}
use Rattle.run_trace.specs.Program.{Program}
use Rattle.run_trace.specs.Cluster.{fresh_net}
use Rattle.run_trace.specs.Outcome.{IsDone, IsStuck}
use Rattle.run_trace.specs.Rules.{spots_of}
use Rattle.run_trace.specs.Spots.{at_first}
use Rattle.run_trace.specs.Trace.{net_after_trace}
use Rattle.cluster.specs.Acts.{possible_acts}
use Rattle.cluster.specs.declared.deciding.State.{State}
use Rattle.cluster.specs.declared.deciding.State.TheVariants.{Going, Done, Stalled}

-- a thread has called halt, or no thread lives and nothing is under way
abbrev pub IsDoneAt : Program → List Entry → Type 0
IsDoneAt p trace = IsDone (spots_of p (at_first p) trace) (net_after_trace p (fresh_net p) trace)

-- it isn't done, a thread lives, none can run, nothing is under way, and each waits by its own rule
abbrev pub IsStuckAt : Program → List Entry → Type 0
IsStuckAt p trace = IsStuck (spots_of p (at_first p) trace) (net_after_trace p (fresh_net p) trace)

-- it is neither, and an act is possible
pub record GoesOn (p : Program) (trace : List Entry) : Type 0 where
  pub not_done : IsDoneAt p trace → ⊥
  pub not_stuck : IsStuckAt p trace → ⊥
  pub possible : (moves : Bool) → possible_acts moves p (net_after_trace p (fresh_net p) trace) ≢ []

abbrev pub IsAt : Program → List Entry → State → Type 0
IsAt p trace Going = GoesOn p trace
IsAt p trace Done = IsDoneAt p trace
IsAt p trace Stalled = IsStuckAt p trace
