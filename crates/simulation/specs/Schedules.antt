-- Runs whose acts are those of a schedule.
use Rattle.std.specs.Prelude.{◌≡◌, ◌⊎◌, ◌<◌, ℕ, false, suc, List, [], ◌∷◌, ◌++◌, length, reverse, slice_get, Some, ⊤}
use Rattle.run_trace.specs.declared.entry.Entry.{Entry}
use Rattle.run_trace.specs.Legality.{Legal, boot_entries}
use Rattle.run_trace.specs.Program.{Program, nodes_of}
use Rattle.node_loop.specs.Turns.{IsActInRange}
use Rattle.cluster.specs.Acts.{is_possible}
use Rattle.cluster.specs.Outcomes.{IsDoneAt, IsStuckAt}
use Rattle.cluster.specs.Standing.{net_after}
use Rattle.run_texts.specs.declared.schedule.Scheduled.{Scheduled}
use Rattle.simulation.specs.declared.simulation.RunEnd.{RunEnd}
use Rattle.simulation.specs.declared.simulation.RunEnd.TheVariants.{Done, Stalled, OutOfTurns, NotPossible, WriteFault, NoMemory}
use Rattle.simulation.specs.declared.simulation.Simulated.{Simulated}

-- the numbers of each act are those of a node, a processor and so on of the program's cluster
abbrev pub AreInRange : Program → List Scheduled → Type 0
AreInRange p [] = ⊤
AreInRange p (s ∷ later) = (s.node < nodes_of p) × IsActInRange p s.node s.act × AreInRange p later

-- the k-th entry after the beginning is of this act, with its stamp and its round
pub record IsOf (k : ℕ) (s : Scheduled) (x : Entry) : Type 0 where
  pub node : x.node ≡ s.node
  pub act : x.act ≡ s.act
  pub stamp : x.stamp ≡ suc k
  pub round : x.round ≡ k

-- the entries after the beginning, newest first, are of the schedule's first acts, in their order
abbrev pub AreFirstOf : List Scheduled → List Entry → Type 0
AreFirstOf schedule [] = ⊤
AreFirstOf schedule (x ∷ later) = AreFirstOf schedule later
    × ((s : Scheduled) × (slice_get schedule (length later) ≡ Some s) × IsOf (suc (length later)) s x)

-- what has ended a run that has done so many acts and left this trace
abbrev pub StopsAt : Program → List Scheduled → (done : ℕ) → List Entry → RunEnd → Type 0
StopsAt p schedule done trace Done = (done ≡ length schedule) × IsDoneAt p trace
StopsAt p schedule done trace Stalled = (done ≡ length schedule) × IsStuckAt p trace
StopsAt p schedule done trace OutOfTurns = (done ≡ length schedule) × (IsDoneAt p trace → ⊥) × (IsStuckAt p trace → ⊥)
StopsAt p schedule done trace (NotPossible line) =
    (s : Scheduled) × (slice_get schedule done ≡ Some s) × (s.line ≡ line) × (is_possible p (net_after p trace) s.node s.act ≡ false)
StopsAt p schedule done trace WriteFault = 0 < done
StopsAt p schedule done trace NoMemory = ⊤

-- a run by this schedule: its trace, newest entry first, and its end
pub record RunsBy (p : Program) (schedule : List Scheduled) (trace : List Entry) (end : RunEnd) : Type 0 where
  pub legal : Legal p trace
  pub later : List Entry
  pub begins : trace ≡ later ++ boot_entries p (nodes_of p)
  pub acts : AreFirstOf schedule later
  pub stops : StopsAt p schedule (length later) trace end

-- what has come of a run: where there was no memory to begin or to gather its entries there is no trace
abbrev pub Follows : Program → List Scheduled → Simulated → Type 0
Follows p schedule s = RunsBy p schedule (reverse s.trace) s.end ⊎ ((s.trace ≡ []) × (s.end ≡ NoMemory))
