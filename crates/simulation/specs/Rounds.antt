-- Runs of all nodes side by side, round after round. All lists have the newest entry or round first.
use Rattle.std.specs.Prelude.{◌≡◌, ◌⊎◌, ◌<◌, ◌≤◌, ℕ, List, [], ◌∷◌, ◌++◌, length, reverse, Option, ⊤}
use Rattle.outside.specs.Outside.{Appends}
use Rattle.run_trace.specs.declared.entry.Entry.{Entry}
use Rattle.run_trace.specs.Legality.{Legal, boot_entries}
use Rattle.run_trace.specs.Program.{Program, nodes_of}
use Rattle.cluster.specs.Outcomes.{GoesOn, IsDoneAt, IsStuckAt}
use Rattle.cluster.specs.Rounds.{AreOfOneRound, last_stamp}
use Rattle.cluster.specs.View.{ClusterView, console_in, greatest_clock, round_in}
use Rattle.simulation.specs.Course.{HasCome, HasEnded}
use Rattle.simulation.specs.declared.simulation.RunEnd.{RunEnd}
use Rattle.simulation.specs.declared.simulation.RunEnd.TheVariants.{Done, Stalled, OutOfTurns, NotPossible, WriteFault, NoMemory}
use Rattle.simulation.specs.declared.simulation.Simulated.{Simulated}

-- the entries of these rounds
abbrev pub entries_in : List (List Entry) → List Entry
entries_in [] = []
entries_in (round ∷ before) = round ++ entries_in before

-- the k-th of these is the k-th round after the first entries, which have stamp 1: it begins at all nodes with the greatest stamp so
-- far as their clock, and what each node does in it falls into passes
abbrev pub AreRounds : Program → List Entry → List (List Entry) → Type 0
AreRounds p first [] = ⊤
AreRounds p first (round ∷ before) = AreRounds p first before
    × AreOfOneRound p (last_stamp 1 (entries_in before)) (length (round ∷ before)) (entries_in before ++ first) round

-- after these entries the program is neither done nor stuck, and has turns left
pub record HasTurns (p : Program) (turns : ℕ) (first later : List Entry) : Type 0 where
  pub not_done : IsDoneAt p (later ++ first) → ⊥
  pub not_stuck : IsStuckAt p (later ++ first) → ⊥
  pub few : length later < turns

-- it was so after each of these rounds
abbrev pub WentOnFor : Program → (turns : ℕ) → List Entry → List (List Entry) → Type 0
WentOnFor p turns first [] = ⊤
WentOnFor p turns first (round ∷ before) = WentOnFor p turns first before × HasTurns p turns first (entries_in (round ∷ before))

-- what the newest round has come to; after each before it the run went on
abbrev pub EndsWith : Program → (turns : ℕ) → List Entry → List (List Entry) → RunEnd → Type 0
EndsWith p turns first [] end = ⊥
EndsWith p turns first (round ∷ before) Done = WentOnFor p turns first before × IsDoneAt p (entries_in (round ∷ before) ++ first)
EndsWith p turns first (round ∷ before) Stalled = WentOnFor p turns first before × IsStuckAt p (entries_in (round ∷ before) ++ first)
EndsWith p turns first (round ∷ before) OutOfTurns = WentOnFor p turns first before
    × (IsDoneAt p (entries_in (round ∷ before) ++ first) → ⊥) × (IsStuckAt p (entries_in (round ∷ before) ++ first) → ⊥) × (turns ≤ length (entries_in (round ∷ before)))
EndsWith p turns first (round ∷ before) (NotPossible line) = ⊥
EndsWith p turns first (round ∷ before) WriteFault = WentOnFor p turns first before
EndsWith p turns first (round ∷ before) NoMemory = ⊥

-- a run with these turns: its trace, newest entry first, and its end
pub record RunsInRounds (p : Program) (turns : ℕ) (trace : List Entry) (end : RunEnd) : Type 0 where
  pub legal : Legal p trace
  pub rounds : List (List Entry)
  pub begins : trace ≡ entries_in rounds ++ boot_entries p (nodes_of p)
  pub are_rounds : AreRounds p (boot_entries p (nodes_of p)) rounds
  pub ends : EndsWith p turns (boot_entries p (nodes_of p)) rounds end

-- what has come of a run: at want of memory there is no trace
abbrev pub GoesInRounds : Program → (turns : ℕ) → Simulated → Type 0
GoesInRounds p turns s = RunsInRounds p turns (reverse s.trace) s.end ⊎ ((s.trace ≡ []) × (s.end ≡ NoMemory))

-- ## A run under way

-- after so many rounds of a run that began as old: it goes on
pub record IsGoingOn (turns : ℕ) (old : ClusterView) (written : Option (List ℕ)) (done : ℕ) (c : ClusterView) (now : Option (List ℕ)) : Type 0 where
  pub rounds : List (List Entry)
  pub come : HasCome old (entries_in rounds ++ boot_entries old.program (nodes_of old.program)) c
  pub shown : Appends written (console_in c) now
  pub clock : greatest_clock c.nodes ≡ last_stamp 1 (entries_in rounds)
  pub round : round_in c ≡ length rounds
  pub count : length rounds ≡ done
  pub some : done ≤ length (entries_in rounds)
  pub few : length (entries_in rounds) < turns
  pub turns_are : c.turns ≡ length (entries_in rounds)
  pub are_rounds : AreRounds old.program (boot_entries old.program (nodes_of old.program)) rounds
  pub went_on : WentOnFor old.program turns (boot_entries old.program (nodes_of old.program)) rounds
  pub going : GoesOn old.program (entries_in rounds ++ boot_entries old.program (nodes_of old.program)) ⊎ (rounds ≡ [])

-- a run that began as old has ended
abbrev pub HasGone : (turns : ℕ) → ClusterView → ClusterView → Option (List ℕ) → Option (List ℕ) → RunEnd → Type 0
HasGone turns old new written now end = HasEnded (λ p trace e. RunsInRounds p turns trace e) old new written now end
