-- How a run ends, and what it has shown.
use Rattle.std.specs.Prelude.{◌≡◌, ◌≢◌, ◌⊎◌, ◌≤◌, ℕ, Bool, List, [], ◌∷◌, ◌++◌, length, reverse, Option, ⊤}
use Rattle.outside.specs.Outside.{Appends, AppendsPrefix}
use Rattle.run_trace.specs.declared.entry.Entry.{Entry}
use Rattle.run_trace.specs.declared.packet.Packet.{Packet}
use Rattle.run_trace.specs.Console.{console_of}
use Rattle.run_trace.specs.Legality.{Legal, boot_entries}
use Rattle.run_trace.specs.Program.{Program, nodes_of}
use Rattle.run_trace.specs.Spots.{at_first}
use Rattle.wires.specs.declared.ends.Ends.{Ends}
use Rattle.cluster.specs.Outcomes.{IsDoneAt, IsStuckAt}
use Rattle.cluster.specs.Standing.{HaveCarried}
use Rattle.simulation.specs.Drawn.{AreDrawn}
use Rattle.simulation.specs.declared.simulation.RunEnd.{RunEnd}
use Rattle.simulation.specs.declared.simulation.RunEnd.TheVariants.{Done, Stalled, OutOfTurns, NotPossible, WriteFault, NoMemory}
use Rattle.simulation.specs.declared.simulation.Simulated.{Simulated}

-- after none of these acts the program was done or stuck
abbrev pub WentOn : Program → List Entry → List Entry → Type 0
WentOn p first [] = ⊤
WentOn p first (x ∷ later) =
    WentOn p first later × (IsDoneAt p (x ∷ later ++ first) → ⊥) × (IsStuckAt p (x ∷ later ++ first) → ⊥)

abbrev pub before_last : List Entry → List Entry
before_last [] = []
before_last (x ∷ later) = later

-- what the last act has come to; after each act before it the run went on
abbrev pub EndsAt : Program → (turns : ℕ) → List Entry → List Entry → RunEnd → Type 0
EndsAt p turns first later Done = (later ≡ [] → ⊥) × WentOn p first (before_last later) × IsDoneAt p (later ++ first)
EndsAt p turns first later Stalled = (later ≡ [] → ⊥) × WentOn p first (before_last later) × IsStuckAt p (later ++ first)
EndsAt p turns first later OutOfTurns = WentOn p first later × (length later ≡ turns)
EndsAt p turns first later (NotPossible line) = ⊥
EndsAt p turns first later WriteFault = WentOn p first (before_last later)
EndsAt p turns first later NoMemory = WentOn p first (before_last later)

-- a run with these turns and this seed: its trace, newest entry first, and its end
pub record Runs (moves : Bool) (p : Program) (turns seed : ℕ) (trace : List Entry) (end : RunEnd) : Type 0 where
  pub legal : Legal p trace
  pub later : List Entry
  pub begins : trace ≡ later ++ boot_entries p (nodes_of p)
  pub drawn : AreDrawn moves p seed (boot_entries p (nodes_of p)) later
  pub few : length later ≤ turns
  pub ends : EndsAt p turns (boot_entries p (nodes_of p)) later end

-- what has come of a run: where there was no memory to begin or to gather its entries there is no trace
abbrev pub Simulates : Bool → Program → (turns seed : ℕ) → Simulated → Type 0
Simulates moves p turns seed s = Runs moves p turns seed (reverse s.trace) s.end ⊎ ((s.trace ≡ []) × (s.end ≡ NoMemory))

-- the lines of a trace are on the output, or after a refused write or want of memory a first part of them; nothing is said
-- of a trace that wasn't gathered
abbrev pub ShowsAt : Program → Option (List ℕ) → Option (List ℕ) → List Entry → RunEnd → Type 0
ShowsAt p written now trace Done = Appends written (console_of p (at_first p) trace) now
ShowsAt p written now trace Stalled = Appends written (console_of p (at_first p) trace) now
ShowsAt p written now trace OutOfTurns = Appends written (console_of p (at_first p) trace) now
ShowsAt p written now trace (NotPossible line) = Appends written (console_of p (at_first p) trace) now
ShowsAt p written now trace WriteFault = AppendsPrefix written (console_of p (at_first p) trace) now
ShowsAt p written now trace NoMemory = trace ≢ [] → AppendsPrefix written (console_of p (at_first p) trace) now

abbrev pub Shows : Program → Option (List ℕ) → Option (List ℕ) → Simulated → Type 0
Shows p written now s = ShowsAt p written now (reverse s.trace) s.end

-- as many nodes have ends as before, and on each link was sent what the trace sends, and received what it takes
pub record Carries (p : Program) (given : List (Ends Packet)) (s : Simulated) : Type 0 where
  pub nodes : length s.wires ≡ length given
  pub carried : HaveCarried p (reverse s.trace) s.wires

-- but for want of memory, the wires have carried what the trace says
abbrev pub CarriesAt : Program → List (Ends Packet) → Simulated → Type 0
CarriesAt p given s = s.end ≢ NoMemory → Carries p given s
