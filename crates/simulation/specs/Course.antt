-- The course of a run, whatever its acts are: where it has come to, how it ends, and what of it is handed out.
use Rattle.std.specs.Prelude.{◌≡◌, ◌≢◌, ◌⊎◌, ℕ, suc, List, [], ◌++◌, length, reverse, Option}
use Rattle.outside.specs.Outside.{Appends}
use Rattle.outside.specs.declared.outside.WriteRefusal.{WriteRefusal}
use Rattle.outside.specs.declared.outside.WriteRefusal.TheVariants as refusals
use Rattle.run_trace.specs.declared.entry.Entry.{Entry}
use Rattle.run_trace.specs.declared.packet.Packet.{Packet}
use Rattle.run_trace.specs.Legality.{boot_entries}
use Rattle.run_trace.specs.Program.{Program, nodes_of}
use Rattle.wires.specs.declared.ends.Ends.{Ends}
use Rattle.cluster.specs.View.{ClusterView, console_in, greatest_clock, round_in, wires_of}
use Rattle.cluster.specs.Standing.{StandsFor, HasTrace, HaveCarried}
use Rattle.simulation.specs.Ends.{ShowsAt}
use Rattle.simulation.specs.declared.simulation.RunEnd.{RunEnd}
use Rattle.simulation.specs.declared.simulation.RunEnd.TheVariants as ends
use Rattle.simulation.specs.declared.simulation.Simulated.{Simulated}

abbrev pub refusal_end : WriteRefusal → RunEnd
refusal_end refusals.Failed = ends.WriteFault
refusal_end refusals.NoMemory = ends.NoMemory

-- a run that began as old has come to this trace
pub record HasCome (old : ClusterView) (trace : List Entry) (c : ClusterView) : Type 0 where
  pub program : c.program ≡ old.program
  pub stands : StandsFor c [] trace
  pub wide : length (wires_of c) ≡ length (wires_of old)

-- it has done so many acts, one after another and each in the next round, and their lines are on the output
pub record HasDone (old : ClusterView) (written : Option (List ℕ)) (done : ℕ) (later : List Entry) (c : ClusterView) (now : Option (List ℕ)) : Type 0 where
  pub come : HasCome old (later ++ boot_entries old.program (nodes_of old.program)) c
  pub shown : Appends written (console_in c) now
  pub clock : greatest_clock c.nodes ≡ suc done
  pub round : round_in c ≡ done
  pub count : length later ≡ done

-- what a run's end leaves of the links; after want of memory nothing is said of them
abbrev pub LeavesAt : Program → ClusterView → ClusterView → List Entry → RunEnd → Type 0
LeavesAt p old new trace end = end ≢ ends.NoMemory → (length (wires_of new) ≡ length (wires_of old)) × HaveCarried p trace (wires_of new)

-- a run that began as old has ended: R holds of its trace and its end
pub record HasEnded (R : Program → List Entry → RunEnd → Type 0) (old new : ClusterView) (written now : Option (List ℕ)) (end : RunEnd) : Type 0 where
  pub entries : List Entry
  pub trace : HasTrace new entries
  pub runs : R old.program entries end
  pub shows : ShowsAt old.program written now entries end
  pub leaves : LeavesAt old.program old new entries end

-- what is handed out of a run with these entries and links and this end: all of it, or nothing where there is no memory to gather the entries
abbrev pub HandsOut : List Entry → List (Ends Packet) → RunEnd → Simulated → Type 0
HandsOut entries wires end s = ((s.end ≡ end) × (s.trace ≡ reverse entries) × (s.wires ≡ wires)) ⊎ ((s.trace ≡ []) × (s.end ≡ ends.NoMemory))
