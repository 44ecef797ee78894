-- No packet that a run takes is a stray.
use Rattle.std.proofs.Common.{◌≡◌, ℕ, List, [], ◌∷◌, Option, Some, None, refl, sym}
use Rattle.run_trace.specs.declared.entry.Act.{Act}
use Rattle.run_trace.specs.declared.entry.Act.TheVariants.{Boot, Run, Take, Move}
use Rattle.run_trace.specs.declared.entry.Entry.{Entry}
use Rattle.run_trace.specs.declared.packet.Packet.{Packet}
use Rattle.run_trace.specs.Program.{Program}
use Rattle.run_trace.specs.Cluster.{Net, next_packet}
use Rattle.run_trace.specs.Trace.{IsRun, net_after_trace}
use Rattle.run_trace.specs.Spots.{Spots}
use Rattle.run_trace.specs.Rules.{spots_of}
use Rattle.run_trace.specs.Stands.{Stands}
use Rattle.trace_laws.specs.Strays.{IsExpected, AllExpected}
use Rattle.trace_laws.proofs.Underway.Simulate.{asked_of, taken_expected}
use Rattle.trace_laws.proofs.Outcomes.Wholes.{run_whole}
use Rattle.run_trace.specs.Links.{first_of}

act_expected : (p : Program) (w : Spots) (net : Net) → Stands p w net → (n : ℕ) (a : Act) → IsExpected p n a (net.nodes n) (next_packet net n a)
act_expected p w net s n Boot = tt
act_expected p w net s n (Run vp quantum) = tt
act_expected p w net s n (Move t to) = tt
act_expected p w net s n (Take i) = by (first_of (net.links i n)) refl
  where
    by : (o : Option Packet) → first_of (net.links i n) ≡ o → IsExpected p n (Take i) (net.nodes n) o
    by None e = tt
    by (Some x) e = taken_expected p w net s (asked_of Boot None) n i x (sym e)

pub expected : (p : Program) (old : Spots) (base : Net) → Stands p old base → (trace : List Entry) → IsRun p base trace → AllExpected p base trace
expected p old base s [] r = tt
expected p old base s (x ∷ xs) r =
    (expected p old base s xs r.0, act_expected p (spots_of p old xs) (net_after_trace p base xs) (run_whole p old base s xs r.0).stands x.node x.act)
