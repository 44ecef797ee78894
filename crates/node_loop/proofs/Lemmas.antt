-- Lemmas of a node. Other crates cite these alone.
use Rattle.std.proofs.Common.{◌≡◌, ℕ, None}
use Rattle.run_trace.specs.declared.entry.Act.TheVariants.{Take}
use Rattle.run_trace.specs.Local.{Local}
use Rattle.run_trace.specs.Machine.{local_event}
use Rattle.run_trace.specs.Program.{Program}
use Rattle.node_loop.proofs.Stepping

-- a node that is to take a packet, and has none, does nothing
pub takes_nothing : (p : Program) (me : ℕ) (s : Local) (from : ℕ) → local_event p me s (Take from) None ≡ None
takes_nothing = Stepping.takes_nothing
