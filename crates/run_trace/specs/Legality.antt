-- A legal trace, newest entry first: it is in order, begins with the nodes' beginnings, its rounds never fall, and it keeps the
-- rules, which speak of labels alone. So it is what the machine does; what that says of nodes and links stands beside the rules.
use Rattle.std.specs.Prelude.{◌≡◌, ◌≤◌, ◌⊎◌, ℕ, zero, suc, List, [], ◌∷◌, ◌++◌, ◌==◌, if◌then◌else◌, ⊤}
use Rattle.run_trace.specs.declared.entry.Act.TheVariants.{Boot}
use Rattle.run_trace.specs.declared.entry.Entry.{Entry}
use Rattle.run_trace.specs.declared.label.Label.{Label}
use Rattle.run_trace.specs.declared.label.Label.TheVariants.{Born}
use Rattle.run_trace.specs.declared.label.Why.TheVariants as why
use Rattle.run_trace.specs.Names.{tid}
use Rattle.run_trace.specs.Program.{Program, nodes_of}
use Rattle.run_trace.specs.Guests.{stack_end}
use Rattle.run_trace.specs.Cluster.{Net, fresh_net}
use Rattle.run_trace.specs.Trace.{IsRun, net_after_trace}
use Rattle.run_trace.specs.Holding.{EachHeldOnce}
use Rattle.run_trace.specs.Alone.{EachRunsAlone}
use Rattle.run_trace.specs.Histories.{IsInOrder}
use Rattle.run_trace.specs.Stands.{Stands}
use Rattle.run_trace.specs.World.{World}
use Rattle.run_trace.specs.Telling.{world_of, first_world}
use Rattle.run_trace.specs.Obeying.{KeepsRules}

-- node 0 begins with the main thread 0.0, at the image's main, with slot 0 as its stack
abbrev pub first_labels : Program → ℕ → List Label
first_labels p n = if n == 0 then Born (tid 0 0) why.Main p.image.main 0 0 (stack_end 0) 0 ∷ [] else []

abbrev pub boot_entry : Program → ℕ → Entry
boot_entry p n = record { stamp = 1; node = n; round = 0; act = Boot; labels = first_labels p n }

-- the beginnings of the nodes below n
abbrev pub boot_entries : Program → ℕ → List Entry
boot_entries p zero = []
boot_entries p (suc n) = boot_entry p n ∷ boot_entries p n

-- it is empty, or its oldest entries are the beginnings of all nodes
abbrev pub Begins : Program → List Entry → Type 0
Begins p trace = (trace ≡ []) ⊎ ((later : List Entry) × (trace ≡ later ++ boot_entries p (nodes_of p)))

abbrev pub NoneAbove : ℕ → List Entry → Type 0
NoneAbove round [] = ⊤
NoneAbove round (x ∷ xs) = (x.round ≤ round) × NoneAbove round xs

-- rounds never fall
abbrev pub AreRising : List Entry → Type 0
AreRising [] = ⊤
AreRising (x ∷ xs) = NoneAbove x.round xs × AreRising xs

-- after each entry
abbrev pub AfterEach : (Net → List Entry → Type 0) → Program → List Entry → Type 0
AfterEach P p [] = ⊤
AfterEach P p (x ∷ xs) = AfterEach P p xs × P (net_after_trace p (fresh_net p) (x ∷ xs)) (x ∷ xs)

-- nodes and links are exactly what the labels tell
pub record IsTold (p : Program) (w : World) (net : Net) : Type 0 where
  pub stands : Stands p w.spots net
  pub links : (i j : ℕ) → net.links i j ≡ w.links i j
  pub begun : (n : ℕ) → (net.nodes n).booted ≡ w.begun n
  pub talks : (n : ℕ) → (net.nodes n).talk ≡ w.talks n

pub record Legal (p : Program) (trace : List Entry) : Type 0 where
  -- it is a trace
  pub order : IsInOrder trace
  pub begins : Begins p trace
  pub rounds : AreRising trace
  -- each entry is what its act and the entries before it allow, by the labels alone; there is no other
  pub rules : KeepsRules p (first_world p) trace
  -- the cluster can make it, and does nothing else
  pub runs : IsRun p (fresh_net p) trace
  -- after each entry nodes and links are exactly what the labels tell
  pub stands : AfterEach (λ net xs. IsTold p (world_of p (first_world p) xs) net) p trace
  -- each thread's registers, bytes and blocks are those of its code run alone with the replies that it was told, wherever it is
  pub alone : AfterEach (EachRunsAlone p) p trace
  -- no slot has two holders, through births, grants, moves and ends
  pub one_holder : AfterEach (λ net xs. EachHeldOnce net) p trace
