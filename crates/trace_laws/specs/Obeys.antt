-- Consequences of a run, said of the machine's nets: what was sent, that nothing is left open.
use Rattle.std.specs.Prelude.{◌≡◌, ℕ, List, [], ◌∷◌, ◌++◌, Bool, true, false, if◌then◌else◌, ⊤}
use Rattle.run_trace.specs.declared.packet.Body.{Body}
use Rattle.run_trace.specs.declared.packet.Body.TheVariants.{Want, Turn, Over}
use Rattle.run_trace.specs.declared.packet.Send.{Send}
use Rattle.slot_space.specs.declared.names.Tid.{Tid}
use Rattle.run_trace.specs.declared.entry.Entry.{Entry}
use Rattle.run_trace.specs.declared.label.Label.{Label}
use Rattle.run_trace.specs.Program.{Program}
use Rattle.run_trace.specs.Cluster.{Net}
use Rattle.run_trace.specs.Trace.{net_after_trace, sends_or, done_for}
use Rattle.run_trace.specs.Spots.{Life, Spots, after_label}
use Rattle.run_trace.specs.Items.{is_busy}
use Rattle.run_trace.specs.Stands.{Agrees, AreSeated}
use Rattle.run_trace.specs.World.{World, world_after}
use Rattle.run_trace.specs.Causes.{causes}
use Rattle.run_trace.specs.Obeying.{occasion}
use Rattle.run_trace.specs.Rules.{Rule, Occasion, saying, SoloRule, HoldersRule, LifeRule, RepliesRule, GrantsRule, spots_of}

-- ## Carried: but for turns, an entry sends what its labels cause, and nothing else

abbrev pub is_of_turns : Body → Bool
is_of_turns Want = true
is_of_turns Turn = true
is_of_turns Over = true
is_of_turns _ = false

abbrev pub apart_from_turns : List Send → List Send
apart_from_turns [] = []
apart_from_turns (x ∷ xs) = if is_of_turns x.body then apart_from_turns xs else x ∷ apart_from_turns xs

abbrev pub all_causes : Program → ℕ → List Label → Spots → List Send
all_causes p n [] w = []
all_causes p n (l ∷ ls) w = causes p n l w ++ all_causes p n ls (after_label p n l w)

abbrev pub Carried : Program → Spots → Net → List Entry → Type 0
Carried p old base [] = ⊤
Carried p old base (x ∷ xs) = Carried p old base xs
    × (apart_from_turns (sends_or (done_for p (net_after_trace p base xs) x)) ≡ all_causes p x.node x.labels (spots_of p old xs))

-- ## Settled: nothing is missing. At the end of an entry no thread is in the midst of a call, a reply or its end

abbrev pub IsSettled : Life → Type 0
IsSettled life = (n : ℕ) → is_busy n life ≡ false

abbrev pub EachSettled : Program → Spots → List Entry → Type 0
EachSettled p old [] = ⊤
EachSettled p old (x ∷ xs) = EachSettled p old xs × ((t : Tid) → IsSettled ((spots_of p old (x ∷ xs)).threads t).life)

-- before each label homes, births, joiners, semaphores, halts, slots and blocks agree, and each thread that waits for nothing has one place
abbrev pub AgreesRule : Rule
AgreesRule p o n l w = Agrees p w.spots × ((k : ℕ) → AreSeated p k w.spots)

-- each label obeys the rule
abbrev pub ObeyEach : Rule → Program → Occasion → (n : ℕ) → List Label → World → Type 0
ObeyEach rule p o n [] w = ⊤
ObeyEach rule p o n (l ∷ ls) w = rule p o n l w × ObeyEach rule p (saying l o) n ls (world_after p n l w)

-- these spots, with the links of the nodes
abbrev pub world_at : Spots → Net → World
world_at w net = record {
  spots = w;
  links = net.links;
  begun = λ n. (net.nodes n).booted;
  talks = λ n. (net.nodes n).talk;
}

-- each label of a trace obeys the rule, by what was told and what the cluster had come to
abbrev pub Obey : Rule → Program → Spots → Net → List Entry → Type 0
Obey rule p old base [] = ⊤
Obey rule p old base (x ∷ xs) = Obey rule p old base xs
    × ObeyEach rule p (occasion x (world_at (spots_of p old xs) (net_after_trace p base xs))) x.node x.labels (world_at (spots_of p old xs) (net_after_trace p base xs))

-- the rules, for a trace after what was told of old, of a cluster that had come to base
pub record ObeysFrom (p : Program) (old : Spots) (base : Net) (trace : List Entry) : Type 0 where
  pub solo : Obey SoloRule p old base trace
  pub holders : Obey HoldersRule p old base trace
  pub life : Obey LifeRule p old base trace
  pub replies : Obey RepliesRule p old base trace
  pub grants : Obey GrantsRule p old base trace
  pub carried : Carried p old base trace
  pub settled : EachSettled p old trace
