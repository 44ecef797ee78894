-- A legal trace by its labels alone: what each entry must be, after what the trace before it tells. No machine is named.
use Rattle.std.specs.Prelude.{◌≡◌, ◌<◌, ◌⊎◌, length, ℕ, List, [], ◌∷◌, ◌++◌, if◌then◌else◌, Option, Some, None, Bool, true, false, ◌==◌, ◌&&◌, not, nat_lt, nat_le, ⊤}
use Rattle.slot_space.specs.declared.names.Tid.{Tid}
use Rattle.run_trace.specs.declared.entry.Act.{Act}
use Rattle.run_trace.specs.declared.entry.Act.TheVariants.{Boot, Run, Take, Move}
use Rattle.run_trace.specs.declared.entry.Entry.{Entry}
use Rattle.run_trace.specs.declared.label.Label.{Label}
use Rattle.run_trace.specs.declared.label.Label.TheVariants.{Born, Ran, Left, Decided, Down, Burst}
use Rattle.run_trace.specs.declared.label.Why.TheVariants as why
use Rattle.run_trace.specs.declared.packet.Packet.{Packet}
use Rattle.run_trace.specs.Names.{tid, is_tid}
use Rattle.run_trace.specs.Program.{Program, nodes_of, tree_of, processors_of, quantum_limit}
use Rattle.levels.specs.Choice.{has_ready}
use Rattle.bubbles.specs.declared.bubble.Shift.TheVariants as shifts
use Rattle.bubbles.specs.declared.bubble.Step.{Step}
use Rattle.bubbles.specs.declared.bubble.Step.TheVariants.{Empty, Takes, Shifts}
use Rattle.bubbles.specs.Picking.{step}
use Rattle.rv_step.specs.declared.hart.Stop.{Stop}
use Rattle.run_trace.specs.Guests.{stack_end}
use Rattle.run_trace.specs.Spots.{Spots, lowest_free}
use Rattle.run_trace.specs.Rules.{SoloRule, HoldersRule, LifeRule, RepliesRule, GrantsRule, Occasion, saying}
use Rattle.run_trace.specs.Bubbles.{is_listed}
use Rattle.run_trace.specs.World.{World, world_after}
use Rattle.run_trace.specs.Items.{Item, Says, Chooses, Does, Serves, Decides, Progress, has_to, is_busy_with, is_seeking, Thread, doer, worked_off, said, begins_with}
use Rattle.run_trace.specs.Links.{first_of, taken_packet}
use Rattle.run_trace.specs.Telling.{world_of}

-- ## Acts that are possible

abbrev pub may_act : Program → (n : ℕ) → (begun : Bool) → Act → Bool
may_act p n begun Boot = nat_lt n (nodes_of p) && not begun
may_act p n begun (Run vp quantum) =
    nat_lt n (nodes_of p) && (begun && (nat_lt vp (processors_of p) && (nat_lt 0 quantum && nat_le quantum quantum_limit)))
may_act p n begun (Take from) = nat_lt n (nodes_of p) && (begun && nat_lt from (nodes_of p))
may_act p n begun (Move t to) = nat_lt n (nodes_of p) && (begun && (nat_lt to (nodes_of p) && not (to == n)))

-- ## Who runs, by the choice of a processor

-- the label says what is chosen: a bubble is moved, or a thread runs
abbrev pub IsChoice : ℕ → Step → Label → Type 0
IsChoice vp Empty l = ⊥
IsChoice vp (Takes t) l = (count : ℕ) × (stop : Stop) × (l ≡ Ran t vp count stop)
IsChoice vp (Shifts (shifts.Down bubble list)) l = l ≡ Down bubble list
IsChoice vp (Shifts (shifts.Burst bubble list)) l = l ≡ Burst bubble list

-- ## How an entry begins, by its act

-- the birth of the main thread, where the node has a slot
abbrev pub first_birth : Program → ℕ → Option ℕ → Spots → List Item
first_birth p n None w = []
first_birth p n (Some slot) w = Says (Born (tid n (length (w.births n))) why.Main p.image.main 0 0 (stack_end slot) slot) ∷ []

-- node 0 begins with the main thread; a processor chooses where a list of its own has an entity; the first packet of the link is taken, which
-- was sent before; a thread that is sent away is on a run list
abbrev pub Starts : Program → (stamp n : ℕ) → Act → World → Progress → Type 0
Starts p stamp n Boot w r = r ≡ has_to (if n == 0 then first_birth p n (lowest_free n 1 w.spots) w.spots else []) (w.talks n)
Starts p stamp n (Run vp quantum) w r =
    (has_ready (tree_of p) vp (w.spots.forests n).lists.rows ≡ true) × (r ≡ has_to (Chooses vp ∷ []) (w.talks n))
Starts p stamp n (Take from) w r =
    (x : Packet) × (first_of (w.links from n) ≡ Some x) × (x.stamp < stamp) × (r ≡ begins_with n from x.body (w.talks n))
Starts p stamp n (Move t to) w r = (is_listed t (w.spots.forests n) ≡ true) × (r ≡ has_to (Says (Left t to) ∷ []) (w.talks n))

-- ## How it goes on: each label is what is to be done next, until there is nothing to do

-- each rule, of one label
pub record Allows (p : Program) (o : Occasion) (n : ℕ) (l : Label) (w : World) : Type 0 where
  pub solo : SoloRule p o n l w
  pub holders : HoldersRule p o n l w
  pub life : LifeRule p o n l w
  pub replies : RepliesRule p o n l w
  pub grants : GrantsRule p o n l w

abbrev pub IsBy : ℕ → Label → Spots → Item → Type 0
IsBy n l w (Says m) = l ≡ m
IsBy n l w (Chooses vp) = IsChoice vp (step vp (w.forests n)).what l
IsBy n l w (Does s) = (doer l ≡ Some s) × (is_busy_with n s w ≡ true)
IsBy n l w (Serves t) = (doer l ≡ Some (Thread t)) × (is_seeking n (w.threads t).life ≡ true)
IsBy n l w (Decides t) = (count : ℕ) × (first : Option ℕ) × (l ≡ Decided t count first)
IsBy n l w _ = ⊥

abbrev pub IsNext : ℕ → Label → Spots → List Item → Type 0
IsNext n l w [] = ⊥
IsNext n l w (i ∷ is) = IsBy n l w i

abbrev pub GoesOn : Program → Occasion → (n : ℕ) → List Label → World → Progress → Type 0
GoesOn p o n [] w r = (worked_off n w.spots r).to_do ≡ []
GoesOn p o n (l ∷ ls) w r =
    IsNext n l w.spots (worked_off n w.spots r).to_do × Allows p o n l w
    × GoesOn p (saying l o) n ls (world_after p n l w) (said p n l w.spots (worked_off n w.spots r))

-- ## An entry, and a trace

abbrev pub occasion : Entry → World → Occasion
occasion x w = record { act = x.act; took = taken_packet x.node x.act w.links; said = [] }

pub record IsEntry (p : Program) (w : World) (x : Entry) : Type 0 where
  pub may : may_act p x.node (w.begun x.node) x.act ≡ true
  pub first : Progress
  pub starts : Starts p x.stamp x.node x.act w first
  pub goes : GoesOn p (occasion x w) x.node x.labels w first

abbrev pub KeepsRules : Program → World → List Entry → Type 0
KeepsRules p old [] = ⊤
KeepsRules p old (x ∷ xs) = KeepsRules p old xs × IsEntry p (world_of p old xs) x
