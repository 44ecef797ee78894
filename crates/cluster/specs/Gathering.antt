-- What nodes do side by side in one round, after a legal trace, and what comes of it when it is put together.
use Rattle.std.specs.Prelude.{◌≡◌, ◌≢◌, ◌+◌, ◌<◌, ◌≤◌, ⊤, ℕ, List, [], ◌∷◌, ◌++◌, length, map}
use Rattle.run_trace.specs.declared.entry.Entry.{Entry}
use Rattle.run_trace.specs.Cluster.{Event, IsDescending, IsPrefix, received, sent, state}
use Rattle.run_trace.specs.Histories.{IsHistory, IsInOrder, Joins, Turn, sent_to, taken_from}
use Rattle.run_trace.specs.Legality.{AreRising, Legal, NoneAbove}
use Rattle.run_trace.specs.Machine.{stamp_limit}
use Rattle.run_trace.specs.Program.{Program}
use Rattle.run_trace.specs.Trace.{entry_of}
use Rattle.trace_laws.specs.Gathers.{events_in, own_turns}
use Rattle.cluster.specs.Standing.{NoneLater, net_after, turn_in}

abbrev pub entries_in : List Turn → List Entry
entries_in turns = map entry_of (events_in turns)

-- each is a turn of this round, which began with this clock, and none is a beginning
abbrev pub AreOfRound : (clock round : ℕ) → List Turn → Type 0
AreOfRound clock round [] = ⊤
AreOfRound clock round (t ∷ before) =
    ((t.began ≡ clock) × (t.event.round ≡ round) × (turn_in t.event.act ≡ 1)) × AreOfRound clock round before

-- after a legal trace each node has a history of its own, whatever packets came; on each link a first part of what was sent was
-- received. The round is one for all, and it began with one clock; neither is below what the trace has
pub record GathersAfter (p : Program) (old : List Entry) (clock round : ℕ) (clocks : ℕ → ℕ) (turns : List Turn) : Type 0 where
  pub legal : Legal p old
  pub begun : old ≢ []
  pub order : IsDescending (events_in turns)
  pub local : (n : ℕ) → IsHistory p n (clocks n) ((net_after p old).nodes n) (own_turns n turns)
  pub links : (i j : ℕ) → IsPrefix (received i j (events_in turns)) ((net_after p old).links i j ++ sent i j (events_in turns))
  pub one_round : AreOfRound clock round turns
  pub stamps : NoneLater clock old
  pub rounds : NoneAbove round old
  pub clocks_within : (n : ℕ) → clocks n ≤ clock
  pub few : clock + length turns < stamp_limit

-- put together they go on with the trace: it is legal, and the nodes and the links are what it leaves
pub record AreGathered (p : Program) (old : List Entry) (turns : List Turn) : Type 0 where
  pub legal : Legal p (entries_in turns ++ old)
  pub nodes : (n : ℕ) → (net_after p (entries_in turns ++ old)).nodes n ≡ state p n ((net_after p old).nodes n) (events_in (own_turns n turns))
  pub links : (i j : ℕ) → received i j (events_in turns) ++ (net_after p (entries_in turns ++ old)).links i j ≡ (net_after p old).links i j ++ sent i j (events_in turns)

-- the same of local runs that are known to fit
pub record JoinsAfter (p : Program) (old trace : List Entry) (histories : ℕ → List Event) : Type 0 where
  pub legal : Legal p old
  pub begun : old ≢ []
  pub order : IsInOrder (trace ++ old)
  pub rounds : AreRising (trace ++ old)
  pub joins : Joins p (net_after p old) trace histories

pub record AreJoined (p : Program) (old trace : List Entry) (histories : ℕ → List Event) : Type 0 where
  pub legal : Legal p (trace ++ old)
  pub nodes : (n : ℕ) → (net_after p (trace ++ old)).nodes n ≡ state p n ((net_after p old).nodes n) (histories n)
  pub links : (i j : ℕ) → taken_from i (histories j) ++ (net_after p (trace ++ old)).links i j ≡ (net_after p old).links i j ++ sent_to j (histories i)
