-- What a node does from one view of it to another: turns, and waiting between them.
use Rattle.std.specs.Prelude.{◌≡◌, ℕ, ◌<◌, ◌≤◌, List, [], ◌∷◌, ◌++◌, map, reverse}
use Rattle.run_trace.specs.declared.entry.Act.{Act}
use Rattle.run_trace.specs.declared.entry.Entry.{Entry}
use Rattle.run_trace.specs.Histories as histories
use Rattle.run_trace.specs.Histories.{Turn, IsHistory, clock, taken_from, turn_state}
use Rattle.run_trace.specs.Cluster.{Event}
use Rattle.run_trace.specs.Trace.{entry_of}
use Rattle.wires.specs.Ends.{width, sent_to, received_from}
use Rattle.node_loop.specs.View.{NodeView}
use Rattle.node_loop.specs.Turns.{Does, IsInRange, turn_of}

-- its clock hasn't fallen and its links have carried nothing; but for these and its round it is as it was
pub record Waits (old new : NodeView) : Type 0 where
  pub program : new.program ≡ old.program
  pub me : new.me ≡ old.me
  pub state : new.state ≡ old.state
  pub clock : old.clock ≤ new.clock
  pub entries : new.entries ≡ old.entries
  pub console : new.console ≡ old.console
  pub wide : width new.ends ≡ width old.ends
  pub received : (k : ℕ) → received_from new.ends k ≡ received_from old.ends k
  pub sent : (k : ℕ) → sent_to new.ends k ≡ sent_to old.ends k

-- an act is done, and then it waits
pub record TakesTurn (old : NodeView) (t : Turn) (new : NodeView) : Type 0 where
  pub act : Act
  pub range : IsInRange old act
  pub after : NodeView
  pub does : Does old act after
  pub is : t ≡ turn_of old act does.took does.done
  pub waits : Waits after new

-- it waits, and then takes these turns, the newest of which stands first
abbrev pub TakesTurns : NodeView → List Turn → NodeView → Type 0
TakesTurns old [] new = Waits old new
TakesTurns old (t ∷ before) new = (mid : NodeView) × TakesTurns old before mid × TakesTurn mid t new

abbrev pub events_of_turns : List Turn → List Event
events_of_turns turns = map (λ t. t.event) turns

abbrev pub entries_of_turns : List Turn → List Entry
entries_of_turns turns = map (λ t. entry_of t.event) turns

-- the turns are a history of the node from what it was; its state, its entries and its links are what they leave
pub record HasHistory (old : NodeView) (turns : List Turn) (new : NodeView) : Type 0 where
  pub program : new.program ≡ old.program
  pub me : new.me ≡ old.me
  pub history : IsHistory old.program old.me old.clock old.state turns
  pub state : turn_state old.program old.me old.state turns ≡ new.state
  pub clock : clock old.clock turns ≤ new.clock
  pub entries : new.entries ≡ old.entries ++ reverse (entries_of_turns turns)
  pub wide : width new.ends ≡ width old.ends
  pub received : (k : ℕ) → received_from new.ends k ≡ received_from old.ends k ++ taken_from k (events_of_turns turns)
  pub sent : (k : ℕ) → k < width old.ends → sent_to new.ends k ≡ sent_to old.ends k ++ histories.sent_to k (events_of_turns turns)
