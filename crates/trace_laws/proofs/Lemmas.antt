-- Lemmas of legal traces. Other crates cite these alone, in lemmas of their own; a function calls the law instead.
use Rattle.std.proofs.Common.{List, Some, [], cond, false, map, true, ℕ, ◌++◌, ◌+◌, ◌<◌, ◌∷◌, ◌≡◌}
use Rattle.levels.specs.Choice.{has_ready}
use Rattle.bubbles.specs.declared.bubble.Shift.{Shift}
use Rattle.bubbles.specs.Changes.{PicksEnd}
use Rattle.bubbles.specs.Forests.{ForestView}
use Rattle.bubbles.specs.Picking.{Picks}
use Rattle.bubbles.specs.Standing.{seats}
use Rattle.run_trace.specs.Bubbles.{is_listed}
use Rattle.run_trace.specs.Cluster.{Event, Merges, Net, Runs, fresh_net, net_of, own, received, sent, state}
use Rattle.run_trace.specs.Console.{console_of, printed}
use Rattle.run_trace.specs.Guests.{Thread, is_unwaiting}
use Rattle.run_trace.specs.Local.{EventSoFar, nothing}
use Rattle.run_trace.specs.Machine.{choice_limit, chooses}
use Rattle.run_trace.specs.Histories.{IsInOrder, Turn, sent_to, taken_from, turn_state}
use Rattle.run_trace.specs.Holding.{IsOn}
use Rattle.run_trace.specs.Legality.{AreRising, Begins, IsTold, Legal, boot_entries}
use Rattle.run_trace.specs.Outcome.{AllLinksEmpty, IsStuck, Lives}
use Rattle.run_trace.specs.Program.{Program, nodes_of, processors_of, tree_of}
use Rattle.run_trace.specs.Rules.{spots_of}
use Rattle.run_trace.specs.Spots.{Ready, On, Spots, at_first}
use Rattle.run_trace.specs.Stands.{Stands}
use Rattle.run_trace.specs.Trace.{Fits, IsRun, entry_of, events_of, net_after_trace}
use Rattle.run_trace.specs.declared.entry.Entry.{Entry}
use Rattle.slot_space.specs.declared.names.Tid.{Tid}
use Rattle.std.specs.Prelude.{length, ◌↔◌}
use Rattle.trace_laws.specs.Beginnings.{BeginsSo}
use Rattle.trace_laws.specs.Gathers.{Gathers, events_in, own_turns}
use Rattle.trace_laws.specs.Obeys.{world_at}
use Rattle.run_trace.specs.Telling.{world_of}
use Rattle.trace_laws.proofs.Merging.Weave
pub use Rattle.trace_laws.proofs.Merging.Bounded.{IsAtMost}
use Rattle.trace_laws.proofs.Outcomes.Beginnings
use Rattle.trace_laws.proofs.Merging.Bounded
use Rattle.trace_laws.proofs.Merging.Determined
use Rattle.trace_laws.proofs.Outcomes.Legals
use Rattle.trace_laws.proofs.Merging.Merge
use Rattle.trace_laws.proofs.Outcomes.NothingOutside
use Rattle.trace_laws.proofs.Outcomes.RunLists
use Rattle.trace_laws.proofs.Outcomes.Stillness
use Rattle.trace_laws.proofs.Rules.Entries
use Rattle.trace_laws.proofs.Underway.Events
use Rattle.trace_laws.proofs.Outcomes.Wholes
pub use Rattle.trace_laws.proofs.Outcomes.NothingOutside.{Inside}
pub use Rattle.trace_laws.proofs.Outcomes.Wholes.{Whole}

-- ## The beginning

-- each node begins with what the beginning of a trace says of it (the law `begun`)
pub begins_so : (p : Program) (n : ℕ) → n < nodes_of p → BeginsSo p n
begins_so = Beginnings.begins_so

-- the entries with which all nodes begin are a legal trace (the law `begun`)
pub beginnings_legal : (p : Program) → Legal p (boot_entries p (nodes_of p))
beginnings_legal = Beginnings.beginnings_legal

-- ## Turns side by side

-- turns whose clocks and links fit one another merge into one run
pub gathers_merges : (prog : Program) (base : Net) (c : ℕ) (clocks : ℕ → ℕ) (turns : List Turn) → Gathers prog base c clocks turns → Merges prog base (events_in turns)
gathers_merges = Bounded.gathers_merges

-- ## Runs and their entries

-- the entries of a run determine its events
pub determined : (prog : Program) (base : Net) (events : List Event) → Runs prog base events → events_of prog base (map entry_of events) ≡ events
determined = Determined.determined

-- a trace is a run with one entry more exactly where the entry is what the machine does there (the law `judged`)
pub fits_exactly : (prog : Program) (base : Net) (x : Entry) (xs : List Entry) → IsRun prog base (x ∷ xs) ↔ (IsRun prog base xs × Fits prog (net_after_trace prog base xs) x)
fits_exactly = Determined.fits_exactly

-- ## Legal traces

-- a run from the beginning, in order, that begins as it must and whose rounds never fall, is legal (the law `whole`)
pub whole : (p : Program) (trace : List Entry) → IsInOrder trace → Begins p trace → AreRising trace → IsRun p (fresh_net p) trace → Legal p trace
whole = Legals.whole

-- ## One run of many histories

-- after events of all nodes, each node is as its own events leave it
pub node_is : (prog : Program) (base : Net) → (events : List Event) (n : ℕ) → (net_of prog base events).nodes n ≡ state prog n (base.nodes n) (own n events)
node_is = Merge.node_is

-- what was received over a link and what is on it are what was on it and what was sent
pub link_is : (prog : Program) (base : Net) → (events : List Event) → Runs prog base events → (i j : ℕ) → received i j events ++ (net_of prog base events).links i j ≡ base.links i j ++ sent i j events
link_is = Merge.link_is

-- ## Nodes past the last

-- no run touches a node past the last (the law `inside`)
pub run_inside : (p : Program) (trace : List Entry) → IsRun p (fresh_net p) trace → Inside p (spots_of p (at_first p) trace) (net_after_trace p (fresh_net p) trace)
run_inside = NothingOutside.run_inside

-- ## Run lists, bubbles and threads

-- a thread on a node has a place on its lists or in its bubbles exactly where it waits for nothing (the law `ready`)
pub seats_are : (p : Program) (w : Spots) (net : Net) (s : Stands p w net) → (n : ℕ) (t : Tid) (x : Thread) → IsOn net n t x → seats t (net.nodes n).forest ≡ cond (is_unwaiting x) 1 0
seats_are = RunLists.seats_are

-- one that isn't there, or waits, has none (the law `seated`)
pub no_seats : (p : Program) (w : Spots) (net : Net) (s : Stands p w net) → (n : ℕ) (t : Tid) → ((x : Thread) → IsOn net n t x → is_unwaiting x ≡ false) → seats t (net.nodes n).forest ≡ 0
no_seats = RunLists.no_seats

-- a thread on a run list of a node is on that node, and waits for nothing (the law `ready`)
pub listed_there : (p : Program) (w : Spots) (net : Net) (s : Stands p w net) → (n : ℕ) (t : Tid) → is_listed t (net.nodes n).forest ≡ true → (x : Thread) × IsOn net n t x × (is_unwaiting x ≡ true)
listed_there = RunLists.listed_there

-- and is ready by what is told
pub listed_ready : (p : Program) (w : Spots) (net : Net) (s : Stands p w net) → (n : ℕ) (t : Tid) → is_listed t (w.forests n) ≡ true → (w.threads t).life ≡ On n Ready
listed_ready = RunLists.listed_ready

-- where a list of a processor has an entity, its choices end with a thread, within three moves for each bubble (the law `picked`)
pub pick_ends : (p : Program) (w : Spots) (net : Net) (s : Stands p w net) → (n vp : ℕ) → vp < processors_of p → has_ready (tree_of p) vp (net.nodes n).forest.lists.rows ≡ true → PicksEnd vp (net.nodes n).forest
pick_ends = RunLists.pick_ends

-- where a list of a node has an entity it is the list of some processor (the law `picked`)
pub some_processor : (p : Program) (w : Spots) (net : Net) (s : Stands p w net) → (n : ℕ) → ((net.nodes n).forest.lists.rows ≡ [] → ⊥) → (vp : ℕ) × (vp < processors_of p) × (has_ready (tree_of p) vp (net.nodes n).forest.lists.rows ≡ true)
some_processor = RunLists.some_processor

-- each node's forest has the setup's tree
pub tree_there : (p : Program) (w : Spots) (net : Net) (s : Stands p w net) → (n : ℕ) → (net.nodes n).forest.lists.tree ≡ tree_of p
tree_there = RunLists.tree_there

-- a processor runs a thread only where one of its lists has an entity
pub choice_ready : (p : Program) (n vp q k : ℕ) (d after : EventSoFar) → chooses p n vp q k d ≡ Some after → has_ready d.node.forest.lists.tree vp d.node.forest.lists.rows ≡ true
choice_ready = Events.choice_ready

-- a processor of whose lists one has an entity runs a thread
pub run_there : (p : Program) (w : Spots) (net : Net) (s : Stands p w net) → (n vp q : ℕ) → vp < processors_of p → has_ready (tree_of p) vp (net.nodes n).forest.lists.rows ≡ true
    → (d : EventSoFar) × (chooses p n vp q (choice_limit (net.nodes n).forest) (nothing (net.nodes n)) ≡ Some d)
run_there = Entries.run_there

-- the thread to which they come is on the node, and waits for nothing (the law `picked`)
pub picked_there : (p : Program) (w : Spots) (net : Net) (s : Stands p w net) → (n vp : ℕ) (moves : List Shift) (t : Tid) (after : ForestView) → Picks vp (net.nodes n).forest moves (Some t) after
    → (x : Thread) × IsOn net n t x × (is_unwaiting x ≡ true)
picked_there = RunLists.picked_there

-- ## Where nothing goes on

-- where no run list has an entity, nothing is under way and no node has halted, a thread that lives makes the trace stuck (the law `quiet`)
pub stuck : (p : Program) (w : Spots) (net : Net) (s : Stands p w net) → ((n : ℕ) → (net.nodes n).forest.lists.rows ≡ []) → AllLinksEmpty net → ((n : ℕ) → (net.nodes n).halted ≡ false) → (t : Tid) → Lives (w.threads t).life → IsStuck w net
stuck = Stillness.stuck

-- where nothing is under way a thread that lives is on some node (the law `quiet`)
pub is_somewhere : (p : Program) (w : Spots) (net : Net) (s : Stands p w net) → AllLinksEmpty net → (t : Tid) → Lives (w.threads t).life → (n : ℕ) × (x : Thread) × IsOn net n t x
is_somewhere = Stillness.is_somewhere

-- a thread that is on a node lives (the law `quiet`)
pub lives_there : (p : Program) (w : Spots) (net : Net) (s : Stands p w net) → (t : Tid) (n : ℕ) (x : Thread) → IsOn net n t x → Lives (w.threads t).life
lives_there = Stillness.lives_there

-- a node has halted exactly where the labels say so
pub halts_are : (p : Program) (w : Spots) (net : Net) (s : Stands p w net) → (n : ℕ) → (net.nodes n).halted ≡ w.halts n
halts_are = Stillness.halts_are

-- ## What holds after each run

-- before the first entry the nodes and links stand for nothing told (the law `started`)
pub starts : (p : Program) → Stands p (at_first p) (fresh_net p)
starts = Wholes.starts

-- whatever a run does, its labels keep the rules, and nodes and links stand for what they tell (the law `legal`)
pub run_whole : (p : Program) (old : Spots) (base : Net) → Stands p old base → (trace : List Entry) → IsRun p base trace → Whole p old base trace
run_whole = Wholes.run_whole

-- from the beginning: what nodes and links stand for, and what is printed (the law `legal`)
pub stands_after : (p : Program) (trace : List Entry) → IsRun p (fresh_net p) trace → Stands p (spots_of p (at_first p) trace) (net_after_trace p (fresh_net p) trace)
stands_after = Wholes.stands_after

pub console_after : (p : Program) (trace : List Entry) → IsRun p (fresh_net p) trace → printed (events_of p (fresh_net p) trace) ≡ console_of p (at_first p) trace
console_after = Wholes.console_after

-- a node's own events are those of its own turns
pub own_events : (n : ℕ) (es : List Turn) → own n (events_in es) ≡ events_in (own_turns n es)
own_events = Bounded.own_events

-- turns that gather are a run of the cluster (the law `gathered`)
pub gathered : (prog : Program) (base : Net) (c : ℕ) (clocks : ℕ → ℕ) (turns : List Turn) → Gathers prog base c clocks turns → Runs prog base (events_in turns)
gathered = Bounded.gathered

-- no stamp is further above the clock than there are turns
pub gathers_bounded : (prog : Program) (base : Net) (c : ℕ) (clocks : ℕ → ℕ) (turns : List Turn) → Gathers prog base c clocks turns → IsAtMost (c + length turns) turns
gathers_bounded = Bounded.gathers_bounded

-- what a node's turns leave of it is what their events leave, after each of them
pub gathers_state : (prog : Program) (base : Net) (c : ℕ) (clocks : ℕ → ℕ) (turns : List Turn) → Gathers prog base c clocks turns → (later es : List Turn) → turns ≡ later ++ es → (n : ℕ)
    → turn_state prog n (base.nodes n) (own_turns n es) ≡ state prog n (base.nodes n) (events_in (own_turns n es))
gathers_state = Bounded.gathers_state

-- what events receive on a link is what those of its receiver take
pub received_own : (i j : ℕ) (events : List Event) → received i j events ≡ taken_from i (own j events)
received_own = Weave.received_own

-- what events send on a link is what those of its sender send
pub sent_own : (i j : ℕ) (events : List Event) → sent i j events ≡ sent_to j (own i events)
sent_own = Weave.sent_own

-- nodes and links are what the labels tell (the law `told`)
pub told_after : (p : Program) (old : Spots) (base : Net) → Stands p old base → (trace : List Entry) → IsRun p base trace → IsTold p (world_of p (world_at old base) trace) (net_after_trace p base trace)
told_after = Legals.told_after
