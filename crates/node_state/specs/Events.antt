-- What an event of a node in code is.
use Rattle.std.specs.Prelude.{◌≡◌, ℕ, ◌<◌, ◌%◌, [], Option, Some, None, Bool, true, false, ⊤}
use Rattle.rv_inst.specs.declared.image.Image.{Image}
use Rattle.slot_space.specs.Addresses.{starting_slots}
use Rattle.slot_space.specs.Limits.{node_limit}
use Rattle.run_trace.specs.declared.entry.Act.{Act}
use Rattle.run_trace.specs.declared.entry.Act.TheVariants.{Boot, Run, Take, Move}
use Rattle.run_trace.specs.declared.entry.Setup.{Setup}
use Rattle.levels.specs.Choice.{has_ready}
use Rattle.bubbles.specs.Forests.{empty_forest}
use Rattle.run_trace.specs.Bubbles.{is_listed}
use Rattle.run_trace.specs.Program.{Program}
use Rattle.run_trace.specs.Talks.{silent}
use Rattle.run_trace.specs.Local.{Local, EventSoFar}
use Rattle.node_state.specs.declared.output.EventOutput.{EventOutput}

abbrev pub program : Setup → Image → Program
program setup image = record { setup = setup; image = image }

-- the main thread can start: at a multiple of 4
abbrev pub StartsAligned : Image → Type 0
StartsAligned image = image.main % 4 ≡ 0

-- a node before its first event, whatever the image is
abbrev pub fresh_in : Setup → ℕ → Local
fresh_in setup n = record {
  booted = false;
  slots = record { free = starting_slots setup.geometry.nodes setup.geometry.slots n };
  threads = [];
  forest = empty_forest setup.tree;
  births = [];
  sems = [];
  halted = false;
  talk = silent;
}

-- the processor has a pick, or the thread that is to move is on a run list
abbrev pub can_act : Local → Act → Bool
can_act s Boot = true
can_act s (Run vp quantum) = has_ready s.forest.lists.tree vp s.forest.lists.rows
can_act s (Take from) = true
can_act s (Move t to) = is_listed t s.forest

-- the node that a packet is taken from has one of the numbers that there may be
abbrev pub IsFromNode : Act → Type 0
IsFromNode (Take from) = from < node_limit
IsFromNode _ = ⊤

-- the event that leaves this node and has come to this
abbrev pub event_of : Local → EventOutput → EventSoFar
event_of node done = record { node = node; labels = done.labels; sends = done.sends; prints = done.prints }

-- where the act isn't possible, nothing has changed
abbrev pub Answers : Option EventSoFar → Local → Local → Option EventOutput → Type 0
Answers event old new None = (event ≡ None) × (new ≡ old)
Answers event old new (Some done) = event ≡ Some (event_of new done)

-- the same in the midst of an event
abbrev pub Becomes : Option EventSoFar → EventSoFar → EventSoFar → Bool → Type 0
Becomes event old new false = (event ≡ None) × (new ≡ old)
Becomes event old new true = event ≡ Some new
