-- How the parts in code mean the parts of the definition.
use Rattle.std.specs.Prelude.{ℕ, List, Bool}
use Rattle.std.specs.List.Sorted.{IsStrictlySortedBy}
use Rattle.std.specs.Map.{keys_of}
use Rattle.slot_space.specs.declared.names.Tid.{Tid}
use Rattle.marcel_core.specs.declared.birth.Birth.{Birth}
use Rattle.marcel_sync.specs.declared.sem.SemRow.{SemRow}
use Rattle.run_trace.specs.declared.label.Label.{Label}
use Rattle.run_trace.specs.declared.packet.Send.{Send}
use Rattle.run_trace.specs.Names.{tid_cmp}
use Rattle.run_trace.specs.Guests.{Thread}
use Rattle.run_trace.specs.Talks.{Talk}
use Rattle.bubbles.specs.Forests.{ForestView}
use Rattle.run_trace.specs.Local.{Local, EventSoFar}

-- the threads stand in the order of their names
abbrev pub AreInOrder : List (Tid × Thread) → Type 0
AreInOrder threads = IsStrictlySortedBy tid_cmp (keys_of threads)

abbrev pub talk_of : List Tid → Bool → List ℕ → Talk
talk_of claims wants wanting = record { claims = claims; wants = wants; wanting = wanting }

abbrev pub local_of : Bool → List ℕ → List (Tid × Thread) → ForestView → List Birth → List SemRow → Bool → Talk → Local
local_of booted free threads forest births sems halted talk = record {
  booted = booted;
  slots = record { free = free };
  threads = threads;
  forest = forest;
  births = births;
  sems = sems;
  halted = halted;
  talk = talk;
}

abbrev pub doing_of : Local → List Label → List Send → List ℕ → EventSoFar
doing_of node labels sends prints = record { node = node; labels = labels; sends = sends; prints = prints }
