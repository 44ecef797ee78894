-- The threads of a node that are on its run lists.
use Rattle.std.specs.Prelude.{List, [], ◌∷◌, if◌then◌else◌}
use Rattle.slot_space.specs.declared.names.Tid.{Tid}
use Rattle.bubbles.specs.Forests.{ForestView}
use Rattle.run_trace.specs.Bubbles.{is_listed}
use Rattle.run_trace.specs.Guests.{Thread}
use Rattle.run_trace.specs.Local.{Local}

-- the names of those among these
abbrev pub listed_among : ForestView → List (Tid × Thread) → List Tid
listed_among f [] = []
listed_among f (e ∷ es) = if is_listed e.0 f then e.0 ∷ listed_among f es else listed_among f es

-- the names of those that are here, ascending
abbrev pub listed : Local → List Tid
listed s = listed_among s.forest s.threads
