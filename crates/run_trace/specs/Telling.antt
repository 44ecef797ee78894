-- What a trace tells: what its labels tell, entry by entry.
use Rattle.std.specs.Prelude.{List, [], ◌∷◌, ◌++◌, true, false, ◌==◌, if◌then◌else◌}
use Rattle.run_trace.specs.declared.entry.Entry.{Entry}
use Rattle.run_trace.specs.Program.{Program}
use Rattle.run_trace.specs.Talks.{silent}
use Rattle.run_trace.specs.Spots.{after_labels, at_node, at_first}
use Rattle.run_trace.specs.Links.{left_after, packets_to}
use Rattle.run_trace.specs.World.{World}
use Rattle.run_trace.specs.Items.{Progress, ended_with}

-- all that the entry has sent, and what its node keeps then
abbrev pub entry_end : Program → Entry → World → Progress
entry_end p x w = ended_with p x.node x.act x.labels w.spots w.links (w.talks x.node)

abbrev pub after_entry : Program → Entry → World → World
after_entry p x w = record {
  spots = after_labels p x.node x.labels w.spots;
  links = λ i j. (if x.node == j then left_after i x.act (w.links i j) else w.links i j)
      ++ (if x.node == i then packets_to j x.stamp (entry_end p x w).sends else []);
  begun = λ m. if x.node == m then true else w.begun m;
  talks = at_node w.talks x.node (entry_end p x w).talk;
}

-- newest entry first, after what was told of old
abbrev pub world_of : Program → World → List Entry → World
world_of p old [] = old
world_of p old (x ∷ xs) = after_entry p x (world_of p old xs)

-- before the first entry
abbrev pub first_world : Program → World
first_world p = record { spots = at_first p; links = λ i j. []; begun = λ n. false; talks = λ n. silent }
