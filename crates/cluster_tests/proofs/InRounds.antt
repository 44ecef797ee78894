-- A cluster stands after each round, and its nodes have room for another.
use Rattle.std.proofs.Common.{◌<◌, List, [], ◌++◌, arith}
use Rattle.std.proofs.lemmas.List.{length-append}
use Rattle.run_trace.specs.declared.entry.Entry.{Entry}
use Rattle.run_trace.specs.Legality.{boot_entries}
use Rattle.run_trace.specs.Program.{Program, nodes_of}
use Rattle.cluster.specs.Rounds.{AddsRound, HasRoomForRound}
use Rattle.cluster.specs.Standing.{StandsFor, HasTrace, IsStanding}
use Rattle.cluster.specs.View.{ClusterView}
use Rattle.cluster.proofs.Lemmas.{boot_count, keeps_within}
use Rattle.cluster_tests.specs.Rounds.{IsInRounds}

pub begun : (c : ClusterView) (p : Program) → StandsFor c [] (boot_entries p (nodes_of p)) → IsInRounds c
begun c p s = record { kept = boot_entries p (nodes_of p); stands = s; few = omega (arith, boot_count p (nodes_of p), p.setup.geometry.few_nodes) }

pub standing : (c : ClusterView) → IsInRounds c → IsStanding c
standing c w = ([], w.kept, w.stands)

pub room : (c : ClusterView) → IsInRounds c → c.turns < 1000 → HasRoomForRound c
room c w few n v at = omega (arith, keeps_within c w.kept w.stands.agrees.trace n v at, w.few, few)

pub one_more : (old new : ClusterView) (w : IsInRounds old) → AddsRound old [] w.kept new → IsInRounds new
one_more old new w d = record { kept = d.entries ++ w.kept; stands = d.stands; few = omega (arith, length-append d.entries w.kept, w.few, d.turns) }

pub has_trace : (c : ClusterView) → IsInRounds c → (kept : List Entry) × HasTrace c kept
has_trace c w = (w.kept, w.stands.agrees.trace)
