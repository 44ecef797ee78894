use Rattle.std.proofs.Common.{◌≡◌, List, length, Option, Some, subst, refl, sym, ap, ◌∙◌, length-set}
use Rattle.run_trace.specs.declared.entry.Entry.{Entry}
use Rattle.run_trace.specs.Program.{Program}
use Rattle.run_trace.specs.Cluster.{IsTaken}
use Rattle.run_trace.specs.Local.{Local}
use Rattle.node_state.specs.declared.output.EventOutput.{EventOutput}
use Rattle.run_judge.specs.declared.flights.Flight.{Flight}
use Rattle.run_judge.specs.Nets.{NodeDoes}
use Rattle.run_judge.proofs.ClusterLemmas.{fits, advances}
use Rattle.run_judge.proofs.cluster.JudgedCluster.does.Goals as goal

abbrev p : goal.After-drop-done-3 → Program
p c = c.args.program.now

abbrev nodes : goal.After-drop-done-3 → List Local
nodes c = c.args.self.now.nodes.items

abbrev old : goal.After-drop-done-3 → List Flight
old c = c.args.self.now.flights.all.items

abbrev x : goal.After-drop-done-3 → Entry
x c = c.args.entry.now

event : (c : goal.After-drop-done-3) → NodeDoes (p c) (x c).node (x c).act c.take-took.result (nodes c) c.do_event.new.nodes.items (Some c.in-Some.done)
event c = subst (λ (o : Option EventOutput). NodeDoes (p c) (x c).node (x c).act c.take-took.result (nodes c) c.do_event.new.nodes.items o) c.in-Some.is c.in_ok-done.ensures

in_time : (c : goal.After-drop-done-3) → IsTaken (x c).stamp (x c).act c.take-took.result
in_time c = c.comes_in_time.ensures.0 c.if-not-comes_in_time.false

labels : (c : goal.After-drop-done-3) → (x c).labels ≡ c.in-Some.done.labels
labels c = sym c.as_slice.ensures ∙ c.same_labels.ensures.0 c.if-not-same_labels.false ∙ c.as_slice-2.ensures

pub returns-clause-fits : goal.returns-clause-fits
returns-clause-fits c =
    (λ _. fits (p c) (nodes c) (old c) (x c) c.take-took.result (event c).0 c.in-Some.done c.take-took.ensures.first (event c).1 (in_time c) (labels c), λ _. refl)

pub returns-clause-after : goal.returns-clause-after
returns-clause-after c = λ _.
    advances (p c) (nodes c) (old c) (x c) c.take-took.result (event c).0 c.in-Some.done c.do_event.new.nodes.items c.take-took.new.self.all.items c.send.new.self.all.items
    c.requires.nodes c.take-took.ensures.first (event c).1 (event c).2 c.take-took.ensures.rest c.in_ok-send.ensures

pub returns-clause-count : goal.returns-clause-count
returns-clause-count c = λ _. ap length (event c).2 ∙ length-set (nodes c) (x c).node (event c).0
