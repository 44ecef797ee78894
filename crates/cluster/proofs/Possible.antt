-- An act that a node can do is done.
use Rattle.std.proofs.Common.{◌≡◌, ℕ, ◌<◌, List, [], ◌++◌, length, Option, Some, None, is_some, true, false, cond, eqb, refl, sym, ap, ◌∙◌, subst}
use Rattle.std.specs.Prelude.{nat_lt, nat_le, ◌&&◌, not, slice_get}
use Rattle.std.specs.Map.{lookup}
use Rattle.std.proofs.lemmas.Bool.{lt-ltb, le-leb, ne_eqb}
use Rattle.slot_space.specs.declared.names.Tid.{Tid}
use Rattle.run_trace.specs.declared.entry.Act.{Act}
use Rattle.run_trace.specs.declared.entry.Act.TheVariants.{Boot, Run, Take, Move}
use Rattle.run_trace.specs.declared.entry.Entry.{Entry}
use Rattle.run_trace.specs.declared.packet.Packet.{Packet}
use Rattle.run_trace.specs.Names.{is_tid}
use Rattle.run_trace.specs.Program.{Program, nodes_of, processors_of, quantum_limit, tree_of}
use Rattle.levels.specs.Trees.{Tree}
use Rattle.levels.specs.Choice.{has_ready}
use Rattle.run_trace.specs.Bubbles.{is_listed}
use Rattle.run_trace.specs.Local.{Local}
use Rattle.run_trace.specs.Machine.{local_event, turn_event, is_range, acts, moves_found}
use Rattle.run_trace.specs.Cluster.{Net}
use Rattle.run_trace.specs.Rules.{spots_of}
use Rattle.run_trace.specs.Spots.{Spots, at_first}
use Rattle.run_trace.specs.Stands.{Stands}
use Rattle.trace_laws.proofs.Lemmas.{listed_there, run_there, stands_after, tree_there}
use Rattle.wires.specs.Ends.{known_from}
use Rattle.node_loop.specs.View.{NodeView, raised}
use Rattle.node_loop.specs.Turns.{IsActInRange, IsImpossible, Turns, can}
use Rattle.node_loop.specs.declared.node.Turned.TheVariants.{Idle}
use Rattle.cluster.specs.Standing.{StandsFor, IsNodeOf, net_after}
use Rattle.cluster.specs.View.{ClusterView}

none_known : (ps : List Packet) → nat_lt 0 (length ps) ≡ true → ps ≡ [] → ⊥
none_known ps l e = let none : nat_lt 0 (length ps) ≡ false = ap (λ (qs : List Packet). nat_lt 0 (length qs)) e in cc (l, none)

module _ (c : ClusterView) (before kept : List Entry) (s : StandsFor c before kept) (n : ℕ) (inside : n < nodes_of c.program) (v : NodeView) (at : slice_get c.nodes n ≡ Some v) where
  abbrev p : Program
  p = c.program

  abbrev trace : List Entry
  trace = kept ++ before

  abbrev net : Net
  net = net_after p trace

  is_node : IsNodeOf c trace n v
  is_node = s.agrees.node n v at

  abbrev w : Spots
  w = spots_of p (at_first p) trace

  stands : Stands p w net
  stands = stands_after p trace s.agrees.legal.runs

  -- the event that isn't there, in the words of the trace
  as_told : (act : Act) → turn_event v.program v.me v.state act None ≡ None → local_event p n (net.nodes n) act None ≡ None
  as_told act e =
      subst (λ z. local_event p n z act None ≡ None) (sym is_node.state) (subst (λ (q : Program). local_event q n v.state act None ≡ None) is_node.program
      (subst (λ m. local_event v.program m v.state act None ≡ None) is_node.me e))

  booted : (net.nodes n).booted ≡ true
  booted = ap (λ (z : Local). z.booted) is_node.state ∙ is_node.booted

  runs_some : (vp quantum : ℕ) → IsActInRange p n (Run vp quantum) → has_ready (net.nodes n).forest.lists.tree vp (net.nodes n).forest.lists.rows ≡ true
      → local_event p n (net.nodes n) (Run vp quantum) None ≡ None → ⊥
  unfolding local_event is_range
  runs_some vp quantum r l e =
      let ready : has_ready (tree_of p) vp (net.nodes n).forest.lists.rows ≡ true = ap (λ (z : Tree). has_ready z vp (net.nodes n).forest.lists.rows) (sym (tree_there p w net stands n)) ∙ l in
      let d = run_there p w net stands n vp quantum r.0 ready in
      let range : (nat_lt n (nodes_of p) && ((net.nodes n).booted && (nat_lt vp (processors_of p) && (nat_lt 0 quantum && nat_le quantum quantum_limit)))) ≡ true =
      rw (lt-ltb n (nodes_of p) inside, booted, lt-ltb vp (processors_of p) r.0, lt-ltb 0 quantum r.1, le-leb quantum quantum_limit r.2) refl in
      cc (sym e ∙ ap (λ z. cond z (acts p n (net.nodes n) (Run vp quantum) None) None) range ∙ d.1)

  moves_some : (t : Tid) (to : ℕ) → IsActInRange p n (Move t to) → is_listed t (net.nodes n).forest ≡ true → local_event p n (net.nodes n) (Move t to) None ≡ None → ⊥
  unfolding local_event is_range
  moves_some t to r l e =
      let x = listed_there p w net stands n t l in
      let range : (nat_lt n (nodes_of p) && ((net.nodes n).booted && (nat_lt to (nodes_of p) && not (eqb to n)))) ≡ true =
      rw (lt-ltb n (nodes_of p) inside, booted, lt-ltb to (nodes_of p) r.0, ne_eqb to n r.1) refl in
      let listed : local_event p n (net.nodes n) (Move t to) None ≡ moves_found p t to (lookup (is_tid t) (net.nodes n).threads) (net.nodes n) =
      ap (λ z. cond z (acts p n (net.nodes n) (Move t to) None) None) range ∙ ap (λ z. cond z (moves_found p t to (lookup (is_tid t) (net.nodes n).threads) (net.nodes n)) None) l in
      let found = ap (λ o. moves_found p t to o (net.nodes n)) x.1 in
      cc (sym e ∙ listed ∙ found)

  possible : (act : Act) → IsActInRange p n act → can v act ≡ true → IsImpossible v act → ⊥
  possible Boot r b i = cc b
  possible (Run vp quantum) r b i = runs_some vp quantum r
      (ap (λ (z : Local). has_ready z.forest.lists.tree vp z.forest.lists.rows) is_node.state ∙ b)
      (as_told (Run vp quantum) i)
  possible (Take from) r b i = none_known (known_from v.ends from) b i
  possible (Move t to) r b i = moves_some t to r (ap (λ (z : Local). is_listed t z.forest) is_node.state ∙ b) (as_told (Move t to) i)

  -- it is the same after the clock was raised
  raised_too : (clock : ℕ) (act : Act) → IsImpossible (raised clock v) act → IsImpossible v act
  raised_too clock Boot i = i
  raised_too clock (Run vp quantum) i = i
  raised_too clock (Take from) i = i
  raised_too clock (Move t to) i = i

  pub never_idle : (clock : ℕ) (act : Act) (new : NodeView) → IsActInRange p n act → can v act ≡ true → Turns (raised clock v) act new Idle → ⊥
  never_idle clock act new r b h = possible act r b (raised_too clock act h.impossible)
