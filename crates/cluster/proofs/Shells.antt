-- A cluster taken apart: its shell, and the nodes that can be put into it.
use Rattle.std.proofs.Common.{◌≡◌, ℕ, ◌+◌, ◌≤◌, List, [], ◌++◌, length, sym, ap, ◌∙◌, subst, arith}
use Rattle.std.proofs.lemmas.Option.{slice_get_within}
use Rattle.run_trace.specs.declared.entry.Entry.{Entry}
use Rattle.run_trace.specs.declared.packet.Packet.{Packet}
use Rattle.run_trace.specs.Program.{Program, nodes_of}
use Rattle.wires.specs.declared.ends.Ends.{Ends}
use Rattle.wires.specs.Ends.{of_link}
use Rattle.wires.specs.Link.{link_received, link_sent}
use Rattle.wires.specs.Wires.{received_on, row_link, sent_on}
use Rattle.basics.proofs.Lemmas.{some_at}
use Rattle.node_loop.specs.View.{NodeView}
use Rattle.cluster.specs.Apart.{FitAfterTurns, IsShell}
use Rattle.cluster.specs.Standing.{AgreesWith, net_after}
use Rattle.cluster.specs.View.{ClusterView, shell_of, view_of}
use Rattle.cluster.proofs.Lists.{behind}
use Rattle.cluster.proofs.Outside as outside
use Rattle.cluster.proofs.SideWires.{wired_all}

module _ (c : ClusterView) (before kept : List Entry) (s : AgreesWith c before kept) where
  abbrev p : Program
  p = c.program

  -- the place of a further node is past those of the nodes
  abbrev place : ℕ → ℕ
  place k = length c.nodes + k

  further : (k : ℕ) → nodes_of p ≤ place k
  further k = omega (arith, s.count)

  unused : (k i : ℕ) → (sent_on c.rest k i ≡ []) × (received_on c.rest i k ≡ [])
  unused k i = (
    ap (λ o. of_link link_sent (row_link o i)) (sym (behind c.nodes c.rest k)) ∙ s.carried.sends (place k) i ∙ outside.sent_past p before kept s.legal.runs (place k) i (further k),
    ap (λ o. of_link link_received (row_link o i)) (sym (behind c.nodes c.rest k)) ∙ s.carried.takes i (place k) ∙ outside.received_past p before kept s.legal.runs i (place k) (further k),
  )

  pub is_shell : IsShell (shell_of c)
  is_shell = record { some_quantum = s.some_quantum; bounded_quantum = s.bounded_quantum; aligned = s.aligned; unused = unused }

  -- nothing was on the links when the kept entries began
  pub still_before : (i j : ℕ) → (net_after p before).links i j ≡ []
  still_before i j =
      outside.nothing_before p before kept s.legal.runs i j
      (ap (λ ps. ps ++ (net_after p (kept ++ before)).links i j) (sym (s.carried.takes i j)) ∙ s.under_way i j ∙ s.carried.sends i j)

  pub fit_after : FitAfterTurns (shell_of c) c.nodes
  fit_after now long keeps = record {
    count = long ∙ s.count;
    numbered = λ n w g.
        let v = some_at c.nodes n (omega (arith, long, slice_get_within now n w g)) in
        (keeps n v.0 w v.1 g).me ∙ (s.node n v.0 v.1).me;
    programs = λ n w g.
        let v = some_at c.nodes n (omega (arith, long, slice_get_within now n w g)) in
        (keeps n v.0 w v.1 g).program ∙ (s.node n v.0 v.1).program;
    wired = wired_all c.rest c.nodes now long (λ n v w e g. (keeps n v w e g).wired) s.trace.wired;
  }

-- ## In the words of the code: p, turns, vs and rest are the parts of the cluster

module _ (p : Program) (turns : ℕ) (vs : List NodeView) (rest : List (Ends Packet)) (now : ClusterView) (is : view_of p turns vs rest ≡ now)
    (s : (before kept : List Entry) × AgreesWith now before kept) where
  agrees : AgreesWith (view_of p turns vs rest) s.0 s.1
  agrees = subst (λ c. AgreesWith c s.0 s.1) (sym is) s.2

  pub right_shell : IsShell (record { program = p; rest = rest })
  right_shell = is_shell (view_of p turns vs rest) s.0 s.1 agrees

  pub right_fit : FitAfterTurns (record { program = p; rest = rest }) vs
  right_fit = fit_after (view_of p turns vs rest) s.0 s.1 agrees
