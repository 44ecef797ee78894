-- What is known of a link is what the trace leaves on it.
use Rattle.std.proofs.Common.{◌≡◌, ℕ, ◌<◌, List, [], ◌∷◌, ◌++◌, length, Some, refl, sym, ap, ◌∙◌, arith, append-nil, is_some}
use Rattle.std.specs.Prelude.{◌&&◌, nat_lt, slice_get}
use Rattle.std.proofs.lemmas.Bool.{lt-ltb}
use Rattle.run_trace.specs.declared.entry.Act.{Act}
use Rattle.run_trace.specs.declared.entry.Act.TheVariants.{Boot, Run, Take, Move}
use Rattle.run_trace.specs.declared.entry.Entry.{Entry}
use Rattle.run_trace.specs.declared.packet.Packet.{Packet}
use Rattle.run_trace.specs.Cluster.{Net}
use Rattle.run_trace.specs.Local.{Local}
use Rattle.run_trace.specs.Program.{Program, nodes_of, processors_of}
use Rattle.levels.specs.Choice.{has_ready}
use Rattle.run_trace.specs.Bubbles.{is_listed}
use Rattle.wires.specs.declared.ends.Ends.{Ends}
use Rattle.wires.specs.declared.link.Link.{Link}
use Rattle.wires.specs.Ends.{known_from, of_link}
use Rattle.wires.specs.Link as link
use Rattle.wires.specs.Link.{link_received, link_sent, link_waiting, IsSettled}
use Rattle.wires.specs.Wires.{row_link, link_at, known_on, received_on, sent_on, AreWired}
use Rattle.basics.proofs.Lemmas.{some_at}
use Rattle.wires.proofs.Lemmas.{known_on-node}
use Rattle.node_loop.specs.View.{NodeView}
use Rattle.node_loop.specs.Turns.{IsActInRange, can}
use Rattle.cluster.specs.Acts.{is_possible}
use Rattle.cluster.specs.Standing.{StandsFor, net_after}
use Rattle.cluster.specs.View.{ClusterView, wires_of}
use Rattle.cluster.proofs.Lists.{wires-get, wires-length}
use Rattle.run_trace.specs.Links.{first_of}

pub same_rest : {A : Type 0} (xs ys zs : List A) → xs ++ ys ≡ xs ++ zs → ys ≡ zs
same_rest [] ys zs e = e
same_rest (x ∷ xs) ys zs e = let k : xs ++ ys ≡ xs ++ zs = cc in same_rest xs ys zs k

pub link_there : (es : List (Ends Packet)) (i j : ℕ) → AreWired es → i < length es → j < length es → (x : Link Packet) × (link_at es i j ≡ Some x)
link_there es i j w li lj =
    let a = some_at es i li in
    let x = some_at a.0.links.items j (omega (arith, w.wide i a.0 a.1, a.0.links.ok.0, lj)) in
    (x.0, ap (λ o. row_link o j) a.1 ∙ x.1)

first_known : (got known waiting left all : List Packet) → got ++ (known ++ waiting) ≡ all → got ++ left ≡ all → (known ≡ [] → got ≡ all) → first_of known ≡ first_of left
first_known got (q ∷ qs) waiting left all e k s = ap first_of (same_rest got (q ∷ qs ++ waiting) left (e ∙ sym k))
first_known got [] waiting left all e k s =
    let none : left ≡ [] = same_rest got left [] (k ∙ sym (s refl) ∙ sym (append-nil got)) in
    sym (ap first_of none)

pub held_is : (ps : List Packet) → nat_lt 0 (length ps) ≡ is_some (first_of ps)
held_is [] = refl
held_is (p ∷ ps) = lt-ltb 0 (length (p ∷ ps)) (omega arith)

module _ (c : ClusterView) (before kept : List Entry) (s : StandsFor c before kept) where
  abbrev p : Program
  p = c.program

  abbrev net : Net
  net = net_after p (kept ++ before)

  pub as_many : (i : ℕ) → i < nodes_of p → i < length (wires_of c)
  as_many i l = omega (arith, wires-length c.nodes c.rest, s.agrees.count, l)

  -- what the receiver sees first is what the link has first
  pub link_known : (i j : ℕ) → i < nodes_of p → j < nodes_of p → first_of (known_on (wires_of c) i j) ≡ first_of (net.links i j)
  link_known i j li lj =
      let es : List (Ends Packet) = wires_of c in
      let x = link_there es i j s.agrees.trace.wired (as_many i li) (as_many j lj) in
      let y = link_there es j i s.agrees.trace.wired (as_many j lj) (as_many i li) in
      let settled : IsSettled x.0 y.0 = s.settled i j x.0 y.0 li lj x.1 y.1 in
      let got : received_on es i j ≡ link_received y.0 = ap (of_link link_received) y.1 in
      let gave : sent_on es i j ≡ link_sent x.0 = ap (of_link link_sent) x.1 in
      let all : link_received y.0 ++ net.links i j ≡ link_sent x.0 = ap (λ ps. ps ++ net.links i j) (sym got) ∙ s.agrees.under_way i j ∙ gave in
      ap (λ o. first_of (of_link link.link_known o)) y.1
      ∙ first_known (link_received y.0) (link.link_known y.0) (link_waiting x.0) (net.links i j) (link_sent x.0) settled.content all settled.shows

  module _ (n : ℕ) (v : NodeView) (at : slice_get c.nodes n ≡ Some v) (l : n < nodes_of p) where
    -- what a node sees first of a sender
    pub known_first : (from : ℕ) → from < nodes_of p → first_of (known_from v.ends from) ≡ first_of (net.links from n)
    known_first from k = ap first_of (sym (known_on-node (wires_of c) from n v.ends (wires-get c.nodes c.rest n v at))) ∙ link_known from n k l

    -- whether it can is told by the node itself
    pub can_is : (act : Act) → IsActInRange p n act → can v act ≡ is_possible p net n act
    can_is Boot r = refl
    can_is (Run vp quantum) r =
        ap (λ (z : Local). has_ready z.forest.lists.tree vp z.forest.lists.rows) (sym (s.agrees.node n v at).state)
        ∙ sym (ap (λ b. b && has_ready (net.nodes n).forest.lists.tree vp (net.nodes n).forest.lists.rows) (lt-ltb vp (processors_of p) r.0))
    can_is (Take from) r = held_is (known_from v.ends from) ∙ ap is_some (known_first from r)
    can_is (Move t to) r = ap (λ (z : Local). is_listed t z.forest) (sym (s.agrees.node n v at).state)
