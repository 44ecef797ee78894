-- Nodes that are raised stand for nothing more, and a turn of one of them keeps that all are driven.
use Rattle.std.proofs.Common.{◌≡◌, ℕ, zero, suc, ◌<◌, ◌≤◌, List, [], ◌∷◌, length, map, set, get_or, Some, true, sym, ap, ◌∙◌, subst, arith}
use Rattle.std.specs.Prelude.{slice_get}
use Rattle.std.proofs.Math.Nat.{le-max_left, le-max_right}
use Rattle.std.proofs.lemmas.Option.{same_Some, slice_get_within}
use Rattle.basics.proofs.Lemmas.{by_eq, get_set_other, get_set_same, some_at}
use Rattle.run_trace.specs.declared.entry.Act.{Act}
use Rattle.run_trace.specs.declared.entry.Entry.{Entry}
use Rattle.run_trace.specs.Histories.{Turn, seen}
use Rattle.run_trace.specs.Program.{Program}
use Rattle.node_loop.specs.Turns.{IsActInRange, IsInRange, Turns, entry_limit}
use Rattle.node_loop.specs.View.{NodeView, next_round, raised}
use Rattle.node_loop.specs.declared.node.Turned.{Turned}
use Rattle.node_loop.specs.declared.node.Turned.TheVariants.{Did, Idle}
use Rattle.cluster.specs.Apart.{Fits, HaveGoneOn}
use Rattle.cluster.specs.Standing.{AgreesWith}
use Rattle.cluster.specs.View.{ClusterView, ShellView, greatest_clock, round_in, shell_of}
use Rattle.cluster_tests.specs.Apart.{AreDriven, AreTaken}

-- ## The start

pub two_nodes : (shell : ShellView) (nodes : List NodeView) → AreTaken shell nodes → length nodes ≡ 2
two_nodes shell nodes t = ap length t.nodes_are ∙ t.agrees.count ∙ t.two

pub driven_at_start : (shell : ShellView) (old nodes : List NodeView) → AreTaken shell old → nodes ≡ map (raised (greatest_clock old)) old
    → ((k : ClusterView) (before kept : List Entry) → AgreesWith k before kept → Fits (shell_of k) (map (raised (greatest_clock k.nodes)) k.nodes) × HaveGoneOn (shell_of k) (map (raised (greatest_clock k.nodes)) k.nodes) before kept (greatest_clock k.nodes) (next_round (round_in k)) (λ n. []))
    → AreDriven shell nodes
driven_at_start shell old nodes t now law =
    let c : ClusterView = t.from in
    let same : nodes ≡ map (raised (greatest_clock c.nodes)) c.nodes = now ∙ ap (λ us. map (raised (greatest_clock us)) us) t.nodes_are in
    subst (λ z. AreDriven z nodes) (sym t.shell_is) (subst (λ us. AreDriven (shell_of c) us) (sym same) (record {
      kept = t.kept;
      began = greatest_clock c.nodes;
      round = next_round (round_in c);
      turns = λ n. [];
      fits = (law c [] t.kept t.agrees).0;
      gone = (law c [] t.kept t.agrees).1;
      reached = all_up (greatest_clock c.nodes) c.nodes;
      two = t.two;
    }))
  where
    all_up : (clock : ℕ) (vs : List NodeView) (n : ℕ) (w : NodeView) → slice_get (map (raised clock) vs) n ≡ Some w → clock ≤ w.clock
    all_up clock [] n w e = absurd (cc e)
    all_up clock (v ∷ vs) zero w e = let k : raised clock v ≡ w = same_Some (raised clock v) w e in omega (arith, ap (λ (z : NodeView). z.clock) k, le-max_right v.clock clock)
    all_up clock (v ∷ vs) (suc n) w e = all_up clock vs n w e

-- ## A turn

later : (v new : NodeView) (act : Act) (t : Turned) → Turns v act new t → v.clock ≤ new.clock
later v new act Did h = omega (arith, ap (λ (z : NodeView). z.clock) h.after, le-max_left v.clock (seen h.took))
later v new act Idle h = omega (arith, ap (λ (z : NodeView). z.clock) h.same)

module _ (shell : ShellView) (nodes : List NodeView) (d : AreDriven shell nodes) (at : ℕ) (place : at < 2) (o : NodeView) where
  -- the node at this place
  abbrev v : NodeView
  v = get_or nodes at o

  reads : (y : NodeView) → slice_get nodes at ≡ Some (get_or nodes at y)
  reads y =
      let x = some_at nodes at (omega (arith, place, d.fits.count, d.two)) in
      x.1 ∙ ap (λ z. Some z) (sym (read nodes at x.0 x.1))
    where
      read : (xs : List NodeView) (k : ℕ) (x : NodeView) → slice_get xs k ≡ Some x → get_or xs k y ≡ x
      read [] k x e = absurd (cc e)
      read (z ∷ zs) zero x e = cc e
      read (z ∷ zs) (suc k) x e = read zs k x e

  there : slice_get nodes at ≡ Some v
  there = reads o

  pub in_range : (act : Act) → IsActInRange shell.program at act → IsInRange v act
  in_range act r = subst (λ (q : Program). IsActInRange q v.me act) (sym (d.fits.programs at v there)) (subst (λ m. IsActInRange shell.program m act) (sym (d.fits.numbered at v there)) r)

  pub has_begun : v.state.booted ≡ true
  has_begun = (d.gone.each at v there).booted

  pub driven_on : (act : Act) → IsActInRange shell.program at act → (new : NodeView) (t : Turned) → Turns v act new t → new.state.booted ≡ true → length v.entries < entry_limit
      → ((shell : ShellView) (nodes : List NodeView) → Fits shell nodes → (before kept : List Entry) (began round : ℕ) (turns : ℕ → List Turn) → HaveGoneOn shell nodes before kept began round turns → (n : ℕ) (v : NodeView) → slice_get nodes n ≡ Some v → began ≤ v.clock → length v.entries < entry_limit → (act : Act) → IsInRange v act → (new : NodeView) (turned : Turned) → Turns v act new turned → new.state.booted ≡ true → Fits shell (set nodes n new) × (further : ℕ → List Turn) × HaveGoneOn shell (set nodes n new) before kept began round further)
      → AreDriven shell (set nodes at new)
  driven_on act range new t h booted few law =
      let r = law shell nodes d.fits [] d.kept d.began d.round d.turns d.gone at v there (d.reached at v there) few act (in_range act range) new t h booted in
      record {
        kept = d.kept;
        began = d.began;
        round = d.round;
        turns = r.1;
        fits = r.0;
        gone = r.2;
        reached = λ n w e. by_eq n at
            (λ k.
            let same : new ≡ w = same_Some new w (sym (get_set_same nodes at new (slice_get_within nodes at v there)) ∙ subst (λ i. slice_get (set nodes at new) i ≡ Some w) k e) in
            omega (arith, d.reached at v there, later v new act t h, ap (λ (z : NodeView). z.clock) same))
            (λ ne. d.reached n w (sym (get_set_other nodes n at new ne) ∙ e));
        two = d.two;
      }

  -- read with another default it is the same
  pub same_read : (x : NodeView) → get_or nodes at x ≡ get_or nodes at o
  same_read x = same_Some (get_or nodes at x) (get_or nodes at o) (sym (reads x) ∙ reads o)
