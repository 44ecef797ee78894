-- What a round side by side adds.
use Rattle.std.proofs.Common.{◌≡◌, ℕ, zero, suc, ◌+◌, ◌*◌, ◌≤◌, List, [], ◌∷◌, ◌++◌, length, reverse, take, Some, refl, sym, ap, ◌∙◌, arith}
use Rattle.std.specs.Prelude.{slice_get}
use Rattle.std.proofs.lemmas.List.{length-append, length-reverse}
use Rattle.std.proofs.lemmas.Option.{slice_get_within}
use Rattle.std.proofs.Math.Seq.{take-suc}
use Rattle.run_trace.specs.declared.entry.Entry.{Entry}
use Rattle.run_trace.specs.Console.{printed}
use Rattle.run_trace.specs.Histories.{Turn}
use Rattle.run_trace.specs.Program.{Program, nodes_of}
use Rattle.node_loop.specs.Histories.{entries_of_turns, events_of_turns}
use Rattle.node_loop.specs.View.{NodeView, next_round}
use Rattle.cluster.specs.Gathering.{AreGathered, GathersAfter, entries_in}
use Rattle.cluster.specs.Rounds.{AddsRound, HasRoomForRound}
use Rattle.cluster.specs.SideBySide.{HaveRounded, entries_together}
use Rattle.cluster.specs.Standing.{StandsFor}
use Rattle.cluster.specs.View.{ClusterView, console_at, console_in, greatest_clock, round_at, round_in, view_of}
use Rattle.cluster.proofs.Acting.{read_some}
use Rattle.cluster.proofs.Lists.{take_all, wires-length}
use Rattle.cluster.proofs.Resettling.{same_at, same_clocks}
use Rattle.cluster.proofs.SidePasses as passes
use Rattle.cluster.proofs.SideRuns as side
use Rattle.cluster.proofs.SideStands as standing
use Rattle.cluster.proofs.Together.{entries_length}
use Rattle.cluster.proofs.Weaving.{weave_length, woven}

-- ## How many entries there are

together_last : (vs : List NodeView) (v : NodeView) → entries_together (vs ++ v ∷ []) ≡ entries_together vs + length v.entries
together_last [] v = omega arith
together_last (u ∷ us) v = omega (arith, together_last us v)

together_same : (vs ws : List NodeView) → length ws ≡ length vs → ((n : ℕ) (v w : NodeView) → slice_get vs n ≡ Some v → slice_get ws n ≡ Some w → length w.entries ≡ length v.entries) → entries_together ws ≡ entries_together vs
together_same [] [] e k = refl
together_same [] (w ∷ ws) e k = absurd (omega (arith, e))
together_same (v ∷ vs) [] e k = absurd (omega (arith, e))
together_same (v ∷ vs) (w ∷ ws) e k = omega (arith, k 0 v w refl refl, together_same vs ws (omega (arith, e)) (λ n x y f g. k (suc n) x y f g))

pub together_few : (most : ℕ) (vs : List NodeView) → ((n : ℕ) (v : NodeView) → slice_get vs n ≡ Some v → length v.entries ≤ most) → entries_together vs ≤ length vs * most
together_few most [] k = omega arith
together_few most (v ∷ vs) k = omega (arith, k 0 v refl, together_few most vs (λ n w e. k (suc n) w e))

module _ (c : ClusterView) (before kept : List Entry) (s : StandsFor c before kept) (room : HasRoomForRound c) (nodes : List NodeView) (h : HaveRounded (greatest_clock c.nodes) c.rest c.nodes nodes)
    (law : (p : Program) (old : List Entry) (clock round : ℕ) (clocks : ℕ → ℕ) (turns : List Turn) → GathersAfter p old clock round clocks turns → AreGathered p old turns) where
  abbrev p : Program
  p = c.program

  abbrev trace : List Entry
  trace = kept ++ before

  abbrev top : ℕ
  top = greatest_clock c.nodes

  abbrev turns : List Turn
  turns = side.turns c before kept s nodes h

  abbrev each : ℕ → List Turn
  each = side.each c before kept s nodes h

  abbrev entries : List Entry
  entries = entries_in turns

  a : AreGathered p trace turns
  a = law p trace top (next_round (round_in c)) (λ n. top) turns (side.gather c before kept s nodes h room)

  stands : StandsFor (view_of p (c.turns + length entries) nodes c.rest) before (entries ++ kept)
  stands = standing.stands c before kept s room nodes h a

  many_of : (ts : List Turn) → length (entries_of_turns ts) ≡ length ts
  many_of [] = refl
  many_of (t ∷ before) = ap suc (many_of before)

  together_first : (k : ℕ) → k ≤ nodes_of p → entries_together (take k h.ran) ≡ entries_together (take k c.nodes) + length (woven each k)
  together_first zero l = refl
  together_first (suc k) l =
      let o = (side.at_node c before kept s nodes h k).here (omega (arith, l)) in
      let new : take (suc k) h.ran ≡ take k h.ran ++ o.w ∷ [] = take-suc h.ran k o.w (slice_get_within h.ran k o.w o.ran) ∙ ap (λ z. take k h.ran ++ z ∷ []) (read_some h.ran k o.w o.w o.ran) in
      let old : take (suc k) c.nodes ≡ take k c.nodes ++ o.v ∷ [] = take-suc c.nodes k o.v (slice_get_within c.nodes k o.v o.was) ∙ ap (λ z. take k c.nodes ++ z ∷ []) (read_some c.nodes k o.v o.v o.was) in
      let grown : length o.w.entries ≡ length o.v.entries + length (each k) = ap length o.done.history.entries ∙ length-append o.v.entries (reverse (entries_of_turns (each k))) ∙ ap (λ m. length o.v.entries + m) (length-reverse (entries_of_turns (each k)) ∙ many_of (each k)) in
      omega (arith, ap entries_together new, ap entries_together old, together_last (take k h.ran) o.w, together_last (take k c.nodes) o.v, grown, together_first k (omega (arith, l)), weave_length (each k) (woven each k))

  pub together_now : entries_together nodes ≡ entries_together c.nodes + length entries
  together_now =
      let ran : entries_together (take (nodes_of p) h.ran) ≡ entries_together (take (nodes_of p) c.nodes) + length turns = together_first (nodes_of p) (omega arith) in
      let all_ran : take (nodes_of p) h.ran ≡ h.ran = take_all h.ran (nodes_of p) (omega (arith, side.ran_count c before kept s nodes h)) in
      let all_old : take (nodes_of p) c.nodes ≡ c.nodes = take_all c.nodes (nodes_of p) (omega (arith, side.old_count c before kept s nodes h)) in
      together_same h.ran nodes h.settled.nodes.count (λ n v w f g. ap (λ (z : NodeView). length z.entries) (h.settled.nodes.each n v w f g))
      ∙ omega (arith, ran, ap entries_together all_ran, ap entries_together all_old, entries_length turns)

  abbrev shown : List ℕ
  shown = printed (events_of_turns (each 0))

  console_now : console_at (slice_get nodes 0) ≡ console_in c ++ shown
  console_now =
      let o = (side.at_node c before kept s nodes h 0).here c.program.setup.geometry.some_node in
      same_at h.ran nodes h.settled.nodes console_at (λ v es. refl) 0 ∙ ap console_at o.ran ∙ o.done.console ∙ ap (λ bs. bs ++ shown) (sym (ap console_at o.was))

  pub adds : AddsRound c before kept (view_of p (c.turns + length entries) nodes c.rest)
  adds = record {
    program = refl;
    wide = wires-length nodes c.rest ∙ ap (λ k. k + length c.rest) (side.new_count c before kept s nodes h ∙ sym (side.old_count c before kept s nodes h)) ∙ sym (wires-length c.nodes c.rest);
    entries = entries;
    stands = stands;
    turns = refl;
    is_round = passes.is_round c before kept s room nodes h a;
    goes_on = passes.goes_on c before kept s room nodes h a;
    clock = same_clocks h.ran nodes h.settled.nodes ∙ standing.greatest_now c before kept s room nodes h;
    round = same_at h.ran nodes h.settled.nodes round_at (λ v es. refl) 0 ∙ standing.round_now c before kept s room nodes h;
    shown = shown;
    console = console_now;
  }
