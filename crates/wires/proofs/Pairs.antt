-- The links of a list of nodes, where those of one node or of two changed.
use Rattle.std.proofs.Common.{Some, None, ◌≡◌, ℕ, ◌-◌, ◌<◌, List, length, set, sym, ap, ◌∙◌, subst, arith, length-set}
use Rattle.std.specs.Prelude.{slice_get}
use Rattle.std.proofs.lemmas.Option.{slice_get_within, slice_get_past, none-some}
use Rattle.wires.specs.declared.link.Link.{Link}
use Rattle.wires.specs.declared.ends.Ends.{Ends}
use Rattle.wires.specs.Ends.{node_of, link_of, SameOthers, LinkChanged, BothChanged, ArePaired}
use Rattle.wires.specs.Wires.{row_link, link_at, AreWired, StaysWired}
use Rattle.wires.specs.Pairs.{PairChanged, SelfChanged}
use Rattle.basics.proofs.Lemmas.{by_eq, by_less, some_at, get_set_same, get_set_other}

module _ {P : Type 0} where
  -- a link that is there is one of a node that is there
  pub row_case : {X : Type 0} (es : List (Ends P)) (i j : ℕ) (x : Link P) → link_at es i j ≡ Some x → ((a : Ends P) → slice_get es i ≡ Some a → link_of a j ≡ Some x → X) → X
  row_case es i j x r k = by_less i (length es)
      (λ lt. let m = some_at es i lt in k m.0 m.1 (sym (ap (λ o. row_link o j) m.1) ∙ r))
      (λ ge. let none : row_link None j ≡ Some x = sym (ap (λ o. row_link o j) (slice_get_past es i ge)) ∙ r in absurd (none-some x none))

  -- the links of the node that became b
  row_here : (es : List (Ends P)) (i k : ℕ) (a b : Ends P) → slice_get es i ≡ Some a → link_at (set es i b) i k ≡ link_of b k
  row_here es i k a b at = ap (λ o. row_link o k) (get_set_same es i b (slice_get_within es i a at))

  -- the links other than that which changed
  row_others : (es : List (Ends P)) (i k : ℕ) (a b : Ends P) → slice_get es i ≡ Some a → SameOthers k a b
      → (p q : ℕ) → (p ≡ i → q ≡ k → ⊥) → link_at (set es i b) p q ≡ link_at es p q
  row_others es i k a b at o p q ne = by_eq p i
      (λ e. ap (λ j. link_at (set es i b) j q) e ∙ (row_here es i q a b at ∙ (o.links q (ne e) ∙ (sym (ap (λ u. row_link u q) at) ∙ sym (ap (λ j. link_at es j q) e)))))
      (λ np. ap (λ u. row_link u q) (get_set_other es p i b np))

  pub pair_changed : (i j : ℕ) (R : Link P → Link P → Link P → Link P → Type 0) (es : List (Ends P)) (a b a' b' : Ends P)
      → i < j → slice_get es i ≡ Some a → slice_get es j ≡ Some b → AreWired es
      → BothChanged R a b a' b' → StaysWired a a' → StaysWired b b' → PairChanged i j R es (set (set es i a') j b')
  pair_changed i j R es a b a' b' lt ai bj w h sa sb =
      let ma = w.node i a ai in
      let mb = w.node j b bj in
      let es₁ = set es i a' in
      let bj₁ : slice_get es₁ j ≡ Some b = get_set_other es j i a' (λ e. absurd (omega arith)) ∙ bj in
      let oa = subst (λ k. SameOthers k a a') mb h.others_a in
      let ob = subst (λ k. SameOthers k b b') ma h.others_b in
      record {
        x = h.x;
        y = h.y;
        x' = h.x';
        y' = h.y';
        was_x = ap (λ o. row_link o j) ai ∙ subst (λ k. link_of a k ≡ Some h.x) mb h.was_x;
        was_y = ap (λ o. row_link o i) bj ∙ subst (λ k. link_of b k ≡ Some h.y) ma h.was_y;
        is_x = row_others es₁ j i b b' bj₁ ob i j (λ e f. absurd (omega arith)) ∙ (row_here es i j a a' ai ∙ subst (λ k. link_of a' k ≡ Some h.x') mb h.is_x);
        is_y = row_here es₁ j i b b' bj₁ ∙ subst (λ k. link_of b' k ≡ Some h.y') ma h.is_y;
        changed = h.changed;
        others = λ p q n m. row_others es₁ j i b b' bj₁ ob p q m ∙ row_others es i j a a' ai oa p q n;
        nodes = length-set es₁ j b' ∙ length-set es i a';
        wired = sb.among es₁ j (sa.among es i w ai) bj₁;
      }

  pub self_changed : (i : ℕ) (R : Link P → Link P → Type 0) (es : List (Ends P)) (a a' : Ends P) → slice_get es i ≡ Some a → AreWired es
      → LinkChanged (node_of a) R a a' → StaysWired a a' → SelfChanged i R es (set es i a')
  self_changed i R es a a' at w h s =
      let m = w.node i a at in
      record {
        x = h.before;
        x' = h.after;
        was_x = ap (λ o. row_link o i) at ∙ subst (λ k. link_of a k ≡ Some h.before) m h.was;
        is_x = row_here es i i a a' at ∙ subst (λ k. link_of a' k ≡ Some h.after) m h.is;
        changed = h.changed;
        others = λ p q n. row_others es i i a a' at (subst (λ k. SameOthers k a a') m h.others) p q n;
        nodes = length-set es i a';
        wired = s.among es i w at;
      }

  -- what a call on two of the nodes asks; i and j may be one
  pub paired_at : (es : List (Ends P)) (i j : ℕ) (a b : Ends P) → AreWired es → slice_get es i ≡ Some a → slice_get es j ≡ Some b → ArePaired a b
  paired_at es i j a b h ai bj =
      let ma = h.node i a ai in
      let mb = h.node j b bj in
      record {
        there = omega (arith, h.wide i a ai, slice_get_within es j b bj);
        here = omega (arith, h.wide j b bj, slice_get_within es i a ai);
        rings = λ x y p q.
            let xi : link_at es i j ≡ Some x = ap (λ o. row_link o j) ai ∙ subst (λ k. link_of a k ≡ Some x) mb p in
            let yj : link_at es j i ≡ Some y = ap (λ o. row_link o i) bj ∙ subst (λ k. link_of b k ≡ Some y) ma q in
            (h.pair i j x y xi yj, h.pair j i y x yj xi);
      }
