-- A walk over all links, pair by pair, after which Q holds of each.
use Rattle.std.proofs.Common.{◌⊎◌, inl, Option, Some, None, ◌≡◌, ℕ, ◌+◌, ◌<◌, ◌≤◌, List, [], ◌++◌, length, refl, sym, ap, ◌∙◌, subst, arith}
use mathlib.Core.List.{IsPrefix}
use Rattle.std.proofs.lemmas.Option.{slice_get_past, same_Some}
use Rattle.wires.specs.declared.link.Link.{Link}
use Rattle.wires.specs.declared.ends.Ends.{Ends}
use Rattle.wires.specs.Link.{link_sent, link_received, link_known, link_waiting, link_spare, KeptLink, IsInOrder, IsSettled, BothBecome, OwnBecomes}
use Rattle.wires.specs.Ends.{of_link, count_of_link}
use Rattle.wires.specs.Wires.{row_link, link_at, AreWired, AreInOrder, AreSettled, CarriedNoMore}
use Rattle.wires.specs.Pairs.{PairChanged, SelfChanged}
use Rattle.basics.proofs.Lemmas.{by_eq, by_less, by_pair, some_at, prefix_refl, prefix_trans}

module _ {P : Type 0} where
  kept_refl : (a : Link P) → KeptLink a a
  kept_refl a = record { same_sent = refl; same_received = refl; more_known = prefix_refl (link_known a); spare = omega arith }

  kept_trans : (a b c : Link P) → KeptLink a b → KeptLink b c → KeptLink a c
  kept_trans a b c h k = record {
    same_sent = k.same_sent ∙ h.same_sent;
    same_received = k.same_received ∙ h.same_received;
    more_known = prefix_trans (link_known a) (link_known b) (link_known c) h.more_known k.more_known;
    spare = omega arith;
  }

  -- the walk so far: all are wired, and each link carried no more
  pub record Going (es fs : List (Ends P)) : Type 0 where
    pub nodes : length fs ≡ length es
    pub wired : AreWired fs
    pub kept : (p q : ℕ) (x y : Link P) → link_at es p q ≡ Some x → link_at fs p q ≡ Some y → KeptLink x y

  pub going_on : (es : List (Ends P)) → AreWired es → Going es es
  going_on es w = record { nodes = refl; wired = w; kept = λ p q x y r s. subst (λ z. KeptLink x z) (same_Some x y (sym r ∙ s)) (kept_refl x) }

  -- a link as it was before a step
  record Old (o : Option (Link P)) (z : Link P) : Type 0 where
    link : Link P
    was : o ≡ Some link
    kept : KeptLink link z

  moved : (es fs : List (Ends P)) (i j p q : ℕ) (x x' z : Link P) → p ≡ i → q ≡ j → link_at es i j ≡ Some x → link_at fs i j ≡ Some x' → KeptLink x x' → link_at fs p q ≡ Some z → Old (link_at es p q) z
  moved es fs i j p q x x' z e f was is k r = record {
    link = x;
    was = subst (λ n. link_at es n q ≡ Some x) (sym e) (subst (λ n. link_at es i n ≡ Some x) (sym f) was);
    kept = subst (λ w. KeptLink x w) (same_Some x' z (sym is ∙ subst (λ n. link_at fs n j ≡ Some z) e (subst (λ n. link_at fs p n ≡ Some z) f r))) k;
  }

  going_further : (es fs gs : List (Ends P)) → Going es fs → length gs ≡ length fs → AreWired gs → ((p q : ℕ) (z : Link P) → link_at gs p q ≡ Some z → Old (link_at fs p q) z) → Going es gs
  going_further es fs gs h n w old = record {
    nodes = n ∙ h.nodes;
    wired = w;
    kept = λ p q x z r s. let u = old p q z s in kept_trans x u.link z (h.kept p q x u.link r u.was) u.kept;
  }

  module _ (Q : Link P → Link P → Type 0) where
    pub pair_going : (i j : ℕ) (es fs gs : List (Ends P)) → Going es fs → PairChanged i j (BothBecome Q) fs gs → Going es gs
    pair_going i j es fs gs h k = going_further es fs gs h k.nodes k.wired (λ p q z r. by_pair p q i j
        (λ e f. moved fs gs i j p q k.x k.x' z e f k.was_x k.is_x k.changed.kept_x r)
        (λ e f. moved fs gs j i p q k.y k.y' z e f k.was_y k.is_y k.changed.kept_y r)
        (λ n m. record { link = z; was = sym (k.others p q n m) ∙ r; kept = kept_refl z }))

    pub self_going : (i : ℕ) (es fs gs : List (Ends P)) → Going es fs → SelfChanged i (OwnBecomes Q) fs gs → Going es gs
    self_going i es fs gs h k = going_further es fs gs h k.nodes k.wired (λ p q z r. by_pair p q i i
        (λ e f. moved fs gs i i p q k.x k.x' z e f k.was_x k.is_x k.changed.kept r)
        (λ e f. moved fs gs i i p q k.x k.x' z e f k.was_x k.is_x k.changed.kept r)
        (λ n m. record { link = z; was = sym (k.others p q n) ∙ r; kept = kept_refl z }))

    -- Q holds of the links among the nodes below j
    pub record Done (j : ℕ) (es : List (Ends P)) : Type 0 where
      pub each : (p q : ℕ) (x y : Link P) → p < j → q < j → link_at es p q ≡ Some x → link_at es q p ≡ Some y → Q x y

    -- Q holds of the links between j and the nodes below i
    pub record DoneRow (i j : ℕ) (es : List (Ends P)) : Type 0 where
      pub each : (p : ℕ) (x y : Link P) → p < i → link_at es p j ≡ Some x → link_at es j p ≡ Some y → Q x y × Q y x

    pub done_none : (es : List (Ends P)) → Done 0 es
    done_none es = record { each = λ p q x y lt _ _ _. absurd (omega arith) }

    pub row_none : (j : ℕ) (es : List (Ends P)) → DoneRow 0 j es
    row_none j es = record { each = λ p x y lt _ _. absurd (omega arith) }

    pub pair_done : (i j : ℕ) (fs gs : List (Ends P)) → i < j → Done j fs → PairChanged i j (BothBecome Q) fs gs → Done j gs
    pair_done i j fs gs lt d h = record {
      each = λ p q x y pj qj r s. d.each p q x y pj qj
          (sym (h.others p q (λ e f. absurd (omega arith)) (λ e f. absurd (omega arith))) ∙ r)
          (sym (h.others q p (λ e f. absurd (omega arith)) (λ e f. absurd (omega arith))) ∙ s);
    }

    pub pair_row : (i j : ℕ) (fs gs : List (Ends P)) → i < j → DoneRow i j fs → PairChanged i j (BothBecome Q) fs gs → DoneRow (i + 1) j gs
    pair_row i j fs gs lt d h = record {
      each = λ p x y pi r s. by_eq p i
          (λ e.
          let xe : h.x' ≡ x = same_Some h.x' x (sym h.is_x ∙ subst (λ k. link_at gs k j ≡ Some x) e r) in
          let ye : h.y' ≡ y = same_Some h.y' y (sym h.is_y ∙ subst (λ k. link_at gs j k ≡ Some y) e s) in
          subst (λ u. Q u y × Q y u) xe (subst (λ u. Q h.x' u × Q u h.x') ye (h.changed.there, h.changed.back)))
          (λ ne. d.each p x y (omega arith) (sym (h.others p j (λ e f. ne e) (λ e f. absurd (omega arith))) ∙ r) (sym (h.others j p (λ e f. absurd (omega arith)) (λ e f. ne f)) ∙ s));
    }

    pub self_done : (j : ℕ) (fs gs : List (Ends P)) → Done j fs → DoneRow j j fs → SelfChanged j (OwnBecomes Q) fs gs → Done (j + 1) gs
    self_done j fs gs d row h = record {
      each = λ p q x y pj qj r s. by_eq p j
          (λ e. by_eq q j
          (λ f.
          let xe : h.x' ≡ x = same_Some h.x' x (sym h.is_x ∙ subst (λ k. link_at gs k j ≡ Some x) e (subst (λ k. link_at gs p k ≡ Some x) f r)) in
          let ye : h.x' ≡ y = same_Some h.x' y (sym h.is_x ∙ subst (λ k. link_at gs j k ≡ Some y) e (subst (λ k. link_at gs k p ≡ Some y) f s)) in
          subst (λ u. Q u y) xe (subst (λ u. Q h.x' u) ye h.changed.own))
          (λ nf.
          let r' = sym (h.others p q (λ _ f. nf f)) ∙ r in
          let s' = sym (h.others q p (λ f _. nf f)) ∙ s in
          (row.each q y x (omega arith) (subst (λ k. link_at fs q k ≡ Some y) e s') (subst (λ k. link_at fs k q ≡ Some x) e r')).1))
          (λ ne.
          let r' = sym (h.others p q (λ e _. ne e)) ∙ r in
          let s' = sym (h.others q p (λ _ f. ne f)) ∙ s in
          by_eq q j
          (λ f. (row.each p x y (omega arith) (subst (λ k. link_at fs p k ≡ Some x) f r') (subst (λ k. link_at fs k p ≡ Some y) f s')).0)
          (λ nf. d.each p q x y (omega arith) (omega arith) r' s'));
    }

  there : (es : List (Ends P)) (i j : ℕ) → AreWired es → i < length es → j < length es → (x : Link P) × (link_at es i j ≡ Some x)
  there es i j w li lj =
      let a = some_at es i li in
      let x = some_at a.0.links.items j (omega (arith, w.wide i a.0 a.1, a.0.links.ok.0)) in
      (x.0, ap (λ o. row_link o j) a.1 ∙ x.1)

  no_row : (es : List (Ends P)) (i j : ℕ) → length es ≤ i → link_at es i j ≡ None
  no_row es i j ge = ap (λ o. row_link o j) (slice_get_past es i ge)

  no_column : (es : List (Ends P)) (i j : ℕ) → AreWired es → length es ≤ j → link_at es i j ≡ None
  no_column es i j w ge = by_less i (length es)
      (λ lt. let a = some_at es i lt in ap (λ o. row_link o j) a.1 ∙ slice_get_past a.0.links.items j (omega (arith, w.wide i a.0 a.1, a.0.links.ok.0)))
      (λ past. no_row es i j past)

  -- what holds of two links, and of none, holds of what stands at two places that are links or not together
  at_places : (F : Option (Link P) → Option (Link P) → Type 0) (u v : Option (Link P)) (x y : Link P) → u ≡ Some x → v ≡ Some y → F (Some x) (Some y) → F u v
  at_places F u v x y r s h = subst (λ o. F o v) (sym r) (subst (λ o. F (Some x) o) (sym s) h)

  at_none : (F : Option (Link P) → Option (Link P) → Type 0) (u v : Option (Link P)) → u ≡ None → v ≡ None → F None None → F u v
  at_none F u v r s h = subst (λ o. F o v) (sym r) (subst (λ o. F None o) (sym s) h)

  -- of the two sides of a link
  on_sides : (F : Option (Link P) → Option (Link P) → Type 0) (es : List (Ends P)) → AreWired es
      → ((i j : ℕ) (x y : Link P) → i < length es → j < length es → link_at es i j ≡ Some x → link_at es j i ≡ Some y → F (Some x) (Some y))
      → F None None → (i j : ℕ) → F (link_at es i j) (link_at es j i)
  on_sides F es w h n i j = by_less i (length es)
      (λ li. by_less j (length es)
      (λ lj.
      let x = there es i j w li lj in
      let y = there es j i w lj li in
      at_places F (link_at es i j) (link_at es j i) x.0 y.0 x.1 y.1 (h i j x.0 y.0 li lj x.1 y.1))
      (λ gj. at_none F (link_at es i j) (link_at es j i) (no_column es i j w gj) (no_row es j i gj) n))
      (λ gi. at_none F (link_at es i j) (link_at es j i) (no_row es i j gi) (no_column es j i w gi) n)

  -- of a link before the walk and now
  on_kept : (F : Option (Link P) → Option (Link P) → Type 0) (es fs : List (Ends P)) → AreWired es → Going es fs
      → ((x y : Link P) → KeptLink x y → F (Some x) (Some y)) → F None None → (i j : ℕ) → F (link_at es i j) (link_at fs i j)
  on_kept F es fs w g h n i j = by_less i (length es)
      (λ li. by_less j (length es)
      (λ lj.
      let x = there es i j w li lj in
      let y = there fs i j g.wired (omega (arith, g.nodes)) (omega (arith, g.nodes)) in
      at_places F (link_at es i j) (link_at fs i j) x.0 y.0 x.1 y.1 (h x.0 y.0 (g.kept i j x.0 y.0 x.1 y.1)))
      (λ gj. at_none F (link_at es i j) (link_at fs i j) (no_column es i j w gj) (no_column fs i j g.wired (omega (arith, g.nodes))) n))
      (λ gi. at_none F (link_at es i j) (link_at fs i j) (no_row es i j gi) (no_row fs i j (omega (arith, g.nodes))) n)

  pub carried_no_more : (es fs : List (Ends P)) → AreWired es → Going es fs → CarriedNoMore es fs
  carried_no_more es fs w g = record {
    nodes = g.nodes;
    same_sent = on_kept (λ u v. of_link link_sent v ≡ of_link link_sent u) es fs w g (λ x y k. k.same_sent) refl;
    same_received = λ i j. on_kept (λ u v. of_link link_received v ≡ of_link link_received u) es fs w g (λ x y k. k.same_received) refl j i;
    more_known = λ i j. on_kept (λ u v. IsPrefix (of_link link_known u) (of_link link_known v)) es fs w g (λ x y k. k.more_known) (prefix_refl []) j i;
    spare = on_kept (λ u v. count_of_link link_spare u ≤ count_of_link link_spare v) es fs w g (λ x y k. k.spare) (omega arith);
  }

  pub all_settled : (fs : List (Ends P)) → AreWired fs → Done IsSettled (length fs) fs → AreSettled fs
  all_settled fs w d = record {
    content = on_sides (λ u v. of_link link_received v ++ (of_link link_known v ++ of_link link_waiting u) ≡ of_link link_sent u) fs w
        (λ i j x y li lj r s. (d.each i j x y li lj r s).content) refl;
    full = on_sides (λ u v. (of_link link_waiting u ≡ []) ⊎ (64 ≤ length (of_link link_known v))) fs w
        (λ i j x y li lj r s. (d.each i j x y li lj r s).full) (inl refl);
    shows = on_sides (λ u v. of_link link_known v ≡ [] → of_link link_received v ≡ of_link link_sent u) fs w
        (λ i j x y li lj r s. (d.each i j x y li lj r s).shows) (λ _. refl);
  }

  pub all_in_order : (fs : List (Ends P)) → AreWired fs → Done IsInOrder (length fs) fs → AreInOrder fs
  all_in_order fs w d = on_sides (λ u v. IsPrefix (of_link link_received v) (of_link link_sent u)) fs w
      (λ i j x y li lj r s. d.each i j x y li lj r s) (prefix_refl [])
