-- One link of a node's changed.
use Rattle.std.proofs.Common.{Some, ◌≡◌, ℕ, ◌<◌, ◌≤◌, length, set, get_or, sym, ap, ◌∙◌, subst, arith, vec_len, length-set}
use Rattle.std.specs.Prelude.{slice_get}
use Rattle.std.proofs.lemmas.Option.{slice_get_read, same_Some}
use Rattle.rtrb.specs.Ring.{IsPair}
use Rattle.wires.specs.declared.link.Link.{Link}
use Rattle.wires.specs.declared.ends.Ends.{Ends}
use Rattle.wires.specs.Link.{link_spare, SameRings}
use Rattle.wires.specs.Ends.{node_of, width, link_of, count_of_link, spare_to, SameOthers, LinkChanged, ArePaired, BothChanged}
use Rattle.wires.specs.Wires.{StaysWired}
use Rattle.basics.proofs.Lemmas.{by_eq, get_set_same, get_set_other}
use Rattle.wires.proofs.Rings.{rings_refl, pair_kept, keeps_wired}

module _ {P : Type 0} where
  -- b is a with another link at k
  pub record Wrote (k : ℕ) (a b : Ends P) (before after : Link P) : Type 0 where
    pub was : link_of a k ≡ Some before
    pub is : link_of b k ≡ Some after
    pub others : SameOthers k a b

  -- what a write to `links[at]` gives
  pub wrote_at : (k at : ℕ) (a b : Ends P) (before after : Link P) → at ≡ k → before ≡ get_or a.links.items at before → k < width a
      → b.links.items ≡ set a.links.items at after → node_of b ≡ node_of a → Wrote k a b before after
  wrote_at k at a b before after e is within wrote node =
      let long : k < length a.links.items = omega (arith, a.links.ok.0) in
      let wrote' : b.links.items ≡ set a.links.items k after = wrote ∙ ap (λ j. set a.links.items j after) e in
      record {
        was = slice_get_read a.links.items (vec_len a.links) k before a.links.ok.0 within (subst (λ j. before ≡ get_or a.links.items j before) e is);
        is = ap (λ xs. slice_get xs k) wrote' ∙ get_set_same a.links.items k after long;
        others = record {
          node = node;
          width = omega (arith, a.links.ok.0, b.links.ok.0, ap length wrote', length-set a.links.items k after);
          links = λ i ne. ap (λ xs. slice_get xs i) wrote' ∙ get_set_other a.links.items i k after ne;
        };
      }

  pub changed : (k : ℕ) (R : Link P → Link P → Type 0) (a b : Ends P) (before after : Link P) → Wrote k a b before after → R before after → LinkChanged k R a b
  changed k R a b before after w r = record { before = before; after = after; was = w.was; is = w.is; changed = r; others = w.others }

  pub stays_wired : (k : ℕ) (a b : Ends P) (before after : Link P) → Wrote k a b before after → SameRings before after → StaysWired a b
  stays_wired k a b before after w r = keeps_wired a b (record {
    node = w.others.node;
    width = w.others.width;
    each = λ i x y p q. by_eq i k
        (λ e.
        let xe : before ≡ x = same_Some before x (sym w.was ∙ subst (λ j. link_of a j ≡ Some x) e p) in
        let ye : after ≡ y = same_Some after y (sym w.is ∙ subst (λ j. link_of b j ≡ Some y) e q) in
        subst (λ u. SameRings u y) xe (subst (λ u. SameRings before u) ye r))
        (λ ne. subst (λ u. SameRings x u) (same_Some x y (sym p ∙ (sym (w.others.links i ne) ∙ q))) (rings_refl x));
  })

  pub spare_at : (k n : ℕ) (a b : Ends P) (before after : Link P) → Wrote k a b before after → n ≤ link_spare after → n ≤ spare_to b k
  spare_at k n a b before after w h = subst (λ m. n ≤ m) (sym (ap (count_of_link link_spare) w.is)) h

  pub both_changed : (R : Link P → Link P → Link P → Link P → Type 0) (a b a' b' : Ends P) (x y x' y' : Link P)
      → Wrote (node_of b) a a' x x' → Wrote (node_of a) b b' y y' → R x y x' y' → BothChanged R a b a' b'
  both_changed R a b a' b' x y x' y' v w r = record {
    x = x;
    y = y;
    x' = x';
    y' = y';
    was_x = v.was;
    was_y = w.was;
    is_x = v.is;
    is_y = w.is;
    changed = r;
    others_a = v.others;
    others_b = w.others;
  }

  -- two nodes of which each keeps its rings still pair
  pub still_paired : (a b a' b' : Ends P) (x y x' y' : Link P) → Wrote (node_of b) a a' x x' → Wrote (node_of a) b b' y y'
      → SameRings x x' → SameRings y y' → ArePaired a b → ArePaired a' b'
  still_paired a b a' b' x y x' y' v w r s h = record {
    there = omega (arith, h.there, v.others.width, w.others.node);
    here = omega (arith, h.here, w.others.width, v.others.node);
    rings = λ u z p q.
        let ue : x' ≡ u = same_Some x' u (sym v.is ∙ subst (λ j. link_of a' j ≡ Some u) w.others.node p) in
        let ze : y' ≡ z = same_Some y' z (sym w.is ∙ subst (λ j. link_of b' j ≡ Some z) v.others.node q) in
        let old = h.rings x y v.was w.was in
        subst (λ l. IsPair l.to z.from × IsPair z.to l.from) ue (subst (λ m. IsPair x'.to m.from × IsPair m.to x'.from) ze
        (pair_kept x y x' y' r s old.0, pair_kept y x y' x' s r old.1));
  }

  -- a node that keeps its rings still pairs with itself
  pub own_paired : (a b : Ends P) (before after : Link P) → Wrote (node_of a) a b before after → SameRings before after → ArePaired a a → ArePaired b b
  own_paired a b before after w r h = still_paired a a b b before before after after w w r r h
