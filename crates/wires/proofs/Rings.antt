-- A node that keeps its rings stays wired.
use Rattle.std.proofs.Common.{Option, Some, ◌≡◌, ℕ, List, length, set, refl, sym, ap, ◌∙◌, subst, arith, length-set}
use Rattle.std.specs.Prelude.{slice_get}
use Rattle.std.proofs.lemmas.Option.{slice_get_within, same_Some}
use Rattle.rtrb.specs.Ring.{IsPair}
use Rattle.wires.specs.declared.link.Link.{Link}
use Rattle.wires.specs.declared.ends.Ends.{Ends}
use Rattle.wires.specs.Link.{SameRings}
use Rattle.wires.specs.Ends.{node_of, width, link_of}
use Rattle.wires.specs.Wires.{row_link, link_at, AreWired, StaysWired}
use Rattle.basics.proofs.Lemmas.{by_eq, some_at, get_set_same, get_set_other, set_get}
use Rattle.std.proofs.lemmas.List.{set-set}

module _ {P : Type 0} where
  pub rings_refl : (a : Link P) → SameRings a a
  rings_refl a = record { to = ((refl, refl, refl, refl), refl); from = ((refl, refl, refl, refl), refl) }

  pub pair_kept : (x y x' y' : Link P) → SameRings x x' → SameRings y y' → IsPair x.to y.from → IsPair x'.to y'.from
  pair_kept x y x' y' h k p = ((cc), (cc), (cc), (cc))

  -- the node holds the same ends of the same rings
  pub record KeepsRings (a b : Ends P) : Type 0 where
    pub node : node_of b ≡ node_of a
    pub width : width b ≡ width a
    pub each : (k : ℕ) (x y : Link P) → link_of a k ≡ Some x → link_of b k ≡ Some y → SameRings x y

  -- a link as it was
  record Old (o : Option (Link P)) (x : Link P) : Type 0 where
    link : Link P
    was : o ≡ Some link
    rings : SameRings link x

  old_link : (es : List (Ends P)) (i : ℕ) (a b : Ends P) → slice_get es i ≡ Some a → KeepsRings a b
      → (p q : ℕ) (x : Link P) → link_at (set es i b) p q ≡ Some x → Old (link_at es p q) x
  old_link es i a b at h p q x r =
      let now : slice_get (set es i b) i ≡ Some b = get_set_same es i b (slice_get_within es i a at) in
      by_eq p i
      (λ e.
      let here : link_of b q ≡ Some x = sym (ap (λ o. row_link o q) now) ∙ subst (λ k. link_at (set es i b) k q ≡ Some x) e r in
      let lt = slice_get_within b.links.items q x here in
      let m = some_at a.links.items q (omega (arith, a.links.ok.0, b.links.ok.0, h.width)) in
      let was : link_at es i q ≡ Some m.0 = ap (λ o. row_link o q) at ∙ m.1 in
      record { link = m.0; was = subst (λ k. link_at es k q ≡ Some m.0) (sym e) was; rings = h.each q m.0 x m.1 here })
      (λ ne. record { link = x; was = sym (ap (λ o. row_link o q) (get_set_other es p i b ne)) ∙ r; rings = rings_refl x })

  pub keeps_wired : (a b : Ends P) → KeepsRings a b → StaysWired a b
  keeps_wired a b h = record {
    among = λ es i w at.
        let now : slice_get (set es i b) i ≡ Some b = get_set_same es i b (slice_get_within es i a at) in
        record {
          node = λ j c p. by_eq j i
              (λ e.
              let be : b ≡ c = same_Some b c (sym now ∙ subst (λ k. slice_get (set es i b) k ≡ Some c) e p) in
              subst (λ u. node_of u ≡ j) be (h.node ∙ (w.node i a at ∙ sym e)))
              (λ ne. w.node j c (sym (get_set_other es j i b ne) ∙ p));
          wide = λ j c p. by_eq j i
              (λ e.
              let be : b ≡ c = same_Some b c (sym now ∙ subst (λ k. slice_get (set es i b) k ≡ Some c) e p) in
              subst (λ u. width u ≡ length (set es i b)) be (h.width ∙ (w.wide i a at ∙ sym (length-set es i b))))
              (λ ne. w.wide j c (sym (get_set_other es j i b ne) ∙ p) ∙ sym (length-set es i b));
          pair = λ p q x y r s.
              let u = old_link es i a b at h p q x r in
              let v = old_link es i a b at h q p y s in
              pair_kept u.link v.link x y u.rings v.rings (w.pair p q u.link v.link u.was v.was);
        };
  }

  pub stays_refl : (a : Ends P) → StaysWired a a
  stays_refl a = record { among = λ es i w at. subst AreWired (sym (set_get es i a at)) w }

  pub stays_trans : (a b c : Ends P) → StaysWired a b → StaysWired b c → StaysWired a c
  stays_trans a b c h k = record {
    among = λ es i w at.
        let now : slice_get (set es i b) i ≡ Some b = get_set_same es i b (slice_get_within es i a at) in
        subst AreWired (set-set es i b c) (k.among (set es i b) i (h.among es i w at) now);
  }
