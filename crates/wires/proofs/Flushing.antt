-- The links of a node are flushed one by one.
use Rattle.std.proofs.Common.{Some, ◌≡◌, ℕ, ◌+◌, ◌<◌, ◌≤◌, refl, sym, ◌∙◌, subst, arith}
use Rattle.std.proofs.lemmas.Option.{slice_get_within, same_Some}
use Rattle.wires.specs.declared.link.Link.{Link}
use Rattle.wires.specs.declared.ends.Ends.{Ends}
use Rattle.wires.specs.Link.{HasFlushed}
use Rattle.wires.specs.Ends.{node_of, width, link_of, LinkChanged, AreFlushed}
use Rattle.basics.proofs.Lemmas.{by_eq}

module _ {P : Type 0} where
  -- the links below n were flushed, and the others are the same
  pub record FlushedBelow (n : ℕ) (a b : Ends P) : Type 0 where
    pub node : node_of b ≡ node_of a
    pub width : width b ≡ width a
    pub each : (k : ℕ) (x y : Link P) → k < n → link_of a k ≡ Some x → link_of b k ≡ Some y → HasFlushed x y
    pub rest : (k : ℕ) → n ≤ k → link_of b k ≡ link_of a k

  pub flushed_none : (a : Ends P) → FlushedBelow 0 a a
  flushed_none a = record { node = refl; width = refl; each = λ k x y lt p q. absurd (omega arith); rest = λ k h. refl }

  pub flushed_more : (n : ℕ) (a b c : Ends P) → FlushedBelow n a b → LinkChanged n HasFlushed b c → FlushedBelow (n + 1) a c
  flushed_more n a b c h l = record {
    node = l.others.node ∙ h.node;
    width = l.others.width ∙ h.width;
    each = λ k x z lt p r. by_eq k n
        (λ e.
        let xe : l.before ≡ x = same_Some l.before x (sym l.was ∙ (h.rest n (omega arith) ∙ subst (λ j. link_of a j ≡ Some x) e p)) in
        let ze : l.after ≡ z = same_Some l.after z (sym l.is ∙ subst (λ j. link_of c j ≡ Some z) e r) in
        subst (λ u. HasFlushed u z) xe (subst (λ u. HasFlushed l.before u) ze l.changed))
        (λ ne. h.each k x z (omega arith) p (sym (l.others.links k ne) ∙ r));
    rest = λ k ge. l.others.links k (λ e. absurd (omega arith)) ∙ h.rest k (omega arith);
  }

  pub flushed_all : (n : ℕ) (a b : Ends P) → width a ≤ n → FlushedBelow n a b → AreFlushed a b
  flushed_all n a b all h = record {
    node = h.node;
    width = h.width;
    each = λ k x y p q. h.each k x y (omega (arith, slice_get_within a.links.items k x p, a.links.ok.0)) p q;
  }
