-- A walk over the links of one node, after which they are settled.
use Rattle.std.proofs.Common.{◌≡◌, ◌≢◌, ℕ, ◌+◌, ◌<◌, ◌≤◌, List, length, Some, refl, sym, ap, ◌∙◌, subst, arith}
use Rattle.std.proofs.lemmas.Option.{slice_get_within, same_Some}
use Rattle.run_trace.specs.declared.packet.Packet.{Packet}
use Rattle.wires.specs.declared.ends.Ends.{Ends}
use Rattle.wires.specs.declared.link.Link.{Link}
use Rattle.wires.specs.Link.{IsSettled, BothBecome, OwnBecomes}
use Rattle.wires.specs.Pairs.{PairChanged, SelfChanged}
use Rattle.wires.specs.Wires.{link_at, known_on, AreWired, CarriedNoMore}
use Rattle.basics.proofs.Lemmas.{by_eq, some_at, prefix_trans}
use Rattle.wires.proofs.Lemmas.{Going, going_on, pair_going, self_going, carried_no_more}
use Rattle.node_loop.specs.View.{NodeView}
use Rattle.cluster.specs.Between.{AreNumbered, KeepNodes, SettlesAll, SettlesOf, wires_in}
use Rattle.cluster.proofs.Lists.{keeps_all, keeps_on}

-- the links of node n with the nodes below i are settled
abbrev DoneBelow : (n i : ℕ) → List (Ends Packet) → Type 0
DoneBelow n i es = (q : ℕ) (x y : Link Packet) → q < i → link_at es n q ≡ Some x → link_at es q n ≡ Some y → IsSettled x y × IsSettled y x

-- the walk so far
pub record Walks (n i : ℕ) (rest : List (Ends Packet)) (old now : List NodeView) : Type 0 where
  pub nodes : KeepNodes old now
  pub going : Going (wires_in old rest) (wires_in now rest)
  pub done : (q : ℕ) (x y : Link Packet) → q < i → link_at (wires_in now rest) n q ≡ Some x → link_at (wires_in now rest) q n ≡ Some y → IsSettled x y × IsSettled y x
  pub others : (p q : ℕ) → p ≢ n → q ≢ n → link_at (wires_in now rest) p q ≡ link_at (wires_in old rest) p q

pub walks_none : (n : ℕ) (rest : List (Ends Packet)) (vs : List NodeView) → AreWired (wires_in vs rest) → Walks n 0 rest vs vs
walks_none n rest vs w = record { nodes = keeps_all vs; going = going_on (wires_in vs rest) w; done = λ q x y l f g. absurd (omega arith); others = λ p q a b. refl }

one_more : (n i : ℕ) (fs gs : List (Ends Packet)) (u v : Link Packet) → link_at gs n i ≡ Some u → link_at gs i n ≡ Some v → IsSettled u v → IsSettled v u
    → ((q : ℕ) → q ≢ i → link_at gs n q ≡ link_at fs n q) → ((q : ℕ) → q ≢ i → link_at gs q n ≡ link_at fs q n) → DoneBelow n i fs → DoneBelow n (i + 1) gs
one_more n i fs gs u v ui vi there back from to d q x y l f g = by_eq q i
    (λ e.
    let xe : u ≡ x = same_Some u x (sym ui ∙ subst (λ k. link_at gs n k ≡ Some x) e f) in
    let ye : v ≡ y = same_Some v y (sym vi ∙ subst (λ k. link_at gs k n ≡ Some y) e g) in
    (subst (λ a. IsSettled a y) xe (subst (λ b. IsSettled u b) ye there), subst (λ b. IsSettled b x) ye (subst (λ a. IsSettled v a) xe back)))
    (λ ne. d q x y (omega (arith, l, ne)) (sym (from q ne) ∙ f) (sym (to q ne) ∙ g))

pub walks_below : (n i : ℕ) (rest : List (Ends Packet)) (old now new : List NodeView) → i < n → Walks n i rest old now → KeepNodes now new
    → PairChanged i n (BothBecome IsSettled) (wires_in now rest) (wires_in new rest) → Walks n (i + 1) rest old new
walks_below n i rest old now new l h k c = record {
  nodes = keeps_on old now new h.nodes k;
  going = pair_going IsSettled i n (wires_in old rest) (wires_in now rest) (wires_in new rest) h.going c;
  done = one_more n i (wires_in now rest) (wires_in new rest) c.y' c.x' c.is_y c.is_x c.changed.back c.changed.there
      (λ q ne. c.others n q (λ e f. absurd (omega (arith, e, l))) (λ e f. ne f))
      (λ q ne. c.others q n (λ e f. ne e) (λ e f. absurd (omega (arith, f, l)))) h.done;
  others = λ p q a b. c.others p q (λ e f. b f) (λ e f. a e) ∙ h.others p q a b;
}

pub walks_above : (n i : ℕ) (rest : List (Ends Packet)) (old now new : List NodeView) → n < i → Walks n i rest old now → KeepNodes now new
    → PairChanged n i (BothBecome IsSettled) (wires_in now rest) (wires_in new rest) → Walks n (i + 1) rest old new
walks_above n i rest old now new l h k c = record {
  nodes = keeps_on old now new h.nodes k;
  going = pair_going IsSettled n i (wires_in old rest) (wires_in now rest) (wires_in new rest) h.going c;
  done = one_more n i (wires_in now rest) (wires_in new rest) c.x' c.y' c.is_x c.is_y c.changed.there c.changed.back
      (λ q ne. c.others n q (λ e f. ne f) (λ e f. absurd (omega (arith, e, l))))
      (λ q ne. c.others q n (λ e f. absurd (omega (arith, f, l))) (λ e f. ne e)) h.done;
  others = λ p q a b. c.others p q (λ e f. a e) (λ e f. b f) ∙ h.others p q a b;
}

pub walks_self : (n i : ℕ) (rest : List (Ends Packet)) (old now new : List NodeView) → i ≡ n → Walks n i rest old now → KeepNodes now new
    → SelfChanged n (OwnBecomes IsSettled) (wires_in now rest) (wires_in new rest) → Walks n (i + 1) rest old new
walks_self n i rest old now new same h k c = record {
  nodes = keeps_on old now new h.nodes k;
  going = self_going IsSettled n (wires_in old rest) (wires_in now rest) (wires_in new rest) h.going c;
  done = one_more n i (wires_in now rest) (wires_in new rest) c.x' c.x'
      (ap (λ m. link_at (wires_in new rest) n m) same ∙ c.is_x) (ap (λ m. link_at (wires_in new rest) m n) same ∙ c.is_x) c.changed.own c.changed.own
      (λ q ne. c.others n q (λ e f. ne (f ∙ sym same))) (λ q ne. c.others q n (λ e f. ne (e ∙ sym same))) h.done;
  others = λ p q a b. c.others p q (λ e f. a e) ∙ h.others p q a b;
}

pub walked : (n i : ℕ) (rest : List (Ends Packet)) (old now : List NodeView) → AreWired (wires_in old rest) → length old ≤ i → Walks n i rest old now → SettlesOf n rest old now
walked n i rest old now w l h = record {
  nodes = h.nodes;
  wired = h.going.wired;
  same = carried_no_more (wires_in old rest) (wires_in now rest) w h.going;
  settled = λ q x y k f g. h.done q x y (omega (arith, k, l)) f g;
  others = h.others;
}

-- the numbers stay
pub numbered_still : (old now : List NodeView) → AreNumbered old → KeepNodes old now → AreNumbered now
numbered_still old now a k n w g =
    let v = some_at old n (omega (arith, k.count, slice_get_within now n w g)) in
    ap (λ (z : NodeView). z.me) (k.each n v.0 w v.1 g) ∙ a n v.0 v.1

-- ## The links of one node after another

-- those of the first nodes are settled
pub record WalksAll (i : ℕ) (rest : List (Ends Packet)) (old now : List NodeView) : Type 0 where
  pub nodes : KeepNodes old now
  pub wired : AreWired (wires_in now rest)
  pub same : CarriedNoMore (wires_in old rest) (wires_in now rest)
  pub done : (p q : ℕ) (x y : Link Packet) → p < i → q < length old → link_at (wires_in now rest) p q ≡ Some x → link_at (wires_in now rest) q p ≡ Some y → IsSettled x y × IsSettled y x

pub walks_all_none : (rest : List (Ends Packet)) (vs : List NodeView) → AreWired (wires_in vs rest) → WalksAll 0 rest vs vs
walks_all_none rest vs w = record {
  nodes = keeps_all vs;
  wired = w;
  same = carried_no_more (wires_in vs rest) (wires_in vs rest) w (going_on (wires_in vs rest) w);
  done = λ p q x y l m f g. absurd (omega arith);
}

carried_on : (es fs gs : List (Ends Packet)) → CarriedNoMore es fs → CarriedNoMore fs gs → CarriedNoMore es gs
carried_on es fs gs h k = record {
  nodes = k.nodes ∙ h.nodes;
  same_sent = λ i j. k.same_sent i j ∙ h.same_sent i j;
  same_received = λ i j. k.same_received i j ∙ h.same_received i j;
  more_known = λ i j. prefix_trans (known_on es i j) (known_on fs i j) (known_on gs i j) (h.more_known i j) (k.more_known i j);
  spare = λ i j. omega (arith, h.spare i j, k.spare i j);
}

pub walks_all_more : (i : ℕ) (rest : List (Ends Packet)) (old now new : List NodeView) → WalksAll i rest old now → SettlesOf i rest now new → WalksAll (i + 1) rest old new
walks_all_more i rest old now new h k = record {
  nodes = keeps_on old now new h.nodes k.nodes;
  wired = k.wired;
  same = carried_on (wires_in old rest) (wires_in now rest) (wires_in new rest) h.same k.same;
  done = λ p q x y l m f g. by_eq p i
      (λ e. k.settled q x y (omega (arith, m, h.nodes.count)) (subst (λ n. link_at (wires_in new rest) n q ≡ Some x) e f) (subst (λ n. link_at (wires_in new rest) q n ≡ Some y) e g))
      (λ ne. by_eq q i
      (λ e.
      let s = k.settled p y x (omega (arith, l, ne, m, e, h.nodes.count)) (subst (λ n. link_at (wires_in new rest) n p ≡ Some y) e g) (subst (λ n. link_at (wires_in new rest) p n ≡ Some x) e f) in
      (s.1, s.0))
      (λ nf. h.done p q x y (omega (arith, l, ne)) m (sym (k.others p q ne nf) ∙ f) (sym (k.others q p nf ne) ∙ g)));
}

pub walked_all : (i : ℕ) (rest : List (Ends Packet)) (old now : List NodeView) → length old ≤ i → WalksAll i rest old now → SettlesAll rest old now
walked_all i rest old now l h = record { nodes = h.nodes; wired = h.wired; same = h.same; settled = λ p q x y a b f g. (h.done p q x y (omega (arith, l, a)) b f g).0 }
