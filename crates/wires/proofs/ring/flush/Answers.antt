use Rattle.std.proofs.Common.{◌≡◌, ℕ, ◌+◌, ◌≤◌, List, [], ◌∷◌, ◌++◌, length, inr, ap, ◌∙◌, sym, append_assoc, length-append, arith}
use Rattle.std.specs.declared.alloc.Global.{Global}
use Rattle.rtrb.specs.declared.AnyItems.{AnyItems}
use Rattle.rtrb.specs.declared.producer.Producer.{Producer}
use Rattle.rtrb.specs.Ring.{sent, known_free, SameProducer}
use Rattle.wires.proofs.ring.flush.Goals as goal

then_same : {P : Type 0} (a b c : Producer P Global AnyItems) → SameProducer a b → SameProducer b c → SameProducer a c
then_same a b c h k = ((k.0.0 ∙ h.0.0, k.0.1 ∙ h.0.1, k.0.2 ∙ h.0.2, k.0.3 ∙ h.0.3), k.1 ∙ h.1)

-- no free slot is lost where one end was looked at
then_free : (least s f t e : ℕ) → least ≤ s + f → t ≡ s → f ≤ e → least ≤ t + e
then_free least s f t e h k l = omega arith

-- nor where one is taken
then_taken : (least s f t e : ℕ) → least ≤ s + f → t ≡ s + 1 → f ≡ e + 1 → least ≤ t + e
then_taken least s f t e h k l = omega arith

one_moves : {P : Type 0} (s t o q : List P) (x : P) → t ≡ s ++ x ∷ [] → o ≡ x ∷ q → t ++ q ≡ s ++ o
one_moves s t o q x e f = ap (λ xs. xs ++ q) e ∙ append_assoc s (x ∷ []) q ∙ ap (λ xs. s ++ xs) (sym f)

pub returns-then-is_full : goal.returns-then-is_full
returns-then-is_full g c =
    let h = c.loop-n.invariant in
    let k = c.is_full.ensures.looked in
    record {
      ring = then_same c.args.to.now c.loop-n.to c.is_full.new.self h.ring k.0;
      same_sent = ap (λ xs. xs ++ c.loop-n.outbox.items) k.1 ∙ h.same_sent;
      capacity = h.capacity;
      free = then_free (length (sent c.args.to.now) + known_free c.args.to.now) (length (sent c.loop-n.to)) (known_free c.loop-n.to) (length (sent c.is_full.new.self)) (known_free c.is_full.new.self) h.free (ap length k.1) k.2;
      fewer = omega (arith, h.left);
      done = inr (c.is_full.ensures.value.0 c.if-is_full.true);
    }

pub returns-in_default : goal.returns-in_default
returns-in_default g c = absurd (omega (arith, c.in_default.ensures.cases.0, c.loop-n.invariant.left, c.loop-n-test.true, c.len-n-end.ensures))

pub loop-n-preserved : goal.loop-n-preserved
loop-n-preserved g c =
    let h = c.loop-n.invariant in
    let k = c.is_full.ensures.looked in
    let p = c.push_reserved.ensures in
    let o = c.in-Some.ensures in
    record {
      ring = then_same c.args.to.now c.is_full.new.self c.push_reserved.new.self (then_same c.args.to.now c.loop-n.to c.is_full.new.self h.ring k.0) p.ring;
      same_sent = one_moves (sent c.is_full.new.self) (sent c.push_reserved.new.self) c.loop-n.outbox.items c.pop_front.new.self.items c.in-Some.packet p.sent.0 o.items
          ∙ ap (λ xs. xs ++ c.loop-n.outbox.items) k.1 ∙ h.same_sent;
      capacity = o.capacity ∙ h.capacity;
      free = then_taken (length (sent c.args.to.now) + known_free c.args.to.now) (length (sent c.is_full.new.self)) (known_free c.is_full.new.self) (length (sent c.push_reserved.new.self)) (known_free c.push_reserved.new.self)
          (then_free (length (sent c.args.to.now) + known_free c.args.to.now) (length (sent c.loop-n.to)) (known_free c.loop-n.to) (length (sent c.is_full.new.self)) (known_free c.is_full.new.self) h.free (ap length k.1) k.2)
          (ap length p.sent.0 ∙ length-append (sent c.is_full.new.self) (c.in-Some.packet ∷ [])) p.sent.1;
      left = omega (arith, o.cases, h.left);
    }
