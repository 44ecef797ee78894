-- What the lists and links have of a life: holders, hands, packets, and how it shows on its own node and on others.
use Rattle.std.proofs.Common.{arith, ◌≡◌, ℕ, Option, Some, None, Bool, true, false, eqb, cond, refl, sym, ap, ◌∙◌, subst, inl, inr}
use Rattle.std.proofs.lemmas.Bool.{eq-eqb, eqb-true}
use Rattle.slot_space.specs.declared.names.Tid.{Tid}
use Rattle.marcel_sync.specs.Semaphores.{node_in}
use Rattle.run_trace.specs.Guests.{Guest, packed}
use Rattle.run_trace.specs.Spots.{Stage, Shows, Shown_there, Asks, Detaches, Signals, Answered, Life, On, Moving, Noting, Response, Spot, Holder, Of_node, Of_thread, is_free, Seeks}
use Rattle.run_trace.specs.Stands.{Busy, busy, busy_part, thread_part, thread_in_life, thread_in_stage, Word, Travels, Line, Line_shown, Joins, Detaching, Signalling, Reply, Ended_word, A_want, A_turn, An_over, Way, ways_of, is_thread, seeker_part}
use Rattle.run_trace.proofs.Lemmas.{is-true}
use Rattle.trace_laws.proofs.Lists.Subjects.{IsOneOf}
use Rattle.trace_laws.proofs.Underway.Midst.{Frame, no_seeker}
use Rattle.run_trace.specs.Items.{is_busy, is_seeking}
use Rattle.trace_laws.proofs.Lists.Stages.{is_home, home_busy}

-- ## Holders

pub thread_holds : (t : Tid) (h : Holder) → is_thread t h ≡ true → h ≡ Of_thread t
thread_holds t (Of_thread u) e = ap Of_thread (sym (is-true t u e))
thread_holds t h e = absurd (cc e)

pub node_holds : (n : ℕ) (h : Holder) → is_free n h ≡ true → h ≡ Of_node n
node_holds n (Of_node m) e = ap Of_node (eqb-true m n e)
node_holds n h e = absurd (cc e)

-- ## Hands

abbrev if_busy : Tid → Bool → Life → Option Busy
if_busy t v life = cond v (Some (busy t life)) None

pub at_hand : (t : Tid) (v : Bool) (life old : Life) → cond v (Some (busy t old)) None ≡ Some (busy t life) → (old ≡ life) × (v ≡ true)
at_hand t true life old h = let e : busy t old ≡ busy t life = cc h in (ap (λ (b : Busy). b.life) e, refl)
at_hand t false life old h = absurd (cc h)

-- ## Links

-- what a word on the link from i to j tells of its thread
abbrev pub Tells : Tid → ℕ → ℕ → Word → Life → Response → Guest → Type 0
Tells t i j (Travels x) life v g = (life ≡ Moving i j) × (x ≡ packed t g)
Tells t i j (Line u bytes) life v g = (u ≡ t) × (life ≡ On i (Shows bytes)) × (j ≡ 0)
Tells t i j (Line_shown u code extra) life v g = (u ≡ t) × (life ≡ On j Shown_there) × (i ≡ 0) × (v.code ≡ code) × (v.extra ≡ extra)
Tells t i j (Joins u target) life v g = (u ≡ t) × (life ≡ On i (Asks target)) × (j ≡ target.home)
Tells t i j (Detaching u target) life v g = (u ≡ t) × (life ≡ On i (Detaches target)) × (j ≡ target.home)
Tells t i j (Signalling u id up) life v g = (u ≡ t) × (life ≡ On i (Signals id up)) × (j ≡ node_in id)
Tells t i j (Reply u code extra) life v g = (u ≡ t) × (life ≡ On j (Answered i)) × (v.code ≡ code) × (v.extra ≡ extra)
Tells t i j (Ended_word u end) life v g = (u ≡ t) × (life ≡ Noting i end) × (j ≡ t.home)
Tells t i j A_want life v g = ⊥
Tells t i j A_turn life v g = ⊥
Tells t i j An_over life v g = ⊥

pub at_way : (t : Tid) (life : Life) (v : Response) (g : Guest) (x : Way) → IsOneOf x (ways_of t life v g) → Tells t x.from x.to x.word life v g
at_way t (Moving m to) v g x (inl e) = subst (λ (y : Way). Tells t y.from y.to y.word (Moving m to) v g) e (refl, refl)
at_way t (Moving m to) v g x (inr none) = absurd none
at_way t (Noting m end) v g x (inl e) = subst (λ (y : Way). Tells t y.from y.to y.word (Noting m end) v g) e (refl, refl, refl)
at_way t (Noting m end) v g x (inr none) = absurd none
at_way t (On m (Shows bytes)) v g x (inl e) = subst (λ (y : Way). Tells t y.from y.to y.word (On m (Shows bytes)) v g) e (refl, refl, refl)
at_way t (On m (Shows bytes)) v g x (inr none) = absurd none
at_way t (On m Shown_there) v g x (inl e) = subst (λ (y : Way). Tells t y.from y.to y.word (On m Shown_there) v g) e (refl, refl, refl, refl, refl)
at_way t (On m Shown_there) v g x (inr none) = absurd none
at_way t (On m (Asks u)) v g x (inl e) = subst (λ (y : Way). Tells t y.from y.to y.word (On m (Asks u)) v g) e (refl, refl, refl)
at_way t (On m (Asks u)) v g x (inr none) = absurd none
at_way t (On m (Detaches u)) v g x (inl e) = subst (λ (y : Way). Tells t y.from y.to y.word (On m (Detaches u)) v g) e (refl, refl, refl)
at_way t (On m (Detaches u)) v g x (inr none) = absurd none
at_way t (On m (Signals id up)) v g x (inl e) = subst (λ (y : Way). Tells t y.from y.to y.word (On m (Signals id up)) v g) e (refl, refl, refl)
at_way t (On m (Signals id up)) v g x (inr none) = absurd none
at_way t (On m (Answered k)) v g x (inl e) = subst (λ (y : Way). Tells t y.from y.to y.word (On m (Answered k)) v g) e (refl, refl, refl, refl)
at_way t (On m (Answered k)) v g x (inr none) = absurd none
at_way t life v g x h = grind (arith, h)

-- ## A life, as it shows on a node's lists

-- a life on node n shows on its lists as its stage does
pub thread_was : (n : ℕ) (t : Tid) (s : Spot) (stage : Stage) → s.life ≡ On n stage → thread_part n t s ≡ thread_in_stage n stage s.guest
thread_was n t s stage p = ap (λ l. thread_in_life n l s.guest) p ∙ (rw (eq-eqb n n refl) refl)

pub busy_was : (n : ℕ) (t : Tid) (s : Spot) (life : Life) → s.life ≡ life → is_busy n life ≡ true → busy_part n t s ≡ Some (busy t life)
busy_was n t s life p e = ap (λ l. cond (is_busy n l) (Some (busy t l)) None) p ∙ (rw e refl)

-- a life on node n shows on no list of threads of another node
pub away_thread : (n k : ℕ) (t : Tid) (s : Spot) (stage : Stage) → s.life ≡ On n stage → eqb n k ≡ false → thread_part k t s ≡ None
away_thread n k t s stage p e = ap (λ l. thread_in_life k l s.guest) p ∙ (rw e refl)

pub busy_none : (k : ℕ) (t : Tid) (s : Spot) (life : Life) → s.life ≡ life → is_busy k life ≡ false → busy_part k t s ≡ None
busy_none k t s life p e = ap (λ l. cond (is_busy k l) (Some (busy t l)) None) p ∙ (rw e refl)

away_seeking : (n k : ℕ) (stage : Stage) → eqb n k ≡ false → is_seeking k (On n stage) ≡ false
away_seeking n k Seeks e = e
away_seeking n k stage e = grind arith

-- nor on its list of those that seek slots
pub away_seeker : (n k : ℕ) (t : Tid) (s : Spot) (stage : Stage) → s.life ≡ On n stage → eqb n k ≡ false → seeker_part k t s ≡ None
away_seeker n k t s stage p e = no_seeker k t s (ap (is_seeking k) p ∙ away_seeking n k stage e)

-- a life that seeks slots on node n
pub seeker_was : (n : ℕ) (t : Tid) (s : Spot) → s.life ≡ On n Seeks → seeker_part n t s ≡ Some t
seeker_was n t s p = ap (λ l. cond (is_seeking n l) (Some t) None) p ∙ (rw (eq-eqb n n refl) refl)

-- two that seek none
pub both_idle : (k : ℕ) (t : Tid) (r s : Spot) → is_seeking k r.life ≡ false → is_seeking k s.life ≡ false → seeker_part k t s ≡ seeker_part k t r
both_idle k t r s old new = no_seeker k t s new ∙ sym (no_seeker k t r old)

pub frame_home : (n k : ℕ) (t : Tid) (r s : Spot) (a b : Stage) → r.life ≡ On n a → s.life ≡ On n b → is_home a ≡ true → is_home b ≡ true → eqb n k ≡ false → Frame k t r s
frame_home n k t r s a b p q g h e = record {
  thread = away_thread n k t s b q e ∙ sym (away_thread n k t r a p e);
  busy = busy_none k t s (On n b) q (home_busy n k b h e) ∙ sym (busy_none k t r (On n a) p (home_busy n k a g e));
  seeker = away_seeker n k t s b q e ∙ sym (away_seeker n k t r a p e);
}
