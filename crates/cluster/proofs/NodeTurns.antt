-- What one node has done in a round: its stamps, its acts, and the clock from which its history is told.
use Rattle.std.proofs.Common.{◌≡◌, ℕ, ◌<◌, ◌≤◌, max, List, [], ◌∷◌, ◌++◌, Option, Some, None, Bool, true, false, cond, eqb, refl, sym, ap, ◌∙◌, arith}
use Rattle.std.specs.Prelude.{⊤, ◌&&◌, nat_lt}
use Rattle.std.proofs.lemmas.Bool.{ne_eqb}
use Rattle.std.proofs.Math.Nat.{le-max_left, le-max_right, max-le}
use Rattle.run_trace.specs.declared.entry.Act.{Act}
use Rattle.run_trace.specs.declared.entry.Act.TheVariants.{Boot, Run, Take, Move}
use Rattle.run_trace.specs.declared.entry.Entry.{Entry}
use Rattle.run_trace.specs.declared.packet.Packet.{Packet}
use Rattle.run_trace.specs.Cluster.{after_or, taken_of}
use Rattle.run_trace.specs.Histories.{IsHistory, IsStamped, IsTurn, Turn, clock, seen, taken_from, turn_state}
use Rattle.run_trace.specs.Local.{EventSoFar, Local, nothing}
use Rattle.run_trace.specs.Machine.{acts, is_beyond, is_range, local_event, turn_event}
use Rattle.run_trace.specs.Program.{Program, nodes_of}
use Rattle.trace_laws.specs.Gathers.{events_in}
use Rattle.node_loop.specs.Rounds.{AreInRound}
use Rattle.node_loop.specs.Turns.{IsActInRange}
use Rattle.cluster.specs.Gathering.{AreOfRound}
use Rattle.cluster.specs.Rounds.{clock_of}
use Rattle.cluster.specs.Standing.{NoneLater, turn_in}
use Rattle.cluster.proofs.Weaving.{AreLess, Rises}

pub and_first : (a b : Bool) → (a && b) ≡ true → a ≡ true
and_first true b e = refl
and_first false b e = absurd (cc e)

pub and_rest : (a b : Bool) → (a && b) ≡ true → b ≡ true
and_rest true b e = e
and_rest false b e = absurd (cc e)

-- stamps rise, and end with the node's clock
pub stamped_above : (t : Turn) (p : Program) (me last : ℕ) (a : Act) → IsActInRange p me a → IsStamped last t a → last < t.event.stamp
stamped_above t p me last Boot r s = absurd r
stamped_above t p me last (Run vp quantum) r s = omega (arith, s, le-max_right t.began (max last (seen t.event.took)), le-max_left last (seen t.event.took))
stamped_above t p me last (Take from) r s = omega (arith, s, le-max_right t.began (max last (seen t.event.took)), le-max_left last (seen t.event.took))
stamped_above t p me last (Move u to) r s = omega (arith, s, le-max_right t.began (max last (seen t.event.took)), le-max_left last (seen t.event.took))

less_all : (n s d : ℕ) (turns : List Turn) → clock d turns < s → Rises n turns → AreLess s turns
less_all n s d [] l r = tt
less_all n s d (t ∷ before) l r = (l, less_more t.event.stamp before (omega (arith, l)) r.1)
  where
    less_more : (a : ℕ) (xs : List Turn) → a ≤ s → AreLess a xs → AreLess s xs
    less_more a [] m h = tt
    less_more a (x ∷ xs) m h = (omega (arith, m, h.0), less_more a xs m h.1)

pub rises : (p : Program) (me d began round : ℕ) (base : Local) (turns : List Turn) → IsHistory p me d base turns → AreInRound p me began round turns → Rises me turns
rises p me d began round base [] h o = tt
rises p me d began round base (t ∷ before) h o =
    let rest : Rises me before = rises p me d began round base before h.0 o.1 in
    (o.0.0, less_all me t.event.stamp d before (stamped_above t p me (clock d before) t.event.act o.0.3 h.1.stamp) rest, rest)

-- each act is one of this node
abbrev pub AreInRange : Program → ℕ → List Turn → Type 0
AreInRange p n [] = ⊤
AreInRange p n (t ∷ before) = IsActInRange p n t.event.act × AreInRange p n before

pub ranges : (p : Program) (n began round : ℕ) (ts : List Turn) → AreInRound p n began round ts → AreInRange p n ts
ranges p n began round [] o = tt
ranges p n began round (t ∷ before) o = (o.0.3, ranges p n began round before o.1)

one_turn : (p : Program) (me : ℕ) (a : Act) → IsActInRange p me a → turn_in a ≡ 1
one_turn p me Boot r = absurd r
one_turn p me (Run vp quantum) r = refl
one_turn p me (Take from) r = refl
one_turn p me (Move t to) r = refl

pub of_round : (p : Program) (me began round : ℕ) (turns : List Turn) → AreInRound p me began round turns → AreOfRound began round turns
of_round p me began round [] o = tt
of_round p me began round (t ∷ before) o = ((o.0.1, o.0.2, one_turn p me t.event.act o.0.3), of_round p me began round before o.1)

-- nothing is taken from a node that isn't there
taken_out : (p : Program) (me i : ℕ) (a : Act) (took : Option Packet) → nodes_of p ≤ i → IsActInRange p me a → taken_of i a took ≡ []
taken_out p me i Boot took l r = refl
taken_out p me i (Run vp quantum) took l r = refl
taken_out p me i (Move t to) took l r = refl
taken_out p me i (Take from) None l r = refl
taken_out p me i (Take from) (Some packet) l r = ap (λ b. cond b (packet ∷ []) []) (ne_eqb from i (λ e. absurd (omega (arith, e, l, r))))

pub all_taken_out : (p : Program) (me i began round : ℕ) (turns : List Turn) → nodes_of p ≤ i → AreInRound p me began round turns → taken_from i (events_in turns) ≡ []
all_taken_out p me i began round [] l o = refl
all_taken_out p me i began round (t ∷ before) l o =
    ap (λ ps. ps ++ taken_of i t.event.act t.event.took) (all_taken_out p me i began round before l o.1) ∙ taken_out p me i t.event.act t.event.took l o.0.3

-- ## The clock from which a history is told

-- beside the clock with which its round began, a lower one counts for nothing
lower : (b c d s : ℕ) → c ≤ b → max b (max c s) ≤ max b (max d s)
lower b c d s l =
    let up : max d s ≤ max b (max d s) = le-max_right b (max d s) in
    let b_up : b ≤ max b (max d s) = le-max_left b (max d s) in
    let s_up : s ≤ max b (max d s) = omega (arith, le-max_right d s, up) in
    max-le {a = b} {b = max c s} {k = max b (max d s)} b_up (max-le {a = c} {b = s} {k = max b (max d s)} (omega (arith, l, b_up)) s_up)

restamped : (t : Turn) (c d : ℕ) (a : Act) → c ≤ t.began → d ≤ t.began → IsStamped c t a → IsStamped d t a
restamped t c d a lc ld k = by a k
  where
    same : max t.began (max c (seen t.event.took)) ≡ max t.began (max d (seen t.event.took))
    same = omega (arith, lower t.began c d (seen t.event.took) lc, lower t.began d c (seen t.event.took) ld)

    by : (z : Act) → IsStamped c t z → IsStamped d t z
    by Boot e = e
    by (Run vp quantum) e = omega (arith, e, same)
    by (Take from) e = omega (arith, e, same)
    by (Move u to) e = omega (arith, e, same)

pub rebased : (p : Program) (n began round c d : ℕ) → c ≤ began → d ≤ began → (base : Local) (ts : List Turn) → AreInRound p n began round ts → IsHistory p n c base ts → IsHistory p n d base ts
rebased p n began round c d lc ld base [] o h = tt
rebased p n began round c d lc ld base (t ∷ before) o h =
    let k : IsTurn p n (clock c before) (turn_state p n base before) t = h.1 in (
      rebased p n began round c d lc ld base before o.1 h.0,
      record { done = k.done; is = k.is; labels = k.labels; sends = k.sends; prints = k.prints; shape = k.shape; stamp = stamp before k.stamp },
    )
  where
    stamp : (ts : List Turn) → IsStamped (clock c ts) t t.event.act → IsStamped (clock d ts) t t.event.act
    stamp [] e = restamped t c d t.event.act (omega (arith, lc, o.0.1)) (omega (arith, ld, o.0.1)) e
    stamp (x ∷ xs) e = e

-- the last of a node's stamps in a trace
pub own_low : (n clock : ℕ) (xs : List Entry) → NoneLater clock xs → clock_of n 0 xs ≤ clock
own_low n clock [] h = omega arith
own_low n clock (x ∷ xs) h = by (eqb x.node n) (own_low n clock xs h.1)
  where
    by : (b : Bool) → clock_of n 0 xs ≤ clock → cond b x.stamp (clock_of n 0 xs) ≤ clock
    by true l = h.0
    by false l = l

-- ## A node that hasn't begun

range_true : (b : Bool) (o : Option EventSoFar) (d : EventSoFar) → cond b o None ≡ Some d → b ≡ true
range_true true o d e = refl
range_true false o d e = absurd (cc e)

pub in_range : (p : Program) (n : ℕ) (s : Local) (a : Act) (took : Option Packet) (d : EventSoFar) → local_event p n s a took ≡ Some d → is_range p n s a ≡ true
unfolding local_event
in_range p n s a took d e = range_true (is_range p n s a) (acts p n s a took) d e

-- it does nothing but begin
has_begun : (p : Program) (n : ℕ) (s : Local) (a : Act) → IsActInRange p n a → is_range p n s a ≡ true → s.booted ≡ true
unfolding is_range
has_begun p n s Boot r e = absurd r
has_begun p n s (Run vp quantum) r e = and_first s.booted _ (and_rest (nat_lt n (nodes_of p)) _ e)
has_begun p n s (Take from) r e = and_first s.booted _ (and_rest (nat_lt n (nodes_of p)) _ e)
has_begun p n s (Move t to) r e = and_first s.booted _ (and_rest (nat_lt n (nodes_of p)) _ e)

unbooted_after : (p : Program) (n : ℕ) (s : Local) (t : Turn) (d : EventSoFar) → s.booted ≡ false → IsActInRange p n t.event.act → turn_event p n s t.event.act t.event.took ≡ Some d → d.node.booted ≡ false
unbooted_after p n s t d u r e = by (is_beyond t.event.took) e
  where
    by : (b : Bool) → cond b (Some (nothing s)) (local_event p n s t.event.act t.event.took) ≡ Some d → d.node.booted ≡ false
    by true k = let same : nothing s ≡ d = cc k in ap (λ (z : EventSoFar). z.node.booted) (sym same) ∙ u
    by false k = absurd (cc (u, has_begun p n s t.event.act r (in_range p n s t.event.act t.event.took d k)))

pub unbooted_stays : (p : Program) (n c began round : ℕ) (base : Local) (ts : List Turn) → base.booted ≡ false → IsHistory p n c base ts → AreInRound p n began round ts → (turn_state p n base ts).booted ≡ false
unbooted_stays p n c began round base [] u h o = u
unbooted_stays p n c began round base (t ∷ before) u h o =
    let k : IsTurn p n (clock c before) (turn_state p n base before) t = h.1 in
    let now : (turn_state p n base before).booted ≡ false = unbooted_stays p n c began round base before u h.0 o.1 in
    ap (λ (z : Option EventSoFar). (after_or z (turn_state p n base before)).booted) k.is ∙ unbooted_after p n (turn_state p n base before) t k.done now o.0.3 k.is
