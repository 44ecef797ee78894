-- The greatest of the nodes' clocks, and the nodes' round.
use Rattle.std.proofs.Common.{◌≡◌, ℕ, zero, suc, ◌+◌, ◌*◌, ◌-◌, ◌^◌, ◌<◌, ◌≤◌, max, List, [], ◌∷◌, length, reverse, drop, get_or, Some, Bool, true, false, cond, eqb, refl, sym, ap, ◌∙◌, arith}
use Rattle.std.specs.Prelude.{nat_lt, slice_get}
use Rattle.std.proofs.Math.Nat.{le-max_left, le-max_right, max-le, max-zero, zero-max}
use Rattle.std.proofs.Math.Seq.{drop-cons}
use Rattle.std.proofs.lemmas.Bool.{lt-ltb}
use Rattle.std.proofs.lemmas.List.{drop_all, length-reverse}
use Rattle.std.proofs.lemmas.Option.{slice_get_past}
use Rattle.run_trace.specs.declared.entry.Entry.{Entry}
use Rattle.run_trace.specs.Histories.{own_entries}
use Rattle.run_trace.specs.Program.{nodes_of}
use Rattle.basics.proofs.Lemmas.{some_at}
use Rattle.node_loop.specs.View.{NodeView, next_round}
use Rattle.node_loop.specs.Turns.{entry_limit}
use Rattle.cluster.specs.Standing.{AgreesWith, HasRoom, HasTrace, clock_limit, entries_at}
use Rattle.cluster.specs.View.{ClusterView, greatest_clock, last_clock}
use Rattle.cluster.proofs.Runs.{few_all, few_own, later_front}

pub clock_within : (vs : List NodeView) (n : ℕ) (v : NodeView) → slice_get vs n ≡ Some v → v.clock ≤ greatest_clock vs
clock_within [] n v e = absurd (cc e)
clock_within (u ∷ us) zero v e = let same : u ≡ v = cc e in omega (arith, ap (λ (z : NodeView). z.clock) same, le-max_left u.clock (greatest_clock us))
clock_within (u ∷ us) (suc n) v e = omega (arith, clock_within us n v e, le-max_right u.clock (greatest_clock us))

pub greatest_most : (k : ℕ) (vs : List NodeView) → ((n : ℕ) (v : NodeView) → slice_get vs n ≡ Some v → v.clock ≤ k) → greatest_clock vs ≤ k
greatest_most k [] h = omega arith
greatest_most k (u ∷ us) h = max-le {a = u.clock} {b = greatest_clock us} {k = k} (h 0 u refl) (greatest_most k us (λ n v e. h (suc n) v e))

pub greatest_below : (k : ℕ) (vs : List NodeView) → 0 < k → ((n : ℕ) (v : NodeView) → slice_get vs n ≡ Some v → v.clock < k) → greatest_clock vs < k
greatest_below zero vs l h = absurd (omega (arith, l))
greatest_below (suc k) vs l h = let m : greatest_clock vs ≤ k = greatest_most k vs (λ n v e. omega (arith, h n v e)) in omega (arith, m)

-- the greatest is that of a node which no other is above
pub greatest_is : (k : ℕ) (vs : List NodeView) (n : ℕ) (v : NodeView) → slice_get vs n ≡ Some v → v.clock ≡ k → ((m : ℕ) (u : NodeView) → slice_get vs m ≡ Some u → u.clock ≤ k) → greatest_clock vs ≡ k
greatest_is k vs n v e is h = omega (arith, greatest_most k vs h, clock_within vs n v e, is)

-- ## Over the nodes one after another

max_of : (a b c all : ℕ) → max a (max b c) ≡ all → max (max a b) c ≡ all
max_of a b c all h =
    let ab : max a b ≤ all = max-le {a = a} {b = b} {k = all} (omega (arith, h, le-max_left a (max b c))) (omega (arith, h, le-max_left b c, le-max_right a (max b c))) in
    let up : max (max a b) c ≤ all = max-le {a = max a b} {b = c} {k = all} ab (omega (arith, h, le-max_right b c, le-max_right a (max b c))) in
    let bc : max b c ≤ max (max a b) c = max-le {a = b} {b = c} {k = max (max a b) c} (omega (arith, le-max_right a b, le-max_left (max a b) c)) (le-max_right (max a b) c) in
    let down : max a (max b c) ≤ max (max a b) c = max-le {a = a} {b = max b c} {k = max (max a b) c} (omega (arith, le-max_left a b, le-max_left (max a b) c)) bc in
    omega (arith, h, up, down)

pub greatest_none : (vs : List NodeView) → max 0 (greatest_clock vs) ≡ greatest_clock vs
greatest_none vs = zero-max (greatest_clock vs)

pub greatest_more : (vs : List NodeView) (i : ℕ) (v : NodeView) (so_far clock now : ℕ) → i < length vs → v ≡ get_or vs i v → clock ≡ v.clock → now ≡ max so_far clock
    → max so_far (greatest_clock (drop i vs)) ≡ greatest_clock vs → max now (greatest_clock (drop (i + 1) vs)) ≡ greatest_clock vs
greatest_more vs i v so_far clock now l at c n h =
    let next : i + 1 ≡ suc i = omega arith in
    let front : drop i vs ≡ v ∷ drop (suc i) vs = drop-cons vs i v l ∙ ap (λ u. u ∷ drop (suc i) vs) (sym at) in
    ap (λ k. max k (greatest_clock (drop (i + 1) vs))) (n ∙ ap (max so_far) c)
    ∙ ap (λ k. max (max so_far v.clock) (greatest_clock (drop k vs))) next
    ∙ max_of so_far v.clock (greatest_clock (drop (suc i) vs)) (greatest_clock vs) (ap (λ us. max so_far (greatest_clock us)) (sym front) ∙ h)

pub greatest_end : (vs : List NodeView) (i so_far : ℕ) → length vs ≤ i → max so_far (greatest_clock (drop i vs)) ≡ greatest_clock vs → so_far ≡ greatest_clock vs
greatest_end vs i so_far l h = sym (max-zero so_far) ∙ ap (λ us. max so_far (greatest_clock us)) (sym (drop_all i vs l)) ∙ h

-- ## Rounds

pub next_not_below : (round : ℕ) → round ≤ next_round round
next_not_below round = by (nat_lt round (2 ^ 64 - 1))
  where
    by : (b : Bool) → round ≤ cond b (suc round) round
    by true = omega arith
    by false = omega arith

pub next_is : (round : ℕ) → round < 2 ^ 64 - 1 → next_round round ≡ suc round
next_is round l = ap (λ b. cond b (suc round) round) (lt-ltb round (2 ^ 64 - 1) l)

-- ## How many entries a node keeps

own_fewer : (n : ℕ) (trace : List Entry) → length (own_entries n trace) ≤ length trace
own_fewer n [] = omega arith
own_fewer n (x ∷ xs) = by (eqb x.node n) (own_fewer n xs)
  where
    by : (c : Bool) → length (own_entries n xs) ≤ length xs → length (cond c (x ∷ own_entries n xs) (own_entries n xs)) ≤ suc (length xs)
    by true h = omega (arith, h)
    by false h = omega (arith, h)

module _ (c : ClusterView) (kept : List Entry) (t : HasTrace c kept) (n : ℕ) (v : NodeView) (at : slice_get c.nodes n ≡ Some v) where
  own_many : length (own_entries n kept) ≡ length v.entries
  own_many = ap length (t.entries n ∙ ap (λ o. reverse (entries_at o)) at) ∙ length-reverse v.entries

  pub keeps_within : length v.entries ≤ length kept
  keeps_within = omega (arith, own_many, own_fewer n kept)

module _ (c : ClusterView) (before kept : List Entry) (s : AgreesWith c before kept) where
  pub few_kept : length kept ≤ nodes_of c.program * entry_limit
  few_kept = few_all (nodes_of c.program) entry_limit kept
      (λ n past. s.trace.entries n ∙ ap (λ o. reverse (entries_at o)) (slice_get_past c.nodes n (omega (arith, past, s.count))))
      (λ n l.
      let v = some_at c.nodes n (omega (arith, l, s.count)) in
      omega (arith, own_many c kept s.trace n v.0 v.1, (s.node n v.0 v.1).few))

  -- eight nodes
  pub few_entries : length kept ≤ 16000000
  few_entries = omega (arith, few_kept, c.program.setup.geometry.few_nodes)

  pub greatest_within : greatest_clock c.nodes < clock_limit (length kept)
  greatest_within = greatest_below (clock_limit (length kept)) c.nodes (omega arith) s.clocks

  pub clocks_low : greatest_clock c.nodes < last_clock
  clocks_low = omega (arith, greatest_within, few_entries)

  -- a node has at most one entry for each stamp, so where the clocks are low it has room for more
  pub has_room : greatest_clock c.nodes + 1 < entry_limit → (n : ℕ) → HasRoom c n
  has_room low n v at =
      omega (arith, few_own n (greatest_clock c.nodes) kept s.trace.order (later_front (greatest_clock c.nodes) kept before s.stamps), own_many c kept s.trace n v at, low)
