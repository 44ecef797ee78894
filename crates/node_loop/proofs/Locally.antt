-- A turn of a node is one of its own history.
use Rattle.std.proofs.Common.{◌≡◌, ℕ, suc, ◌+◌, ◌≤◌, max, refl, arith}
use Rattle.std.proofs.Math.Nat.{le-max_left, le-max_right, max-le}
use Rattle.run_trace.specs.declared.entry.Act.{Act}
use Rattle.run_trace.specs.declared.entry.Act.TheVariants.{Boot, Run, Take, Move}
use Rattle.run_trace.specs.Histories.{seen, IsStamped, IsTurn}
use Rattle.node_loop.specs.View.{NodeView}
use Rattle.node_loop.specs.Turns.{Does, turn_of, IsInRange}

max_of_three : (a b c : ℕ) → b ≤ a → max a c ≡ max a (max b c)
max_of_three a b c l =
    let up : max b c ≤ max a c = max-le {a = b} {b = c} {k = max a c} (omega (arith, l, le-max_left a c)) (le-max_right a c) in
    let all : max a (max b c) ≤ max a c = max-le {a = a} {b = max b c} {k = max a c} (le-max_left a c) up in
    let down : c ≤ max a (max b c) = omega (arith, le-max_right b c, le-max_right a (max b c)) in
    let back : max a c ≤ max a (max b c) = max-le {a = a} {b = c} {k = max a (max b c)} (le-max_left a (max b c)) down in
    omega (arith, all, back)

module _ (v new : NodeView) (act : Act) (last : ℕ) (d : Does v act new) (r : IsInRange v act) (l : last ≤ v.clock) where
  stamp : IsStamped last (turn_of v act d.took d.done) act
  stamp = by act r
    where
      now : suc (max v.clock (seen d.took)) ≡ 1 + max v.clock (max last (seen d.took))
      now = omega (arith, max_of_three v.clock last (seen d.took) l)

      by : (a : Act) → IsInRange v a → IsStamped last (turn_of v a d.took d.done) a
      by Boot i = absurd i
      by (Run vp quantum) i = now
      by (Move u to) i = now
      by (Take from) i = now

  pub is_turn : IsTurn v.program v.me last v.state (turn_of v act d.took d.done)
  is_turn = record { done = d.done; is = d.is; labels = refl; sends = refl; prints = refl; shape = d.shape; stamp = stamp }
