-- Turns in code are those of the machine.
use Rattle.std.proofs.Common.{◌≡◌, ℕ, ◌<◌, List, [], ◌∷◌, Bool, true, false, Option, Some, None, eqb, not, length, drop, refl, ap, arith, append-nil}
use Rattle.std.specs.Prelude.{slice_get, if◌then◌else◌, ◌==◌}
use Rattle.std.specs.List.{list_any}
use Rattle.std.proofs.lemmas.Bool.Decides.{nat_tests}
use Rattle.slot_space.specs.declared.names.Tid.{Tid}
use Rattle.run_trace.specs.declared.packet.Send.{Send}
use Rattle.run_trace.specs.Talks.{Talk, want_sends, wanting_turn, with_claims, listing_sends, turn_to, without_first, is_wanting, is_first, again, again_sends}
use Rattle.run_trace.specs.Local.{EventSoFar, with_talk}
use Rattle.run_trace.specs.Steps.{speaks}
use Rattle.run_trace.specs.Machine.{wants_again, leaves_claims}
use Rattle.node_state.specs.Turns.{turn_for}

-- ## Node 0's list

pub listed : (n : ℕ) (ks : List ℕ) → list_any (λ k. k == n) ks ≡ is_wanting n ks
listed n [] = refl
listed n (k ∷ ks) = by (eqb k n) refl (listed n ks)
  where
    by : (b : Bool) → eqb k n ≡ b → list_any (λ j. j == n) ks ≡ is_wanting n ks → list_any (λ j. j == n) (k ∷ ks) ≡ is_wanting n (k ∷ ks)
    by true e more = rw e refl
    by false e more = rw e more

pub none_first : (n : ℕ) (ks : List ℕ) → None ≡ slice_get ks 0 → is_first n ks ≡ false
none_first n [] e = refl
none_first n (k ∷ ks) e = absurd (cc e)

pub is_the_first : (n k : ℕ) (ks : List ℕ) → Some k ≡ slice_get ks 0 → eqb k n ≡ is_first n ks
is_the_first n k [] e = absurd (cc e)
is_the_first n k (j ∷ ks) e = let same : k ≡ j = cc e in ap (λ i. eqb i n) same

pub listed_turn : (n : ℕ) (ks : List ℕ) (o : Option ℕ) → o ≡ (if length ks == 0 then Some n else None) → turn_for o ≡ listing_sends n ks
listed_turn n [] o e = ap turn_for e
listed_turn n (k ∷ ks) o e = let none : o ≡ None = grind (arith, nat_tests, e) in ap turn_for none

pub some_first : (n : ℕ) (ks : List ℕ) → is_first n ks ≡ true → 0 < length ks
some_first n [] e = absurd (cc e)
some_first n (k ∷ ks) e = omega arith

pub rest : (ks : List ℕ) → drop 1 ks ≡ without_first ks
rest [] = refl
rest (k ∷ ks) = refl

pub next_first : (ks : List ℕ) → turn_for (slice_get ks 0) ≡ turn_to ks
next_first [] = refl
next_first (k ∷ ks) = refl

-- ## What a node sends and keeps

-- no word more is no change
abbrev same_sends : List Send → EventSoFar → EventSoFar
same_sends sends d = record d { sends = sends }

pub quiet : (talk : Talk) (d : EventSoFar) → speaks [] talk d ≡ with_talk talk d
unfolding speaks
quiet talk d = ap (λ (sends : List Send). same_sends sends (with_talk talk d)) (append-nil d.sends)

pub says_nothing : (d : EventSoFar) → speaks [] d.node.talk d ≡ d
says_nothing d = quiet d.node.talk d

pub wants_yet : (d : EventSoFar) → not d.node.talk.wants ≡ false → speaks (want_sends d.node.talk) (wanting_turn d.node.talk) d ≡ with_talk (wanting_turn d.node.talk) d
unfolding speaks
wants_yet d = by d.node.talk.wants refl
  where
    by : (b : Bool) → d.node.talk.wants ≡ b → not b ≡ false → speaks (want_sends d.node.talk) (wanting_turn d.node.talk) d ≡ with_talk (wanting_turn d.node.talk) d
    by false e h = absurd (cc h)
    by true e h = rw e (quiet (wanting_turn d.node.talk) d)

pub claims_left : (ts : List Tid) (d : EventSoFar) → leaves_claims ts d ≡ with_talk (with_claims ts d.node.talk) d
claims_left ts d = quiet (with_claims ts d.node.talk) d

abbrev again_by : List Tid → EventSoFar → EventSoFar
again_by ts d = speaks (again_sends ts d.node.talk) (again ts d.node.talk) d

pub none_left : (d : EventSoFar) → length d.node.talk.claims ≡ 0 → wants_again d ≡ d
none_left d = by d.node.talk.claims
  where
    by : (ts : List Tid) → length ts ≡ 0 → again_by ts d ≡ d
    by [] e = says_nothing d
    by (t ∷ ts) e = absurd (cc e)

pub some_left : (d : EventSoFar) → eqb (length d.node.talk.claims) 0 ≡ false → wants_again d ≡ speaks (want_sends d.node.talk) (wanting_turn d.node.talk) d
some_left d = by d.node.talk.claims
  where
    by : (ts : List Tid) → eqb (length ts) 0 ≡ false → again_by ts d ≡ speaks (want_sends d.node.talk) (wanting_turn d.node.talk) d
    by [] e = absurd (cc e)
    by (t ∷ ts) e = refl
