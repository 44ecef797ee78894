-- The turns of all nodes are put together by stamp and node.
use Rattle.std.proofs.Common.{◌≡◌, ◌≢◌, ℕ, zero, suc, ◌+◌, ◌*◌, ◌<◌, ◌≤◌, ◌⊎◌, inl, inr, List, [], ◌∷◌, length, Bool, true, false, cond, eqb, refl, sym, ap, ◌∙◌, subst, arith}
use Rattle.std.specs.Prelude.{⊤, nat_lt}
use Rattle.std.proofs.lemmas.Bool.{eqb-true, eq-eqb, ne_eqb}
use Rattle.std.proofs.lemmas.Bool.Decides.{nat_tests}
use Rattle.run_trace.specs.Cluster.{IsAbove, IsDescending}
use Rattle.run_trace.specs.Histories.{Turn}
use Rattle.trace_laws.specs.Gathers.{events_in, own_turns}
use Rattle.basics.proofs.Lemmas.{by_eq}
use Rattle.cluster.specs.Gathering.{AreOfRound}
use Rattle.cluster.specs.Standing.{turn_in}

-- whether the first stamp and node come after the second
abbrev comes_after : (s n s' n' : ℕ) → Bool
comes_after s n s' n' = cond (nat_lt s' s) true (cond (nat_lt s s') false (nat_lt n' n))

after_true : (s n s' n' : ℕ) → comes_after s n s' n' ≡ true → (s' < s) ⊎ ((s' ≡ s) × (n' < n))
after_true s n s' n' h = by (nat_lt s' s) refl (nat_lt s s') refl h
  where
    by : (a : Bool) → nat_lt s' s ≡ a → (b : Bool) → nat_lt s s' ≡ b → cond a true (cond b false (nat_lt n' n)) ≡ true → (s' < s) ⊎ ((s' ≡ s) × (n' < n))
    by true e b f k = inl (grind (arith, nat_tests))
    by false e true f k = absurd (cc k)
    by false e false f k = inr (grind (arith, nat_tests), grind (arith, nat_tests))

after_false : (s n s' n' : ℕ) → comes_after s n s' n' ≡ false → (s < s') ⊎ ((s ≡ s') × (n ≤ n'))
after_false s n s' n' h = by (nat_lt s' s) refl (nat_lt s s') refl h
  where
    by : (a : Bool) → nat_lt s' s ≡ a → (b : Bool) → nat_lt s s' ≡ b → cond a true (cond b false (nat_lt n' n)) ≡ false → (s < s') ⊎ ((s ≡ s') × (n ≤ n'))
    by true e b f k = absurd (cc k)
    by false e true f k = inl (grind (arith, nat_tests))
    by false e false f k = inr (grind (arith, nat_tests), grind (arith, nat_tests))

abbrev IsOver : Turn → Turn → Type 0
IsOver t x = (x.event.stamp < t.event.stamp) ⊎ ((x.event.stamp ≡ t.event.stamp) × (x.event.node < t.event.node))

over_trans : (t x y : Turn) → IsOver t x → IsOver x y → IsOver t y
over_trans t x y h g = elim h as (λ z. IsOver t y) [
  | inl a ↦ elim g as (λ z. IsOver t y) [ inl b ↦ inl (omega (arith, a, b)) | inr b ↦ inl (omega (arith, a, b.0)) ]
  | inr a ↦ elim g as (λ z. IsOver t y) [ inl b ↦ inl (omega (arith, a.0, b)) | inr b ↦ inr (omega (arith, a.0, b.0), omega (arith, a.1, b.1)) ]
]

over_all : (t x : Turn) (xs : List Turn) → IsOver t x → IsAbove x.event (events_in xs) → IsAbove t.event (events_in xs)
over_all t x [] h a = tt
over_all t x (y ∷ ys) h a = (over_trans t x y h a.0, over_all t x ys h a.1)

-- ## One turn more

abbrev after : Turn → Turn → Bool
after t x = comes_after t.event.stamp t.event.node x.event.stamp x.event.node

abbrev insert : Turn → List Turn → List Turn
insert t [] = t ∷ []
insert t (x ∷ xs) = cond (after t x) (t ∷ x ∷ xs) (x ∷ insert t xs)

-- its stamp is above those of its node's turns among these
abbrev IsNewest : Turn → List Turn → Type 0
IsNewest t [] = ⊤
IsNewest t (x ∷ xs) = (x.event.node ≡ t.event.node → x.event.stamp < t.event.stamp) × IsNewest t xs

-- what isn't before a turn that is the newest of its node is over it
over_newest : (t x : Turn) → (x.event.node ≡ t.event.node → x.event.stamp < t.event.stamp) → after t x ≡ false → IsOver x t
over_newest t x h e = elim (after_false t.event.stamp t.event.node x.event.stamp x.event.node e) as (λ z. IsOver x t) [
  | inl l ↦ inl l
  | inr k ↦ by_eq x.event.node t.event.node (λ same. absurd (omega (arith, h same, k.0))) (λ ne. inr (k.0, omega (arith, k.1, ne)))
]

insert_own : (n : ℕ) (t : Turn) (m : List Turn) → IsNewest t m → own_turns n (insert t m) ≡ own_turns n (t ∷ m)
insert_own n t [] h = refl
insert_own n t (x ∷ xs) h = by (after t x) refl (insert_own n t xs h.1)
  where
    swap : (p q : Bool) → eqb t.event.node n ≡ p → eqb x.event.node n ≡ q → after t x ≡ false → (o : List Turn) → cond q (x ∷ cond p (t ∷ o) o) (cond p (t ∷ o) o) ≡ cond p (t ∷ cond q (x ∷ o) o) (cond q (x ∷ o) o)
    swap true false e f a o = refl
    swap false true e f a o = refl
    swap false false e f a o = refl
    swap true true e f a o =
        let same : x.event.node ≡ t.event.node = eqb-true x.event.node n f ∙ sym (eqb-true t.event.node n e) in
        elim (over_newest t x h.0 a) as (λ z. x ∷ t ∷ o ≡ t ∷ x ∷ o) [ inl l ↦ absurd (omega (arith, l, h.0 same)) | inr k ↦ absurd (omega (arith, k.0, h.0 same)) ]

    by : (b : Bool) → after t x ≡ b → own_turns n (insert t xs) ≡ own_turns n (t ∷ xs) → own_turns n (cond b (t ∷ x ∷ xs) (x ∷ insert t xs)) ≡ own_turns n (t ∷ x ∷ xs)
    by true e r = refl
    by false e r = ap (λ o. cond (eqb x.event.node n) (x ∷ o) o) r ∙ swap (eqb t.event.node n) (eqb x.event.node n) refl refl e (own_turns n xs)

above_insert : (x t : Turn) (xs : List Turn) → IsOver x t → IsAbove x.event (events_in xs) → IsAbove x.event (events_in (insert t xs))
above_insert x t [] o a = (o, tt)
above_insert x t (y ∷ ys) o a = by (after t y) (above_insert x t ys o a.1)
  where
    by : (b : Bool) → IsAbove x.event (events_in (insert t ys)) → IsAbove x.event (events_in (cond b (t ∷ y ∷ ys) (y ∷ insert t ys)))
    by true r = (o, a)
    by false r = (a.0, r)

insert_descends : (t : Turn) (m : List Turn) → IsNewest t m → IsDescending (events_in m) → IsDescending (events_in (insert t m))
insert_descends t [] h d = (tt, tt)
insert_descends t (x ∷ xs) h d = by (after t x) refl (insert_descends t xs h.1 d.1)
  where
    by : (b : Bool) → after t x ≡ b → IsDescending (events_in (insert t xs)) → IsDescending (events_in (cond b (t ∷ x ∷ xs) (x ∷ insert t xs)))
    by true e r = (let o : IsOver t x = after_true t.event.stamp t.event.node x.event.stamp x.event.node e in ((o, over_all t x xs o d.0), d))
    by false e r = (above_insert x t xs (over_newest t x h.0 e) d.0, r)

insert_newest : (t u : Turn) (m : List Turn) → (u.event.node ≡ t.event.node → u.event.stamp < t.event.stamp) → IsNewest t m → IsNewest t (insert u m)
insert_newest t u [] o h = (o, tt)
insert_newest t u (x ∷ xs) o h = by (after u x) (insert_newest t u xs o h.1)
  where
    by : (b : Bool) → IsNewest t (insert u xs) → IsNewest t (cond b (u ∷ x ∷ xs) (x ∷ insert u xs))
    by true r = (o, h)
    by false r = (h.0, r)

abbrev AreNodesBelow : ℕ → List Turn → Type 0
AreNodesBelow k [] = ⊤
AreNodesBelow k (x ∷ xs) = (x.event.node < k) × AreNodesBelow k xs

insert_below : (k : ℕ) (t : Turn) (m : List Turn) → t.event.node < k → AreNodesBelow k m → AreNodesBelow k (insert t m)
insert_below k t [] l h = (l, tt)
insert_below k t (x ∷ xs) l h = by (after t x) (insert_below k t xs l h.1)
  where
    by : (b : Bool) → AreNodesBelow k (insert t xs) → AreNodesBelow k (cond b (t ∷ x ∷ xs) (x ∷ insert t xs))
    by true r = (l, h)
    by false r = (h.0, r)

insert_length : (t : Turn) (m : List Turn) → length (insert t m) ≡ suc (length m)
insert_length t [] = refl
insert_length t (x ∷ xs) = by (after t x) (insert_length t xs)
  where
    by : (b : Bool) → length (insert t xs) ≡ suc (length xs) → length (cond b (t ∷ x ∷ xs) (x ∷ insert t xs)) ≡ suc (suc (length xs))
    by true r = refl
    by false r = ap suc r

insert_round : (clock round : ℕ) (t : Turn) (m : List Turn) → (t.began ≡ clock) × (t.event.round ≡ round) × (turn_in t.event.act ≡ 1) → AreOfRound clock round m → AreOfRound clock round (insert t m)
insert_round clock round t [] o h = (o, tt)
insert_round clock round t (x ∷ xs) o h = by (after t x) (insert_round clock round t xs o h.1)
  where
    by : (b : Bool) → AreOfRound clock round (insert t xs) → AreOfRound clock round (cond b (t ∷ x ∷ xs) (x ∷ insert t xs))
    by true r = (o, h)
    by false r = (h.0, r)

-- ## The turns of one node more

abbrev pub weave : List Turn → List Turn → List Turn
weave [] m = m
weave (t ∷ before) m = insert t (weave before m)

abbrev pub AreLess : ℕ → List Turn → Type 0
AreLess s [] = ⊤
AreLess s (x ∷ xs) = (x.event.stamp < s) × AreLess s xs

-- the turns are of this node, and their stamps rise
abbrev pub Rises : ℕ → List Turn → Type 0
Rises n [] = ⊤
Rises n (t ∷ before) = (t.event.node ≡ n) × AreLess t.event.stamp before × Rises n before

newest_other : (t : Turn) (k : ℕ) (m : List Turn) → t.event.node ≡ k → AreNodesBelow k m → IsNewest t m
newest_other t k [] e h = tt
newest_other t k (x ∷ xs) e h = (λ same. absurd (omega (arith, same, e, h.0)), newest_other t k xs e h.1)

module _ (k : ℕ) (m : List Turn) (below : AreNodesBelow k m) where
  weave_newest : (t : Turn) (ys : List Turn) → t.event.node ≡ k → AreLess t.event.stamp ys → IsNewest t (weave ys m)
  weave_newest t [] e l = newest_other t k m e below
  weave_newest t (y ∷ ys) e l = insert_newest t y (weave ys m) (λ same. l.0) (weave_newest t ys e l.1)

  weave_descends : (ys : List Turn) → Rises k ys → IsDescending (events_in m) → IsDescending (events_in (weave ys m))
  weave_descends [] r d = d
  weave_descends (y ∷ ys) r d = insert_descends y (weave ys m) (weave_newest y ys r.0 r.1) (weave_descends ys r.2 d)

  weave_below : (ys : List Turn) → Rises k ys → AreNodesBelow (suc k) (weave ys m)
  weave_below [] r = more m below
    where
      more : (xs : List Turn) → AreNodesBelow k xs → AreNodesBelow (suc k) xs
      more [] h = tt
      more (x ∷ xs) h = (omega (arith, h.0), more xs h.1)
  weave_below (y ∷ ys) r = insert_below (suc k) y (weave ys m) (omega (arith, r.0)) (weave_below ys r.2)

  none_own : (xs : List Turn) → AreNodesBelow k xs → own_turns k xs ≡ []
  none_own [] h = refl
  none_own (x ∷ xs) h = ap (λ b. cond b (x ∷ own_turns k xs) (own_turns k xs)) (ne_eqb x.event.node k (λ e. absurd (omega (arith, e, h.0)))) ∙ none_own xs h.1

  weave_own : (ys : List Turn) → Rises k ys → own_turns k (weave ys m) ≡ ys
  weave_own [] r = none_own m below
  weave_own (y ∷ ys) r =
      insert_own k y (weave ys m) (weave_newest y ys r.0 r.1)
      ∙ ap (λ b. cond b (y ∷ own_turns k (weave ys m)) (own_turns k (weave ys m))) (eq-eqb y.event.node k r.0)
      ∙ ap (λ o. y ∷ o) (weave_own ys r.2)

  weave_others : (n : ℕ) → n ≢ k → (ys : List Turn) → Rises k ys → own_turns n (weave ys m) ≡ own_turns n m
  weave_others n ne [] r = refl
  weave_others n ne (y ∷ ys) r =
      insert_own n y (weave ys m) (weave_newest y ys r.0 r.1)
      ∙ ap (λ b. cond b (y ∷ own_turns n (weave ys m)) (own_turns n (weave ys m))) (ne_eqb y.event.node n (λ e. ne (sym e ∙ r.0)))
      ∙ weave_others n ne ys r.2

pub weave_length : (ys m : List Turn) → length (weave ys m) ≡ length ys + length m
weave_length [] m = omega arith
weave_length (y ∷ ys) m = omega (arith, insert_length y (weave ys m), weave_length ys m)

weave_round : (clock round : ℕ) (ys m : List Turn) → AreOfRound clock round ys → AreOfRound clock round m → AreOfRound clock round (weave ys m)
weave_round clock round [] m o h = h
weave_round clock round (y ∷ ys) m o h = insert_round clock round y (weave ys m) o.0 (weave_round clock round ys m o.1 h)

-- ## All nodes

abbrev pub woven : (ℕ → List Turn) → ℕ → List Turn
woven each zero = []
woven each (suc k) = weave (each k) (woven each k)

module _ (each : ℕ → List Turn) (rises : (n : ℕ) → Rises n (each n)) where
  woven_below : (k : ℕ) → AreNodesBelow k (woven each k)
  woven_below zero = tt
  woven_below (suc k) = weave_below k (woven each k) (woven_below k) (each k) (rises k)

  pub woven_descends : (k : ℕ) → IsDescending (events_in (woven each k))
  woven_descends zero = tt
  woven_descends (suc k) = weave_descends k (woven each k) (woven_below k) (each k) (rises k) (woven_descends k)

  pub woven_past : (k n : ℕ) → k ≤ n → own_turns n (woven each k) ≡ []
  woven_past zero n l = refl
  woven_past (suc k) n l = weave_others k (woven each k) (woven_below k) n (λ e. absurd (omega (arith, e, l))) (each k) (rises k) ∙ woven_past k n (omega (arith, l))

  pub woven_own : (k n : ℕ) → n < k → own_turns n (woven each k) ≡ each n
  woven_own zero n l = absurd (omega (arith, l))
  woven_own (suc k) n l = by_eq n k
      (λ e. subst (λ i. own_turns i (woven each (suc k)) ≡ each i) (sym e) (weave_own k (woven each k) (woven_below k) (each k) (rises k)))
      (λ ne. weave_others k (woven each k) (woven_below k) n ne (each k) (rises k) ∙ woven_own k n (omega (arith, l, ne)))

-- ## Stamps above a clock

abbrev pub AreAfter : ℕ → List Turn → Type 0
AreAfter clock [] = ⊤
AreAfter clock (t ∷ before) = (clock < t.event.stamp) × AreAfter clock before

insert_after : (clock : ℕ) (t : Turn) (m : List Turn) → clock < t.event.stamp → AreAfter clock m → AreAfter clock (insert t m)
insert_after clock t [] l h = (l, tt)
insert_after clock t (x ∷ xs) l h = by (after t x) (insert_after clock t xs l h.1)
  where
    by : (b : Bool) → AreAfter clock (insert t xs) → AreAfter clock (cond b (t ∷ x ∷ xs) (x ∷ insert t xs))
    by true r = (l, h)
    by false r = (h.0, r)

weave_after : (clock : ℕ) (ys m : List Turn) → AreAfter clock ys → AreAfter clock m → AreAfter clock (weave ys m)
weave_after clock [] m o h = h
weave_after clock (y ∷ ys) m o h = insert_after clock y (weave ys m) o.0 (weave_after clock ys m o.1 h)

pub woven_after : (each : ℕ → List Turn) (clock k : ℕ) → ((n : ℕ) → AreAfter clock (each n)) → AreAfter clock (woven each k)
woven_after each clock zero h = tt
woven_after each clock (suc k) h = weave_after clock (each k) (woven each k) (h k) (woven_after each clock k h)

-- ## How many there are

pub woven_length : (each : ℕ → List Turn) (most k : ℕ) → ((n : ℕ) → length (each n) ≤ most) → length (woven each k) ≤ k * most
woven_length each most zero h = omega arith
woven_length each most (suc k) h = omega (arith, weave_length (each k) (woven each k), h k, woven_length each most k h)

pub woven_round : (each : ℕ → List Turn) (clock round k : ℕ) → ((n : ℕ) → AreOfRound clock round (each n)) → AreOfRound clock round (woven each k)
woven_round each clock round zero h = tt
woven_round each clock round (suc k) h = weave_round clock round (each k) (woven each k) (h k) (woven_round each clock round k h)
