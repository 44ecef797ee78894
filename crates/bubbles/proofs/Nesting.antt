-- No bubble comes to be inside itself.
use Rattle.std.proofs.Common.{◌≡◌, ℕ, zero, suc, ◌+◌, ◌<◌, ◌≤◌, Bool, true, false, List, [], ◌∷◌, ◌++◌, length, Option, Some, None, cond, eqb, refl, sym, subst, ap, ◌∙◌, arith}
use Rattle.std.specs.Prelude.{is_some, if◌then◌else◌, ◌==◌}
use Rattle.std.proofs.lemmas.Bool.{eq-eqb, ne_eqb, eqb-true}
use Rattle.std.proofs.lemmas.Option.{slice_get_past}
use Rattle.basics.proofs.Lemmas.{get_last, get_before}
use Rattle.slot_space.specs.declared.names.Tid.{Tid}
use Rattle.levels.specs.declared.entity.Entity.{Entity}
use Rattle.levels.specs.declared.entity.Entity.TheVariants.{Thread, Bubble}
use Rattle.levels.specs.Rows.{is_entity, place_of}
use Rattle.bubbles.specs.declared.bubble.BubbleState.{BubbleState}
use Rattle.bubbles.specs.declared.bubble.BubbleState.TheVariants.{Filling, Held, Queued, Burst as IsBurst}
use Rattle.bubbles.specs.declared.bubble.BubbleRow.{BubbleRow}
use Rattle.bubbles.specs.Rows.{bubble_row, bubble_of, members_of, with_state, with_member, without_member, first_out, refilled, is_filling_as, is_filling}
use Rattle.bubbles.specs.Forests.{ForestView, as_held, as_queued, taken_back, arrives, all_arrive, all_back, members_back, apart_from_others, with_bubble, wakes, inserts, gathers, enters, leaves, gone, goes_on}
use Rattle.bubbles.specs.Picking.{step, bursting}
use Rattle.bubbles.specs.Standing.{count}
use Rattle.bubbles.specs.Nesting.{member_times, most_times_as, most_times, IsMember, AreNested, IsInside}
use Rattle.bubbles.proofs.Counts.{state_other, state_same, in_state}
use Rattle.bubbles.proofs.Midst.{bubbles_differ}
use Rattle.bubbles.proofs.Arrive.{by_number}
use Rattle.bubbles.proofs.Members.{count_joined}
use Rattle.bubbles.proofs.Updates.{members_state}
use Rattle.bubbles.proofs.Leaving.{count_less, count_other}
use Rattle.bubbles.proofs.Gathering.{members_held, is_burst_row}
use Rattle.bubbles.proofs.Kept.{back_by}
use Rattle.bubbles.proofs.Seats.{filled_again}
use Rattle.bubbles.proofs.Cases.{by_wake, by_insert, by_gather, still_filling}
use Rattle.bubbles.proofs.Changes.{by_kind, by_entry, count_out}

-- ## Nothing is inside itself

higher : (xs : List BubbleRow) (n : AreNested xs) (c : ℕ) (path : List ℕ) (b : ℕ) → IsInside c path b xs → n.height c < n.height b
higher xs n c [] b i = n.lower c b i
higher xs n c (d ∷ path) b i = omega (arith, n.lower c d i.0, higher xs n d path b i.1)

pub none_inside : (xs : List BubbleRow) (b : ℕ) (path : List ℕ) → AreNested xs → IsInside b path b xs → ⊥
none_inside xs b path n i = omega (arith, higher xs n b path b i)

-- ## Members, counted over all bubbles

times_state : (xs : List BubbleRow) (c : ℕ) (s : BubbleState) (u : Entity) → member_times u (with_state c s xs) ≡ member_times u xs
times_state [] c s u = refl
times_state (x ∷ xs) zero s u = refl
times_state (x ∷ xs) (suc c) s u = ap (λ n. count u x.members + n) (times_state xs c s u)

times_member : (xs : List BubbleRow) (b : ℕ) (e u : Entity) → is_filling (bubble_of b xs) ≡ true → member_times u (with_member b e xs) ≡ member_times u xs + count u (e ∷ [])
times_member [] b e u h = absurd (cc h)
times_member (x ∷ xs) zero e u h = omega (arith, count_joined u x.members (e ∷ []))
times_member (x ∷ xs) (suc b) e u h = omega (arith, times_member xs b e u h)

times_new : (xs : List BubbleRow) (x : BubbleRow) (u : Entity) → member_times u (xs ++ x ∷ []) ≡ member_times u xs + count u x.members
times_new [] x u = omega arith
times_new (y ∷ xs) x u = omega (arith, times_new xs x u)

times_left_other : (e u : Entity) (xs : List BubbleRow) → is_entity e u ≡ false → member_times u (without_member e xs) ≡ member_times u xs
times_left_other e u [] h = refl
times_left_other e u (x ∷ xs) h = omega (arith, count_other e u x.members h, times_left_other e u xs h)

times_left_less : (e u : Entity) (xs : List BubbleRow) → member_times u (without_member e xs) ≤ member_times u xs
times_left_less e u [] = omega arith
times_left_less e u (x ∷ xs) = omega (arith, count_less e u x.members, times_left_less e u xs)

times_out : (e : Entity) (xs : List BubbleRow) → member_times e xs ≤ 1 → member_times e (without_member e xs) ≡ 0
times_out e [] h = refl
times_out e (x ∷ xs) h = omega (arith, count_out e x.members (omega (arith, h)), times_out e xs (omega (arith, h)))

times_refill : (xs : List BubbleRow) (b : ℕ) (es : List Entity) (u : Entity) → is_some (bubble_of b xs) ≡ true → member_times u (refilled b es xs) + count u (members_of (bubble_of b xs)) ≡ member_times u xs + count u es
times_refill [] b es u h = absurd (cc h)
times_refill (x ∷ xs) zero es u h = omega arith
times_refill (x ∷ xs) (suc b) es u h = omega (arith, times_refill xs b es u h)

within_times : (xs : List BubbleRow) (b : ℕ) (u : Entity) → count u (members_of (bubble_of b xs)) ≤ member_times u xs
within_times [] b u = omega arith
within_times (x ∷ xs) zero u = omega arith
within_times (x ∷ xs) (suc b) u = omega (arith, within_times xs b u)

-- ## The members of one

members_more : (xs : List BubbleRow) (b : ℕ) (e : Entity) → is_filling (bubble_of b xs) ≡ true → members_of (bubble_of b (with_member b e xs)) ≡ members_of (bubble_of b xs) ++ e ∷ []
members_more [] b e h = absurd (cc h)
members_more (x ∷ xs) zero e h = refl
members_more (x ∷ xs) (suc b) e h = members_more xs b e h

members_more_other : (xs : List BubbleRow) (b a : ℕ) (e : Entity) → (b ≡ a → ⊥) → bubble_of a (with_member b e xs) ≡ bubble_of a xs
members_more_other [] b a e n = refl
members_more_other (x ∷ xs) zero zero e n = absurd (n refl)
members_more_other (x ∷ xs) zero (suc a) e n = refl
members_more_other (x ∷ xs) (suc b) zero e n = refl
members_more_other (x ∷ xs) (suc b) (suc a) e n = members_more_other xs b a e (λ q. n (ap suc q))

most_more : (xs : List BubbleRow) (b a : ℕ) (e : Entity) → most_times (bubble_of a (with_member b e xs)) ≡ most_times (bubble_of a xs)
most_more [] b a e = refl
most_more (x ∷ xs) zero zero e = refl
most_more (x ∷ xs) zero (suc a) e = refl
most_more (x ∷ xs) (suc b) zero e = refl
most_more (x ∷ xs) (suc b) (suc a) e = most_more xs b a e

members_left : (e : Entity) (xs : List BubbleRow) (b : ℕ) → members_of (bubble_of b (without_member e xs)) ≡ first_out (λ m. is_entity m e) (members_of (bubble_of b xs))
members_left e [] b = refl
members_left e (x ∷ xs) zero = refl
members_left e (x ∷ xs) (suc b) = members_left e xs b

most_left : (e : Entity) (xs : List BubbleRow) (b : ℕ) → most_times (bubble_of b (without_member e xs)) ≡ most_times (bubble_of b xs)
most_left e [] b = refl
most_left e (x ∷ xs) zero = refl
most_left e (x ∷ xs) (suc b) = most_left e xs b

there_left : (e : Entity) (xs : List BubbleRow) (b : ℕ) → is_some (bubble_of b (without_member e xs)) ≡ is_some (bubble_of b xs)
there_left e [] b = refl
there_left e (x ∷ xs) zero = refl
there_left e (x ∷ xs) (suc b) = there_left e xs b

there_state : (xs : List BubbleRow) (c b : ℕ) (s : BubbleState) → is_some (bubble_of b (with_state c s xs)) ≡ is_some (bubble_of b xs)
there_state [] c b s = refl
there_state (x ∷ xs) zero zero s = refl
there_state (x ∷ xs) zero (suc b) s = refl
there_state (x ∷ xs) (suc c) zero s = refl
there_state (x ∷ xs) (suc c) (suc b) s = there_state xs c b s

refill_same : (xs : List BubbleRow) (b : ℕ) (es : List Entity) → is_some (bubble_of b xs) ≡ true → members_of (bubble_of b (refilled b es xs)) ≡ es
refill_same [] b es h = absurd (cc h)
refill_same (x ∷ xs) zero es h = refl
refill_same (x ∷ xs) (suc b) es h = refill_same xs b es h

refill_other : (xs : List BubbleRow) (b a : ℕ) (es : List Entity) → (b ≡ a → ⊥) → bubble_of a (refilled b es xs) ≡ bubble_of a xs
refill_other [] b a es n = refl
refill_other (x ∷ xs) zero zero es n = absurd (n refl)
refill_other (x ∷ xs) zero (suc a) es n = refl
refill_other (x ∷ xs) (suc b) zero es n = refl
refill_other (x ∷ xs) (suc b) (suc a) es n = refill_other xs b a es (λ q. n (ap suc q))

-- ## What keeps the nesting

most_one : (o : Option BubbleRow) → most_times o ≤ 1
most_one None = omega arith
most_one (Some x) = first x.state
  where
    first : (s : BubbleState) → most_times_as s ≤ 1
    first Filling = omega arith
    first Held = omega arith
    first Queued = omega arith
    first IsBurst = omega arith

most_state : (s : BubbleState) (o : Option BubbleRow) → most_times_as s ≡ 1 → most_times o ≤ most_times (in_state s o)
most_state s None h = omega arith
most_state s (Some x) h = omega (arith, most_one (Some x), h)

-- a bubble becomes Held, Queued or Burst
nested_state : (xs : List BubbleRow) (c : ℕ) (s : BubbleState) → most_times_as s ≡ 1 → AreNested xs → AreNested (with_state c s xs)
nested_state xs c s h n = record {
  height = n.height;
  once = λ b. by_number (λ (b : ℕ). member_times (Bubble b) (with_state c s xs) ≤ most_times (bubble_of b (with_state c s xs))) c b
      (let e : most_times (bubble_of c (with_state c s xs)) ≡ most_times (in_state s (bubble_of c xs)) = ap most_times (state_same xs c s) in omega (arith, times_state xs c s (Bubble c), n.once c, most_state s (bubble_of c xs) h, e))
      (λ k. let e : most_times (bubble_of b (with_state c s xs)) ≡ most_times (bubble_of b xs) = ap most_times (state_other xs c b s k) in omega (arith, times_state xs c s (Bubble b), n.once b, e));
  lower = λ a b i. n.lower a b (subst (λ (es : List Entity). 1 ≤ count (Bubble a) es) (members_state xs c b s) i);
}

nested_queue : (e : Entity) (xs : List BubbleRow) → AreNested xs → AreNested (as_queued e xs)
nested_queue (Thread t) xs n = n
nested_queue (Bubble c) xs n = nested_state xs c Queued refl n

nested_hold : (e : Entity) (xs : List BubbleRow) → AreNested xs → AreNested (as_held e xs)
nested_hold (Thread t) xs n = n
nested_hold (Bubble c) xs n = nested_state xs c Held refl n

nested_arrive : (list : ℕ) (es : List Entity) (w : ForestView) → AreNested w.bubbles → AreNested (all_arrive list es w).bubbles
nested_arrive list [] w n = n
nested_arrive list (e ∷ es) w n = nested_arrive list es (arrives list e w) (nested_queue e w.bubbles n)

-- an entity leaves
nested_left : (e : Entity) (xs : List BubbleRow) → AreNested xs → AreNested (without_member e xs)
nested_left e xs n = record {
  height = n.height;
  once = λ b. omega (arith, times_left_less e (Bubble b) xs, n.once b, most_left e xs b);
  lower = λ a b i. n.lower a b (let k = count_less e (Bubble a) (members_of (bubble_of b xs)) in let j : 1 ≤ count (Bubble a) (first_out (λ m. is_entity m e) (members_of (bubble_of b xs))) = subst (λ (es : List Entity). 1 ≤ count (Bubble a) es) (members_left e xs b) i in omega (arith, k, j));
}

-- a thread joins
nested_thread : (xs : List BubbleRow) (b : ℕ) (t : Tid) → is_filling (bubble_of b xs) ≡ true → AreNested xs → AreNested (with_member b (Thread t) xs)
nested_thread xs b t f n = record {
  height = n.height;
  once = λ a. omega (arith, times_member xs b (Thread t) (Bubble a) f, n.once a, most_more xs b a (Thread t));
  lower = λ c a i. n.lower c a (by_number (λ (a : ℕ). 1 ≤ count (Bubble c) (members_of (bubble_of a (with_member b (Thread t) xs))) → 1 ≤ count (Bubble c) (members_of (bubble_of a xs))) b a
      (λ i. let j : 1 ≤ count (Bubble c) (members_of (bubble_of b xs) ++ Thread t ∷ []) = subst (λ (es : List Entity). 1 ≤ count (Bubble c) es) (members_more xs b (Thread t) f) i in omega (arith, count_joined (Bubble c) (members_of (bubble_of b xs)) (Thread t ∷ []), j))
      (λ k i. subst (λ (o : Option BubbleRow). 1 ≤ count (Bubble c) (members_of o)) (members_more_other xs b a (Thread t) k) i) i);
}

filling_none : (o : Option BubbleRow) → is_filling o ≡ true → most_times o ≡ 0
filling_none None h = refl
filling_none (Some x) h = first x.state h
  where
    first : (s : BubbleState) → is_filling_as s ≡ true → most_times_as s ≡ 0
    first Filling q = refl
    first Held q = absurd (cc q)
    first Queued q = absurd (cc q)
    first IsBurst q = absurd (cc q)

held_most : (o : Option BubbleRow) → is_filling o ≡ true → most_times (in_state Held o) ≡ 1
held_most None h = absurd (cc h)
held_most (Some x) h = refl

-- a Filling bubble is held by another
nested_insert : (xs : List BubbleRow) (b c : ℕ) → (b ≡ c → ⊥) → is_filling (bubble_of b xs) ≡ true → is_filling (bubble_of c xs) ≡ true → is_filling (bubble_of b (with_state c Held xs)) ≡ true
    → AreNested xs → AreNested (with_member b (Bubble c) (with_state c Held xs))
nested_insert xs b c d f g k n =
    let ys = with_state c Held xs in
    let above : ℕ → ℕ = λ a. if a == b then n.height b + suc (n.height c) else n.height a in
    let top : above b ≡ n.height b + suc (n.height c) = let q = eq-eqb b b refl in rw q refl in
    let rest : (a : ℕ) → (a ≡ b → ⊥) → above a ≡ n.height a = λ a m. let q = ne_eqb a b m in rw q refl in
    let free : member_times (Bubble b) xs ≡ 0 = omega (arith, n.once b, filling_none (bubble_of b xs) f) in
    let alone : member_times (Bubble c) xs ≡ 0 = omega (arith, n.once c, filling_none (bubble_of c xs) g) in
    let no_member : (a e : ℕ) → 1 ≤ count (Bubble a) (members_of (bubble_of e xs)) → a ≡ b → ⊥
    = λ a e i q. let z : member_times (Bubble a) xs ≡ 0 = ap (λ (x : ℕ). member_times (Bubble x) xs) q ∙ free in omega (arith, within_times xs e (Bubble a), z, i) in
    record {
      height = above;
      once = λ a. by_number (λ (a : ℕ). member_times (Bubble a) (with_member b (Bubble c) ys) ≤ most_times (bubble_of a (with_member b (Bubble c) ys))) c a
          (let one : count (Bubble c) (Bubble c ∷ []) ≡ 1 = let q = eq-eqb c c refl in rw q refl in
          let e : most_times (bubble_of c ys) ≡ 1 = ap most_times (state_same xs c Held) ∙ held_most (bubble_of c xs) g in
          omega (arith, times_member ys b (Bubble c) (Bubble c) k, times_state xs c Held (Bubble c), alone, one, e, most_more ys b c (Bubble c)))
          (λ m. let none : count (Bubble a) (Bubble c ∷ []) ≡ 0 = let q = ne_eqb c a m in rw q refl in
          let e : most_times (bubble_of a ys) ≡ most_times (bubble_of a xs) = ap most_times (state_other xs c a Held m) in
          omega (arith, times_member ys b (Bubble c) (Bubble a) k, times_state xs c Held (Bubble a), n.once a, none, e, most_more ys b a (Bubble c)));
      lower = λ a e i. by_number (λ (e : ℕ). 1 ≤ count (Bubble a) (members_of (bubble_of e (with_member b (Bubble c) ys))) → above a < above e) b e
          (λ i.
          let j : 1 ≤ count (Bubble a) (members_of (bubble_of b ys) ++ Bubble c ∷ []) = subst (λ (es : List Entity). 1 ≤ count (Bubble a) es) (members_more ys b (Bubble c) k) i in
          let s : count (Bubble a) (members_of (bubble_of b ys)) ≡ count (Bubble a) (members_of (bubble_of b xs)) = ap (count (Bubble a)) (members_state xs c b Held) in
          by_number (λ (a : ℕ). 1 ≤ count (Bubble a) (members_of (bubble_of b ys) ++ Bubble c ∷ []) → count (Bubble a) (members_of (bubble_of b ys)) ≡ count (Bubble a) (members_of (bubble_of b xs)) → above a < above b) c a
          (λ j s. omega (arith, rest c (λ q. d (sym q)), top))
          (λ m j s. let none : count (Bubble a) (Bubble c ∷ []) ≡ 0 = let q = ne_eqb c a m in rw q refl in
          let i : 1 ≤ count (Bubble a) (members_of (bubble_of b xs)) = omega (arith, count_joined (Bubble a) (members_of (bubble_of b ys)) (Bubble c ∷ []), none, j, s) in
          omega (arith, rest a (no_member a b i), top, n.lower a b i)) j s)
          (λ m i.
          let j : 1 ≤ count (Bubble a) (members_of (bubble_of e ys)) = subst (λ (o : Option BubbleRow). 1 ≤ count (Bubble a) (members_of o)) (members_more_other ys b e (Bubble c) m) i in
          let l : 1 ≤ count (Bubble a) (members_of (bubble_of e xs)) = subst (λ (es : List Entity). 1 ≤ count (Bubble a) es) (members_state xs c e Held) j in
          omega (arith, rest a (no_member a e l), rest e (λ q. m (sym q)), n.lower a e l)) i;
    }

-- ## The calls

pub nested_empty : AreNested []
nested_empty = record { height = λ b. b; once = λ b. omega arith; lower = λ c b i. absurd (omega (arith, i)) }

pub nested_new : (priority depth : ℕ) (w : ForestView) → AreNested w.bubbles → AreNested (with_bubble priority depth w).bubbles
nested_new priority depth w n =
    let xs = w.bubbles in
    let x = bubble_row Filling priority depth [] in
    let k = length xs in
    let last : bubble_of k (xs ++ x ∷ []) ≡ Some x = get_last xs x in
    let past : bubble_of k xs ≡ None = slice_get_past xs k (omega arith) in
    let other : (b : ℕ) → (k ≡ b → ⊥) → bubble_of b (xs ++ x ∷ []) ≡ bubble_of b xs = λ b m. get_before xs b x (λ q. m (sym q)) in
    record {
      height = n.height;
      once = λ b. by_number (λ (b : ℕ). member_times (Bubble b) (xs ++ x ∷ []) ≤ most_times (bubble_of b (xs ++ x ∷ []))) k b
          (let p : most_times (bubble_of k xs) ≡ 0 = ap most_times past in omega (arith, times_new xs x (Bubble k), n.once k, p))
          (λ m. let e : most_times (bubble_of b (xs ++ x ∷ [])) ≡ most_times (bubble_of b xs) = ap most_times (other b m) in omega (arith, times_new xs x (Bubble b), n.once b, e));
      lower = λ c b i. by_number (λ (b : ℕ). 1 ≤ count (Bubble c) (members_of (bubble_of b (xs ++ x ∷ []))) → n.height c < n.height b) k b
          (λ i. let j : 1 ≤ 0 = subst (λ (o : Option BubbleRow). 1 ≤ count (Bubble c) (members_of o)) last i in absurd (omega (arith, j)))
          (λ m i. n.lower c b (subst (λ (o : Option BubbleRow). 1 ≤ count (Bubble c) (members_of o)) (other b m) i)) i;
    }

pub nested_wakes : (b : ℕ) (w : ForestView) → AreNested w.bubbles → AreNested (wakes b w).after.bubbles
nested_wakes b w n = by_wake (λ v. AreNested v.bubbles) b w n (λ f. nested_state w.bubbles b Queued refl n)

pub nested_inserts : (b c : ℕ) (w : ForestView) → AreNested w.bubbles → AreNested (inserts b c w).after.bubbles
nested_inserts b c w n = by_insert (λ v. AreNested v.bubbles) b c w n (λ d f g. nested_insert w.bubbles b c d f g (still_filling b c w d f) n)

pub nested_enters : (t : Tid) (priority : ℕ) (bubble : Option ℕ) (w : ForestView) → AreNested w.bubbles → AreNested (enters t priority bubble w).bubbles
nested_enters t priority bubble w n = by_entry (λ v. AreNested v.bubbles) t bubble _ n (λ b f. nested_thread w.bubbles b t f n)

pub nested_leaves : (t : Tid) (w : ForestView) → AreNested w.bubbles → AreNested (leaves t w).bubbles
nested_leaves t w n = elim (is_some _) as (λ v. AreNested (cond v (gone t w) w).bubbles) [ true ↦ nested_left (Thread t) w.bubbles n | false ↦ n ]

pub nested_step : (vp : ℕ) (w : ForestView) → AreNested w.bubbles → AreNested (step vp w).after.bubbles
nested_step vp w n =
    by_kind (λ s. AreNested s.after.bubbles) vp w n (λ t list. n)
    (λ b list. nested_arrive list (members_of (bubble_of b w.bubbles)) (bursting b w) (nested_state w.bubbles b IsBurst refl n))
    (λ b list. nested_state w.bubbles b Queued refl n)

-- ## Gathering

-- no more are kept than there were
kept_less : (u : Entity) (es : List Entity) (w : ForestView) → count u (all_back es w).kept ≤ count u es
kept_less u [] w = omega arith
kept_less u (e ∷ es) w = by_place (is_some (place_of e w.lists.rows)) refl (kept_less u es _) (kept_less u es w)
  where
    more : (n m : ℕ) → n ≤ m → (v : Bool) → cond v (suc n) n ≤ cond v (suc m) m
    more n m l true = omega (arith, l)
    more n m l false = l

    less : (n m : ℕ) → n ≤ m → (v : Bool) → n ≤ cond v (suc m) m
    less n m l true = omega (arith, l)
    less n m l false = l

    by_place : (v : Bool) → is_some (place_of e w.lists.rows) ≡ v → count u (all_back es (taken_back e w)).kept ≤ count u es → count u (all_back es w).kept ≤ count u es → count u (all_back (e ∷ es) w).kept ≤ count u (e ∷ es)
    by_place true h a b = rw h (more (count u (all_back es (taken_back e w)).kept) (count u es) a (is_entity e u))
    by_place false h a b = rw h (less (count u (all_back es w).kept) (count u es) b (is_entity e u))

-- the bubbles while this one, which is a member of none, takes these back
record IsTaking (b : ℕ) (es : List Entity) (xs : List BubbleRow) : Type 0 where
  nested : AreNested xs
  free : member_times (Bubble b) xs ≡ 0
  members : members_of (bubble_of b xs) ≡ es
  there : is_some (bubble_of b xs) ≡ true

taking_one : (b : ℕ) (es : List Entity) (e : Entity) (xs : List BubbleRow) → IsTaking b es xs → IsTaking b es (as_held e xs)
taking_one b es (Thread t) xs k = k
taking_one b es (Bubble c) xs k = record {
  nested = nested_state xs c Held refl k.nested;
  free = times_state xs c Held (Bubble b) ∙ k.free;
  members = members_state xs c b Held ∙ k.members;
  there = there_state xs c b Held ∙ k.there;
}

nested_refill : (b : ℕ) (es kept : List Entity) (xs : List BubbleRow) → IsTaking b es xs → ((u : Entity) → count u kept ≤ count u es) → AreNested (refilled b kept xs)
nested_refill b es kept xs k less =
    let n = k.nested in
    let fewer : (u : Entity) → member_times u (refilled b kept xs) ≤ member_times u xs
    = λ u. let e : count u (members_of (bubble_of b xs)) ≡ count u es = ap (count u) k.members in omega (arith, times_refill xs b kept u k.there, less u, e) in
    record {
      height = n.height;
      once = λ a. by_number (λ (a : ℕ). member_times (Bubble a) (refilled b kept xs) ≤ most_times (bubble_of a (refilled b kept xs))) b a
          (omega (arith, fewer (Bubble b), k.free))
          (λ m. let e : most_times (bubble_of a (refilled b kept xs)) ≡ most_times (bubble_of a xs) = ap most_times (refill_other xs b a kept m) in omega (arith, fewer (Bubble a), n.once a, e));
      lower = λ c a i. n.lower c a (by_number (λ (a : ℕ). 1 ≤ count (Bubble c) (members_of (bubble_of a (refilled b kept xs))) → 1 ≤ count (Bubble c) (members_of (bubble_of a xs))) b a
          (λ i. let j : 1 ≤ count (Bubble c) kept = subst (λ (es : List Entity). 1 ≤ count (Bubble c) es) (refill_same xs b kept k.there) i in
          let e : count (Bubble c) (members_of (bubble_of b xs)) ≡ count (Bubble c) es = ap (count (Bubble c)) k.members in omega (arith, j, less (Bubble c), e))
          (λ m i. subst (λ (o : Option BubbleRow). 1 ≤ count (Bubble c) (members_of o)) (refill_other xs b a kept m) i) i);
    }

burst_there : (o : Option BubbleRow) → is_burst_row o ≡ true → is_some o ≡ true
burst_there None h = absurd (cc h)
burst_there (Some x) h = refl

nested_filled : (b : ℕ) (w : ForestView) → is_burst_row (bubble_of b w.bubbles) ≡ true → AreNested w.bubbles → AreNested (filled_again b w).bubbles
nested_filled b w h n =
    let v = apart_from_others b w in
    let es = members_of (bubble_of b v.bubbles) in
    let start : IsTaking b es v.bubbles = record {
      nested = nested_left (Bubble b) w.bubbles n;
      free = times_out (Bubble b) w.bubbles (omega (arith, n.once b, most_one (bubble_of b w.bubbles)));
      members = refl;
      there = there_left (Bubble b) w.bubbles b ∙ burst_there (bubble_of b w.bubbles) h;
    } in
    nested_refill b es (members_back b v).kept (members_back b v).after.bubbles (back_by (λ u. IsTaking b es u.bubbles) es v (λ e u k. taking_one b es e u.bubbles k) start) (λ u. kept_less u es v)

pub nested_gathers : (b : ℕ) (w : ForestView) → AreNested w.bubbles → AreNested (gathers b w).after.bubbles
nested_gathers b w n = by_gather (λ v. AreNested v.bubbles) b w n (λ h. nested_filled b w h n)
