-- The calls keep the forest.
use Rattle.std.proofs.Common.{◌≡◌, ℕ, suc, ◌+◌, ◌≤◌, List, [], ◌∷◌, ◌++◌, length, Option, Some, None, Bool, true, false, cond, eqb, refl, sym, subst, ap, ◌∙◌, arith}
use Rattle.std.proofs.lemmas.Bool.{eqb-false}
use Rattle.std.proofs.lemmas.Option.{slice_get_past}
use Rattle.basics.proofs.Lemmas.{get_last, get_before}
use Rattle.slot_space.specs.declared.names.Tid.{Tid}
use Rattle.levels.specs.declared.entity.Entity.{Entity}
use Rattle.levels.specs.declared.entity.Entity.TheVariants.{Thread, Bubble}
use Rattle.levels.specs.Trees.{Tree}
use Rattle.levels.specs.Rows.{is_entity, place_of}
use Rattle.levels.proofs.Lemmas.{is_same}
use Rattle.bubbles.specs.declared.bubble.BubbleState.{BubbleState}
use Rattle.bubbles.specs.declared.bubble.BubbleState.TheVariants.{Filling, Held, Queued, Burst as IsBurst}
use Rattle.bubbles.specs.declared.bubble.BubbleRow.{BubbleRow}
use Rattle.bubbles.specs.Rows.{bubble_row, bubble_of, with_state, is_filling_as, is_filling, known_thread, thread_of, last_list}
use Rattle.bubbles.specs.Forests.{ForestView, empty_forest, arrives, holding, joined, with_bubble, wakes, wakes_if, wakes_filled, inserts, inserts_if, inserts_filled, with_thread, enters, enters_at, goes_on}
use Rattle.bubbles.specs.Standing.{on, queued, held, filled, inside, count, IsMidst, IsForest, IsAway}
use Rattle.bubbles.proofs.Counts.{state_other, state_same, in_state}
use Rattle.bubbles.proofs.Midst.{count_self, count_other}
use Rattle.bubbles.proofs.Arrive.{by_number, midst_thread, midst_bubble}
use Rattle.bubbles.proofs.Known.{named_added}
use Rattle.bubbles.proofs.Members.{inside_member, inside_new, inside_hold, queued_member, held_member, filled_member, filling_state, state_twice, priority_state}

-- ## Who is on its way

-- a thread that is nowhere may be
pub coming_thread : (t : Tid) (w : ForestView) → IsForest w → IsAway t w → IsMidst (Thread t ∷ []) w
coming_thread t w m z = record {
  apart = m.apart;
  queues = m.queues;
  holds = m.holds;
  fills_up = m.fills_up;
  threads = λ u. elim (is_entity (Thread t) (Thread u)) as (λ c. is_entity (Thread t) (Thread u) ≡ c → on (place_of (Thread u) w.lists.rows) + (inside (Thread u) w.bubbles + cond c 1 0) ≤ 1) [
    | true ↦ λ q. let e : on (place_of (Thread u) w.lists.rows) + inside (Thread u) w.bubbles ≡ 0 = subst (λ x. on (place_of x w.lists.rows) + inside x w.bubbles ≡ 0) (is_same (Thread t) (Thread u) q) z in omega (arith, e)
    | false ↦ λ q. m.threads u
  ] refl;
  names = m.names;
}

pub filling_only : (o : Option BubbleRow) → is_filling o ≡ true → (queued o ≡ 0) × (held o ≡ 0)
filling_only None h = (refl, refl)
filling_only (Some x) h = first x.state h
  where
    first : (s : BubbleState) → is_filling_as s ≡ true → (queued (Some (record x { state = s })) ≡ 0) × (held (Some (record x { state = s })) ≡ 0)
    first Filling q = (refl, refl)
    first Held q = absurd (cc q)
    first Queued q = absurd (cc q)
    first IsBurst q = absurd (cc q)

held_only : (o : Option BubbleRow) → is_filling o ≡ true → (queued (in_state Held o) ≡ 0) × (held (in_state Held o) ≡ 1)
held_only None h = absurd (cc h)
held_only (Some x) h = (refl, refl)

held_filled : (x : BubbleRow) (o : Option BubbleRow) → o ≡ Some x → 1 ≤ length x.members → 1 ≤ filled (in_state Held o)
held_filled x None e l = absurd (cc e)
held_filled x (Some y) e l = subst (λ o. 1 ≤ filled (in_state Held o)) (sym e) l

-- and a Filling bubble with members, once it is Held
pub coming_bubble : (c : ℕ) (x : BubbleRow) (w : ForestView) → IsForest w → bubble_of c w.bubbles ≡ Some x → is_filling_as x.state ≡ true → 1 ≤ length x.members → IsMidst (Bubble c ∷ []) (holding c w)
coming_bubble c x w m e s l =
    let o = bubble_of c w.bubbles in
    let f : is_filling o ≡ true = ap is_filling e ∙ s in
    let bubbles = with_state c Held w.bubbles in
    record {
      apart = m.apart;
      queues = λ b. by_number (λ (b : ℕ). on (place_of (Bubble b) w.lists.rows) ≡ queued (bubble_of b bubbles)) c b
          (m.queues c ∙ (filling_only o f).0 ∙ sym (ap queued (state_same w.bubbles c Held) ∙ (held_only o f).0))
          (λ n. m.queues b ∙ ap queued (sym (state_other w.bubbles c b Held n)));
      holds = λ b. by_number (λ (b : ℕ). inside (Bubble b) bubbles + count (Bubble b) (Bubble c ∷ []) ≡ held (bubble_of b bubbles)) c b
          (let i = inside_hold w.bubbles c (Bubble c) f in let z = (filling_only o f).1 in let k = count_self c [] in
          let h : held (bubble_of c bubbles) ≡ 1 = ap held (state_same w.bubbles c Held) ∙ (held_only o f).1 in omega (arith, i, z, k, h, m.holds c))
          (λ n. let i = inside_hold w.bubbles c (Bubble b) f in let k = count_other b c [] n in
          let h : held (bubble_of b bubbles) ≡ held (bubble_of b w.bubbles) = ap held (state_other w.bubbles c b Held n) in omega (arith, i, k, h, m.holds b));
      fills_up = λ b. by_number (λ (b : ℕ). 1 ≤ filled (bubble_of b bubbles)) c b
          (subst (λ o. 1 ≤ filled o) (sym (state_same w.bubbles c Held)) (held_filled x o e l))
          (λ n. subst (λ o. 1 ≤ filled o) (sym (state_other w.bubbles c b Held n)) (m.fills_up b));
      threads = λ t. let i = inside_hold w.bubbles c (Thread t) f in omega (arith, i, m.threads t);
      names = m.names;
    }

-- ## Who joins a bubble

pub count_first : (u e : Entity) (es : List Entity) → count u (e ∷ es) ≡ count u (e ∷ []) + count u es
count_first u e es = elim (is_entity e u) as (λ v. cond v (suc (count u es)) (count u es) ≡ cond v 1 0 + count u es) [ true ↦ omega arith | false ↦ omega arith ]

pub joins : (b : ℕ) (e : Entity) (es : List Entity) (w : ForestView) → IsMidst (e ∷ es) w → is_filling (bubble_of b w.bubbles) ≡ true → IsMidst es (joined b e w)
joins b e es w m f = record {
  apart = m.apart;
  queues = λ a. m.queues a ∙ sym (queued_member w.bubbles b a e);
  holds = λ a. omega (arith, inside_member w.bubbles b e (Bubble a) f, count_first (Bubble a) e es, held_member w.bubbles b a e, m.holds a);
  fills_up = λ a. filled_member w.bubbles b a e (m.fills_up a);
  threads = λ t. omega (arith, inside_member w.bubbles b e (Thread t) f, count_first (Thread t) e es, m.threads t);
  names = m.names;
}

-- ## The calls

pub forest_new : (priority depth : ℕ) (w : ForestView) → IsForest w → IsForest (with_bubble priority depth w)
forest_new priority depth w m =
    let n = length w.bubbles in
    let x = bubble_row Filling priority depth [] in
    let past : bubble_of n w.bubbles ≡ None = slice_get_past w.bubbles n (omega arith) in
    let last : bubble_of n (w.bubbles ++ x ∷ []) ≡ Some x = get_last w.bubbles x in
    let other : (b : ℕ) → (n ≡ b → ⊥) → bubble_of b (w.bubbles ++ x ∷ []) ≡ bubble_of b w.bubbles = λ b k. get_before w.bubbles b x (λ q. k (sym q)) in
    record {
      apart = m.apart;
      queues = λ b. by_number (λ (b : ℕ). on (place_of (Bubble b) w.lists.rows) ≡ queued (bubble_of b (w.bubbles ++ x ∷ []))) n b
          (m.queues n ∙ ap queued past ∙ sym (ap queued last))
          (λ k. m.queues b ∙ sym (ap queued (other b k)));
      holds = λ b. let i = inside_new w.bubbles x (Bubble b) refl in by_number (λ (b : ℕ). inside (Bubble b) w.bubbles + 0 ≡ held (bubble_of b (w.bubbles ++ x ∷ [])) → inside (Bubble b) (w.bubbles ++ x ∷ []) + 0 ≡ held (bubble_of b (w.bubbles ++ x ∷ []))) b b (λ h. omega (arith, i, h)) (λ k. absurd (k refl))
          (by_number (λ (b : ℕ). inside (Bubble b) w.bubbles + 0 ≡ held (bubble_of b (w.bubbles ++ x ∷ []))) n b
          (m.holds n ∙ ap held past ∙ sym (ap held last))
          (λ k. m.holds b ∙ sym (ap held (other b k))));
      fills_up = λ b. by_number (λ (b : ℕ). 1 ≤ filled (bubble_of b (w.bubbles ++ x ∷ []))) n b
          (subst (λ o. 1 ≤ filled o) (sym last) (omega arith))
          (λ k. subst (λ o. 1 ≤ filled o) (sym (other b k)) (m.fills_up b));
      threads = λ t. let i = inside_new w.bubbles x (Thread t) refl in omega (arith, i, m.threads t);
      names = m.names;
    }

pub forest_empty : (tree : Tree) → IsForest (empty_forest tree)
forest_empty tree = record { apart = tt; queues = λ b. refl; holds = λ b. refl; fills_up = λ b. omega arith; threads = λ t. omega arith; names = tt }

pub wakes_same : (c : ℕ) (w : ForestView) → arrives 0 (Bubble c) (holding c w) ≡ arrives 0 (Bubble c) w
wakes_same c w = let s = state_twice w.bubbles c Queued Held in let p = priority_state w.bubbles c c Held in rw (s, p) refl

pub forest_wakes : (b : ℕ) (w : ForestView) → IsForest w → IsForest (wakes b w).after
forest_wakes b w m = by_row (bubble_of b w.bubbles) refl
  where
    by_members : (x : BubbleRow) → bubble_of b w.bubbles ≡ Some x → is_filling_as x.state ≡ true → (ms : List Entity) → x.members ≡ ms → IsForest (wakes_filled ms b w).after
    by_members x e s [] k = m
    by_members x e s (y ∷ ms) k = subst IsForest (wakes_same b w) (midst_bubble 0 b [] (holding b w) (coming_bubble b x w m e s (omega (arith, ap (λ (es : List Entity). length es) k))))

    by_state : (x : BubbleRow) → bubble_of b w.bubbles ≡ Some x → (v : Bool) → is_filling_as x.state ≡ v → IsForest (wakes_if (Some x) b w).after
    by_state x e true s = rw s (by_members x e s x.members refl)
    by_state x e false s = rw s m

    by_row : (o : Option BubbleRow) → bubble_of b w.bubbles ≡ o → IsForest (wakes_if o b w).after
    by_row None e = m
    by_row (Some x) e = by_state x e (is_filling_as x.state) refl

pub forest_inserts : (b c : ℕ) (w : ForestView) → IsForest w → IsForest (inserts b c w).after
forest_inserts b c w m = by_same (eqb b c) refl
  where
    by_members : (b ≡ c → ⊥) → (x y : BubbleRow) → bubble_of b w.bubbles ≡ Some x → bubble_of c w.bubbles ≡ Some y → is_filling_as x.state ≡ true → is_filling_as y.state ≡ true
        → (ms : List Entity) → y.members ≡ ms → IsForest (inserts_filled ms b c w).after
    by_members n x y d e s r [] k = m
    by_members n x y d e s r (z ∷ ms) k =
        joins b (Bubble c) [] (holding c w) (coming_bubble c y w m e r (omega (arith, ap (λ (es : List Entity). length es) k)))
        (filling_state w.bubbles c b Held (λ q. n (sym q)) ∙ ap is_filling d ∙ s)

    by_states : (b ≡ c → ⊥) → (x y : BubbleRow) → bubble_of b w.bubbles ≡ Some x → bubble_of c w.bubbles ≡ Some y → (v : Bool) → is_filling_as x.state ≡ v → (u : Bool) → is_filling_as y.state ≡ u → IsForest (inserts_if (Some x) (Some y) b c w).after
    by_states n x y d e true s true r = rw (s, r) (by_members n x y d e s r y.members refl)
    by_states n x y d e true s false r = rw (s, r) m
    by_states n x y d e false s u r = rw s m

    by_rows : (b ≡ c → ⊥) → (o p : Option BubbleRow) → bubble_of b w.bubbles ≡ o → bubble_of c w.bubbles ≡ p → IsForest (inserts_if o p b c w).after
    by_rows n None p d e = m
    by_rows n (Some x) None d e = m
    by_rows n (Some x) (Some y) d e = by_states n x y d e (is_filling_as x.state) refl (is_filling_as y.state) refl

    by_same : (v : Bool) → eqb b c ≡ v → IsForest (inserts b c w).after
    by_same true h = rw h m
    by_same false h = rw h (by_rows (eqb-false b c h) (bubble_of b w.bubbles) (bubble_of c w.bubbles) refl refl)

pub forest_goes_on : (t : Tid) (w : ForestView) → IsForest w → IsAway t w → IsForest (goes_on t w)
forest_goes_on t w m z = midst_thread (last_list (thread_of t w.threads)) t [] w (coming_thread t w m z)

forest_known : (t : Tid) (priority : ℕ) (w : ForestView) → IsForest w → thread_of t w.threads ≡ None → IsForest (with_thread t priority w)
forest_known t priority w m n = record { apart = m.apart; queues = m.queues; holds = m.holds; fills_up = m.fills_up; threads = m.threads; names = named_added w.threads (known_thread t priority 0) m.names n }

pub forest_enters : (t : Tid) (priority : ℕ) (bubble : Option ℕ) (w : ForestView) → IsForest w → IsAway t w → thread_of t w.threads ≡ None → IsForest (enters t priority bubble w)
forest_enters t priority bubble w m z n = by_bubble bubble
  where
    u : ForestView
    u = with_thread t priority w

    coming : IsMidst (Thread t ∷ []) u
    coming = coming_thread t u (forest_known t priority w m n) z

    by_filling : (b : ℕ) (v : Bool) → is_filling (bubble_of b w.bubbles) ≡ v → IsForest (enters_at (Some b) t u)
    by_filling b true f = rw f (joins b (Thread t) [] u coming f)
    by_filling b false f = rw f (midst_thread 0 t [] u coming)

    by_bubble : (o : Option ℕ) → IsForest (enters_at o t u)
    by_bubble None = midst_thread 0 t [] u coming
    by_bubble (Some b) = by_filling b (is_filling (bubble_of b w.bubbles)) refl
