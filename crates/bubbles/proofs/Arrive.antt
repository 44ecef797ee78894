-- Arrivals one after another.
use Rattle.std.proofs.Common.{◌≡◌, ℕ, suc, ◌+◌, ◌≤◌, List, [], ◌∷◌, ◌++◌, true, false, eqb, refl, sym, subst, ap, ◌∙◌, arith}
use Rattle.std.specs.Prelude.{if◌then◌else◌}
use Rattle.std.proofs.lemmas.Bool.{eqb-true, eqb-false, eq-eqb}
use Rattle.slot_space.specs.declared.names.Tid.{Tid}
use Rattle.levels.specs.declared.entity.Entity.{Entity}
use Rattle.levels.specs.declared.entity.Entity.TheVariants.{Thread, Bubble}
use Rattle.levels.specs.Rows.{Row, is_entity, place_of, place_at, without}
use Rattle.levels.proofs.Lemmas.{place_added_other, place_without_other, apart_added, apart_without}
use Rattle.bubbles.specs.declared.bubble.BubbleState.TheVariants.{Queued, Burst as IsBurst}
use Rattle.bubbles.specs.Rows.{with_state, bubble_of, members_of}
use Rattle.bubbles.specs.Forests.{ForestView, arrives, all_arrive, priority_of}
use Rattle.bubbles.specs.Standing.{on, queued, held, count, inside, filled, IsMidst, IsForest}
use Rattle.bubbles.specs.Picking.{bursting}
use Rattle.bubbles.proofs.Weights.{below, weight, weight_of}
use Rattle.bubbles.proofs.Counts.{place_added_same, place_without_same, state_other, state_same, inside_burst, inside_queue}
use Rattle.bubbles.proofs.Midst.{on_none, queued_now, held_now, held_not_queued, queued_not_held, filled_now, burst_queued, weight_burst, weight_held, below_most, bubbles_differ, count_other, bubble_is_held}

pub by_number : (P : ℕ → Type 0) (c b : ℕ) → P c → ((c ≡ b → ⊥) → P b) → P b
by_number P c b p n = elim (eqb c b) as (λ v. eqb c b ≡ v → P b) [ true ↦ λ q. subst P (eqb-true c b q) p | false ↦ λ q. n (eqb-false c b q) ] refl

abbrev pub row_of : ℕ → Entity → ForestView → Row
row_of list e w = (e, place_at list (priority_of e w) w.lists.next)

pub midst_bubble : (list c : ℕ) (es : List Entity) (w : ForestView) → IsMidst (Bubble c ∷ es) w → IsMidst es (arrives list (Bubble c) w)
midst_bubble list c es w m =
    let y : Row = row_of list (Bubble c) w in
    let rows = w.lists.rows in
    let hc : held (bubble_of c w.bubbles) ≡ 1 = (bubble_is_held c es w m).0 in
    let hz : inside (Bubble c) w.bubbles + count (Bubble c) es ≡ 0 = (bubble_is_held c es w m).1 in
    record {
      apart = apart_added rows y m.apart (on_none (place_of (Bubble c) rows) (m.queues c ∙ held_not_queued (bubble_of c w.bubbles) hc));
      queues = λ b. by_number (λ (b : ℕ). on (place_of (Bubble b) (rows ++ y ∷ [])) ≡ queued (bubble_of b (with_state c Queued w.bubbles))) c b
          (place_added_same rows y (Bubble c) (eq-eqb c c refl) ∙ sym (ap queued (state_same w.bubbles c Queued) ∙ queued_now (bubble_of c w.bubbles) hc))
          (λ n. ap on (place_added_other rows y (Bubble b) (bubbles_differ c b n)) ∙ m.queues b ∙ ap queued (sym (state_other w.bubbles c b Queued n)));
      holds = λ b. by_number (λ (b : ℕ). inside (Bubble b) (with_state c Queued w.bubbles) + count (Bubble b) es ≡ held (bubble_of b (with_state c Queued w.bubbles))) c b
          (ap (λ n. n + count (Bubble c) es) (inside_queue w.bubbles c (Bubble c) hc) ∙ hz ∙ sym (ap held (state_same w.bubbles c Queued) ∙ held_now (bubble_of c w.bubbles)))
          (λ n. ap (λ k. k + count (Bubble b) es) (inside_queue w.bubbles c (Bubble b) hc) ∙ ap (λ k. inside (Bubble b) w.bubbles + k) (sym (count_other b c es n)) ∙ m.holds b ∙ ap held (sym (state_other w.bubbles c b Queued n)));
      fills_up = λ b. by_number (λ (b : ℕ). 1 ≤ filled (bubble_of b (with_state c Queued w.bubbles))) c b
          (subst (λ o. 1 ≤ filled o) (sym (state_same w.bubbles c Queued)) (filled_now (bubble_of c w.bubbles) hc (m.fills_up c)))
          (λ n. subst (λ o. 1 ≤ filled o) (sym (state_other w.bubbles c b Queued n)) (m.fills_up b));
      threads = λ t. let f = place_added_other rows y (Thread t) refl in let i = inside_queue w.bubbles c (Thread t) hc in rw (f, i) (m.threads t);
      names = m.names;
    }

pub light_bubble : (list c : ℕ) (es : List Entity) (w : ForestView) → IsMidst (Bubble c ∷ es) w → (b : ℕ) → weight_of (arrives list (Bubble c) w) b ≤ weight_of w b
light_bubble list c es w m b =
    let y : Row = row_of list (Bubble c) w in
    let rows = w.lists.rows in
    let hc : held (bubble_of c w.bubbles) ≡ 1 = (bubble_is_held c es w m).0 in
    by_number (λ (b : ℕ). weight (below w.lists.tree (place_of (Bubble b) (rows ++ y ∷ []))) (bubble_of b (with_state c Queued w.bubbles)) ≤ weight (below w.lists.tree (place_of (Bubble b) rows)) (bubble_of b w.bubbles)) c b
    (rw (state_same w.bubbles c Queued) (weight_held (below w.lists.tree (place_of (Bubble c) rows)) (below w.lists.tree (place_of (Bubble c) (rows ++ y ∷ []))) (bubble_of c w.bubbles) hc (below_most w.lists.tree (place_of (Bubble c) (rows ++ y ∷ [])))))
    (λ n. let f = place_added_other rows y (Bubble b) (bubbles_differ c b n) in let s = state_other w.bubbles c b Queued n in rw (f, s) (omega arith))

pub midst_thread : (list : ℕ) (u : Tid) (es : List Entity) (w : ForestView) → IsMidst (Thread u ∷ es) w → IsMidst es (arrives list (Thread u) w)
midst_thread list u es w m =
    let y : Row = row_of list (Thread u) w in
    let rows = w.lists.rows in
    let s : is_entity (Thread u) (Thread u) ≡ true = grind (arith, eq-eqb u.home u.home refl, eq-eqb u.seq u.seq refl) in
    let z : on (place_of (Thread u) rows) ≡ 0 = let k : count (Thread u) (Thread u ∷ es) ≡ suc (count (Thread u) es) = rw s in omega (arith, m.threads u, k) in
    record {
      apart = apart_added rows y m.apart (on_none (place_of (Thread u) rows) z);
      queues = λ b. ap on (place_added_other rows y (Bubble b) refl) ∙ m.queues b;
      holds = m.holds;
      fills_up = m.fills_up;
      threads = λ t. elim (is_entity (Thread u) (Thread t)) as (λ v. is_entity (Thread u) (Thread t) ≡ v → on (place_of (Thread t) rows) + (inside (Thread t) w.bubbles + (if v then suc (count (Thread t) es) else count (Thread t) es)) ≤ 1 → on (place_of (Thread t) (rows ++ y ∷ [])) + (inside (Thread t) w.bubbles + count (Thread t) es) ≤ 1)
          [ true ↦ λ q h. omega (arith, place_added_same rows y (Thread t) q, h) | false ↦ λ q h. rw (place_added_other rows y (Thread t) q) h ] refl (m.threads t);
      names = m.names;
    }

pub light_thread : (list : ℕ) (u : Tid) (w : ForestView) (b : ℕ) → weight_of (arrives list (Thread u) w) b ≤ weight_of w b
light_thread list u w b = rw (place_added_other w.lists.rows (row_of list (Thread u) w) (Bubble b) refl) (omega arith)

pub all_midst : (list : ℕ) (es : List Entity) (w : ForestView) → IsMidst es w → IsForest (all_arrive list es w)
all_midst list [] w m = m
all_midst list (Thread u ∷ es) w m = all_midst list es (arrives list (Thread u) w) (midst_thread list u es w m)
all_midst list (Bubble c ∷ es) w m = all_midst list es (arrives list (Bubble c) w) (midst_bubble list c es w m)

pub all_light : (list : ℕ) (es : List Entity) (w : ForestView) → IsMidst es w → (b : ℕ) → weight_of (all_arrive list es w) b ≤ weight_of w b
all_light list [] w m b = omega arith
all_light list (Thread u ∷ es) w m b = omega (arith, all_light list es (arrives list (Thread u) w) (midst_thread list u es w m) b, light_thread list u w b)
all_light list (Bubble c ∷ es) w m b = omega (arith, all_light list es (arrives list (Bubble c) w) (midst_bubble list c es w m) b, light_bubble list c es w m b)

-- ## A bubble bursts

pub midst_open : (c : ℕ) (w : ForestView) → IsForest w → queued (bubble_of c w.bubbles) ≡ 1 → IsMidst (members_of (bubble_of c w.bubbles)) (bursting c w)
midst_open c w m q =
    let rows = w.lists.rows in
    let ms = members_of (bubble_of c w.bubbles) in
    let bq = burst_queued (bubble_of c w.bubbles) in
    record {
      apart = apart_without rows (Bubble c) m.apart;
      queues = λ b. by_number (λ (b : ℕ). on (place_of (Bubble b) (without (Bubble c) rows)) ≡ queued (bubble_of b (with_state c IsBurst w.bubbles))) c b
          (place_without_same rows (Bubble c) m.apart ∙ sym (ap queued (state_same w.bubbles c IsBurst) ∙ bq.0))
          (λ n. ap on (place_without_other rows (Bubble c) (Bubble b) (bubbles_differ c b n)) ∙ m.queues b ∙ ap queued (sym (state_other w.bubbles c b IsBurst n)));
      holds = λ b. inside_burst w.bubbles c (Bubble b) q ∙ by_number (λ (b : ℕ). inside (Bubble b) w.bubbles ≡ held (bubble_of b (with_state c IsBurst w.bubbles))) c b
          (let h : inside (Bubble c) w.bubbles ≡ 0 = omega (arith, m.holds c, queued_not_held (bubble_of c w.bubbles) q) in h ∙ sym (ap held (state_same w.bubbles c IsBurst) ∙ bq.1))
          (λ n. let h : inside (Bubble b) w.bubbles ≡ held (bubble_of b w.bubbles) = omega (arith, m.holds b) in h ∙ ap held (sym (state_other w.bubbles c b IsBurst n)));
      fills_up = λ b. by_number (λ (b : ℕ). 1 ≤ filled (bubble_of b (with_state c IsBurst w.bubbles))) c b
          (subst (λ o. 1 ≤ filled o) (sym (state_same w.bubbles c IsBurst)) bq.2)
          (λ n. subst (λ o. 1 ≤ filled o) (sym (state_other w.bubbles c b IsBurst n)) (m.fills_up b));
      threads = λ t. let i = inside_burst w.bubbles c (Thread t) q in let f = place_without_other rows (Bubble c) (Thread t) refl in rw f (omega (arith, m.threads t, i));
      names = m.names;
    }

pub light_open : (c : ℕ) (w : ForestView) (b : ℕ) → weight_of (bursting c w) b ≤ weight_of w b
light_open c w b =
    by_number (λ (b : ℕ). weight (below w.lists.tree (place_of (Bubble b) (without (Bubble c) w.lists.rows))) (bubble_of b (with_state c IsBurst w.bubbles)) ≤ weight (below w.lists.tree (place_of (Bubble b) w.lists.rows)) (bubble_of b w.bubbles)) c b
    (let z = weight_burst (below w.lists.tree (place_of (Bubble c) (without (Bubble c) w.lists.rows))) (bubble_of c w.bubbles) in rw (state_same w.bubbles c IsBurst, z) (omega arith))
    (λ n. let f = place_without_other w.lists.rows (Bubble c) (Bubble b) (bubbles_differ c b n) in let s = state_other w.bubbles c b IsBurst n in rw (f, s) (omega arith))

pub gone_open : (c : ℕ) (w : ForestView) → weight_of (bursting c w) c ≡ 0
gone_open c w = ap (weight (below w.lists.tree (place_of (Bubble c) (without (Bubble c) w.lists.rows)))) (state_same w.bubbles c IsBurst) ∙ weight_burst _ (bubble_of c w.bubbles)
