-- What a node's forest has of threads, when one thread changes or the forest does.
use Rattle.std.proofs.Common.{arith, ◌≡◌, ℕ, List, [], ◌∷◌, ◌++◌, Option, Some, None, Bool, true, false, eqb, cond, ◌⊎◌, inl, inr, refl, sym, ap, ◌∙◌, subst}
use Rattle.std.specs.Prelude.{is_some, ⊤}
use Rattle.std.proofs.lemmas.Bool.{eq-eqb, eqb-true}
use Rattle.slot_space.specs.declared.names.Tid.{Tid}
use Rattle.levels.specs.declared.entity.Entity.{Entity}
use Rattle.levels.specs.declared.entity.Entity.TheVariants.{Thread, Bubble}
use Rattle.levels.specs.Rows.{Row, is_entity, place_of, without}
use Rattle.levels.proofs.Lemmas.{is_same, place_without_other}
use Rattle.bubbles.specs.declared.bubble.KnownThread.{KnownThread}
use Rattle.bubbles.specs.Rows.{thread_of, bubble_of, members_of}
use Rattle.bubbles.specs.Forests.{ForestView, arrives, all_arrive}
use Rattle.bubbles.specs.Picking.{bursting, down, burst}
use Rattle.bubbles.specs.Standing.{IsForest, seats}
use Rattle.bubbles.specs.Changes.{KeepsThreads, ChangesThread}
use Rattle.run_trace.specs.Names.{is_tid}
use Rattle.run_trace.specs.Program.{Program, tree_of}
use Rattle.run_trace.specs.Bubbles.{is_listed}
use Rattle.run_trace.specs.Guests.{Guest}
use Rattle.run_trace.specs.Spots.{Stage, Ready, Departs, Life, Unborn, On, Moving, Noting, Gone, Spot, Spots, Going, set_going, update, at_node}
use Rattle.run_trace.specs.Stands.{AreSeated, seats_in_stage, seats_in_life, priority_in_life, known_priority}
use Rattle.run_trace.proofs.Lemmas.{is-true, is-false}

-- ## One thread

-- the forest of node k has thread u as its spot says
pub record IsSeatedAs (k : ℕ) (u : Tid) (s : Spot) (f : ForestView) : Type 0 where
  pub known : known_priority (thread_of u f.threads) ≡ priority_in_life k s.life s.guest
  pub seats : seats u f ≡ seats_in_life k s.life
  pub departs : (to : ℕ) → s.life ≡ On k (Departs to) → is_listed u f ≡ true

-- and all threads
abbrev pub AllSeated : ℕ → (Tid → Spot) → ForestView → Type 0
AllSeated k w f = (u : Tid) → IsSeatedAs k u (w u) f

pub all_seated : {p : Program} {k : ℕ} {w : Spots} → AreSeated p k w → AllSeated k w.threads (w.forests k)
all_seated a u = record { known = a.known u; seats = a.seats u; departs = λ to e. a.departs u to e }

pub seated_by : (p : Program) (k : ℕ) (w : Spots) (f : ForestView) → w.forests k ≡ f → f.lists.tree ≡ tree_of p → IsForest f → AllSeated k w.threads f → AreSeated p k w
seated_by p k w f e tree forest all = record {
  tree = ap (λ (g : ForestView). g.lists.tree) e ∙ tree;
  forest = subst IsForest (sym e) forest;
  known = λ t. ap (λ (g : ForestView). known_priority (thread_of t g.threads)) e ∙ (all t).known;
  seats = λ t. ap (λ (g : ForestView). seats t g) e ∙ (all t).seats;
  departs = λ t to h. ap (λ (g : ForestView). is_listed t g) e ∙ (all t).departs to h;
}

-- ## Lives by what forests have of them

-- the node that the thread is on
abbrev pub node_of_life : Life → Option ℕ
node_of_life (On m stage) = Some m
node_of_life _ = None

-- it has no place on a list or in a bubble
abbrev pub is_idle : Life → Bool
is_idle (On m Ready) = false
is_idle (On m (Departs to)) = false
is_idle _ = true

abbrev pub priority_at : ℕ → Option ℕ → ℕ → Option ℕ
priority_at k None priority = None
priority_at k (Some m) priority = cond (eqb m k) (Some priority) None

priority_by_node : (k : ℕ) (life : Life) (g : Guest) → priority_in_life k life g ≡ priority_at k (node_of_life life) g.priority
priority_by_node k (On m stage) g = refl
priority_by_node k Unborn g = refl
priority_by_node k (Moving m to) g = refl
priority_by_node k (Noting m end) g = refl
priority_by_node k (Gone end) g = refl

idle_stage : (m : ℕ) (stage : Stage) → is_idle (On m stage) ≡ true → seats_in_stage stage ≡ 0
idle_stage m stage h = grind (arith, h)

no_seats : (v : Bool) (n : ℕ) → n ≡ 0 → cond v n 0 ≡ 0
no_seats true n e = e
no_seats false n e = refl

pub idle_seats : (k : ℕ) (life : Life) → is_idle life ≡ true → seats_in_life k life ≡ 0
idle_seats k (On m stage) h = no_seats (eqb m k) (seats_in_stage stage) (idle_stage m stage h)
idle_seats k Unborn h = refl
idle_seats k (Moving m to) h = refl
idle_seats k (Noting m end) h = refl
idle_seats k (Gone end) h = refl

-- it isn't on node k
abbrev pub IsElsewhere : ℕ → Life → Type 0
IsElsewhere k (On m stage) = eqb m k ≡ false
IsElsewhere k _ = ⊤

pub elsewhere_seats : (k : ℕ) (life : Life) → IsElsewhere k life → seats_in_life k life ≡ 0
elsewhere_seats k (On m stage) h = rw h refl
elsewhere_seats k Unborn h = refl
elsewhere_seats k (Moving m to) h = refl
elsewhere_seats k (Noting m end) h = refl
elsewhere_seats k (Gone end) h = refl

pub elsewhere_priority : (k : ℕ) (life : Life) (g : Guest) → IsElsewhere k life → priority_in_life k life g ≡ None
elsewhere_priority k (On m stage) g h = rw h refl
elsewhere_priority k Unborn g h = refl
elsewhere_priority k (Moving m to) g h = refl
elsewhere_priority k (Noting m end) g h = refl
elsewhere_priority k (Gone end) g h = refl

pub elsewhere_on : (k n : ℕ) (life : Life) (stage : Stage) → life ≡ On n stage → eqb n k ≡ false → IsElsewhere k life
elsewhere_on k n life stage p e = subst (IsElsewhere k) (sym p) e

-- a life on node k, as its forest has it
pub there_seats : (k : ℕ) (life : Life) (stage : Stage) → life ≡ On k stage → seats_in_life k life ≡ seats_in_stage stage
there_seats k life stage p = ap (seats_in_life k) p ∙ (rw (eq-eqb k k refl) refl)

pub there_priority : (k : ℕ) (life : Life) (stage : Stage) (g : Guest) → life ≡ On k stage → priority_in_life k life g ≡ Some g.priority
there_priority k life stage g p = ap (λ l. priority_in_life k l g) p ∙ (rw (eq-eqb k k refl) refl)

pub node_elsewhere : (k n : ℕ) (life : Life) → node_of_life life ≡ Some n → eqb n k ≡ false → IsElsewhere k life
node_elsewhere k n (On m stage) e far = let same : m ≡ n = cc e in subst (λ i. eqb i k ≡ false) (sym same) far
node_elsewhere k n Unborn e far = tt
node_elsewhere k n (Moving m to) e far = tt
node_elsewhere k n (Noting m end) e far = tt
node_elsewhere k n (Gone end) e far = tt

pub node_priority : (k : ℕ) (life : Life) (g : Guest) → node_of_life life ≡ Some k → priority_in_life k life g ≡ Some g.priority
node_priority k life g e = priority_by_node k life g ∙ ap (λ (o : Option ℕ). priority_at k o g.priority) e ∙ (rw (eq-eqb k k refl) refl)

-- who has a place there is about nothing, or is sent away
pub seated_life : (k : ℕ) (life : Life) → seats_in_life k life ≡ 1 → (life ≡ On k Ready) ⊎ ((to : ℕ) × (life ≡ On k (Departs to)))
seated_life k Unborn h = absurd (omega (arith, h))
seated_life k (Moving m to) h = absurd (omega (arith, h))
seated_life k (Noting m end) h = absurd (omega (arith, h))
seated_life k (Gone end) h = absurd (omega (arith, h))
seated_life k (On m stage) h = by (eqb m k) refl h
  where
    of_stage : (s : Stage) → seats_in_stage s ≡ 1 → (s ≡ Ready) ⊎ ((to : ℕ) × (s ≡ Departs to))
    of_stage Ready z = inl refl
    of_stage (Departs to) z = inr (to, refl)
    of_stage s z = grind (arith, z)

    by : (v : Bool) → eqb m k ≡ v → cond v (seats_in_stage stage) 0 ≡ 1 → (On m stage ≡ On k Ready) ⊎ ((to : ℕ) × (On m stage ≡ On k (Departs to)))
    by true e z =
        let same : m ≡ k = eqb-true m k e in
        elim (of_stage stage z) as (λ v. (On m stage ≡ On k Ready) ⊎ ((to : ℕ) × (On m stage ≡ On k (Departs to)))) [
          | inl r ↦ inl (cc (same, r))
          | inr d ↦ inr (d.0, cc (same, d.1))
        ]
    by false e z = absurd (omega (arith, z))

-- ## Two spots of a thread that node k can't tell apart

pub record SameSeat (k : ℕ) (r s : Spot) : Type 0 where
  pub priority : priority_in_life k s.life s.guest ≡ priority_in_life k r.life r.guest
  pub seats : seats_in_life k s.life ≡ seats_in_life k r.life
  pub departs : (to : ℕ) → s.life ≡ On k (Departs to) → r.life ≡ On k (Departs to)

pub seated_same : {k : ℕ} {r s : Spot} (u : Tid) (f : ForestView) → SameSeat k r s → IsSeatedAs k u r f → IsSeatedAs k u s f
seated_same u f e h = record { known = h.known ∙ sym e.priority; seats = h.seats ∙ sym e.seats; departs = λ to q. h.departs to (e.departs to q) }

-- neither is there
pub same_elsewhere : (k : ℕ) (r s : Spot) → IsElsewhere k r.life → IsElsewhere k s.life → SameSeat k r s
same_elsewhere k r s old new = record {
  priority = elsewhere_priority k s.life s.guest new ∙ sym (elsewhere_priority k r.life r.guest old);
  seats = elsewhere_seats k s.life new ∙ sym (elsewhere_seats k r.life old);
  departs = λ to e. let one : seats_in_life k s.life ≡ 1 = there_seats k s.life (Departs to) e in let none = elsewhere_seats k s.life new in absurd (omega (arith, one, none));
}

-- neither has a place, and the thread stays where it is
pub record IsIdle (r s : Spot) : Type 0 where
  pub node : node_of_life s.life ≡ node_of_life r.life
  pub priority : s.guest.priority ≡ r.guest.priority
  pub before : is_idle r.life ≡ true
  pub after : is_idle s.life ≡ true

pub same_idle : {r s : Spot} (k : ℕ) → IsIdle r s → SameSeat k r s
same_idle {r} {s} k e = record {
  priority = priority_by_node k s.life s.guest ∙ ap (λ (o : Option ℕ). priority_at k o s.guest.priority) e.node ∙ ap (priority_at k (node_of_life r.life)) e.priority ∙ sym (priority_by_node k r.life r.guest);
  seats = idle_seats k s.life e.after ∙ sym (idle_seats k r.life e.before);
  departs = λ to h. let one : seats_in_life k s.life ≡ 1 = there_seats k s.life (Departs to) h in let none = idle_seats k s.life e.after in absurd (omega (arith, one, none));
}

-- on one node, from one stage to another
pub idle_on : (r s : Spot) (n : ℕ) (a b : Stage) → r.life ≡ On n a → s.life ≡ On n b → s.guest.priority ≡ r.guest.priority → is_idle (On n a) ≡ true → is_idle (On n b) ≡ true → IsIdle r s
idle_on r s n a b p q g old new = record { node = ap node_of_life q ∙ sym (ap node_of_life p); priority = g; before = ap is_idle p ∙ old; after = ap is_idle q ∙ new }

-- ## A thread changes, or the forest

pub amid : (k : ℕ) (w : Tid → Spot) (t : Tid) (s : Spot) (f g : ForestView) → AllSeated k w f → IsSeatedAs k t s g
    → ((u : Tid) → is_tid t u ≡ false → IsSeatedAs k u (w u) f → IsSeatedAs k u (w u) g) → AllSeated k (update w t s) g
amid k w t s f g all own others u = elim (is_tid t u) as (λ v. is_tid t u ≡ v → IsSeatedAs k u (cond v s (w u)) g) [
  | true ↦ λ e. subst (λ x. IsSeatedAs k x s g) (is-true t u e) own
  | false ↦ λ e. others u e (all u)
] refl

pub one_idle : (k : ℕ) (w : Tid → Spot) (t : Tid) (s : Spot) (f : ForestView) → AllSeated k w f → IsIdle (w t) s → AllSeated k (update w t s) f
one_idle k w t s f all e = amid k w t s f f all (seated_same t f (same_idle k e) (all t)) (λ u n h. h)

-- who is set going has no place before nor after
abbrev pub GoesIdle : (Tid → Spot) → Going → Type 0
GoesIdle w None = ⊤
GoesIdle w (Some going) = IsIdle (w going.0) (record (w going.0) { life = going.1 })

pub going_idle : (k : ℕ) (w : Tid → Spot) (going : Going) (f : ForestView) → AllSeated k w f → GoesIdle w going → AllSeated k (set_going going w) f
going_idle k w None f all e = all
going_idle k w (Some going) f all e = one_idle k w going.0 (record (w going.0) { life = going.1 }) f all e

-- the forest has changed, and no thread
pub kept_seat : (k : ℕ) (u : Tid) (s : Spot) (f g : ForestView) → KeepsThreads f g → ((to : ℕ) → s.life ≡ On k (Departs to) → is_listed u f ≡ true → is_listed u g ≡ true) → IsSeatedAs k u s f → IsSeatedAs k u s g
kept_seat k u s f g e stays h = record {
  known = ap (λ (xs : List KnownThread). known_priority (thread_of u xs)) e.threads ∙ h.known;
  seats = e.seats u ∙ h.seats;
  departs = λ to q. stays to q (h.departs to q);
}

entity_other : (t u : Tid) → is_tid t u ≡ false → is_entity (Thread u) (Thread t) ≡ false
entity_other t u n = by (is_entity (Thread u) (Thread t)) refl
  where
    by : (v : Bool) → is_entity (Thread u) (Thread t) ≡ v → v ≡ false
    by true e = let same : Thread u ≡ Thread t = is_same (Thread u) (Thread t) e in let one : t ≡ u = cc same in absurd (is-false t u n one)
    by false e = refl

-- the forest has changed for thread t alone
pub other_seat : (k times : ℕ) (t u : Tid) (s : Spot) (f g : ForestView) → ChangesThread t times f g → is_tid t u ≡ false → IsSeatedAs k u s f → IsSeatedAs k u s g
other_seat k times t u s f g e n h =
    let other = entity_other t u n in
    record {
      known = ap known_priority (e.known u other) ∙ h.known;
      seats = e.others u other ∙ h.seats;
      departs = λ to q. ap is_some (e.places u other) ∙ h.departs to q;
    }

-- the node of the label, and each other one
pub each_node : (p : Program) (n : ℕ) (v : Spots) → AreSeated p n v → ((k : ℕ) → eqb n k ≡ false → AreSeated p k v) → (k : ℕ) → AreSeated p k v
each_node p n v here there k = elim (eqb n k) as (λ b. eqb n k ≡ b → AreSeated p k v) [
  | true ↦ λ e. subst (λ j. AreSeated p j v) (eqb-true n k e) here
  | false ↦ λ e. there k e
] refl

pub at_home : {A : Type 0} (n : ℕ) (f : ℕ → A) (x : A) → at_node f n x n ≡ x
at_home n f x = rw (eq-eqb n n refl) refl

pub at_other : {A : Type 0} (n k : ℕ) (f : ℕ → A) (x : A) → eqb n k ≡ false → at_node f n x k ≡ f k
at_other n k f x e = rw e refl

-- a label of node n by which thread t comes to its place in the forest there, or goes; now has the other thread that it changes
pub record IsMoved (p : Program) (n times : ℕ) (t : Tid) (w : Spots) (now : Tid → Spot) (s : Spot) (g : ForestView) : Type 0 where
  pub before : (k : ℕ) → AreSeated p k w
  pub others : (k : ℕ) → AllSeated k now (w.forests k)
  pub forest : ChangesThread t times (w.forests n) g
  pub own : IsSeatedAs n t s g
  pub left : (k : ℕ) → eqb n k ≡ false → IsElsewhere k (w.threads t).life
  pub come : (k : ℕ) → eqb n k ≡ false → IsElsewhere k s.life

pub moved : {p : Program} {n times : ℕ} {t : Tid} {w : Spots} {now : Tid → Spot} {s : Spot} {g : ForestView} (v : Spots) → v.threads ≡ update now t s → v.forests ≡ at_node w.forests n g → IsMoved p n times t w now s g
    → (k : ℕ) → AreSeated p k v
moved {p} {n} {times} {t} {w} {now} {s} {g} v threads forests h k = each_node p n v here there k
  where
    here : AreSeated p n v
    here = seated_by p n v g (ap (λ (f : ℕ → ForestView). f n) forests ∙ at_home n w.forests g) (h.forest.tree ∙ (h.before n).tree) h.forest.forest
        (subst (λ x. AllSeated n x g) (sym threads) (amid n now t s (w.forests n) g (h.others n) h.own (λ u e a. other_seat n times t u (now u) (w.forests n) g h.forest e a)))

    there : (k : ℕ) → eqb n k ≡ false → AreSeated p k v
    there k e = seated_by p k v (w.forests k) (ap (λ (f : ℕ → ForestView). f k) forests ∙ at_other n k w.forests g e) (h.before k).tree (h.before k).forest
        (subst (λ x. AllSeated k x (w.forests k)) (sym threads)
        (amid k now t s (w.forests k) (w.forests k) (h.others k) (seated_same t (w.forests k) (same_elsewhere k (w.threads t) s (h.left k e) (h.come k e)) (all_seated (h.before k) t)) (λ u e a. a)))

-- ## A bubble that moves takes no thread off its list

listed_more : (e : Entity) (rows more : List Row) → is_some (place_of e rows) ≡ true → is_some (place_of e (rows ++ more)) ≡ true
listed_more e [] more h = absurd (cc h)
listed_more e (row ∷ rows) more h =
    elim (is_entity row.0 e) as (λ v. is_some (cond v (Some row.1) (place_of e rows)) ≡ true → is_some (cond v (Some row.1) (place_of e (rows ++ more))) ≡ true)
    [ true ↦ λ q. refl | false ↦ λ q. listed_more e rows more q ] h

listed_all : (u : Tid) (list : ℕ) (es : List Entity) (f : ForestView) → is_listed u f ≡ true → is_listed u (all_arrive list es f) ≡ true
listed_all u list [] f h = h
listed_all u list (e ∷ es) f h = listed_all u list es (arrives list e f) (listed_more (Thread u) f.lists.rows _ h)

listed_off : (u : Tid) (b : ℕ) (rows : List Row) → is_some (place_of (Thread u) rows) ≡ true → is_some (place_of (Thread u) (without (Bubble b) rows)) ≡ true
listed_off u b rows h = ap is_some (place_without_other rows (Bubble b) (Thread u) refl) ∙ h

-- on the list of each processor's choice
pub listed_down : (u : Tid) (b list : ℕ) (f : ForestView) → is_listed u f ≡ true → is_listed u (down b list f).after ≡ true
listed_down u b list f h = listed_more (Thread u) (without (Bubble b) f.lists.rows) _ (listed_off u b f.lists.rows h)

pub listed_burst : (u : Tid) (b list : ℕ) (f : ForestView) → is_listed u f ≡ true → is_listed u (burst b list f).after ≡ true
listed_burst u b list f h = listed_all u list (members_of (bubble_of b f.bubbles)) (bursting b f) (listed_off u b f.lists.rows h)
