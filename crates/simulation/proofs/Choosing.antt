-- The chosen act is one of the possible ones, and each of those can be done.
use Rattle.std.proofs.Common.{◌≡◌, ℕ, zero, suc, ◌+◌, ◌%◌, ◌<◌, ◌≤◌, List, [], ◌∷◌, ◌++◌, map, length, Option, Some, None, Bool, true, false, eqb, cond, refl, sym, ap, ◌∙◌, subst, arith}
use Rattle.std.specs.Prelude.{◌↔◌, ◌≢◌, ⊤, filter, flat_map, slice_get, not, ◌==◌}
use Rattle.std.proofs.lemmas.List.{append-nil}
use Rattle.std.proofs.lemmas.Option.{slice_get-get_or}
use Rattle.std.proofs.lemmas.Bool.{eq-eqb}
use Rattle.slot_space.specs.Sets.{run}
use Rattle.slot_space.specs.declared.names.Tid.{Tid}
use Rattle.run_trace.specs.declared.entry.Act.{Act}
use Rattle.run_trace.specs.declared.entry.Act.TheVariants.{Run, Take, Move}
use Rattle.run_trace.specs.declared.entry.Entry.{Entry}
use Rattle.run_trace.specs.Program.{Program, nodes_of, processors_of, quantum_limit}
use Rattle.bubbles.specs.Forests.{ForestView}
use Rattle.run_trace.specs.Bubbles.{is_listed}
use Rattle.run_trace.specs.Guests.{Thread}
use Rattle.node_state.specs.Listed.{listed, listed_among}
use Rattle.run_trace.specs.Cluster.{Net}
use Rattle.node_loop.specs.Turns.{IsActInRange}
use Rattle.node_loop.specs.declared.node.Turned.{Turned}
use Rattle.node_loop.specs.declared.node.Turned.TheVariants.{Did, Idle}
use Rattle.cluster.specs.Acts.{has_pick, holds, runs_of, takes_of, moves_to, moves_of, acts_of, possible_acts, is_possible}
use Rattle.cluster.specs.View.{ClusterView}
use Rattle.cluster.specs.Standing.{StandsFor, Steps, net_after}
use Rattle.simulation.specs.Drawn.{chosen, possible_after}
use Rattle.simulation.specs.Underway.{Draws}

-- ## All items of a list

abbrev AreAll : {A : Type 0} → (A → Type 0) → List A → Type 0
AreAll P [] = ⊤
AreAll P (x ∷ xs) = P x × AreAll P xs

both : {A : Type 0} (P : A → Type 0) (xs ys : List A) → AreAll P xs → AreAll P ys → AreAll P (xs ++ ys)
both P [] ys h k = k
both P (x ∷ xs) ys h k = (h.0, both P xs ys h.1 k)

each_mapped : {A B : Type 0} (Q : A → Type 0) (P : B → Type 0) (f : A → B) → ((x : A) → Q x → P (f x)) → (xs : List A) → AreAll Q xs → AreAll P (map f xs)
each_mapped Q P f h [] all = tt
each_mapped Q P f h (x ∷ xs) all = (h x all.0, each_mapped Q P f h xs all.1)

each_joined : {A B : Type 0} (Q : A → Type 0) (P : B → Type 0) (f : A → List B) → ((x : A) → Q x → AreAll P (f x)) → (xs : List A) → AreAll Q xs → AreAll P (flat_map f xs)
each_joined Q P f h [] all = tt
each_joined Q P f h (x ∷ xs) all = both P (f x) (flat_map f xs) (h x all.0) (each_joined Q P f h xs all.1)

each_passes : {A : Type 0} (Q : A → Type 0) (test : A → Bool) (xs : List A) → AreAll Q xs → AreAll (λ x. Q x × (test x ≡ true)) (filter test xs)
each_passes Q test [] all = tt
each_passes Q test (x ∷ xs) all = by (test x) refl (each_passes Q test xs all.1)
  where
    by : (v : Bool) → test x ≡ v → AreAll (λ x. Q x × (test x ≡ true)) (filter test xs) → AreAll (λ x. Q x × (test x ≡ true)) (cond v (x ∷ filter test xs) (filter test xs))
    by true e rest = ((all.0, e), rest)
    by false e rest = rest

run_below : (limit s count : ℕ) → s + count ≤ limit → AreAll (λ k. k < limit) (run s count)
unfolding run
run_below limit s zero l = tt
run_below limit s (suc count) l = (omega (arith, l), run_below limit (suc s) count (omega (arith, l)))

-- ## Each possible act can be done

pub record IsPossible (p : Program) (net : Net) (a : ℕ × Act) : Type 0 where
  pub node : a.0 < nodes_of p
  pub range : IsActInRange p a.0 a.1
  pub possible : is_possible p net a.0 a.1 ≡ true

-- each that is named so is on a list
each_listed : (f : ForestView) (es : List (Tid × Thread)) → AreAll (λ t. is_listed t f ≡ true) (listed_among f es)
each_listed f [] = tt
each_listed f (e ∷ es) = by (is_listed e.0 f) refl (each_listed f es)
  where
    by : (v : Bool) → is_listed e.0 f ≡ v → AreAll (λ t. is_listed t f ≡ true) (listed_among f es) → AreAll (λ t. is_listed t f ≡ true) (cond v (e.0 ∷ listed_among f es) (listed_among f es))
    by true h more = (h, more)
    by false h more = more

module _ (p : Program) (net : Net) (some : 0 < p.setup.quantum) (bounded : p.setup.quantum ≤ quantum_limit) where
  runs_possible : (n : ℕ) → n < nodes_of p → AreAll (IsPossible p net) (runs_of p net n)
  runs_possible n l =
      each_mapped (λ vp. (vp < processors_of p) × (has_pick p net n vp ≡ true)) (IsPossible p net) (λ vp. (n, Run vp p.setup.quantum)) (λ vp h. record { node = l; range = (h.0, some, bounded); possible = h.1 })
      (filter (λ vp. has_pick p net n vp) (run 0 (processors_of p)))
      (each_passes (λ vp. vp < processors_of p) (λ vp. has_pick p net n vp) (run 0 (processors_of p)) (run_below (processors_of p) 0 (processors_of p) (omega arith)))

  takes_possible : (n : ℕ) → n < nodes_of p → AreAll (IsPossible p net) (takes_of p net n)
  takes_possible n l =
      each_mapped (λ i. (i < nodes_of p) × (holds (net.links i n) ≡ true)) (IsPossible p net) (λ i. (n, Take i)) (λ i h. record { node = l; range = h.0; possible = h.1 })
      (filter (λ i. holds (net.links i n)) (run 0 (nodes_of p)))
      (each_passes (λ i. i < nodes_of p) (λ i. holds (net.links i n)) (run 0 (nodes_of p)) (run_below (nodes_of p) 0 (nodes_of p) (omega arith)))

  other : (to n : ℕ) → not (to == n) ≡ true → to ≢ n
  other to n e same = let one : eqb to n ≡ true = eq-eqb to n same in cc (e, one)

  move_possible : (n : ℕ) → n < nodes_of p → (t : Tid) → is_listed t (net.nodes n).forest ≡ true → AreAll (IsPossible p net) (moves_to p n t)
  move_possible n l t listed =
      each_mapped (λ to. (to < nodes_of p) × (not (to == n) ≡ true)) (IsPossible p net) (λ to. (n, Move t to)) (λ to h. record { node = l; range = (h.0, other to n h.1); possible = listed })
      (filter (λ to. not (to == n)) (run 0 (nodes_of p)))
      (each_passes (λ to. to < nodes_of p) (λ to. not (to == n)) (run 0 (nodes_of p)) (run_below (nodes_of p) 0 (nodes_of p) (omega arith)))

  moves_possible : (moves : Bool) (n : ℕ) → n < nodes_of p → AreAll (IsPossible p net) (moves_of moves p net n)
  moves_possible false n l = tt
  moves_possible true n l =
      each_joined (λ t. is_listed t (net.nodes n).forest ≡ true) (IsPossible p net) (λ t. moves_to p n t) (λ t h. move_possible n l t h)
      (listed (net.nodes n)) (each_listed (net.nodes n).forest (net.nodes n).threads)

  acts_possible : (moves : Bool) (n : ℕ) → n < nodes_of p → AreAll (IsPossible p net) (acts_of moves p net n)
  acts_possible moves n l =
      both (IsPossible p net) (runs_of p net n) (takes_of p net n ++ moves_of moves p net n) (runs_possible n l)
      (both (IsPossible p net) (takes_of p net n) (moves_of moves p net n) (takes_possible n l) (moves_possible moves n l))

  each_possible : (moves : Bool) → AreAll (IsPossible p net) (possible_acts moves p net)
  each_possible moves = each_joined (λ n. n < nodes_of p) (IsPossible p net) (λ n. acts_of moves p net n) (acts_possible moves) (run 0 (nodes_of p)) (run_below (nodes_of p) 0 (nodes_of p) (omega arith))

-- ## The chosen one

item_passes : {A : Type 0} (P : A → Type 0) (xs : List A) (i : ℕ) (a : A) → AreAll P xs → slice_get xs i ≡ Some a → P a
item_passes {A = A} P [] i a all e = absurd (let none : slice_get {X = A} [] i ≡ None = refl in cc (none, e))
item_passes P (x ∷ xs) zero a all e = let same : x ≡ a = cc e in subst P same all.0
item_passes P (x ∷ xs) (suc i) a all e = item_passes P xs i a all.1 e

pub chosen_possible : (moves : Bool) (c : ClusterView) (trace : List Entry) (o : Option (ℕ × Act)) (word : ℕ) (a : ℕ × Act) → StandsFor c [] trace
    → o ≡ chosen word (possible_after moves c.program trace) → o ≡ Some a → IsPossible c.program (net_after c.program trace) a
chosen_possible moves c trace o word a s is some =
    item_passes (IsPossible c.program (net_after c.program trace)) (possible_after moves c.program trace) (word % length (possible_after moves c.program trace)) a
    (each_possible c.program (net_after c.program trace) s.agrees.some_quantum s.agrees.bounded_quantum moves) (sym is ∙ some)

pub some_chosen : (all : List (ℕ × Act)) (o : Option (ℕ × Act)) (word : ℕ) → (all ≡ [] → ⊥) → o ≡ chosen word all → o ≡ None → ⊥
some_chosen [] o word some is none = some refl
some_chosen (x ∷ xs) o word some is none =
    let inside : word % length (x ∷ xs) < length (x ∷ xs) = omega arith in
    cc (is, none, slice_get-get_or (x ∷ xs) (word % length (x ∷ xs)) x inside)

-- an act that can be done is done
pub draws : (moves : Bool) (old new : ClusterView) (trace : List Entry) (o : Option (ℕ × Act)) (word n : ℕ) (act : Act) (t : Turned) → StandsFor old [] trace
    → o ≡ chosen word (possible_after moves old.program trace) → o ≡ Some (n, act) → Steps old [] trace n act new t
    → (t ≡ Idle) ↔ (is_possible old.program (net_after old.program (trace ++ [])) n act ≡ false) → Draws moves word trace old new
draws moves old new trace o word n act Idle s is some h i =
    absurd (cc (i.0 refl, ap (λ ls. is_possible old.program (net_after old.program ls) n act) (append-nil trace), (chosen_possible moves old trace o word (n, act) s is some).possible))
draws moves old new trace o word n act Did s is some h i = record { node = n; act = act; chosen_is = sym is ∙ some; adds = h }

-- ## No part of the trace came before

pub chosen_whole : (moves : Bool) (p : Program) (kept : List Entry) (word : ℕ) (o : Option (ℕ × Act)) → o ≡ chosen word (possible_acts moves p (net_after p (kept ++ [])))
    → o ≡ chosen word (possible_after moves p kept)
chosen_whole moves p kept word o e = e ∙ ap (λ ls. chosen word (possible_acts moves p (net_after p ls))) (append-nil kept)
