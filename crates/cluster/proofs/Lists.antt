-- What is so of lists: step by step, and where an element becomes another.
use Rattle.std.proofs.Common.{◌≡◌, ◌≢◌, ℕ, zero, suc, ◌+◌, ◌-◌, ◌<◌, ◌≤◌, List, [], ◌∷◌, ◌++◌, length, map, take, set, get_or, Some, Bool, true, false, cond, eqb, refl, sym, ap, ◌∙◌, subst, arith, length-append, length-set, append_assoc, append-nil}
use Rattle.std.specs.Prelude.{◌||◌, filter, slice_get, not, ◌==◌}
use Rattle.std.proofs.lemmas.Bool.{ne_eqb, eq-eqb}
use Rattle.std.proofs.lemmas.List.{set-append_left, map-set}
use Rattle.std.proofs.lemmas.Option.{slice_get_within, same_Some}
use Rattle.slot_space.specs.Sets.{run}
use Rattle.slot_space.specs.declared.names.Tid.{Tid}
use Rattle.run_trace.specs.declared.entry.Act.{Act}
use Rattle.run_trace.specs.declared.entry.Act.TheVariants.{Take, Move, Run}
use Rattle.run_trace.specs.declared.packet.Packet.{Packet}
use Rattle.wires.specs.declared.ends.Ends.{Ends}
use Rattle.basics.proofs.Lemmas.{by_eq, get_set_same, get_set_other, some_at}
use Rattle.node_loop.specs.View.{NodeView, raised, with_ends}
use Rattle.node_loop.specs.Turns.{can}
use Rattle.cluster.specs.Between.{acts_from, knows_of, moves_among, wires_in, KeepNodes, run_on}
use Rattle.cluster.specs.View.{ends_of}

-- ## Runs of numbers

pub run_more : (i n : ℕ) → i < n → run i (n - i) ≡ i ∷ run (i + 1) (n - (i + 1))
unfolding run
run_more i n l = let e : n - i ≡ suc (n - (i + 1)) = omega arith in let f : suc i ≡ i + 1 = omega arith in ap (run i) e ∙ ap (λ k. i ∷ run k (n - (i + 1))) f

pub run_none : (i n : ℕ) → n ≤ i → run i (n - i) ≡ []
unfolding run
run_none i n l = let e : n - i ≡ 0 = omega arith in ap (run i) e

-- ## Packets that are known

knows_step : (v : NodeView) (i n : ℕ) (b : Bool) → i < n → can v (Take i) ≡ b → knows_of v (run i (n - i)) ≡ (b || knows_of v (run (i + 1) (n - (i + 1))))
knows_step v i n b l e = ap (knows_of v) (run_more i n l) ∙ ap (λ u. u || knows_of v (run (i + 1) (n - (i + 1)))) e

pub knows_here : (v : NodeView) (i n : ℕ) (all : Bool) → i < n → can v (Take i) ≡ true → knows_of v (run i (n - i)) ≡ all → true ≡ all
knows_here v i n all l e k = sym (knows_step v i n true l e) ∙ k

pub knows_later : (v : NodeView) (i n : ℕ) (all : Bool) → i < n → can v (Take i) ≡ false → knows_of v (run i (n - i)) ≡ all → knows_of v (run (i + 1) (n - (i + 1))) ≡ all
knows_later v i n all l e k = sym (knows_step v i n false l e) ∙ k

pub knows_none : (v : NodeView) (i n : ℕ) (all : Bool) → n ≤ i → knows_of v (run i (n - i)) ≡ all → false ≡ all
knows_none v i n all l k = sym (ap (knows_of v) (run_none i n l)) ∙ k

-- ## Acts

acts_step : (v : NodeView) (act : ℕ → Act) (i n : ℕ) (b : Bool) → i < n → can v (act i) ≡ b
    → acts_from v act (run i (n - i)) ≡ map (λ i. (v.me, act i)) (cond b (i ∷ filter (λ i. can v (act i)) (run (i + 1) (n - (i + 1)))) (filter (λ i. can v (act i)) (run (i + 1) (n - (i + 1)))))
acts_step v act i n b l e = ap (acts_from v act) (run_more i n l) ∙ ap (λ b. map (λ i. (v.me, act i)) (cond b (i ∷ filter (λ i. can v (act i)) (run (i + 1) (n - (i + 1)))) (filter (λ i. can v (act i)) (run (i + 1) (n - (i + 1)))))) e

-- one can be done, and the others are left
pub act_first : (v : NodeView) (act : ℕ → Act) (i n : ℕ) → i < n → can v (act i) ≡ true → acts_from v act (run i (n - i)) ≡ (v.me, act i) ∷ acts_from v act (run (i + 1) (n - (i + 1)))
act_first v act i n l e = acts_step v act i n true l e

pub act_passed : (v : NodeView) (act : ℕ → Act) (i n : ℕ) → i < n → can v (act i) ≡ false → acts_from v act (run i (n - i)) ≡ acts_from v act (run (i + 1) (n - (i + 1)))
act_passed v act i n l e = acts_step v act i n false l e

-- one is added, and the others are left
pub acts_more : (v : NodeView) (act : ℕ → Act) (i n me : ℕ) (acts more all : List (ℕ × Act)) → i < n → more ≡ acts ++ (me, act i) ∷ [] → me ≡ v.me → can v (act i) ≡ true
    → acts ++ acts_from v act (run i (n - i)) ≡ all → more ++ acts_from v act (run (i + 1) (n - (i + 1))) ≡ all
acts_more v act i n me acts more all l m h e k =
    ap (λ xs. xs ++ acts_from v act (run (i + 1) (n - (i + 1)))) (m ∙ ap (λ u. acts ++ (u, act i) ∷ []) h)
    ∙ append_assoc acts ((v.me, act i) ∷ []) (acts_from v act (run (i + 1) (n - (i + 1)))) ∙ ap (λ xs. acts ++ xs) (sym (act_first v act i n l e)) ∙ k

-- the same of a run, with the quantum of the node's program
pub runs_more : (v : NodeView) (i n me quantum : ℕ) (acts more all : List (ℕ × Act)) → i < n → more ≡ acts ++ (me, Run i quantum) ∷ [] → quantum ≡ v.program.setup.quantum → me ≡ v.me → can v (run_on v i) ≡ true
    → acts ++ acts_from v (run_on v) (run i (n - i)) ≡ all → more ++ acts_from v (run_on v) (run (i + 1) (n - (i + 1))) ≡ all
runs_more v i n me quantum acts more all l m q h e k = acts_more v (run_on v) i n me acts more all l (m ∙ ap (λ (z : ℕ). acts ++ (me, Run i z) ∷ []) q) h e k

pub acts_skip : (v : NodeView) (act : ℕ → Act) (i n : ℕ) (acts all : List (ℕ × Act)) → i < n → can v (act i) ≡ false
    → acts ++ acts_from v act (run i (n - i)) ≡ all → acts ++ acts_from v act (run (i + 1) (n - (i + 1))) ≡ all
acts_skip v act i n acts all l e k = ap (λ xs. acts ++ xs) (sym (act_passed v act i n l e)) ∙ k

moves_step : (m : ℕ) (t : Tid) (i n : ℕ) (b : Bool) → i < n → eqb i m ≡ b
    → moves_among m t (run i (n - i)) ≡ map (λ to. (m, Move t to)) (cond (not b) (i ∷ filter (λ to. not (to == m)) (run (i + 1) (n - (i + 1)))) (filter (λ to. not (to == m)) (run (i + 1) (n - (i + 1)))))
moves_step m t i n b l e = ap (moves_among m t) (run_more i n l) ∙ ap (λ b. map (λ to. (m, Move t to)) (cond (not b) (i ∷ filter (λ to. not (to == m)) (run (i + 1) (n - (i + 1)))) (filter (λ to. not (to == m)) (run (i + 1) (n - (i + 1)))))) e

pub moves_more : (m : ℕ) (t : Tid) (i n : ℕ) (acts more all : List (ℕ × Act)) → i < n → more ≡ acts ++ (m, Move t i) ∷ [] → i ≢ m
    → acts ++ moves_among m t (run i (n - i)) ≡ all → more ++ moves_among m t (run (i + 1) (n - (i + 1))) ≡ all
moves_more m t i n acts more all l h e k =
    ap (λ xs. xs ++ moves_among m t (run (i + 1) (n - (i + 1)))) h
    ∙ append_assoc acts ((m, Move t i) ∷ []) (moves_among m t (run (i + 1) (n - (i + 1)))) ∙ ap (λ xs. acts ++ xs) (sym (moves_step m t i n false l (ne_eqb i m e))) ∙ k

pub moves_skip : (m : ℕ) (t : Tid) (i n : ℕ) (acts all : List (ℕ × Act)) → i < n → i ≡ m
    → acts ++ moves_among m t (run i (n - i)) ≡ all → acts ++ moves_among m t (run (i + 1) (n - (i + 1))) ≡ all
moves_skip m t i n acts all l e k = ap (λ xs. acts ++ xs) (sym (moves_step m t i n true l (eq-eqb i m e))) ∙ k

-- nothing is left
pub none_left : (f : List ℕ → List (ℕ × Act)) (i n : ℕ) (acts all : List (ℕ × Act)) → f [] ≡ [] → n ≤ i → acts ++ f (run i (n - i)) ≡ all → acts ≡ all
none_left f i n acts all e l k = sym (append-nil acts) ∙ ap (λ xs. acts ++ xs) (sym (ap f (run_none i n l) ∙ e)) ∙ k

-- ## All are raised

abbrev pub raised_below : (clock k : ℕ) → List NodeView → List NodeView
raised_below clock zero vs = vs
raised_below clock (suc k) [] = []
raised_below clock (suc k) (v ∷ vs) = raised clock v ∷ raised_below clock k vs

pub raised_none : (clock : ℕ) (vs : List NodeView) → raised_below clock 0 vs ≡ vs
raised_none clock vs = refl

pub raised_all : (clock k : ℕ) (vs : List NodeView) → length vs ≤ k → raised_below clock k vs ≡ map (raised clock) vs
raised_all clock zero [] l = refl
raised_all clock (suc k) [] l = refl
raised_all clock zero (v ∷ vs) l = absurd (omega arith)
raised_all clock (suc k) (v ∷ vs) l = ap (λ ws. raised clock v ∷ ws) (raised_all clock k vs (omega arith))

pub raised_more : (clock k : ℕ) (vs : List NodeView) (d : NodeView) → k < length vs → set (raised_below clock k vs) k (raised clock (get_or (raised_below clock k vs) k d)) ≡ raised_below clock (k + 1) vs
raised_more clock k [] d l = absurd (omega arith)
raised_more clock zero (v ∷ vs) d l = refl
raised_more clock (suc k) (v ∷ vs) d l =
    let e : suc (k + 1) ≡ suc k + 1 = omega arith in
    ap (λ ws. raised clock v ∷ ws) (raised_more clock k vs d (omega arith)) ∙ ap (λ j. raised_below clock j (v ∷ vs)) e

-- one is raised, as it stands in the list now
pub raised_next : (clock k : ℕ) (vs now : List NodeView) (d new : NodeView) → k < length vs → now ≡ raised_below clock k vs → new ≡ raised clock (get_or now k d) → set now k new ≡ raised_below clock (k + 1) vs
raised_next clock k vs now d new l h e = ap (set now k) e ∙ ap (λ us. set us k (raised clock (get_or us k d))) h ∙ raised_more clock k vs d l

-- ## Nodes and ends

pub length-map_ends : (nodes : List NodeView) → length (map ends_of nodes) ≡ length nodes
length-map_ends [] = refl
length-map_ends (v ∷ vs) = ap suc (length-map_ends vs)

pub wires-length : (nodes : List NodeView) (rest : List (Ends Packet)) → length (wires_in nodes rest) ≡ length nodes + length rest
wires-length nodes rest = length-append (map ends_of nodes) rest ∙ ap (λ k. k + length rest) (length-map_ends nodes)

pub wires-set : (nodes : List NodeView) (rest : List (Ends Packet)) (i : ℕ) (v : NodeView) → i < length nodes → wires_in (set nodes i v) rest ≡ set (wires_in nodes rest) i v.ends
wires-set nodes rest i v l = ap (λ es. es ++ rest) (map-set ends_of nodes i v) ∙ sym (set-append_left (map ends_of nodes) rest i v.ends (subst (λ k. i < k) (sym (length-map_ends nodes)) l))

pub wires-get : (nodes : List NodeView) (rest : List (Ends Packet)) (i : ℕ) (v : NodeView) → slice_get nodes i ≡ Some v → slice_get (wires_in nodes rest) i ≡ Some v.ends
wires-get [] rest i v e = absurd (cc e)
wires-get (w ∷ ws) rest zero v e = let same : w ≡ v = cc e in ap (λ (z : NodeView). Some z.ends) same
wires-get (w ∷ ws) rest (suc i) v e = wires-get ws rest i v e

-- behind the nodes' ends stand the others
pub behind : (vs : List NodeView) (rest : List (Ends Packet)) (k : ℕ) → slice_get (wires_in vs rest) (length vs + k) ≡ slice_get rest k
behind [] rest k = let e : 0 + k ≡ k = omega arith in ap (slice_get rest) e
behind (v ∷ vs) rest k = let e : suc (length vs) + k ≡ suc (length vs + k) = omega arith in ap (slice_get (wires_in (v ∷ vs) rest)) e ∙ behind vs rest k

-- ## Nothing but the ends has changed

pub keeps_all : (vs : List NodeView) → KeepNodes vs vs
keeps_all vs = record { count = refl; each = λ n v w h g. let same : v ≡ w = same_Some v w (sym h ∙ g) in sym same ∙ ap (λ (z : NodeView). with_ends z.ends v) same }

pub keeps_on : (us vs ws : List NodeView) → KeepNodes us vs → KeepNodes vs ws → KeepNodes us ws
keeps_on us vs ws h k = record {
  count = k.count ∙ h.count;
  each = λ n u w f g.
      let v = some_at vs n (omega (arith, h.count, slice_get_within us n u f)) in
      k.each n v.0 w v.1 g ∙ ap (with_ends w.ends) (h.each n u v.0 f v.1);
}

pub keeps_one : (vs : List NodeView) (i : ℕ) (v w : NodeView) → slice_get vs i ≡ Some v → w ≡ with_ends w.ends v → KeepNodes vs (set vs i w)
keeps_one vs i v w at e = record {
  count = length-set vs i w;
  each = λ n u x f g. by_eq n i
      (λ s.
      let xe : w ≡ x = same_Some w x (sym (get_set_same vs i w (slice_get_within vs i v at)) ∙ subst (λ k. slice_get (set vs i w) k ≡ Some x) s g) in
      let ue : v ≡ u = same_Some v u (sym at ∙ subst (λ k. slice_get vs k ≡ Some u) s f) in
      sym xe ∙ e ∙ ap (λ (z : NodeView). with_ends z.ends v) xe ∙ ap (with_ends x.ends) ue)
      (λ ne. (keeps_all vs).each n u x f (sym (get_set_other vs n i w ne) ∙ g));
}

pub take_all : {A : Type 0} (xs : List A) (k : ℕ) → length xs ≤ k → take k xs ≡ xs
take_all [] zero l = refl
take_all [] (suc k) l = refl
take_all (x ∷ xs) zero l = absurd (omega arith)
take_all (x ∷ xs) (suc k) l = ap (λ ys. x ∷ ys) (take_all xs k (omega arith))
