-- The item at a place of lists that follow one another, and how many there are.
use Rattle.std.proofs.Common.{◌≡◌, ◌≢◌, ℕ, zero, suc, ◌+◌, ◌-◌, ◌*◌, ◌/◌, ◌%◌, ◌^◌, ◌<◌, ◌≤◌, List, [], ◌∷◌, ◌++◌, length, map, drop, Option, Some, None, Bool, true, false, cond, eqb, refl, sym, ap, ◌∙◌, subst, arith, length-append}
use Rattle.std.specs.Prelude.{filter, flat_map, slice_get, not, nat_lt, ◌==◌, min}
use Rattle.slot_space.specs.Sets.{run}
use Rattle.slot_space.specs.declared.names.Tid.{Tid}
use Rattle.run_trace.specs.declared.entry.Act.{Act}
use Rattle.run_trace.specs.declared.entry.Act.TheVariants.{Move, Run}
use Rattle.run_trace.specs.Program.{nodes_of}
use Rattle.node_loop.specs.View.{NodeView}
use Rattle.node_loop.specs.Turns.{can}
use Rattle.cluster.specs.Between.{acts_by, acts_from, moves_among, moves_by, run_on}
use Rattle.cluster.specs.Choosing.{IsCapped, listed_moves, other_at}
use Rattle.std.proofs.Math.Nat.{add-div_right, div-eq_of_lt, mod-eq_of_lt, mod-eq-sub-mod, mod-lt, mul-zero, zero-mul, suc-mul}
use Rattle.std.proofs.lemmas.Bool.{ne_eqb, eqb-true, eqb-false, ltb-true, ltb-false, lt-ltb}
use Rattle.std.proofs.lemmas.List.{drop_all, length-map}
use Rattle.std.proofs.lemmas.Option.{slice_get-map, slice_get_past}
use Rattle.std.specs.Option.{option_map}
use Rattle.node_state.specs.Listed.{listed}
use Rattle.cluster.proofs.Lists.{act_first, act_passed, run_more, run_none}

-- ## One list after another

pub in_first : {A : Type 0} (xs ys : List A) (k : ℕ) → k < length xs → slice_get (xs ++ ys) k ≡ slice_get xs k
in_first [] ys k l = absurd (omega (arith, l))
in_first (x ∷ xs) ys zero l = refl
in_first (x ∷ xs) ys (suc k) l = in_first xs ys k (omega (arith, l))

pub in_second : {A : Type 0} (xs ys : List A) (k : ℕ) → length xs ≤ k → slice_get (xs ++ ys) k ≡ slice_get ys (k - length xs)
in_second [] ys k l = let e : k - 0 ≡ k = omega arith in ap (slice_get ys) (sym e)
in_second (x ∷ xs) ys zero l = absurd (omega (arith, l))
in_second (x ∷ xs) ys (suc k) l = let e : suc k - suc (length xs) ≡ k - length xs = omega arith in in_second xs ys k (omega (arith, l)) ∙ ap (slice_get ys) (sym e)

pub drop_item : {A : Type 0} (xs : List A) (i : ℕ) (x : A) → slice_get xs i ≡ Some x → drop i xs ≡ x ∷ drop (suc i) xs
drop_item {A} [] i x e = absurd (let none : slice_get {X = A} [] i ≡ None = refl in cc (none, e))
drop_item (y ∷ ys) zero x e = let s : y ≡ x = cc e in ap (λ z. z ∷ ys) s
drop_item (y ∷ ys) (suc i) x e = drop_item ys i x e

-- ## Numbers that are capped

pub capped_sum : (a b x y : ℕ) → IsCapped a x → IsCapped b y → IsCapped (min (a + b) (2 ^ 64 - 1)) (x + y)
capped_sum a b x y p q = omega (arith, p, q)

pub capped_small : (x : ℕ) → x < 2 ^ 64 → IsCapped x x
capped_small x l = omega (arith, l)

pub below_cap : (a x k : ℕ) → IsCapped a x → k < a → k < x
below_cap a x k p l = omega (arith, p, l)

pub past_cap : (a x k : ℕ) → IsCapped a x → a ≤ k → k < 2 ^ 32 → a ≡ x
past_cap a x k p l s = omega (arith, p, l, s)

pub capped_item : (a b x y : ℕ) → IsCapped a x → b ≡ y → y < 2 ^ 64 → IsCapped (min (b + a) (2 ^ 64 - 1)) (y + x)
capped_item a b x y p q l = omega (arith, p, q)

-- ## All numbers of a run but one

abbrev but : ℕ → List ℕ → List ℕ
but n tos = filter (λ to. not (to == n)) tos

all_others : (n s c : ℕ) → n < s → but n (run s c) ≡ run s c
unfolding run
all_others n s zero l = refl
all_others n s (suc c) l =
    ap (λ b. cond (not b) (s ∷ but n (run (suc s) c)) (but n (run (suc s) c))) (ne_eqb s n (λ e. absurd (omega (arith, e, l))))
    ∙ ap (λ tos. s ∷ tos) (all_others n (suc s) c (omega (arith, l)))

run_get : (s c k : ℕ) → k < c → slice_get (run s c) k ≡ Some (s + k)
unfolding run
run_get s zero k l = absurd (omega (arith, l))
run_get s (suc c) zero l = let e : s + 0 ≡ s = omega arith in ap (λ (i : ℕ). Some i) (sym e)
run_get s (suc c) (suc k) l = let e : suc s + k ≡ s + suc k = omega arith in run_get (suc s) c k (omega (arith, l)) ∙ ap (λ (i : ℕ). Some i) e

run_length : (s c : ℕ) → length (run s c) ≡ c
unfolding run
run_length s zero = refl
run_length s (suc c) = ap suc (run_length (suc s) c)

others_length : (n s c : ℕ) → s ≤ n → n < s + c → suc (length (but n (run s c))) ≡ c
unfolding run
others_length n s zero l h = absurd (omega (arith, l, h))
others_length n s (suc c) l h = by (eqb s n) refl (λ g. others_length n (suc s) c g (omega (arith, h)))
  where
    by : (b : Bool) → eqb s n ≡ b → (suc s ≤ n → suc (length (but n (run (suc s) c))) ≡ c) → suc (length (cond (not b) (s ∷ but n (run (suc s) c)) (but n (run (suc s) c)))) ≡ suc c
    by true e more = let f = eqb-true s n e in ap (λ tos. suc (length tos)) (all_others n (suc s) c (omega (arith, f))) ∙ ap suc (run_length (suc s) c)
    by false e more = let f = eqb-false s n e in ap suc (more (omega (arith, l, f)))

others_get : (n s c k : ℕ) → s ≤ n → n < s + c → suc k < c → slice_get (but n (run s c)) k ≡ Some (other_at n (s + k))
unfolding run
others_get n s zero k l h i = absurd (omega (arith, i))
others_get n s (suc c) k l h i = by (eqb s n) refl k i (λ g j m. others_get n (suc s) c j g (omega (arith, h)) m)
  where
    here : (k : ℕ) → s ≡ n → Some (suc s + k) ≡ Some (other_at n (s + k))
    here k e = at (nat_lt (s + k) n) refl
      where
        at : (b : Bool) → nat_lt (s + k) n ≡ b → Some (suc s + k) ≡ Some (cond b (s + k) (suc (s + k)))
        at true g = absurd (let h = ltb-true (s + k) n g in omega (arith, e, h))
        at false g = let z : suc s + k ≡ suc (s + k) = omega arith in ap (λ (i : ℕ). Some i) z

    by : (b : Bool) → eqb s n ≡ b → (k : ℕ) → suc k < suc c → (suc s ≤ n → (j : ℕ) → suc j < c → slice_get (but n (run (suc s) c)) j ≡ Some (other_at n (suc s + j)))
        → slice_get (cond (not b) (s ∷ but n (run (suc s) c)) (but n (run (suc s) c))) k ≡ Some (other_at n (s + k))
    by true e k i more = ap (λ tos. slice_get tos k) (all_others n (suc s) c (let f = eqb-true s n e in omega (arith, f))) ∙ run_get (suc s) c k (omega (arith, i)) ∙ here k (eqb-true s n e)
    by false e zero i more =
        let f = eqb-false s n e in
        let g : nat_lt (s + 0) n ≡ true = lt-ltb (s + 0) n (omega (arith, l, f)) in
        let z : s + 0 ≡ s = omega arith in
        rw g (ap (λ (i : ℕ). Some i) (sym z))
    by false e (suc j) i more =
        let f = eqb-false s n e in
        let z : suc s + j ≡ s + suc j = omega arith in
        more (omega (arith, l, f)) j (omega (arith, i)) ∙ ap (λ m. Some (other_at n m)) z

-- ## Moves

moves_length : (n count : ℕ) (t : Tid) → n < count → length (moves_among n t (run 0 count)) ≡ count - 1
moves_length n count t l = length-map (but n (run 0 count)) (λ to. (n, Move t to)) ∙ (let e = others_length n 0 count (omega arith) (omega (arith, l)) in omega (arith, e))

moves_get : (n count k : ℕ) (t : Tid) → n < count → k < count - 1 → slice_get (moves_among n t (run 0 count)) k ≡ Some (n, Move t (other_at n k))
moves_get n count k t l h =
    let z : 0 + k ≡ k = omega arith in
    slice_get-map (λ to. (n, Move t to)) (but n (run 0 count)) k
    ∙ ap (option_map (λ to. (n, Move t to))) (others_get n 0 count k (omega arith) (omega (arith, l)) (omega (arith, h)) ∙ ap (λ m. Some (other_at n m)) z)

abbrev item_in : {A : Type 0} → (Tid → List A) → Option Tid → ℕ → Option A
item_in g None k = None
item_in g (Some t) k = slice_get (g t) k

-- where each part has m items, the item k is in part k / m, at k % m
parts_get : {A : Type 0} (m : ℕ) (g : Tid → List A) → 0 < m → ((t : Tid) → length (g t) ≡ m) → (ts : List Tid) (k : ℕ) → slice_get (flat_map g ts) k ≡ item_in g (slice_get ts (k / m)) (k % m)
parts_get m g some each [] k = refl
parts_get m g some each (t ∷ ts) k = by (nat_lt k m) refl (parts_get m g some each ts (k - m))
  where
    by : (b : Bool) → nat_lt k m ≡ b → slice_get (flat_map g ts) (k - m) ≡ item_in g (slice_get ts ((k - m) / m)) ((k - m) % m)
        → slice_get (g t ++ flat_map g ts) k ≡ item_in g (slice_get (t ∷ ts) (k / m)) (k % m)
    by true e more =
        let l : k < m = ltb-true k m e in
        let q : k / m ≡ 0 = div-eq_of_lt l in
        let r : k % m ≡ k = mod-eq_of_lt l in
        in_first (g t) (flat_map g ts) k (omega (arith, l, each t)) ∙ sym (ap (λ i. item_in g (slice_get (t ∷ ts) i) (k % m)) q ∙ ap (slice_get (g t)) r)
    by false e more =
        let l : m ≤ k = ltb-false k m e in
        let back : (k - m) + m ≡ k = omega (arith, l) in
        let q : k / m ≡ (k - m) / m + 1 = ap (λ i. i / m) (sym back) ∙ add-div_right (k - m) some in
        let s : (k - m) / m + 1 ≡ suc ((k - m) / m) = omega arith in
        let r : k % m ≡ (k - m) % m = mod-eq-sub-mod l in
        in_second (g t) (flat_map g ts) k (omega (arith, l, each t)) ∙ ap (λ z. slice_get (flat_map g ts) (k - z)) (each t) ∙ more
        ∙ sym (ap (λ i. item_in g (slice_get (t ∷ ts) i) (k % m)) (q ∙ s) ∙ ap (item_in g (slice_get ts ((k - m) / m))) r)

parts_length : {A : Type 0} (m : ℕ) (g : Tid → List A) → ((t : Tid) → length (g t) ≡ m) → (ts : List Tid) → length (flat_map g ts) ≡ length ts * m
parts_length m g each [] = sym (zero-mul m)
parts_length m g each (t ∷ ts) =
    let more = parts_length m g each ts in
    let one = each t in
    length-append (g t) (flat_map g ts) ∙ (let z = suc-mul (length ts) m in omega (arith, more, one, z))

moves_many : (v : NodeView) (count : ℕ) → v.me < count → nodes_of v.program ≡ count → length (moves_by v) ≡ length (listed v.state) * (count - 1)
moves_many v count l e =
    ap (λ z. length (flat_map (λ t. moves_among v.me t (run 0 z)) (listed v.state))) e
    ∙ parts_length (count - 1) (λ t. moves_among v.me t (run 0 count)) (λ t. moves_length v.me count t l) (listed v.state)

no_moves : (v : NodeView) (count place : ℕ) → v.me < count → nodes_of v.program ≡ count → count - 1 ≡ 0 → slice_get (moves_by v) place ≡ None
no_moves v count place l e z =
    slice_get_past (moves_by v) place (let n = moves_many v count l e ∙ ap (λ m. length (listed v.state) * m) z in let o : length (listed v.state) * 0 ≡ 0 = mul-zero (length (listed v.state)) in omega (arith, n, o))

move_is : (v : NodeView) (count place : ℕ) (o : Option Tid) → v.me < count → nodes_of v.program ≡ count → 0 < count - 1 → o ≡ slice_get (listed v.state) (place / (count - 1))
    → slice_get (moves_by v) place ≡ item_in (λ t. moves_among v.me t (run 0 count)) o (place % (count - 1))
move_is v count place o l e some is =
    ap (λ z. slice_get (flat_map (λ t. moves_among v.me t (run 0 z)) (listed v.state)) place) e
    ∙ parts_get (count - 1) (λ t. moves_among v.me t (run 0 count)) some (λ t. moves_length v.me count t l) (listed v.state) place
    ∙ ap (λ z. item_in (λ t. moves_among v.me t (run 0 count)) z (place % (count - 1))) (sym is)

move_to : (v : NodeView) (count place : ℕ) (o : Option Tid) (t : Tid) → v.me < count → nodes_of v.program ≡ count → 0 < count - 1 → o ≡ slice_get (listed v.state) (place / (count - 1)) → o ≡ Some t
    → Some (v.me, Move t (other_at v.me (place % (count - 1)))) ≡ slice_get (moves_by v) place
move_to v count place o t l e some is h =
    sym (move_is v count place o l e some is ∙ ap (λ z. item_in (λ t. moves_among v.me t (run 0 count)) z (place % (count - 1))) h
    ∙ moves_get v.me count (place % (count - 1)) t l (mod-lt place some))

move_none : (v : NodeView) (count place : ℕ) (o : Option Tid) → v.me < count → nodes_of v.program ≡ count → 0 < count - 1 → o ≡ slice_get (listed v.state) (place / (count - 1)) → o ≡ None
    → None ≡ slice_get (moves_by v) place
move_none v count place o l e some is h = sym (move_is v count place o l e some is ∙ ap (λ z. item_in (λ t. moves_among v.me t (run 0 count)) z (place % (count - 1))) h)

abbrev at_listed : Bool → NodeView → ℕ → Option (ℕ × Act)
at_listed moves v place = slice_get (listed_moves moves v) place

pub moves_counted : (moves : Bool) (v : NodeView) (count ready others product : ℕ) → moves ≡ true → v.me < count → nodes_of v.program ≡ count → ready ≡ length (listed v.state) → others ≡ count - 1
    → product ≡ min (ready * others) (2 ^ 64 - 1) → IsCapped product (length (listed_moves moves v))
moves_counted moves v count ready others product m l e r h p =
    p ∙ ap (λ z. min z (2 ^ 64 - 1)) (ap (λ z. z * others) r ∙ ap (λ z. length (listed v.state) * z) h ∙ sym (moves_many v count l e) ∙ ap (λ b. length (listed_moves b v)) (sym m))

pub none_at : (moves : Bool) (v : NodeView) (count others place : ℕ) → moves ≡ true → v.me < count → nodes_of v.program ≡ count → others ≡ count - 1 → others ≡ 0 → None ≡ at_listed moves v place
none_at moves v count others place m l e h z = sym (ap (λ b. at_listed b v place) m ∙ no_moves v count place l e (sym h ∙ z))

pub past_names : (moves : Bool) (v : NodeView) (count others place : ℕ) (o : Option Tid) → moves ≡ true → v.me < count → nodes_of v.program ≡ count → others ≡ count - 1 → others ≢ 0
    → o ≡ slice_get (listed v.state) (place / others) → o ≡ None → None ≡ at_listed moves v place
past_names moves v count others place o m l e h some is none =
    move_none v count place o l e (omega (arith, h, some)) (is ∙ ap (λ z. slice_get (listed v.state) (place / z)) h) none ∙ ap (λ b. at_listed b v place) (sym m)

pub moved_at : (moves : Bool) (v : NodeView) (count others place me to : ℕ) (o : Option Tid) (t : Tid) → moves ≡ true → v.me < count → nodes_of v.program ≡ count → others ≡ count - 1 → others ≢ 0
    → o ≡ slice_get (listed v.state) (place / others) → o ≡ Some t → me ≡ v.me → to ≡ other_at me (place % others) → Some (me, Move t to) ≡ at_listed moves v place
moved_at moves v count others place me to o t m l e h some is it own there =
    ap (λ z. Some (me, Move t z)) (there ∙ ap (λ z. other_at me (place % z)) h) ∙ ap (λ z. Some (z, Move t (other_at z (place % (count - 1))))) own
    ∙ move_to v count place o t l e (omega (arith, h, some)) (is ∙ ap (λ z. slice_get (listed v.state) (place / z)) h) it ∙ ap (λ b. at_listed b v place) (sym m)

-- ## Acts that the node can do, of those with the numbers that are left

abbrev acts_left : NodeView → (ℕ → Act) → ℕ → ℕ → List (ℕ × Act)
acts_left v act i n = acts_from v act (run i (n - i))

none_after : (v : NodeView) (act : ℕ → Act) (i n : ℕ) → n ≤ i → acts_left v act i n ≡ []
none_after v act i n l = ap (acts_from v act) (run_none i n l)

pub count_act : (v : NodeView) (act : ℕ → Act) (i n known all : ℕ) → i < n → can v (act i) ≡ true → known + length (acts_left v act i n) ≡ all → known + 1 + length (acts_left v act (i + 1) n) ≡ all
count_act v act i n known all l e k = let h = ap (λ (xs : List (ℕ × Act)). length xs) (act_first v act i n l e) in omega (arith, h, k)

pub count_no_act : (v : NodeView) (act : ℕ → Act) (i n known all : ℕ) → i < n → can v (act i) ≡ false → known + length (acts_left v act i n) ≡ all → known + length (acts_left v act (i + 1) n) ≡ all
count_no_act v act i n known all l e k = ap (λ (xs : List (ℕ × Act)). known + length xs) (sym (act_passed v act i n l e)) ∙ k

pub count_all_acts : (v : NodeView) (act : ℕ → Act) (i n known all : ℕ) → n ≤ i → known + length (acts_left v act i n) ≡ all → known ≡ all
count_all_acts v act i n known all l k = let h = ap (λ (xs : List (ℕ × Act)). length xs) (none_after v act i n l) in omega (arith, h, k)

pub act_here : (v : NodeView) (act : ℕ → Act) (i n left me : ℕ) (more : List (ℕ × Act)) (it : Option (ℕ × Act)) → i < n → can v (act i) ≡ true → left ≡ 0 → me ≡ v.me
    → slice_get (acts_left v act i n ++ more) left ≡ it → Some (me, act i) ≡ it
act_here v act i n left me more it l e z m k =
    ap (λ (u : ℕ). Some (u, act i)) m ∙ sym (ap (λ xs. slice_get (xs ++ more) left) (act_first v act i n l e) ∙ ap (slice_get ((v.me, act i) ∷ acts_left v act (i + 1) n ++ more)) z) ∙ k

pub run_here : (v : NodeView) (i n left me quantum : ℕ) (more : List (ℕ × Act)) (it : Option (ℕ × Act)) → i < n → can v (run_on v i) ≡ true → left ≡ 0 → me ≡ v.me → quantum ≡ v.program.setup.quantum
    → slice_get (acts_left v (run_on v) i n ++ more) left ≡ it → Some (me, Run i quantum) ≡ it
run_here v i n left me quantum more it l e z m q k = ap (λ (x : ℕ). Some (me, Run i x)) q ∙ act_here v (run_on v) i n left me more it l e z m k

pub act_later : (v : NodeView) (act : ℕ → Act) (i n left : ℕ) (more : List (ℕ × Act)) (it : Option (ℕ × Act)) → i < n → can v (act i) ≡ true → left ≢ 0
    → slice_get (acts_left v act i n ++ more) left ≡ it → slice_get (acts_left v act (i + 1) n ++ more) (left - 1) ≡ it
act_later v act i n left more it l e z k =
    let s : left ≡ suc (left - 1) = omega (arith, z) in
    sym (ap (λ xs. slice_get (xs ++ more) left) (act_first v act i n l e) ∙ ap (slice_get ((v.me, act i) ∷ acts_left v act (i + 1) n ++ more)) s) ∙ k

pub no_act : (v : NodeView) (act : ℕ → Act) (i n left : ℕ) (more : List (ℕ × Act)) (it : Option (ℕ × Act)) → i < n → can v (act i) ≡ false
    → slice_get (acts_left v act i n ++ more) left ≡ it → slice_get (acts_left v act (i + 1) n ++ more) left ≡ it
no_act v act i n left more it l e k = ap (λ xs. slice_get (xs ++ more) left) (sym (act_passed v act i n l e)) ∙ k

pub past_acts : (v : NodeView) (act : ℕ → Act) (i n left : ℕ) (more : List (ℕ × Act)) (it found : Option (ℕ × Act)) → n ≤ i → found ≡ slice_get more left
    → slice_get (acts_left v act i n ++ more) left ≡ it → found ≡ it
past_acts v act i n left more it found l f k = f ∙ sym (ap (λ xs. slice_get (xs ++ more) left) (none_after v act i n l)) ∙ k

-- ## Through all nodes

-- so many acts were counted, of the first nodes
pub record HasCounted (moves : Bool) (nodes : List NodeView) (i total : ℕ) : Type 0 where
  pub number : ℕ
  pub capped : IsCapped total number
  pub all : number + length (flat_map (acts_by moves) (drop i nodes)) ≡ length (flat_map (acts_by moves) nodes)

left_of : (moves : Bool) (nodes : List NodeView) (i : ℕ) (v : NodeView) → slice_get nodes i ≡ Some v → flat_map (acts_by moves) (drop i nodes) ≡ acts_by moves v ++ flat_map (acts_by moves) (drop (i + 1) nodes)
left_of moves nodes i v at = let e : suc i ≡ i + 1 = omega arith in ap (flat_map (acts_by moves)) (drop_item nodes i v at) ∙ ap (λ k. acts_by moves v ++ flat_map (acts_by moves) (drop k nodes)) e

pub counted_more : (moves : Bool) (nodes : List NodeView) (i total count : ℕ) (v : NodeView) → HasCounted moves nodes i total → slice_get nodes i ≡ Some v → IsCapped count (length (acts_by moves v))
    → HasCounted moves nodes (i + 1) (min (total + count) (2 ^ 64 - 1))
counted_more moves nodes i total count v h at capped = record {
  number = h.number + length (acts_by moves v);
  capped = capped_sum total count h.number (length (acts_by moves v)) h.capped capped;
  all = (let e = ap (λ (xs : List (ℕ × Act)). length xs) (left_of moves nodes i v at) ∙ length-append (acts_by moves v) (flat_map (acts_by moves) (drop (i + 1) nodes)) in let a = h.all in omega (arith, e, a));
}

pub none_counted : (moves : Bool) (nodes : List NodeView) → HasCounted moves nodes 0 0
none_counted moves nodes = record { number = 0; capped = capped_small 0 (omega arith); all = omega arith }

pub counted_all : (moves : Bool) (nodes : List NodeView) (i total : ℕ) → HasCounted moves nodes i total → length nodes ≤ i → IsCapped total (length (flat_map (acts_by moves) nodes))
counted_all moves nodes i total h l =
    let e = ap (λ (vs : List NodeView). length (flat_map (acts_by moves) vs)) (drop_all i nodes l) in
    let a = h.all in
    let c = h.capped in
    omega (arith, e, a, c)

pub found_here : (moves : Bool) (nodes : List NodeView) (i left count : ℕ) (v : NodeView) (it found : Option (ℕ × Act)) → slice_get nodes i ≡ Some v → IsCapped count (length (acts_by moves v)) → left < count
    → found ≡ slice_get (acts_by moves v) left → slice_get (flat_map (acts_by moves) (drop i nodes)) left ≡ it → found ≡ it
found_here moves nodes i left count v it found at capped l f k =
    f ∙ sym (ap (λ xs. slice_get xs left) (left_of moves nodes i v at) ∙ in_first (acts_by moves v) _ left (below_cap count (length (acts_by moves v)) left capped l)) ∙ k

pub found_later : (moves : Bool) (nodes : List NodeView) (i left count : ℕ) (v : NodeView) (it : Option (ℕ × Act)) → slice_get nodes i ≡ Some v → IsCapped count (length (acts_by moves v)) → count ≤ left → left < 2 ^ 32
    → slice_get (flat_map (acts_by moves) (drop i nodes)) left ≡ it → slice_get (flat_map (acts_by moves) (drop (i + 1) nodes)) (left - count) ≡ it
found_later moves nodes i left count v it at capped l s k =
    let e = past_cap count (length (acts_by moves v)) left capped l s in
    ap (λ z. slice_get (flat_map (acts_by moves) (drop (i + 1) nodes)) (left - z)) e
    ∙ sym (ap (λ xs. slice_get xs left) (left_of moves nodes i v at) ∙ in_second (acts_by moves v) _ left (omega (arith, e, l))) ∙ k

-- a word is chosen by the capped number as by the number itself
pub word_same : (total number word : ℕ) → IsCapped total number → word < 2 ^ 32 → word % total ≡ word % number
word_same total number word c l = by (nat_lt number (2 ^ 64)) refl
  where
    by : (b : Bool) → nat_lt number (2 ^ 64) ≡ b → word % total ≡ word % number
    by true e = let f = ltb-true number (2 ^ 64) e in ap (λ z. word % z) (omega (arith, c, f))
    by false e =
        let f = ltb-false number (2 ^ 64) e in
        mod-eq_of_lt {n = word} {m = total} (omega (arith, c, f, l)) ∙ sym (mod-eq_of_lt {n = word} {m = number} (omega (arith, f, l)))
