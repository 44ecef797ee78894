-- What the holes hold after some bytes are taken out or put back.
use Rattle.std.proofs.Common.{refl, ◌%◌, ◌≡◌, ℕ, ◌+◌, ◌<◌, ◌≤◌, Bool, true, false, List, [], ◌∷◌, ◌++◌, length, arith, ⊎_elim, leb, ltb, eqb, ◌||◌, ◌&&◌, not}
use Rattle.std.proofs.lemmas.Bool.Decides.{nat_tests}
use Rattle.std.proofs.lemmas.Bool.{true≢false, eq-eqb, ne_eqb, cases_eq, cases_lt, cases_Bool, le-leb, lt-leb, lt-ltb, le-ltb}
use Rattle.iso_blocks.specs.Bytes.{lies_in}
use Rattle.iso_blocks.specs.Holes.{in_holes, StandApart, AreFree, AreTaken, hole, cut, merged, join}
use Rattle.iso_blocks.proofs.Fit.{in_holes-from, AreFree-cases}

or-assoc : (a b c : Bool) → (a || (b || c)) ≡ ((a || b) || c)
or-assoc true b c = refl
or-assoc false b c = refl

or-comm : (a b : Bool) → (a || b) ≡ (b || a)
or-comm true true = refl
or-comm true false = refl
or-comm false true = refl
or-comm false false = refl

or-false : (a : Bool) → (a || false) ≡ a
or-false true = refl
or-false false = refl

or_parts : (a b : Bool) → (a || b) ≡ false → (a ≡ false) × (b ≡ false)
or_parts true b e = absurd (true≢false e)
or_parts false b e = (refl, e)

touching : (a end from b x : ℕ) (rest : Bool) → a ≤ end → end ≡ from → from < b → (lies_in a b x || rest) ≡ (lies_in a end x || (lies_in from b x || rest))
touching a end from b x true p q r = grind (arith, nat_tests)
touching a end from b x false p q r = grind (arith, nat_tests)

left_touching : (a b from end x : ℕ) (rest : Bool) → a ≤ b → b ≡ from → from < end → (lies_in a end x || rest) ≡ ((lies_in a b x || rest) || lies_in from end x)
left_touching a b from end x true p q r = grind (arith, nat_tests)
left_touching a b from end x false p q r = grind (arith, nat_tests)

-- a hole without bytes is none
pub in_holes-hole : (from end : ℕ) (holes : List (ℕ × ℕ)) (x : ℕ) → in_holes (hole from end ++ holes) x ≡ (lies_in from end x || in_holes holes x)
in_holes-hole from end holes x =
    ⊎_elim (λ i. rw (lt-ltb from end i) refl) (λ i. rw (le-ltb from end i) (let e : lies_in from end x ≡ false = grind (arith, nat_tests) in rw e refl)) (cases_lt from end)

split_hole : (a from end b x : ℕ) (rest : Bool) → a ≤ from → from < end → end ≤ b → (rest ≡ true → b < x)
    → (lies_in a from x || (lies_in end b x || rest)) ≡ ((lies_in a b x || rest) && not (lies_in from end x))
split_hole a from end b x true p q r s = let later : b < x = s refl in grind (arith, nat_tests)
split_hole a from end b x false p q r s = grind (arith, nat_tests)

keep_hole : (a b from end x : ℕ) (rest : Bool) → b ≤ from → from < end
    → (lies_in a b x || (rest && not (lies_in from end x))) ≡ ((lies_in a b x || rest) && not (lies_in from end x))
keep_hole a b from end x true p q = grind (arith, nat_tests)
keep_hole a b from end x false p q = grind (arith, nat_tests)

-- the holes without some bytes
pub in_holes-cut : (low from end : ℕ) (holes : List (ℕ × ℕ)) → from < end → StandApart low holes → AreFree holes from end → (x : ℕ)
    → in_holes (cut from end holes) x ≡ (in_holes holes x && not (lies_in from end x))
in_holes-cut low from end [] some s free x = refl
in_holes-cut low from end (h ∷ holes) some s free x =
    ⊎_elim (λ i. rw (lt-leb h.1 from (omega (arith, i.1)), in_holes-hole h.0 from (hole end h.1 ++ holes) x, in_holes-hole end h.1 holes x)
    (split_hole h.0 from end h.1 x (in_holes holes x) i.0 some i.1 (λ e. let j = in_holes-from (h.1 + 1) holes x s.3 e in omega (arith, j))))
    (λ i. rw (le-leb h.1 from i.0, in_holes-cut (h.1 + 1) from end holes some s.3 i.1 x) (keep_hole h.0 h.1 from end x (in_holes holes x) i.0 some))
    (AreFree-cases low h holes from end some s free)

StandApart-low : (low high : ℕ) (holes : List (ℕ × ℕ)) → low ≤ high → StandApart high holes → StandApart low holes
StandApart-low low high [] le s = tt
StandApart-low low high (h ∷ holes) le s = (omega (arith, s.0), s.1, s.2, s.3)

StandApart-hole : (low from end : ℕ) (holes : List (ℕ × ℕ)) → low ≤ from → from % 16 ≡ 0 → low ≤ end + 1 → StandApart (end + 1) holes → StandApart low (hole from end ++ holes)
StandApart-hole low from end holes le aligned past s =
    ⊎_elim (λ i. rw (lt-ltb from end i) (le, i, aligned, s)) (λ i. rw (le-ltb from end i) (StandApart-low low (end + 1) holes past s)) (cases_lt from end)

-- the holes without some bytes still stand apart
pub StandApart-cut : (low from end : ℕ) (holes : List (ℕ × ℕ)) → from < end → end % 16 ≡ 0 → StandApart low holes → AreFree holes from end → StandApart low (cut from end holes)
StandApart-cut low from end [] some aligned s free = tt
StandApart-cut low from end (h ∷ holes) some aligned s free =
    ⊎_elim (λ i. rw (lt-leb h.1 from (omega (arith, i.1)))
    (StandApart-hole low h.0 from (hole end h.1 ++ holes) s.0 s.2 (omega (arith, s.0, i.0))
    (StandApart-hole (from + 1) end h.1 holes (omega arith) aligned (omega (arith, i.1)) s.3)))
    (λ i. rw (le-leb h.1 from i.0) (s.0, s.1, s.2, StandApart-cut (h.1 + 1) from end holes some aligned s.3 i.1))
    (AreFree-cases low h holes from end some s free)

length-hole : (from end : ℕ) (holes : List (ℕ × ℕ)) → length (hole from end ++ holes) ≤ length holes + 1
length-hole from end holes = ⊎_elim (λ i. rw (lt-ltb from end i) (omega arith)) (λ i. rw (le-ltb from end i) (omega arith)) (cases_lt from end)

-- a cut leaves at most one more hole
pub length-cut : (from end : ℕ) (holes : List (ℕ × ℕ)) → length (cut from end holes) ≤ length holes + 1
length-cut from end [] = omega arith
length-cut from end (h ∷ holes) =
    ⊎_elim (λ e. rw e (let j = length-cut from end holes in omega (arith, j)))
    (λ e. rw e (let j = length-hole h.0 from (hole end h.1 ++ holes) in let k = length-hole end h.1 holes in omega (arith, j, k)))
    (cases_Bool (leb h.1 from))

AreTaken-behind : (h : ℕ × ℕ) (holes : List (ℕ × ℕ)) (a b : ℕ) → AreTaken (h ∷ holes) a b → AreTaken holes a b
AreTaken-behind h holes a b taken x low high = (or_parts (lies_in h.0 h.1 x) (in_holes holes x) (taken x low high)).1

-- a hole that ends behind where taken bytes begin starts behind them
starts_behind : (h : ℕ × ℕ) (holes : List (ℕ × ℕ)) (a b : ℕ) → a < b → h.0 < h.1 → a < h.1 → AreTaken (h ∷ holes) a b → b ≤ h.0
starts_behind h holes a b some less past taken =
    ⊎_elim (λ i. ⊎_elim
    (λ j. let e = (or_parts (lies_in h.0 h.1 h.0) (in_holes holes h.0) (taken h.0 (omega arith) i)).0 in absurd (grind (arith, nat_tests)))
    (λ j. let e = (or_parts (lies_in h.0 h.1 a) (in_holes holes a) (taken a (omega arith) some)).0 in absurd (grind (arith, nat_tests)))
    (cases_lt a h.0))
    (λ i. i) (cases_lt h.0 b)

StandApart-behind : (low : ℕ) (holes : List (ℕ × ℕ)) (a b : ℕ) → a < b → a < low → StandApart low holes → AreTaken holes a b → StandApart b holes
StandApart-behind low [] a b some le s taken = tt
StandApart-behind low (h ∷ holes) a b some le s taken = (starts_behind h holes a b some s.1 (omega (arith, s.0, s.1)) taken, s.1, s.2, s.3)

in_holes-merged : (low from end : ℕ) (holes : List (ℕ × ℕ)) → from ≤ end → StandApart low holes → (x : ℕ)
    → in_holes (merged from end holes) x ≡ (lies_in from end x || in_holes holes x)
in_holes-merged low from end [] le s x = refl
in_holes-merged low from end (h ∷ holes) le s x =
    ⊎_elim (λ e. rw (eq-eqb end h.0 e) (touching from end h.0 h.1 x (in_holes holes x) le e s.1)) (λ e. rw (ne_eqb end h.0 e) refl) (cases_eq end h.0)

-- the holes with some more bytes
pub in_holes-join : (low from end : ℕ) (holes : List (ℕ × ℕ)) → from < end → StandApart low holes → AreTaken holes from end → (x : ℕ)
    → in_holes (join from end holes) x ≡ (in_holes holes x || lies_in from end x)
in_holes-join low from end [] some s taken x = or-false (lies_in from end x)
in_holes-join low from end (h ∷ holes) some s taken x =
    ⊎_elim (λ i. rw (lt-ltb h.1 from i, in_holes-join (h.1 + 1) from end holes some s.3 (AreTaken-behind h holes from end taken) x)
    (or-assoc (lies_in h.0 h.1 x) (in_holes holes x) (lies_in from end x)))
    (λ i. ⊎_elim (λ e. rw (le-ltb h.1 from i, eq-eqb h.1 from e, in_holes-merged (h.1 + 1) h.0 end holes (omega (arith, s.1)) s.3 x)
    (left_touching h.0 h.1 from end x (in_holes holes x) (omega (arith, s.1)) e some))
    (λ e. rw (le-ltb h.1 from i, ne_eqb h.1 from e, in_holes-merged low from end (h ∷ holes) (omega arith) s x)
    (or-comm (lies_in from end x) (in_holes (h ∷ holes) x)))
    (cases_eq h.1 from))
    (cases_lt h.1 from)

StandApart-merged : (low from end : ℕ) (holes : List (ℕ × ℕ)) → low ≤ from → from < end → from % 16 ≡ 0 → StandApart end holes → StandApart low (merged from end holes)
StandApart-merged low from end [] le some aligned s = (le, some, aligned, tt)
StandApart-merged low from end (h ∷ holes) le some aligned s =
    ⊎_elim (λ e. rw (eq-eqb end h.0 e) (le, omega (arith, s.1, e), aligned, s.3))
    (λ e. rw (ne_eqb end h.0 e) (le, some, aligned, (omega (arith, e, s.0), s.1, s.2, s.3))) (cases_eq end h.0)

-- the holes with some more bytes still stand apart
pub StandApart-join : (low from end : ℕ) (holes : List (ℕ × ℕ)) → low ≤ from → from < end → from % 16 ≡ 0 → StandApart low holes → AreTaken holes from end
    → StandApart low (join from end holes)
StandApart-join low from end [] le some aligned s taken = (le, some, aligned, tt)
StandApart-join low from end (h ∷ holes) le some aligned s taken =
    ⊎_elim (λ i. rw (lt-ltb h.1 from i) (s.0, s.1, s.2, StandApart-join (h.1 + 1) from end holes (omega arith) some aligned s.3 (AreTaken-behind h holes from end taken)))
    (λ i. ⊎_elim (λ e. rw (le-ltb h.1 from i, eq-eqb h.1 from e)
    (StandApart-merged low h.0 end holes s.0 (omega (arith, s.1, e)) s.2
    (StandApart-behind (h.1 + 1) holes from end some (omega arith) s.3 (AreTaken-behind h holes from end taken))))
    (λ e. rw (le-ltb h.1 from i, ne_eqb h.1 from e)
    (StandApart-merged low from end (h ∷ holes) le some aligned
    (starts_behind h holes from end some s.1 (omega (arith, e)) taken, s.1, s.2, s.3)))
    (cases_eq h.1 from))
    (cases_lt h.1 from)

length-merged : (from end : ℕ) (holes : List (ℕ × ℕ)) → length (merged from end holes) ≤ length holes + 1
length-merged from end [] = omega arith
length-merged from end (h ∷ holes) = ⊎_elim (λ e. rw e (omega arith)) (λ e. rw e (omega arith)) (cases_Bool (eqb end h.0))

-- a join leaves at most one more hole
pub length-join : (from end : ℕ) (holes : List (ℕ × ℕ)) → length (join from end holes) ≤ length holes + 1
length-join from end [] = omega arith
length-join from end (h ∷ holes) =
    ⊎_elim (λ (e : ltb h.1 from ≡ true). rw e (let j = length-join from end holes in omega (arith, j)))
    (λ (e : ltb h.1 from ≡ false). ⊎_elim (λ (f : eqb h.1 from ≡ true). rw (e, f) (let j = length-merged h.0 end holes in omega (arith, j))) (λ (f : eqb h.1 from ≡ false). rw (e, f) (length-merged from end (h ∷ holes))) (cases_Bool (eqb h.1 from)))
    (cases_Bool (ltb h.1 from))
