-- The heap slots and the met ones as sets, through the loops and the calls that change them.
use Rattle.std.proofs.Common.{refl, subst, sym, ◌∙◌, ◌≡◌, ℕ, ◌+◌, ◌-◌, ◌<◌, ◌≤◌, Bool, true, false, List, [], ◌∷◌, arith, ⊎_elim, cond, not, ◌&&◌, Some, None, Option, eqb}
use Rattle.std.specs.Prelude.{nat_lt, nat_le}
use Rattle.std.specs.List.{filter}
use Rattle.std.proofs.lemmas.Bool.Decides.{nat_tests}
use Rattle.std.proofs.lemmas.Bool.{false≢true, lt-ltb, le-ltb, eq-eqb, ne_eqb, cases_lt, cases_eq}
use Rattle.slot_space.specs.Sets.{has, insert, union, minus, run, least_from, IsAscending}
use Rattle.slot_space.specs.WordsBack.{has-run}
use Rattle.slot_space.proofs.Lemmas.{has-insert, has-union, has-minus, ascending-insert, ascending-union, ascending-run, ascending-minus, same_members, least_from-found}

-- a set without the members of another, by the test that the other answers
pub minus-filter : (p : ℕ → Bool) (xs ys : List ℕ) → ((s : ℕ) → has s ys ≡ p s) → minus xs ys ≡ filter (λ s. not (p s)) xs
unfolding minus
minus-filter p [] ys h = refl
minus-filter p (x ∷ xs) ys h = rw (h x, minus-filter p xs ys h) (keeps (p x) x (filter (λ s. not (p s)) xs))
  where
    keeps : (b : Bool) (x : ℕ) (r : List ℕ) → cond b r (x ∷ r) ≡ cond (not b) (x ∷ r) r
    keeps true x r = refl
    keeps false x r = refl

-- who is left when a run goes
pub has-minus_run : (s from end : ℕ) (xs : List ℕ) → from < end → has s (minus xs (run from (end - from))) ≡ (has s xs && not (nat_le from s && nat_lt s end))
has-minus_run s from end xs h =
    let up : from + (end - from) ≡ end = omega arith in
    rw (has-minus s xs (run from (end - from)), has-run s from (end - from), up) (tests (has s xs) s from end)
  where
    tests : (b : Bool) (s from end : ℕ) → cond (cond (nat_lt s from) false (nat_lt s end)) false b ≡ (b && not (nat_le from s && nat_lt s end))
    tests true s from end = grind (arith, nat_tests)
    tests false s from end = grind (arith, nat_tests)

-- no slot stands in an empty range
pub none_between : (s from end : ℕ) → end ≤ from → (nat_le from s && nat_lt s end) ≡ false
none_between s from end h = grind (arith, nat_tests)

-- a run with one more slot at its end
pub union-run_more : (xs : List ℕ) (first k : ℕ) → IsAscending xs → insert (first + k) (union xs (run first k)) ≡ union xs (run first (k + 1))
union-run_more xs first k up = same_members _ _
    (ascending-insert (first + k) (union xs (run first k)) (ascending-union xs (run first k) (ascending-run first k)))
    (ascending-union xs (run first (k + 1)) (ascending-run first (k + 1)))
    (λ s. rw (has-insert (first + k) s (union xs (run first k)), has-union s xs (run first k), has-union s xs (run first (k + 1)), has-run s first k, has-run s first (k + 1))
    (tests (has s xs) s first k))
  where
    tests : (b : Bool) (s first k : ℕ) → cond (eqb (first + k) s) true (cond b true (cond (nat_lt s first) false (nat_lt s (first + k))))
        ≡ cond b true (cond (nat_lt s first) false (nat_lt s (first + (k + 1))))
    tests true s first k = grind (arith, nat_tests)
    tests false s first k = grind (arith, nat_tests)

pub union-run_none : (xs : List ℕ) (first : ℕ) → IsAscending xs → union xs (run first 0) ≡ xs
unfolding run
union-run_none xs first up = same_members _ _ (ascending-union xs [] tt) up (λ s. has-union s xs [] ∙ either (has s xs))
  where
    either : (b : Bool) → cond b true false ≡ b
    either true = refl
    either false = refl

-- the set that a loop has left: the old one without the members of another below a slot
abbrev pub IsLeft : ℕ → List ℕ → List ℕ → List ℕ → Type 0
IsLeft from gone old new = (t : ℕ) → has t new ≡ cond (has t gone && nat_lt t from) false (has t old)

pub left_none : (gone old : List ℕ) → IsLeft 0 gone old old
left_none gone old t = elim (has t gone) as (λ b. has t old ≡ cond (b && nat_lt t 0) false (has t old)) [ true ↦ rw (le-ltb t 0 (omega arith)) refl | false ↦ refl ]

-- the least member from a slot on has none of the others before it
least_first : (from s t : ℕ) (xs : List ℕ) → IsAscending xs → least_from from xs ≡ Some s → has t xs ≡ true → from ≤ t → s ≤ t
unfolding least_from
least_first from s t [] up e h le = absurd (false≢true h)
least_first from s t (x ∷ xs) up e h le =
    ⊎_elim (λ i. least_first from s t xs up.1 (rw (lt-ltb x from i) at e) (rw (ne_eqb x t (λ j. omega (arith, i, j, le))) at h) le)
    (λ i. let f : Some x ≡ Some s = rw (le-ltb x from i) at e in let g : x ≡ s = cc in
    ⊎_elim (λ j. omega (arith, j, g)) (λ j. let later = up.0 t (rw (ne_eqb x t j) at h) in omega (arith, later, g)) (cases_eq x t))
    (cases_lt x from)

least_none : (from t : ℕ) (xs : List ℕ) → least_from from xs ≡ None → has t xs ≡ true → t < from
unfolding least_from
least_none from t [] e h = absurd (false≢true h)
least_none from t (x ∷ xs) e h =
    ⊎_elim (λ i. ⊎_elim (λ j. omega (arith, i, j)) (λ j. least_none from t xs (rw (lt-ltb x from i) at e) (rw (ne_eqb x t j) at h)) (cases_eq x t))
    (λ i. let f : Some x ≡ None = rw (le-ltb x from i) at e in absurd (cc f))
    (cases_lt x from)

pub left_more : (from s : ℕ) (gone old new : List ℕ) → IsAscending gone → least_from from gone ≡ Some s → IsLeft from gone old new → IsLeft (s + 1) gone old (minus new (s ∷ []))
left_more from s gone old new up e h t =
    rw (has-minus t new (s ∷ []), h t)
    (⊎_elim (λ i. rw (eq-eqb s t i, sym i, (least_from-found from s gone e).1, lt-ltb s (s + 1) (omega arith)) refl)
    (λ i. rw (ne_eqb s t i) (same t (has t gone) (has t old) (λ g. below t i g)))
    (cases_eq s t))
  where
    same : (t : ℕ) (g b : Bool) → (g ≡ true → nat_lt t from ≡ nat_lt t (s + 1)) → cond (g && nat_lt t from) false b ≡ cond (g && nat_lt t (s + 1)) false b
    same t true b k = rw (k refl) refl
    same t false b k = refl

    below : (t : ℕ) → (s ≡ t → ⊥) → has t gone ≡ true → nat_lt t from ≡ nat_lt t (s + 1)
    below t i g = ⊎_elim (λ j. rw (lt-ltb t from j, lt-ltb t (s + 1) (omega (arith, j, (least_from-found from s gone e).0))) refl)
        (λ j. let least = least_first from s t gone up e g j in rw (le-ltb t from j, le-ltb t (s + 1) (omega (arith, least, i))) refl)
        (cases_lt t from)

-- a member that the loop comes to is still there
pub left_there : (from s : ℕ) (gone old new : List ℕ) → least_from from gone ≡ Some s → IsLeft from gone old new → has s old ≡ true → has s new ≡ true
left_there from s gone old new e h there = h s ∙ rw (le-ltb s from (least_from-found from s gone e).0, there) (pass (has s gone))
  where
    pass : (g : Bool) → cond (g && false) false true ≡ true
    pass true = refl
    pass false = refl

-- at the loop's end all of them are gone
pub left_all : (from : ℕ) (gone old new : List ℕ) → IsAscending old → IsAscending new → least_from from gone ≡ None → IsLeft from gone old new → new ≡ minus old gone
left_all from gone old new upo upn e h = same_members new (minus old gone) upn (ascending-minus old gone upo)
    (λ t. h t ∙ sym (has-minus t old gone ∙ all t (has t gone) (has t old) (λ g. lt-ltb t from (least_none from t gone e g))))
  where
    all : (t : ℕ) (g b : Bool) → (g ≡ true → nat_lt t from ≡ true) → cond g false b ≡ cond (g && nat_lt t from) false b
    all t true b k = rw (k refl) refl
    all t false b k = refl

-- an answer that is no member is none
pub no_more : (r : Option ℕ) → ((s : ℕ) → r ≡ Some s → ⊥) → r ≡ None
no_more None h = refl
no_more (Some s) h = absurd (h s refl)

-- who is in a set without the members of another
pub in_minus : (s : ℕ) (xs ys : List ℕ) → has s (minus xs ys) ≡ true → (has s xs ≡ true) × (has s ys ≡ false)
in_minus s xs ys e = both (has s ys) (has s xs) (sym (has-minus s xs ys) ∙ e)
  where
    both : (g b : Bool) → cond g false b ≡ true → (b ≡ true) × (g ≡ false)
    both true b h = absurd (false≢true h)
    both false b h = (h, refl)

-- the set that a loop has made so far: the members of another below a slot
abbrev pub IsTaken : ℕ → List ℕ → List ℕ → Type 0
IsTaken from all new = (t : ℕ) → has t new ≡ (has t all && nat_lt t from)

pub taken_none : (all : List ℕ) → IsTaken 0 all []
taken_none all t = elim (has t all) as (λ b. false ≡ (b && nat_lt t 0)) [ true ↦ sym (le-ltb t 0 (omega arith)) | false ↦ refl ]

pub taken_more : (from s : ℕ) (all new : List ℕ) → IsAscending all → least_from from all ≡ Some s → IsTaken from all new → IsTaken (s + 1) all (union new (run s 1))
taken_more from s all new up e h t =
    rw (has-union t new (run s 1), has-run t s 1, h t) (tests (has t all) t from s (least_from-found from s all e).0
    (λ i. let P : ℕ → Type 0 = λ t. has t all ≡ true in subst P i (least_from-found from s all e).1)
    (λ g le. least_first from s t all up e g le))
  where
    tests : (g : Bool) (t from s : ℕ) → from ≤ s → (s ≡ t → g ≡ true) → (g ≡ true → from ≤ t → s ≤ t)
        → cond (g && nat_lt t from) true (cond (nat_lt t s) false (nat_lt t (s + 1))) ≡ (g && nat_lt t (s + 1))
    tests true t from s le m k = ⊎_elim (λ i. rw (lt-ltb t from i, lt-ltb t (s + 1) (omega arith)) refl)
        (λ i. let least = k refl i in rw (le-ltb t from i, le-ltb t s least) refl) (cases_lt t from)
    tests false t from s le m k = ⊎_elim (λ i. rw (lt-ltb t s i) refl)
        (λ i. ⊎_elim (λ j. absurd (false≢true (m (omega arith)))) (λ j. rw (le-ltb t s i, le-ltb t (s + 1) j) refl) (cases_lt t (s + 1))) (cases_lt t s)

pub taken_all : (from : ℕ) (all new : List ℕ) → IsAscending all → IsAscending new → least_from from all ≡ None → IsTaken from all new → new ≡ all
taken_all from all new upa upn e h = same_members new all upn upa (λ t. h t ∙ whole t (has t all) (λ g. lt-ltb t from (least_none from t all e g)))
  where
    whole : (t : ℕ) (g : Bool) → (g ≡ true → nat_lt t from ≡ true) → (g && nat_lt t from) ≡ g
    whole t true k = k refl
    whole t false k = refl
