-- What is at hand at a decision, and what becomes of it.
use Rattle.std.proofs.Common.{◌≡◌, ℕ, ◌+◌, ◌<◌, ◌≤◌, suc, List, [], ◌∷◌, Option, Some, None, Bool, true, false, ◌||◌, cond, length, get_or, drop, refl, sym, ap, ◌∙◌, drop-cons, arith}
use Rattle.std.proofs.Math.ListN.{drop_of_length-le}
use Rattle.std.specs.List.{list_any}
use Rattle.std.specs.Prelude.{map}
use Rattle.slot_space.specs.Limits.{slot_limit}
use Rattle.slot_space.specs.Sets.{has, run, lowest_run, union}
use Rattle.slot_space.proofs.Lemmas.{has-minus, has-union, found}
use Rattle.negotiate.specs.Runs.{without}
use Rattle.negotiate.specs.Buying.{hand, is_in_one, times, parts, loans_in}

-- ## No slot is lost

times-whole : (s count : ℕ) (sets : List (List ℕ)) → times s (map (without None count) sets) ≡ times s sets
times-whole s count [] = refl
times-whole s count (set ∷ sets) = ap (λ n. cond (has s set) 1 0 + n) (times-whole s count sets)

times-without : (s first count : ℕ) (sets : List (List ℕ)) → times s (map (without (Some first) count) sets) ≡ cond (has s (run first count)) 0 (times s sets)
times-without s first count [] = grind arith
times-without s first count (set ∷ sets) = grind (arith, has-minus s set (run first count), times-without s first count sets)

times-some : (s : ℕ) (sets : List (List ℕ)) → is_in_one sets s ≡ true → 1 ≤ times s sets
times-some s [] h = absurd (cc h)
times-some s (set ∷ sets) h = grind (arith, h, times-some s sets)

pub none_lost : (own : List ℕ) (loans : List (Option (List ℕ))) (first : Option ℕ) (count : ℕ)
    → ((s : ℕ) → times s (hand own loans) ≤ 1) → lowest_run (is_in_one (hand own loans)) count slot_limit ≡ first
    → (s : ℕ) → times s (parts own loans first count) ≡ times s (hand own loans)
none_lost own loans None count once e s = omega (arith, times-whole s count (hand own loans))
none_lost own loans (Some first) count once e s =
    by (has s (run first count)) refl (times-without s first count (hand own loans)) (λ h. times-some s (hand own loans) (found (is_in_one (hand own loans)) count slot_limit first s e h)) (once s)
  where
    by : (b : Bool) → has s (run first count) ≡ b → times s (map (without (Some first) count) (hand own loans)) ≡ cond (has s (run first count)) 0 (times s (hand own loans))
        → (has s (run first count) ≡ true → 1 ≤ times s (hand own loans)) → times s (hand own loans) ≤ 1
        → cond (has s (run first count)) 1 0 + times s (map (without (Some first) count) (hand own loans)) ≡ times s (hand own loans)
    by true h e some one = rw (e, h) (let least = some h in omega arith)
    by false h e some one = rw (e, h) (omega arith)

-- ## The loans, one after another

rest_at : (loans : List (Option (List ℕ))) (i : ℕ) (d loan : Option (List ℕ)) → i < length loans → get_or loans i d ≡ loan → drop i loans ≡ loan ∷ drop (i + 1) loans
rest_at loans i d loan h e =
    let next : suc i ≡ i + 1 = omega arith in
    drop-cons loans i d h ∙ ap (λ l. l ∷ drop (suc i) loans) e ∙ ap (λ k. loan ∷ drop k loans) next

-- a loan that is in joins what is together
pub joins : (own set next : List ℕ) (loans : List (Option (List ℕ))) (i : ℕ) (d : Option (List ℕ)) → i < length loans → get_or loans i d ≡ Some set → next ≡ union own set
    → (s : ℕ) → is_in_one (hand next (drop (i + 1) loans)) s ≡ is_in_one (hand own (drop i loans)) s
joins own set next loans i d h e n s =
    rw (rest_at loans i d (Some set) h e, n, has-union s own set) (by (has s own))
  where
    by : (o : Bool) → (cond o true (has s set) || list_any (has s) (loans_in (drop (i + 1) loans))) ≡ (o || (has s set || list_any (has s) (loans_in (drop (i + 1) loans))))
    by true = refl
    by false = refl

-- one that isn't changes nothing
pub passes : (own next : List ℕ) (loans : List (Option (List ℕ))) (i : ℕ) (d : Option (List ℕ)) → i < length loans → get_or loans i d ≡ None → next ≡ own
    → (s : ℕ) → is_in_one (hand next (drop (i + 1) loans)) s ≡ is_in_one (hand own (drop i loans)) s
passes own next loans i d h e n s = rw (rest_at loans i d None h e, n) refl

-- at the end all is together
pub together : (own all : List ℕ) (loans : List (Option (List ℕ))) (i : ℕ) → length loans ≤ i → ((s : ℕ) → is_in_one (hand all (drop i loans)) s ≡ is_in_one (hand own loans) s)
    → (s : ℕ) → has s all ≡ is_in_one (hand own loans) s
together own all loans i h k s = or-false (has s all) ∙ ap (λ rest. is_in_one (hand all rest) s) (sym (drop_of_length-le loans h)) ∙ k s
  where
    or-false : (b : Bool) → b ≡ (b || false)
    or-false true = refl
    or-false false = refl
