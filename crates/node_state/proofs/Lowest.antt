-- The lowest run starts below the limit.
use Rattle.std.proofs.Common.{◌≡◌, ℕ, zero, suc, ◌+◌, ◌-◌, ◌<◌, ◌≤◌, List, Bool, true, false, Option, Some, None, IfSome, refl, sym, ◌∙◌, arith}
use Rattle.run_trace.specs.Machine.{free_run}
use Rattle.std.proofs.lemmas.Bool.Decides.{nat_tests}
use Rattle.slot_space.specs.Limits.{slot_limit}
use Rattle.slot_space.specs.Sets.{has, minus, run, has_run, lowest_from, lowest_run, IsSlotSet}
use Rattle.slot_space.proofs.Lemmas.{has-run, has-minus, found}

below : (set : ℕ → Bool) (count s left k : ℕ) → lowest_from set count s left ≡ Some k → k < s + left
unfolding lowest_from
below set count s zero k e = absurd (cc e)
below set count s (suc left) k e = by (has_run set s count) refl (below set count (suc s) left k)
  where
    by : (b : Bool) → has_run set s count ≡ b → (lowest_from set count (suc s) left ≡ Some k → k < suc s + left) → k < s + suc left
    by true h more = let f : Some s ≡ Some k = rw h at e in grind (arith, f)
    by false h more = let f : lowest_from set count (suc s) left ≡ Some k = rw h at e in let lt = more f in omega arith

pub lowest_below : (set : ℕ → Bool) (count limit k : ℕ) → lowest_run set count limit ≡ Some k → k < limit
unfolding lowest_run
lowest_below set count limit k e = let lt = below set count 0 limit k e in omega arith

-- a run of members below the limit ends there
pub run_within : (own : List ℕ) (count first : ℕ) → IsSlotSet own → 1 ≤ count → lowest_run (λ s. has s own) count slot_limit ≡ Some first → first + count ≤ slot_limit
run_within own count first proper some e =
    let last : ℕ = first + (count - 1) in
    let inside : has last (run first count) ≡ true = has-run last first count ∙ grind (arith, nat_tests) in
    let member : has last own ≡ true = found (λ s. has s own) count slot_limit first last e inside in
    let low = proper.small last member in
    omega arith

pub runs_within : (own : List ℕ) (count : ℕ) (o : Option ℕ) → IsSlotSet own → 1 ≤ count → o ≡ free_run own count → IfSome o (λ first. first + count ≤ slot_limit)
runs_within own count None proper some e = tt
runs_within own count (Some first) proper some e = run_within own count first proper some (sym e)

-- and none of it is one of those that were left out
pub runs_new : (own held : List ℕ) (count : ℕ) (o : Option ℕ) → o ≡ free_run (minus own held) count → IfSome o (λ first. (s : ℕ) → has s (run first count) ≡ true → has s held ≡ false)
runs_new own held count None e = tt
runs_new own held count (Some first) e = λ s h.
    let member : has s (minus own held) ≡ true = found (λ y. has y (minus own held)) count slot_limit first s (sym e) h in
    grind (arith, has-minus s own held, member)
