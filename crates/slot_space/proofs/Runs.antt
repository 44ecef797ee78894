-- What a run is, and what the lowest run says.
use Rattle.std.proofs.Common.{◌≡◌, ℕ, ◌+◌, ◌-◌, ◌<◌, ◌≤◌, zero, suc, Some, None, Bool, true, false, cond, refl, sym, ap, ◌∙◌, inl, inr, arith}
use Rattle.std.proofs.lemmas.Bool.{cases_eq, cases_lt}
use Rattle.std.proofs.Math.Path.{fun_ext}
use Rattle.slot_space.specs.WordsBack.{has-run}
use Rattle.slot_space.specs.Sets.{has, run, has_run, lowest_from, lowest_run}

-- ## A run, place by place

pub has_run-each : (set : ℕ → Bool) (s count u : ℕ) → has_run set s count ≡ true → u < count → set (s + u) ≡ true
unfolding has_run
has_run-each set s zero u h l = absurd (omega arith)
has_run-each set s (suc count) zero h l = let e : s + 0 ≡ s = omega arith in rw e (grind (arith, h))
has_run-each set s (suc count) (suc u) h l = let e : s + suc u ≡ suc s + u = omega arith in rw e (has_run-each set (suc s) count u (grind (arith, h)) (omega arith))

pub has_run-all : (set : ℕ → Bool) (s count : ℕ) → ((u : ℕ) → u < count → set (s + u) ≡ true) → has_run set s count ≡ true
unfolding has_run
has_run-all set s zero h = refl
has_run-all set s (suc count) h =
    let here : set s ≡ true = let e : s ≡ s + 0 = omega arith in ap set e ∙ h 0 (omega arith) in
    rw here (has_run-all set (suc s) count (λ u l. let e : suc s + u ≡ s + suc u = omega arith in ap set e ∙ h (suc u) (omega arith)))

-- no run goes over a place that isn't in the set
pub has_run-none : (set : ℕ → Bool) (s count k : ℕ) → s ≤ k → k < s + count → set k ≡ false → has_run set s count ≡ false
has_run-none set s count k from to h = elim (has_run set s count) as (λ o. has_run set s count ≡ o → o ≡ false) [
  | true ↦ λ e. let u : s + (k - s) ≡ k = omega arith in let g : set k ≡ true = ap set (sym u) ∙ has_run-each set s count (k - s) e (omega arith) in absurd (cc (g, h))
  | false ↦ λ e. refl
] refl

-- ## The lowest run

lowest_from-some : (set : ℕ → Bool) (count s left f : ℕ) → s ≤ f → f < s + left → has_run set f count ≡ true → ((k : ℕ) → s ≤ k → k < f → has_run set k count ≡ false)
    → lowest_from set count s left ≡ Some f
unfolding lowest_from
lowest_from-some set count s zero f a b h g = absurd (omega arith)
lowest_from-some set count s (suc left) f a b h g = elim (cases_eq s f) [
  | inl same ↦ let here : has_run set s count ≡ true = ap (λ k. has_run set k count) same ∙ h in rw here (ap (λ k. Some k) same)
  | inr other ↦ rw (g s (omega arith) (omega arith)) (lowest_from-some set count (suc s) left f (omega arith) (omega arith) h (λ k p q. g k (omega arith) q))
]

lowest_from-none : (set : ℕ → Bool) (count s left : ℕ) → ((k : ℕ) → s ≤ k → k < s + left → has_run set k count ≡ false) → lowest_from set count s left ≡ None
unfolding lowest_from
lowest_from-none set count s zero g = refl
lowest_from-none set count s (suc left) g = rw (g s (omega arith) (omega arith)) (lowest_from-none set count (suc s) left (λ k a b. g k (omega arith) (omega arith)))

-- the least start below the limit is it
pub lowest_run-some : (set : ℕ → Bool) (count limit f : ℕ) → f < limit → has_run set f count ≡ true → ((k : ℕ) → k < f → has_run set k count ≡ false) → lowest_run set count limit ≡ Some f
unfolding lowest_run
lowest_run-some set count limit f l h g = lowest_from-some set count 0 limit f (omega arith) (omega arith) h (λ k _ b. g k b)

-- where no run starts below the limit there is none
pub lowest_run-none : (set : ℕ → Bool) (count limit : ℕ) → ((k : ℕ) → k < limit → has_run set k count ≡ false) → lowest_run set count limit ≡ None
unfolding lowest_run
lowest_run-none set count limit g = lowest_from-none set count 0 limit (λ k _ b. g k (omega arith))

-- what an answer says
pub record IsLeast (set : ℕ → Bool) (count limit f : ℕ) : Type 0 where
  pub below : f < limit
  pub run : has_run set f count ≡ true
  pub least : (k : ℕ) → k < f → has_run set k count ≡ false

least_in : (set : ℕ → Bool) (count s left f : ℕ) → lowest_from set count s left ≡ Some f
    → (s ≤ f) × (f < s + left) × (has_run set f count ≡ true) × ((k : ℕ) → s ≤ k → k < f → has_run set k count ≡ false)
unfolding lowest_from
least_in set count s zero f e = absurd (cc e)
least_in set count s (suc left) f e = elim (has_run set s count) as (λ o. has_run set s count ≡ o → cond o (Some s) (lowest_from set count (suc s) left) ≡ Some f
    → (s ≤ f) × (f < s + suc left) × (has_run set f count ≡ true) × ((k : ℕ) → s ≤ k → k < f → has_run set k count ≡ false)) [
      | true ↦ λ h g. let same : s ≡ f = cc g in (omega arith, omega arith, ap (λ k. has_run set k count) (sym same) ∙ h, λ k a b. absurd (omega arith))
      | false ↦ λ h g. let m = least_in set count (suc s) left f g in (
        omega arith,
        omega arith,
        m.2,
        λ k a b. elim (cases_eq s k) [
          | inl same ↦ ap (λ j. has_run set j count) (sym same) ∙ h
          | inr other ↦ m.3 k (omega arith) b
        ],
      )
    ] refl e

none_in : (set : ℕ → Bool) (count s left : ℕ) → lowest_from set count s left ≡ None → (k : ℕ) → s ≤ k → k < s + left → has_run set k count ≡ false
unfolding lowest_from
none_in set count s zero e k a b = absurd (omega arith)
none_in set count s (suc left) e k a b = elim (has_run set s count) as (λ o. has_run set s count ≡ o → cond o (Some s) (lowest_from set count (suc s) left) ≡ None → has_run set k count ≡ false) [
  | true ↦ λ h g. absurd (cc g)
  | false ↦ λ h g. elim (cases_eq s k) [
    | inl same ↦ ap (λ j. has_run set j count) (sym same) ∙ h
    | inr other ↦ none_in set count (suc s) left g k (omega arith) (omega arith)
  ]
] refl e

-- a run that was found starts below the limit, is of members, and no lower place starts one
pub lowest_run-found : (set : ℕ → Bool) (count limit f : ℕ) → lowest_run set count limit ≡ Some f → IsLeast set count limit f
unfolding lowest_run
lowest_run-found set count limit f e = let m = least_in set count 0 limit f e in record { below = omega arith; run = m.2; least = λ k b. m.3 k (omega arith) b }

-- where none was found no place below the limit starts one
pub lowest_run-missing : (set : ℕ → Bool) (count limit k : ℕ) → lowest_run set count limit ≡ None → k < limit → has_run set k count ≡ false
unfolding lowest_run
lowest_run-missing set count limit k e h = none_in set count 0 limit e k (omega arith) (omega arith)

-- sets with the same members have the same lowest run
pub lowest_run-same : (set other : ℕ → Bool) (count limit : ℕ) → ((s : ℕ) → set s ≡ other s) → lowest_run set count limit ≡ lowest_run other count limit
lowest_run-same set other count limit h = ap (λ g. lowest_run g count limit) (fun_ext h)

-- the limit doesn't matter where it is above all members
pub lowest_run-limit : (set : ℕ → Bool) (count low high : ℕ) → 0 < count → low ≤ high → ((s : ℕ) → set s ≡ true → s < low) → lowest_run set count low ≡ lowest_run set count high
lowest_run-limit set count low high some le small = elim (lowest_run set count low) as (λ o. lowest_run set count low ≡ o → o ≡ lowest_run set count high) [
  | Some f ↦ λ e. let m = lowest_run-found set count low f e in sym (lowest_run-some set count high f (omega (arith, m.below)) m.run m.least)
  | None ↦ λ e. sym (lowest_run-none set count high (λ k h. elim (cases_lt k low) [
    | inl in_low ↦ lowest_run-missing set count low k e in_low
    | inr past ↦ has_run-none set k count k (omega arith) (omega arith) (outside k past (set k) refl)
  ]))
] refl
  where
    outside : (k : ℕ) → low ≤ k → (b : Bool) → set k ≡ b → b ≡ false
    outside k past true h = let l : k < low = small k h in absurd (omega arith)
    outside k past false h = refl

-- ## A run as a list of slots

-- a run that was found is of members of the set
pub found : (set : ℕ → Bool) (count limit f s : ℕ) → lowest_run set count limit ≡ Some f → has s (run f count) ≡ true → set s ≡ true
found set count limit f s e h =
    let m = lowest_run-found set count limit f e in
    let in_run : (f ≤ s) × (s < f + count) = inside s f count h in
    let place : f + (s - f) ≡ s = omega arith in
    ap set (sym place) ∙ has_run-each set f count (s - f) m.run (omega arith)
  where
    inside : (s f count : ℕ) → has s (run f count) ≡ true → (f ≤ s) × (s < f + count)
    inside s f count h = (grind (arith, h, has-run s f count), grind (arith, h, has-run s f count))

-- the lowest run of a set is that of each part with the run in it
pub lowest_part : (set sub : ℕ → Bool) (count limit f : ℕ) → ((s : ℕ) → sub s ≡ true → set s ≡ true) → ((s : ℕ) → has s (run f count) ≡ true → sub s ≡ true) → lowest_run set count limit ≡ Some f → lowest_run sub count limit ≡ Some f
lowest_part set sub count limit f k h e =
    let m = lowest_run-found set count limit f e in
    lowest_run-some sub count limit f m.below (has_run-all sub f count (λ u l. h (f + u) (in_run u l))) (λ j b. has_run-part j (m.least j b))
  where
    in_run : (u : ℕ) → u < count → has (f + u) (run f count) ≡ true
    in_run u l = grind (arith, l, has-run (f + u) f count)

    has_run-part : (j : ℕ) → has_run set j count ≡ false → has_run sub j count ≡ false
    has_run-part j g = elim (has_run sub j count) as (λ o. has_run sub j count ≡ o → o ≡ false) [
      | true ↦ λ i. let more : has_run set j count ≡ true = has_run-all set j count (λ u l. k (j + u) (has_run-each sub j count u i l)) in absurd (cc (g, more))
      | false ↦ λ i. refl
    ] refl
