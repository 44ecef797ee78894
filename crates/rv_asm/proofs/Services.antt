-- The services of an image, row by row.
use Rattle.std.proofs.Common.{◌≡◌, ℕ, zero, suc, ◌+◌, ◌<◌, ◌≤◌, List, [], ◌++◌, Option, Some, None, refl, sym, ap, ◌∙◌, arith, IfSome}
use Rattle.std.specs.List.{All, AllPairs, filter_map, range_with_len, cons_option}
use Rattle.std.specs.Option.{option_to_list, option_map}
use Rattle.std.proofs.lemmas.List.Elements.{All-cons, All-weaker}
use Rattle.std.proofs.lemmas.List.Kept.{AllPairs-cons}
use Rattle.rv_asm.specs.Faults.{Labels, Services}
use Rattle.rv_asm.specs.Bytes.{address_of}
use Rattle.rv_asm.specs.Images.{service_row, services_below}

cons_then : {X : Type 0} (o : Option X) (xs ys : List X) → cons_option o xs ++ ys ≡ cons_option o (xs ++ ys)
cons_then None xs ys = refl
cons_then (Some x) xs ys = refl

cons_none : {X : Type 0} (o : Option X) → cons_option o [] ≡ option_to_list o
cons_none None = refl
cons_none (Some x) = refl

-- one row more at the end
rows_more : {X : Type 0} (f : ℕ → Option X) (a n k : ℕ) → k ≡ a + n
    → filter_map f (range_with_len a (n + 1)) ≡ filter_map f (range_with_len a n) ++ option_to_list (f k)
rows_more f a zero k e = let same : k ≡ a = omega arith in rw same (cons_none (f a))
rows_more f a (suc n) k e =
    let more : suc n + 1 ≡ suc (n + 1) = omega arith in
    rw more (ap (λ xs. cons_option (f a) xs) (rows_more f (a + 1) n k (omega arith))
    ∙ sym (cons_then (f a) (filter_map f (range_with_len (a + 1) n)) (option_to_list (f k))))

pub one_below : (count : ℕ) (labels : Labels) (services : Services) (now new : List (ℕ × ℕ))
    → now ≡ services_below count labels services → new ≡ now ++ option_to_list (service_row labels services count)
    → new ≡ services_below (count + 1) labels services
unfolding services_below
one_below count labels services now new e g =
    g ∙ ap (λ xs. xs ++ option_to_list (service_row labels services count)) e
    ∙ sym (rows_more (service_row labels services) 0 count count (omega arith))

-- ---- what holds of each row

all_rows : {X : Type 0} (P : X → Type 0) (f : ℕ → Option X) → ((k : ℕ) → IfSome (f k) P) → (a n : ℕ) → All P (filter_map f (range_with_len a n))
all_rows P f each a zero = λ k d h. absurd (omega arith)
all_rows P f each a (suc n) =
    elim (f a) as (λ o. IfSome o P → All P (cons_option o (filter_map f (range_with_len (a + 1) n)))) [
      | None ↦ λ h. all_rows P f each (a + 1) n
      | Some x ↦ λ h. All-cons P x (filter_map f (range_with_len (a + 1) n)) h (all_rows P f each (a + 1) n)
    ] (each a)

pub below_all : (P : ℕ × ℕ → Type 0) (labels : Labels) (services : Services) → ((k : ℕ) → IfSome (service_row labels services k) P)
    → (count : ℕ) → All P (services_below count labels services)
unfolding services_below
below_all P labels services each count = all_rows P (service_row labels services) each 0 count

-- ---- they ascend

from_on : (f : ℕ → Option (ℕ × ℕ)) → ((k : ℕ) → IfSome (f k) (λ row. row.0 ≡ k)) → (a n : ℕ)
    → All (λ row. a ≤ row.0) (filter_map f (range_with_len a n))
from_on f each a zero = λ k d h. absurd (omega arith)
from_on f each a (suc n) =
    let later = All-weaker (λ row. a + 1 ≤ row.0) (λ row. a ≤ row.0) (λ row h. omega arith) (filter_map f (range_with_len (a + 1) n)) (from_on f each (a + 1) n) in
    elim (f a) as (λ o. IfSome o (λ row. row.0 ≡ a) → All (λ row. a ≤ row.0) (cons_option o (filter_map f (range_with_len (a + 1) n)))) [
      | None ↦ λ h. later
      | Some x ↦ λ h. All-cons (λ row. a ≤ row.0) x (filter_map f (range_with_len (a + 1) n)) (omega (arith, h)) later
    ] (each a)

ascend : (f : ℕ → Option (ℕ × ℕ)) → ((k : ℕ) → IfSome (f k) (λ row. row.0 ≡ k)) → (a n : ℕ)
    → AllPairs (λ x y. x.0 < y.0) (filter_map f (range_with_len a n))
ascend f each a zero = λ i j d h g. absurd (omega arith)
ascend f each a (suc n) =
    let rest = filter_map f (range_with_len (a + 1) n) in
    elim (f a) as (λ o. IfSome o (λ row. row.0 ≡ a) → AllPairs (λ x y. x.0 < y.0) (cons_option o rest)) [
      | None ↦ λ h. ascend f each (a + 1) n
      | Some x ↦ λ h. AllPairs-cons (λ x y. x.0 < y.0) x rest
          (All-weaker (λ row. a + 1 ≤ row.0) (λ row. x.0 < row.0) (λ row g. omega (arith, h, g)) rest (from_on f each (a + 1) n))
          (ascend f each (a + 1) n)
    ] (each a)

row_number : (labels : Labels) (services : Services) (k : ℕ) → IfSome (service_row labels services k) (λ row. row.0 ≡ k)
row_number labels services k = elim (services k) as (λ o. IfSome {T = ℕ × ℕ} (option_map (λ s. (k, address_of labels s.label)) o) (λ row. row.0 ≡ k)) [
  | None ↦ tt
  | Some s ↦ refl
]

pub below_ascend : (labels : Labels) (services : Services) (count : ℕ) → AllPairs (λ x y. x.0 < y.0) (services_below count labels services)
unfolding services_below
below_ascend labels services count = ascend (service_row labels services) (row_number labels services) 0 count
