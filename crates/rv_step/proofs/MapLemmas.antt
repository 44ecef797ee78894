-- The held slots are a finite map from slot to bytes.
use Rattle.std.proofs.Common.{◌≡◌, ℕ, suc, ◌+◌, ◌<◌, ◌≢◌, Bool, true, false, List, [], ◌∷◌, take, drop, length, get_or, Option, Some, None, refl, sym, ap, ◌∙◌, inl, inr, arith, drop-cons}
use Rattle.std.specs.Prelude.{slice_get, ◌==◌, find}
use Rattle.std.specs.Option.{option_map, option_and_then, option_or}
use Rattle.std.specs.List.{insert, remove, position, position_or_len}
use Rattle.std.proofs.lemmas.Bool.{cases_lt, eqb-true, eq-eqb, ne_eqb}
use Rattle.std.proofs.lemmas.Bool.Decides.{nat_tests}
use Rattle.std.proofs.lemmas.List.{take-append-drop}
use Rattle.std.proofs.lemmas.List.Edits.{get_or-remove_below, get_or-remove_above, length-remove}
use Rattle.std.proofs.lemmas.List.Folds.{find_at, find-append}
use Rattle.std.proofs.lemmas.List.Quantifiers.{position-Some}
use Rattle.std.proofs.lemmas.Option.{slice_get_past}
use Rattle.rv_step.specs.declared.memory.Held.{Held}
use Rattle.rv_step.specs.Memory.{Memory, IsAscending, block_of, slot_place}

-- a look-up by the place is a look-up by the slot
at_position : (p : Held → Bool) (m : Memory)
    → option_and_then (λ (i : ℕ). option_map (λ (h : Held). h.block) (slice_get m i)) (position p m) ≡ option_map (λ (h : Held). h.block) (find p m)
at_position p m =
    elim (cases_lt (position_or_len p m) (length m)) [
      | inl inside ↦ rw (find_at p m) (grind (arith, nat_tests))
      | inr past ↦ rw (find_at p m, slice_get_past m (position_or_len p m) past) (grind (arith, nat_tests))
    ]

pub block_find : (m : Memory) (s : ℕ) → block_of m s ≡ option_map (λ (h : Held). h.block) (find (λ (h : Held). h.slot == s) m)
block_find m s = at_position (λ (h : Held). h.slot == s) m

none_left : {X : Type 0} (a b : Option X) → option_or a b ≡ None → a ≡ None
none_left None b h = refl
none_left (Some x) b h = cc

map_none : (o : Option Held) → option_map (λ (h : Held). h.block) o ≡ None → o ≡ None
map_none None h = refl
map_none (Some x) h = cc

none_found : (p : Held → Bool) (xs : Memory) → ((k : ℕ) (d : Held) → k < length xs → p (get_or xs k d) ≡ false) → find p xs ≡ None
none_found p [] each = refl
none_found p (x ∷ xs) each =
    let here : p x ≡ false = each 0 x (omega arith) in
    rw here (none_found p xs (λ (k : ℕ) (d : Held) (lt : k < length xs). each (suc k) d (omega arith)))

find_insert_other : (p : Held → Bool) (m : Memory) (i : ℕ) (y : Held) → p y ≡ false → find p (insert m i y) ≡ find p m
find_insert_other p m i y e =
    find-append p (take i m) (y ∷ drop i m) ∙ rw e (sym (find-append p (take i m) (drop i m)) ∙ ap (find p) (take-append-drop i m))

find_insert_here : (p : Held → Bool) (m : Memory) (i : ℕ) (y : Held) → p y ≡ true → find p m ≡ None → find p (insert m i y) ≡ Some y
find_insert_here p m i y e none =
    let parts : option_or (find p (take i m)) (find p (drop i m)) ≡ None
    = sym (find-append p (take i m) (drop i m)) ∙ ap (find p) (take-append-drop i m) ∙ none in
    let front : find p (take i m) ≡ None = none_left _ _ parts in
    find-append p (take i m) (y ∷ drop i m) ∙ rw (e, front) refl

find_remove_other : (p : Held → Bool) (m : Memory) (i : ℕ) (d : Held) → i < length m → p (get_or m i d) ≡ false
    → find p (remove m i) ≡ find p m
find_remove_other p m i d inside e =
    let back : find p (drop i m) ≡ find p (drop (suc i) m) = rw (drop-cons m i d inside, e) refl in
    find-append p (take i m) (drop (suc i) m) ∙ ap (option_or (find p (take i m))) (sym back)
    ∙ sym (find-append p (take i m) (drop i m)) ∙ ap (find p) (take-append-drop i m)

-- what is granted is held, and every other slot is as before
pub granted : (m : Memory) (i s : ℕ) (block : List ℕ) → block_of m s ≡ None
    → block_of (insert m i (record { slot = s; block = block })) s ≡ Some block
granted m i s block free =
    let p : Held → Bool = λ (h : Held). h.slot == s in
    let new : Held = record { slot = s; block = block } in
    let none : find p m ≡ None = map_none (find p m) (sym (block_find m s) ∙ free) in
    block_find (insert m i new) s ∙ rw (find_insert_here p m i new (eq-eqb s s refl) none) refl

pub kept_by_grant : (m : Memory) (i s t : ℕ) (block : List ℕ) → t ≢ s → block_of (insert m i (record { slot = s; block = block })) t ≡ block_of m t
kept_by_grant m i s t block apart =
    let p : Held → Bool = λ (h : Held). h.slot == t in
    let new : Held = record { slot = s; block = block } in
    let other : p new ≡ false = ne_eqb s t (λ same. apart (sym same)) in
    block_find (insert m i new) t ∙ ap (option_map (λ (h : Held). h.block)) (find_insert_other p m i new other) ∙ sym (block_find m t)

-- what is given back was held and is held no more, and every other slot is as before
pub was_held : (m : Memory) (s i : ℕ) (block : List ℕ) → slot_place m s ≡ Some i
    → slice_get m i ≡ Some (record { slot = s; block = block }) → block_of m s ≡ Some block
was_held m s i block e there = rw (e, there) refl

gone_at : (m : Memory) (s i k : ℕ) (d : Held) → IsAscending m → i < length m → (get_or m i d).slot ≡ s → k < length (remove m i)
    → (get_or (remove m i) k d).slot ≢ s
gone_at m s i k d asc inside here lt =
    let less = length-remove m i inside in
    elim (cases_lt k i) [
      | inl before ↦ (let up = asc k i d before inside in
          rw (get_or-remove_below m i d k before inside) (λ same. absurd (omega arith)))
      | inr after ↦ (let up = asc i (k + 1) d (omega arith) (omega arith) in
          rw (get_or-remove_above m i d k after inside) (λ same. absurd (omega arith)))
    ]

pub gone : (m : Memory) (s i : ℕ) → IsAscending m → slot_place m s ≡ Some i → block_of (remove m i) s ≡ None
gone m s i asc e =
    let p : Held → Bool = λ (h : Held). h.slot == s in
    let at : (d : Held) → (i < length m) × (p (get_or m i d) ≡ true) × ((k : ℕ) → k < i → p (get_or m k d) ≡ false) = λ (d : Held). position-Some p m i d e in
    let none : find p (remove m i) ≡ None
    = none_found p (remove m i) (λ (k : ℕ) (d : Held) (lt : k < length (remove m i)).
    ne_eqb (get_or (remove m i) k d).slot s (gone_at m s i k d asc (at d).0 (eqb-true (get_or m i d).slot s (at d).1) lt)) in
    block_find (remove m i) s ∙ rw none refl

pub kept_by_give_back : (m : Memory) (s i t : ℕ) → slot_place m s ≡ Some i → t ≢ s → block_of (remove m i) t ≡ block_of m t
kept_by_give_back m s i t e apart =
    let p : Held → Bool = λ (h : Held). h.slot == t in
    let d : Held = record { slot = 0; block = [] } in
    let at = position-Some (λ (h : Held). h.slot == s) m i d e in
    let here : (get_or m i d).slot ≡ s = eqb-true (get_or m i d).slot s at.1 in
    let other : p (get_or m i d) ≡ false = ne_eqb (get_or m i d).slot t (λ same. apart (sym same ∙ here)) in
    block_find (remove m i) t ∙ ap (option_map (λ (h : Held). h.block)) (find_remove_other p m i d at.0 other) ∙ sym (block_find m t)
