-- What a write changes, byte by byte.
use Rattle.std.proofs.Common.{◌≡◌, ℕ, zero, suc, ◌+◌, ◌-◌, ◌%◌, ◌<◌, ◌≤◌, ◌≢◌, Bool, true, false, List, [], length, get_or, set, Option, Some, None, refl, sym, ap, ◌∙◌, inl, inr, arith}
use Rattle.std.specs.Prelude.{is_some, slice_get, slice_set, slice_index, ◌&&◌, ◌==◌, nat_lt, nat_le, if◌then◌else◌}
use Rattle.std.specs.Option.{option_and_then}
use Rattle.std.proofs.lemmas.Bool.{cases_lt, cases_order, eqb-true}
use Rattle.std.proofs.lemmas.Bool.Decides.{nat_tests, eqb_tells}
use Rattle.std.proofs.lemmas.Grind.{get_or-set_at}
use Rattle.std.proofs.lemmas.List.{length-set, get_or-set_other}
use Rattle.std.proofs.lemmas.List.Quantifiers.{position-Some}
use Rattle.std.proofs.lemmas.Option.{slice_get-get_or, slice_get_past, slice_get_within, get_or_from_slice_get}
use Rattle.slot_space.specs.Limits.{slots_start, slot_size}
use Rattle.rv_step.specs.declared.memory.Held.{Held}
use Rattle.rv_step.specs.Memory.{Memory, byte_in, held_byte, place_of, slot_of}
use Rattle.rv_step.specs.Access.{stored, with_byte, writable, written}
use Rattle.rv_step.proofs.AccessLemmas.{writable_before}
use Rattle.rv_step.proofs.InsideLemmas.{in_range, place_in_range, address_set, get_set, with_byte_inside, with_block_at}

-- who holds a byte
record Holder (m : Memory) (a : ℕ) : Type 0 where
  place : ℕ
  held : Held
  at : place_of m a ≡ Some place
  there : slice_get m place ≡ Some held
  within : a % slot_size < length held.block

within_block : (block : List ℕ) (at : ℕ) → is_some (slice_get block at) ≡ true → at < length block
within_block block at h =
    elim (cases_lt at (length block)) [
      | inl inside ↦ inside
      | inr past ↦ (let none = slice_get_past block at past in let clash = rw none at h in absurd (cc))
    ]

holder_in : (m : Memory) (a p : ℕ) → place_of m a ≡ Some p → (s : Option Held) → slice_get m p ≡ s
    → is_some (byte_in s (a % slot_size)) ≡ true → Holder m a
holder_in m a p e None there h = absurd (cc)
holder_in m a p e (Some held) there h =
    record { place = p; held = held; at = e; there = there; within = within_block held.block (a % slot_size) h }

holder_at : (m : Memory) (a : ℕ) (o : Option ℕ) → place_of m a ≡ o
    → is_some (option_and_then (λ (i : ℕ). byte_in (slice_get m i) (a % slot_size)) o) ≡ true → Holder m a
holder_at m a None e h = absurd (cc)
holder_at m a (Some p) e h = holder_in m a p e (slice_get m p) refl h

holder : (m : Memory) (a : ℕ) → is_some (held_byte m a) ≡ true → Holder m a
unfolding held_byte
holder m a h = holder_at m a (place_of m a) refl h

-- an element at another index, or past the end, is as before
get_set_other : {X : Type 0} (xs : List X) (i j : ℕ) (y d : X) → j ≢ i → slice_get (set xs i y) j ≡ slice_get xs j
get_set_other xs i j y d apart =
    elim (cases_lt j (length xs)) [
      | inl inside ↦ (let more : j < length (set xs i y) = rw (length-set xs i y) inside in
          slice_get-get_or (set xs i y) j d more ∙ ap Some (get_or-set_other xs i j y d apart) ∙ sym (slice_get-get_or xs j d inside))
      | inr past ↦ (let more : length (set xs i y) ≤ j = rw (length-set xs i y) past in
          slice_get_past (set xs i y) j more ∙ sym (slice_get_past xs j past))
    ]

get_set_at : (xs : List ℕ) (i y : ℕ) → i < length xs → slice_get (set xs i y) i ≡ Some y
get_set_at xs i y inside =
    let more : i < length (set xs i y) = rw (length-set xs i y) inside in
    slice_get-get_or (set xs i y) i 0 more ∙ ap Some (get_or-set_at xs i i y 0 refl inside)

-- two addresses of one place are of one slot
one_slot : (m : Memory) (a x p : ℕ) → place_of m a ≡ Some p → place_of m x ≡ Some p → slot_of a ≡ slot_of x
one_slot m a x p e f =
    let d : Held = record { slot = 0; block = [] } in
    let ra = in_range m a p e in
    let rx = in_range m x p f in
    let here = position-Some (λ (h : Held). h.slot == slot_of a) m p d (sym (place_in_range m a ra.0 ra.1) ∙ e) in
    let there = position-Some (λ (h : Held). h.slot == slot_of x) m p d (sym (place_in_range m x rx.0 rx.1) ∙ f) in
    sym (eqb-true (get_or m p d).slot (slot_of a) here.1) ∙ eqb-true (get_or m p d).slot (slot_of x) there.1

held_is : (m : Memory) (a p : ℕ) (held : Held) → place_of m a ≡ Some p → slice_get m p ≡ Some held
    → held_byte m a ≡ slice_get held.block (a % slot_size)
unfolding held_byte
held_is m a p held e there = rw (e, there) refl

-- at every other address the byte is as before
other_at : (m : Memory) (a x p b : ℕ) (held : Held) → place_of m a ≡ Some p → slice_get m p ≡ Some held → x ≢ a → (o : Option ℕ) → place_of m x ≡ o
    → held_byte (with_block_at m p held (slice_set held.block (a % slot_size) b)) x ≡ held_byte m x
unfolding held_byte
other_at m a x p b held e there apart None f =
    let new : Held = record held { block = slice_set held.block (a % slot_size) b } in
    let inside : p < length m = slice_get_within m p held there in
    let here : get_or m p held ≡ held = get_or_from_slice_get m p held held there in
    rw (address_set m x p held new inside here refl, f) refl
other_at m a x p b held e there apart (Some q) f =
    let new : Held = record held { block = slice_set held.block (a % slot_size) b } in
    let inside : p < length m = slice_get_within m p held there in
    let here : get_or m p held ≡ held = get_or_from_slice_get m p held held there in
    let still : place_of (set m p new) x ≡ Some q = address_set m x p held new inside here refl ∙ f in
    let elsewhere : q ≢ p → option_and_then (λ (i : ℕ). byte_in (slice_get (set m p new) i) (x % slot_size)) (place_of (set m p new) x)
    ≡ option_and_then (λ (i : ℕ). byte_in (slice_get m i) (x % slot_size)) (place_of m x)
    = λ (far : q ≢ p). rw (still, f) (ap (λ (s : Option Held). byte_in s (x % slot_size)) (get_set_other m p q new held far)) in
    elim (cases_order q p) [
      | inl at ↦ (
          let same_x : place_of m x ≡ Some p = f ∙ ap Some at in
          let ra = in_range m a p e in
          let rx = in_range m x p same_x in
          let low_a : slots_start ≤ a = ra.0 in
          let low_x : slots_start ≤ x = rx.0 in
          let slots : slot_of a ≡ slot_of x = one_slot m a x p e same_x in
          let far : x % slot_size ≢ a % slot_size = λ same. apart (omega arith) in
          held_is (set m p new) x p new (still ∙ ap Some at) (get_set m p new inside)
          ∙ get_set_other held.block (a % slot_size) (x % slot_size) b 0 far ∙ sym (held_is m x p held same_x there))
      | inr (inl before) ↦ elsewhere (λ same. absurd (omega arith))
      | inr (inr after) ↦ elsewhere (λ same. absurd (omega arith))
    ]

with_byte_is : (m : Memory) (a b x : ℕ) → Holder m a → held_byte (with_byte m a b) x ≡ (if x == a then Some b else held_byte m x)
with_byte_is m a b x h =
    let p : ℕ = h.place in
    let new : Held = record h.held { block = slice_set h.held.block (a % slot_size) b } in
    let inside : p < length m = slice_get_within m p h.held h.there in
    let here : get_or m p h.held ≡ h.held = get_or_from_slice_get m p h.held h.held h.there in
    let is : with_byte m a b ≡ set m p new = with_byte_inside m a p (a % slot_size) b h.held h.at h.there refl in
    elim (eqb_tells x a) [
      | inl same ↦ rw (is, same.0, same.1) (held_is (set m p new) a p new (address_set m a p h.held new inside here refl ∙ h.at) (get_set m p new inside)
          ∙ get_set_at h.held.block (a % slot_size) b h.within)
      | inr apart ↦ rw (is, apart.0) (other_at m a x p b h.held h.at h.there apart.1 (place_of m x) refl)
    ]

-- which bytes the first n of a write cover
done_before : (a n : ℕ) → (nat_le a (a + n) && nat_lt (a + n) (a + n)) ≡ false
done_before a n = grind (arith, nat_tests)

done_last : (a n : ℕ) → (nat_le a (a + n) && nat_lt (a + n) (a + suc n)) ≡ true
done_last a n = grind (arith, nat_tests)

done_other : (a n x : ℕ) → x ≢ a + n → (nat_le a x && nat_lt x (a + n)) ≡ (nat_le a x && nat_lt x (a + suc n))
done_other a n x apart = grind (arith, nat_tests)

done_none : (a x : ℕ) → (nat_le a x && nat_lt x (a + 0)) ≡ false
done_none a x = grind (arith, nat_tests)

pub stored_is : (m : Memory) (a : ℕ) (bytes : List ℕ) (n x : ℕ) → writable m a (length bytes) ≡ true → n ≤ length bytes
    → held_byte (stored m a bytes n) x ≡ (if nat_le a x && nat_lt x (a + n) then slice_get bytes (x - a) else held_byte m x)
unfolding stored
stored_is m a bytes zero x w le = rw (done_none a x) refl
stored_is m a bytes (suc n) x w le =
    let before : held_byte (stored m a bytes n) (a + n) ≡ held_byte m (a + n) = stored_is m a bytes n (a + n) w (omega arith) ∙ rw (done_before a n) refl in
    let some : is_some (held_byte (stored m a bytes n) (a + n)) ≡ true = ap is_some before ∙ writable_before m a (length bytes) w n (omega arith) in
    let next = with_byte_is (stored m a bytes n) (a + n) (slice_index bytes n) x (holder (stored m a bytes n) (a + n) some) in
    let at : a + n - a ≡ n = omega arith in
    elim (eqb_tells x (a + n)) [
      | inl same ↦ next ∙ rw (same.0, same.1, done_last a n, at) (sym (slice_get-get_or bytes n 0 (omega arith)))
      | inr apart ↦ next ∙ rw apart.0 (stored_is m a bytes n x w (omega arith) ∙ rw (done_other a n x apart.1) refl)
    ]

written_at : (m : Memory) (a : ℕ) (bytes : List ℕ) (b : Bool) → writable m a (length bytes) ≡ b → (new : Memory)
    → (if b then Some (stored m a bytes (length bytes)) else None) ≡ Some new
    → (writable m a (length bytes) ≡ true) × (stored m a bytes (length bytes) ≡ new)
written_at m a bytes true w new e = (w, cc)
written_at m a bytes false w new e = absurd (cc)

pub written_is : (m new : Memory) (a : ℕ) (bytes : List ℕ) → written m a bytes ≡ Some new → (x : ℕ)
    → held_byte new x ≡ (if nat_le a x && nat_lt x (a + length bytes) then slice_get bytes (x - a) else held_byte m x)
written_is m new a bytes e x =
    let parts = written_at m a bytes (writable m a (length bytes)) refl new e in
    rw (← parts.1) (stored_is m a bytes (length bytes) x parts.0 (omega arith))
