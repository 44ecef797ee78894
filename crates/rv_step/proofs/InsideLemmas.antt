-- An access inside one held slot is an access to that slot's bytes.
use Rattle.std.proofs.Common.{◌≡◌, ℕ, zero, suc, ◌+◌, ◌%◌, ◌<◌, ◌≤◌, true, List, [], length, get_or, set, Some, refl, sym, ap, ◌∙◌, arith}
use lib.Seq.{paste}
use Rattle.std.proofs.Math.Seq.{map-set_same}
use Rattle.std.specs.Prelude.{slice_get, slice_set, slice_index, slice_range, ◌==◌}
use Rattle.std.specs.List.{splice}
use Rattle.std.proofs.lemmas.Bool.Decides.{nat_tests}
use Rattle.std.proofs.lemmas.Grind.{get_or-set_at}
use Rattle.std.proofs.lemmas.List.{set-set, set-get_or, length-set}
use Rattle.std.proofs.lemmas.List.Edits.{between_none, between_more, paste_none, paste_more, paste_all}
use Rattle.std.proofs.lemmas.List.Folds.{position_or_len-set}
use Rattle.std.proofs.lemmas.List.Quantifiers.{position-Some}
use Rattle.std.proofs.lemmas.Option.{slice_get-get_or}
use Rattle.slot_space.specs.Limits.{slots_start, slots_end, slot_size}
use Rattle.rv_step.specs.declared.memory.Held.{Held}
use Rattle.rv_step.specs.Memory.{Memory, held_byte, place_of, slots_of, slot_place, slot_of}
use Rattle.rv_step.specs.Access.{byte_at, readable, writable, bytes_from, stored, with_byte, read, written}

-- an address of a slot lies between the first and the last of them
pub in_range : (m : Memory) (a p : ℕ) → place_of m a ≡ Some p → (slots_start ≤ a) × (a < slots_end)
in_range m a p e = grind (arith, nat_tests)

pub place_in_range : (m : Memory) (a : ℕ) → slots_start ≤ a → a < slots_end → place_of m a ≡ slot_place m (slot_of a)
place_in_range m a low high = grind (arith, nat_tests)

same_slot : (a k : ℕ) → slots_start ≤ a → a % slot_size + k < slot_size → slot_of (a + k) ≡ slot_of a
same_slot a k low inside = omega arith

-- a place is a place of the list
pub placed : (m : Memory) (a p : ℕ) → place_of m a ≡ Some p → p < length m
placed m a p e =
    let range = in_range m a p e in
    let at : slot_place m (slot_of a) ≡ Some p = sym (place_in_range m a range.0 range.1) ∙ e in
    let x : Held = record { slot = 0; block = [] } in
    (position-Some (λ (h : Held). h.slot == slot_of a) m p x at).0

pub held_at : (m : Memory) (a p : ℕ) (held : Held) → place_of m a ≡ Some p → held ≡ get_or m p held → slice_get m p ≡ Some held
held_at m a p held e there = slice_get-get_or m p held (placed m a p e) ∙ ap Some (sym there)

-- the next addresses of the same slot stand at the same place
pub place_inside : (m : Memory) (a k p : ℕ) → place_of m a ≡ Some p → a % slot_size + k < slot_size → place_of m (a + k) ≡ Some p
place_inside m a k p e inside =
    let range = in_range m a p e in
    let low : slots_start ≤ a = range.0 in
    let high : a < slots_end = range.1 in
    let at : slot_of (a + k) ≡ slot_of a = same_slot a k low inside in
    place_in_range m (a + k) (omega arith) (omega arith) ∙ ap (slot_place m) at ∙ sym (place_in_range m a low high) ∙ e

-- the byte at such an address is the slot's
pub held_inside : (m : Memory) (a k p : ℕ) (held : Held) → place_of m a ≡ Some p → slice_get m p ≡ Some held
    → a % slot_size + k < slot_size → length held.block ≡ slot_size → held_byte m (a + k) ≡ Some (get_or held.block (a % slot_size + k) 0)
unfolding held_byte
held_inside m a k p held e there inside len =
    let at : (a + k) % slot_size ≡ a % slot_size + k = omega arith in
    rw (place_inside m a k p e inside, there, at) (slice_get-get_or held.block (a % slot_size + k) 0 (omega arith))

pub byte_inside : (image : List ℕ) (m : Memory) (a k p : ℕ) (held : Held) → place_of m a ≡ Some p → slice_get m p ≡ Some held
    → a % slot_size + k < slot_size → length held.block ≡ slot_size → byte_at image m (a + k) ≡ Some (get_or held.block (a % slot_size + k) 0)
byte_inside image m a k p held e there inside len = rw (held_inside m a k p held e there inside len) refl

pub readable_inside : (image : List ℕ) (m : Memory) (a p n : ℕ) (held : Held) → place_of m a ≡ Some p → slice_get m p ≡ Some held
    → a % slot_size + n ≤ slot_size → length held.block ≡ slot_size → readable image m a n ≡ true
unfolding readable
readable_inside image m a p zero held e there inside len = refl
readable_inside image m a p (suc n) held e there inside len =
    rw (readable_inside image m a p n held e there (omega arith) len, byte_inside image m a n p held e there (omega arith) len) refl

pub bytes_inside : (image : List ℕ) (m : Memory) (a p n : ℕ) (held : Held) → place_of m a ≡ Some p → slice_get m p ≡ Some held
    → a % slot_size + n ≤ slot_size → length held.block ≡ slot_size
    → bytes_from image m a n ≡ slice_range held.block (a % slot_size) (a % slot_size + n)
unfolding bytes_from
bytes_inside image m a p zero held e there inside len =
    let end : a % slot_size + 0 ≡ a % slot_size = omega arith in
    rw end (sym (between_none held.block (a % slot_size)))
bytes_inside image m a p (suc n) held e there inside len =
    let end : a % slot_size + suc n ≡ a % slot_size + n + 1 = omega arith in
    rw (end, bytes_inside image m a p n held e there (omega arith) len, byte_inside image m a n p held e there (omega arith) len)
    (sym (between_more held.block (a % slot_size) (a % slot_size + n) 0 (omega arith) (omega arith)))

pub read_inside : (image : List ℕ) (m : Memory) (a p n : ℕ) (held : Held) → place_of m a ≡ Some p → slice_get m p ≡ Some held
    → a % slot_size + n ≤ slot_size → length held.block ≡ slot_size
    → read image m a n ≡ Some (slice_range held.block (a % slot_size) (a % slot_size + n))
read_inside image m a p n held e there inside len =
    rw (readable_inside image m a p n held e there inside len, bytes_inside image m a p n held e there inside len) refl

pub writable_inside : (m : Memory) (a p n : ℕ) (held : Held) → place_of m a ≡ Some p → slice_get m p ≡ Some held
    → a % slot_size + n ≤ slot_size → length held.block ≡ slot_size → writable m a n ≡ true
unfolding writable
writable_inside m a p zero held e there inside len = refl
writable_inside m a p (suc n) held e there inside len =
    rw (writable_inside m a p n held e there (omega arith) len, held_inside m a n p held e there (omega arith) len) refl

-- what a slot's place holds, where the list is given an element of the same slot there
place_set : (m : Memory) (s p : ℕ) (held new : Held) → p < length m → get_or m p held ≡ held → new.slot ≡ held.slot
    → slot_place (set m p new) s ≡ slot_place m s
place_set m s p held new inside there same =
    let test : (new.slot == s) ≡ ((get_or m p held).slot == s) = rw (there, same) refl in
    rw (position_or_len-set (λ (h : Held). h.slot == s) m p new held test, length-set m p new) refl

pub address_set : (m : Memory) (a p : ℕ) (held new : Held) → p < length m → get_or m p held ≡ held → new.slot ≡ held.slot
    → place_of (set m p new) a ≡ place_of m a
address_set m a p held new inside there same = rw (place_set m (slot_of a) p held new inside there same) refl

pub get_set : (m : Memory) (p : ℕ) (new : Held) → p < length m → slice_get (set m p new) p ≡ Some new
get_set m p new inside =
    let more : p < length (set m p new) = rw (length-set m p new) inside in
    slice_get-get_or (set m p new) p new more ∙ ap Some (get_or-set_at m p p new new refl inside)

-- the list with a held slot's block changed
abbrev pub with_block_at : Memory → ℕ → Held → List ℕ → Memory
with_block_at m p held block = slice_set m p (record held { block = block })

pub with_byte_inside : (m : Memory) (a p at byte : ℕ) (held : Held) → place_of m a ≡ Some p → slice_get m p ≡ Some held → a % slot_size ≡ at
    → with_byte m a byte ≡ with_block_at m p held (slice_set held.block at byte)
unfolding with_byte
with_byte_inside m a p at byte held e there off = rw (e, there, off) refl

pub stored_inside : (m : Memory) (a p n : ℕ) (bytes : List ℕ) (held : Held) → place_of m a ≡ Some p → p < length m → get_or m p held ≡ held
    → a % slot_size + length bytes ≤ slot_size → n ≤ length bytes → length held.block ≡ slot_size
    → stored m a bytes n ≡ with_block_at m p held (paste held.block (a % slot_size) bytes n)
unfolding stored
stored_inside m a p zero bytes held e inside there fits le len =
    let block : List ℕ → Held = λ (b : List ℕ). record held { block = b } in
    let whole : block (paste held.block (a % slot_size) bytes 0) ≡ held = ap block (sym (paste_none held.block (a % slot_size) bytes)) in
    sym (ap (set m p) whole ∙ ap (set m p) (sym there) ∙ set-get_or m p held)
stored_inside m a p (suc n) bytes held e inside there fits le len =
    let before = stored_inside m a p n bytes held e inside there fits (omega arith) len in
    let block : List ℕ → Held = λ (b : List ℕ). record held { block = b } in
    let now : Held = block (paste held.block (a % slot_size) bytes n) in
    let next : Held = block (slice_set now.block (a % slot_size + n) (slice_index bytes n)) in
    let place : place_of (set m p now) (a + n) ≡ Some p
    = address_set m (a + n) p held now inside there refl ∙ place_inside m a n p e (omega arith) in
    let written = with_byte_inside (set m p now) (a + n) p (a % slot_size + n) (slice_index bytes n) now place (get_set m p now inside) (omega arith) in
    let more = paste_more held.block (a % slot_size) bytes n 0 (omega arith) (omega arith) in
    let one_more : n + 1 ≡ suc n = omega arith in
    ap (λ (k : Memory). with_byte k (a + n) (slice_index bytes n)) before ∙ written ∙ set-set m p now next
    ∙ ap (λ (b : List ℕ). set m p (block b)) (more ∙ ap (λ (k : ℕ). paste held.block (a % slot_size) bytes k) one_more)

pub written_inside : (m : Memory) (a p : ℕ) (bytes : List ℕ) (held : Held) → place_of m a ≡ Some p → held ≡ get_or m p held
    → a % slot_size + length bytes ≤ slot_size → length held.block ≡ slot_size
    → written m a bytes ≡ Some (with_block_at m p held (splice held.block (a % slot_size) (a % slot_size + length bytes) bytes))
written_inside m a p bytes held e there fits len =
    let inside : p < length m = placed m a p e in
    let all : paste held.block (a % slot_size) bytes (length bytes) ≡ splice held.block (a % slot_size) (a % slot_size + length bytes) bytes
    = paste_all held.block (a % slot_size) bytes (length bytes) refl in
    let block : List ℕ → Memory = λ (b : List ℕ). with_block_at m p held b in
    rw (
      writable_inside m a p (length bytes) held e (held_at m a p held e there) fits len,
      stored_inside m a p (length bytes) bytes held e inside (sym there) fits (omega arith) len,
    ) (ap (λ (b : List ℕ). Some (block b)) all)

-- a write of a block keeps the slots
pub slots_set : (m : Memory) (p : ℕ) (held new : Held) → held ≡ get_or m p held → new.slot ≡ held.slot → slots_of (set m p new) ≡ slots_of m
slots_set m p held new there same =
    map-set_same (λ (h : Held). h.slot) m p new held (same ∙ ap (λ (h : Held). h.slot) there)
