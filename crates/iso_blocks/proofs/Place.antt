-- The lowest place as a number is the lowest fit.
use Rattle.std.proofs.Common.{refl, sym, ap, ◌∙◌, ◌≡◌, ℕ, ◌+◌, ◌-◌, ◌*◌, ◌/◌, ◌%◌, ◌<◌, ◌≤◌, Bool, true, false, not, Option, Some, None, arith, ⊎_elim, option_map, Result, Ok, Err, IfOk}
use Rattle.std.proofs.lemmas.Bool.{true≢false, cases_Bool, cases_lt, and_parts}
use Rattle.slot_space.specs.Limits.{slots_end}
use Rattle.slot_space.specs.Addresses.{slot_base}
use Rattle.slot_space.specs.Sets.{has_run, lowest_run, IsSlotSet}
use Rattle.slot_space.proofs.Lemmas.{has_run-each, has_run-all, lowest_run-some, lowest_run-none, lowest_run-found, lowest_run-missing}
use Rattle.iso_blocks.specs.Heap.{Heap, is_free, Fits, IsLowestFit, has_room, place}
use Rattle.iso_blocks.specs.Bytes.{in_slots, in_blocks}
use Rattle.iso_blocks.proofs.KeptBy.{slots_within}

-- ## Room at an address

fits_of : (h : Heap) (size a : ℕ) → a % 16 ≡ 0 → has_room h size a ≡ true → Fits h size a
fits_of h size a aligned room = record {
  aligned = aligned;
  free = λ x lo hi.
      let at : a + (x - a) ≡ x = omega arith in
      ap (is_free h) (sym at) ∙ has_run-each (is_free h) a size (x - a) room (omega arith);
}

room_of : (h : Heap) (size a : ℕ) → Fits h size a → has_room h size a ≡ true
room_of h size a f = has_run-all (is_free h) a size (λ u l. f.free (a + u) (omega arith) (omega arith))

-- nothing fits past all slots
none_past : (h : Heap) (at size a : ℕ) → IsSlotSet h.slots → 0 < size → slots_end < at + size → Fits h size a → at ≤ a → ⊥
none_past h at size a proper some far f le =
    let w = slots_within h.slots a size proper some (λ x lo hi. (and_parts (in_slots h.slots x) (not (in_blocks h.live x)) (f.free x lo hi)).0) in
    omega (arith, w.1, far, le)

-- ## The least multiple of 16

module _ (h : Heap) (size : ℕ) where
  abbrev fits_at : ℕ → Bool
  fits_at k = has_room h size (16 * k)

  abbrev limit : ℕ
  limit = slots_end / 16

  of_one : (k : ℕ) → has_run fits_at k 1 ≡ true → fits_at k ≡ true
  of_one k e = let z : k + 0 ≡ k = omega arith in ap fits_at (sym z) ∙ has_run-each fits_at k 1 0 e (omega arith)

  one_of : (k : ℕ) → fits_at k ≡ true → has_run fits_at k 1 ≡ true
  one_of k e = has_run-all fits_at k 1 (λ u l. let z : k + u ≡ k = omega arith in ap fits_at z ∙ e)

  none_of : (k : ℕ) → (Fits h size (16 * k) → ⊥) → has_run fits_at k 1 ≡ false
  none_of k never = ⊎_elim (λ i. absurd (never (fits_of h size (16 * k) (omega arith) (of_one k i)))) (λ i. i) (cases_Bool (has_run fits_at k 1))

  -- a block fits where it is placed
  pub place_fits : (a : ℕ) → place h size ≡ Some a → Fits h size a
  unfolding place
  place_fits a e = by (lowest_run fits_at 1 limit) refl e
    where
      by : (o : Option ℕ) → lowest_run fits_at 1 limit ≡ o → (let p : ℕ → ℕ = λ k. 16 * k in option_map p o ≡ Some a) → Fits h size a
      by None f g = absurd (cc g)
      by (Some k) f g =
          let least = lowest_run-found fits_at 1 limit k f in
          let same : 16 * k ≡ a = cc g in
          fits_of h size a (omega arith) (ap (has_room h size) (sym same) ∙ of_one k least.run)

  -- where a block has no place it fits nowhere
  pub place_none : (a : ℕ) → place h size ≡ None → a < slots_end → Fits h size a → ⊥
  unfolding place
  place_none a e low f = by (lowest_run fits_at 1 limit) refl e
    where
      at : 16 * (a / 16) ≡ a
      at = omega (arith, f.aligned)

      by : (o : Option ℕ) → lowest_run fits_at 1 limit ≡ o → (let p : ℕ → ℕ = λ k. 16 * k in option_map p o ≡ None) → ⊥
      by (Some k) g i = cc i
      by None g i =
          let missing = lowest_run-missing fits_at 1 limit (a / 16) g (omega (arith, at)) in
          true≢false (sym (one_of (a / 16) (ap (has_room h size) at ∙ room_of h size a f)) ∙ missing)

  -- the lowest fit is the place
  pub place_is : (o : Option ℕ) → IsSlotSet h.slots → 0 < size → IsLowestFit h size o → o ≡ place h size
  unfolding place
  place_is None proper some none = sym (ap (option_map (λ k. 16 * k)) (lowest_run-none fits_at 1 limit (λ k l. none_of k (none (16 * k)))))
  place_is (Some a) proper some lowest =
      let f : Fits h size a = lowest.0 in
      let at : 16 * (a / 16) ≡ a = omega (arith, f.aligned) in
      let low : a < slots_end = ⊎_elim (λ i. i) (λ i. absurd (none_past h a size a proper some (omega (arith, i, some)) f (omega arith))) (cases_lt a (slots_end)) in
      let found : lowest_run fits_at 1 limit ≡ Some (a / 16) = lowest_run-some fits_at 1 limit (a / 16) (omega (arith, low, at)) (one_of (a / 16) (ap (has_room h size) at ∙ room_of h size a f))
      (λ k l. none_of k (λ g. let least = lowest.1 (16 * k) g in omega (arith, least, l, at))) in
      sym (ap (option_map (λ k. 16 * k)) found ∙ ap Some at)

  pub place_result : {E : Type 0} (r : Result (Option ℕ) E) → IsSlotSet h.slots → 0 < size → IfOk r (IsLowestFit h size) → IfOk r (λ address. address ≡ place h size)
  place_result (Ok o) proper some lowest = place_is o proper some lowest
  place_result (Err e) proper some lowest = tt
