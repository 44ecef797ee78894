use Rattle.std.proofs.Common.{arith, ◌≡◌, ℕ, sym, ◌∙◌, refl, subst, add-one, true, false, ◌&&◌, Bool}
use Rattle.slot_space.specs.Sets.{has}
use Rattle.iso_blocks.specs.Bytes.{is_met}
use Rattle.iso_blocks.specs.Heap.{without}
use Rattle.iso_blocks.proofs.HeapSets.{has-minus_run, none_between}
use Rattle.iso_blocks.proofs.KeptBy.{block_within, met_gone}
use Rattle.iso_blocks.proofs.Rows.{same_read}
use Rattle.iso_blocks.proofs.layout.Layout.met_without.Goals as goal

pub slots_of-first-requires-clause-low : goal.slots_of-first-requires-clause-low
slots_of-first-requires-clause-low c = (block_within c.args.self.now c.args.k c.index.result.now c.requires.kept c.requires.within c.index.ensures).0

pub slots_of-first-requires-clause-high : goal.slots_of-first-requires-clause-high
slots_of-first-requires-clause-high c = (block_within c.args.self.now c.args.k c.index.result.now c.requires.kept c.requires.within c.index.ensures).1

pub slots_of-first-requires-clause-some : goal.slots_of-first-requires-clause-some
slots_of-first-requires-clause-some c = let w = block_within c.args.self.now c.args.k c.index.result.now c.requires.kept c.requires.within c.index.ensures in omega (arith, w.2)

pub end_before-requires-clause-fits : goal.end_before-requires-clause-fits
end_before-requires-clause-fits c = rw c.deref.ensures.value (λ b j l read. let w = block_within c.args.self.now j b c.requires.kept l read in omega (arith, w.1))

pub returns-then-from-end : goal.returns-then-from-end
returns-then-from-end c b read =
    let live = c.args.self.now.live.items in
    let r = c.index.result.now in
    let of = c.slots_of-first.ensures in
    let own = c.own_slots-from.result in
    let before = rw c.deref.ensures.value at c.end_before.ensures in
    let after = rw (c.deref-2.ensures.value, add-one) at c.start_after.ensures in
    let owns = rw (before, after) at c.own_slots-from.ensures in
    let P : ℕ × ℕ → Type 0 = λ b. (s : ℕ) → has s c.remove_run.new.self ≡ is_met (without live b.0) s in
    subst P (same_read live c.args.k r b c.requires.within c.index.ensures read)
    (λ s. rw (c.remove_run.ensures, has-minus_run s own.0 own.1 c.args.self.now.met c.if-from-end.true)
    (sym (met_gone c.args.self.now c.args.k r c.slots_of-first.result.0 c.slots_of-first.result.1 own.0 own.1 s c.requires.kept c.requires.within c.index.ensures of.first of.last of.some of.within owns)))

pub returns-else-from-end : goal.returns-else-from-end
returns-else-from-end c b read =
    let live = c.args.self.now.live.items in
    let r = c.index.result.now in
    let of = c.slots_of-first.ensures in
    let own = c.own_slots-from.result in
    let before = rw c.deref.ensures.value at c.end_before.ensures in
    let after = rw (c.deref-2.ensures.value, add-one) at c.start_after.ensures in
    let owns = rw (before, after) at c.own_slots-from.ensures in
    let P : ℕ × ℕ → Type 0 = λ b. (s : ℕ) → has s c.args.self.now.met ≡ is_met (without live b.0) s in
    subst P (same_read live c.args.k r b c.requires.within c.index.ensures read)
    (λ s. sym (met_gone c.args.self.now c.args.k r c.slots_of-first.result.0 c.slots_of-first.result.1 own.0 own.1 s c.requires.kept c.requires.within c.index.ensures of.first of.last of.some of.within owns
    ∙ rw (none_between s own.0 own.1 c.if-from-end.false) (and-true (has s c.args.self.now.met))))
  where
    and-true : (b : Bool) → (b && true) ≡ b
    and-true true = refl
    and-true false = refl
