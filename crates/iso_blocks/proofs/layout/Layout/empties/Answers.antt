use Rattle.std.proofs.Common.{◌≡◌, ℕ, ◌∙◌, subst, get_or}
use Rattle.slot_space.specs.Sets.{has}
use Rattle.iso_blocks.specs.Bytes.{is_met}
use Rattle.iso_blocks.specs.Heap.{without}
use Rattle.iso_blocks.proofs.HeapSets.{minus-filter}
use Rattle.iso_blocks.proofs.Rows.{same_default}
use Rattle.iso_blocks.proofs.layout.Layout.empties.Goals as goal

pub returns : goal.returns
returns c =
    let live = c.args.self.now.live.items in
    let found = rw c.deref.ensures.value at c.in_ok-k.ensures in
    let b = get_or live c.in_ok-k.k (0, 0) in
    let read = same_default live c.in_ok-k.k (0, 0) found.0 in
    let P : ℕ → Type 0 = λ a. (s : ℕ) → has s c.met_without.result ≡ is_met (without live a) s in
    let met = subst P (found.2 b read) (c.met_without.ensures b read) in
    (found.1, c.remove_all.ensures ∙ minus-filter (is_met (without live c.args.address)) c.args.self.now.heap c.met_without.result met)
