use Rattle.std.proofs.Common.{◌≡◌, List, [], ◌∷◌, ◌++◌, ◌+◌, ℕ, take, length, ◌∙◌, refl, sym, ap, arith}
use Rattle.std.proofs.Math.Seq.{take-length}
use Rattle.std.proofs.lemmas.List.{take_more}
use Rattle.slot_space.specs.Sets.{union, insert}
use Rattle.slot_space.proofs.Ascending.{union-last, proper-of}
use Rattle.slot_space.proofs.slot_set.SlotSet.of.Goals as goal

pub loop-s-init : goal.loop-s-init
unfolding union
loop-s-init c = c.empty-set.ensures

pub loop-s-preserved : goal.loop-s-preserved
loop-s-preserved c =
    let xs : List ℕ = c.args.slots.now in
    let i : ℕ = c.loop-s.s-index in
    let s : ℕ = c.s-item.result in
    let more : take (i + 1) xs ≡ take i xs ++ s ∷ [] = take_more xs i s c.loop-s-test.true ∙ ap (λ x. take i xs ++ x ∷ []) (sym c.s-item.is) in
    c.insert.ensures ∙ ap (insert s) c.loop-s.invariant ∙ union-last (take i xs) s ∙ ap (λ ys. union ys []) (sym more)

pub returns : goal.returns
returns c =
    let xs : List ℕ = c.args.slots.now in
    let all : take c.loop-s.s-index xs ≡ xs = let end : c.loop-s.s-index ≡ length xs = omega arith in ap (λ i. take i xs) end ∙ take-length xs in
    rw (c.loop-s.invariant, all) (record { members = refl; proper = proper-of xs c.requires })
