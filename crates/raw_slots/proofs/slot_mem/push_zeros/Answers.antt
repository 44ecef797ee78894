use Rattle.std.proofs.Common.{refl, sym, ap, ◌∙◌, ◌++◌, ◌∷◌, [], arith}
use Rattle.raw_slots.proofs.Zeros.{zeros-none, zeros-more}
use Rattle.raw_slots.proofs.slot_mem.push_zeros.Goals as goal

pub loop-n-init : goal.loop-n-init
loop-n-init c = record { items = c.requires.2 ∙ sym zeros-none; len = c.requires.0; ptr = refl; capacity = refl }

pub loop-n-preserved : goal.loop-n-preserved
loop-n-preserved c =
    let old = c.loop-n.invariant in
    record {
      items = c.push_reserved.ensures.items ∙ ap (λ xs. xs ++ 0 ∷ []) old.items ∙ zeros-more c.loop-n._n;
      len = omega arith;
      ptr = cc;
      capacity = cc;
    }
