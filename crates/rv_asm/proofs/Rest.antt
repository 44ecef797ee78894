-- How far a pass over the lines has come.
use Rattle.std.proofs.Common.{◌≡◌, ℕ, ◌+◌, ◌*◌, ◌^◌, ◌≤◌}
use Rattle.asm_targets.specs.declared.labels.Mark.{Mark}
use Rattle.rv_asm.specs.Layout.{base}

-- how many lines stand before this place
pub record IsAt (mark : Mark) (count : ℕ) : Type 0 where
  pub line : mark.line ≡ count + 1
  pub first : base ≤ mark.address
  pub near : mark.address ≤ base + 2 ^ 23 * count
