-- What stands beside a block in the row of live blocks.
use Rattle.std.specs.Prelude.{◌≡◌, ℕ, ◌+◌, ◌-◌, ◌<◌, ◌≤◌, ◌^◌, zero, suc, List, [], ◌∷◌}
use Rattle.slot_space.specs.Addresses.{slot_base}

-- where the block before place k ends, or the start of the row
abbrev pub end_before : ℕ → List (ℕ × ℕ) → ℕ → ℕ
end_before low live zero = low
end_before low [] (suc k) = low
end_before low (b ∷ live) (suc k) = end_before (b.0 + b.1) live k

-- where the first of the blocks starts, or past all addresses
abbrev pub start_of : List (ℕ × ℕ) → ℕ
start_of [] = 2 ^ 64 - 1
start_of (b ∷ live) = b.0

-- of a block's `count` slots from `first` on, those from `from` to before `end` are shared with no neighbour: the block before ends at `before`, and the one after starts at `after`
pub record Owns (before after first count from end : ℕ) : Type 0 where
  pub from_shared : slot_base first < before → from ≡ first + 1
  pub from_own : before ≤ slot_base first → from ≡ first
  pub end_shared : after < slot_base (first + count) → end + 1 ≡ first + count
  pub end_own : slot_base (first + count) ≤ after → end ≡ first + count
