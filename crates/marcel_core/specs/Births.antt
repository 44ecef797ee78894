-- What a home is: a node, and the births there.
use Rattle.std.specs.Prelude.{ℕ, ◌-◌, ◌^◌, List, [], ◌∷◌, ◌++◌, length}
use Rattle.slot_space.specs.declared.names.Tid.{Tid}
use Rattle.marcel_core.specs.declared.birth.Birth.{Birth}
use Rattle.marcel_core.specs.declared.birth.Birth.TheVariants.{Lives}
use Rattle.marcel_core.specs.Homes.{with_birth}

-- the most births that a home numbers
abbrev pub birth_limit : ℕ
birth_limit = 2 ^ 32 - 1

pub record Births : Type 0 where
  pub node : ℕ
  pub births : List Birth  -- by their numbers

-- the name of the thread that is born next
abbrev pub next_name : Births → Tid
next_name h = record { home = h.node; seq = length h.births }

-- one more was born
abbrev pub with_birth_more : Births → Births
with_birth_more h = record h { births = h.births ++ Lives ∷ [] }

-- the birth of this number is changed
abbrev pub changed : ℕ → (Birth → Birth) → Births → Births
changed seq f h = record h { births = with_birth h.births seq f }
