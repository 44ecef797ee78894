-- The acts of sim: each is chosen from the possible ones by the next word of a generator.
use Rattle.std.specs.Prelude.{◌≡◌, ℕ, Bool, zero, suc, ◌%◌, List, [], ◌∷◌, ◌++◌, length, slice_get, Option, Some, ⊤}
use Rattle.rand_pcg.specs.Lcg.{Lcg, started, increment_of}
use Rattle.rand_pcg.specs.Pcg.{pcg32, multiplier_64}
use Rattle.run_trace.specs.declared.entry.Act.{Act}
use Rattle.run_trace.specs.declared.entry.Entry.{Entry}
use Rattle.run_trace.specs.Program.{Program}
use Rattle.cluster.specs.Acts.{possible_acts}
use Rattle.cluster.specs.Standing.{net_after}

-- the generator of a seed, on stream 54
unfoldable pub generator : ℕ → Lcg
generator seed = started 64 multiplier_64 seed (increment_of 64 54)

-- the same after so many words
abbrev pub generator_after : ℕ → ℕ → Lcg
generator_after seed zero = generator seed
generator_after seed (suc k) = (pcg32 (generator_after seed k)).1

abbrev pub word_at : ℕ → ℕ → ℕ
word_at seed k = (pcg32 (generator_after seed k)).0

-- the item at the word's place, counted round and round
abbrev pub chosen : ℕ → List (ℕ × Act) → Option (ℕ × Act)
chosen word acts = slice_get acts (word % length acts)

-- the acts that are possible after this trace; moves only where they are asked for
abbrev pub possible_after : Bool → Program → List Entry → List (ℕ × Act)
possible_after moves p trace = possible_acts moves p (net_after p trace)

-- the k-th act after this trace: chosen by the word, with its stamp and its round
pub record IsDrawn (moves : Bool) (p : Program) (word k : ℕ) (trace : List Entry) (x : Entry) : Type 0 where
  pub act : chosen word (possible_after moves p trace) ≡ Some (x.node, x.act)
  pub stamp : x.stamp ≡ suc k
  pub round : x.round ≡ k

-- the entries after the first ones, newest first, are drawn
abbrev pub AreDrawn : Bool → Program → (seed : ℕ) → List Entry → List Entry → Type 0
AreDrawn moves p seed first [] = ⊤
AreDrawn moves p seed first (x ∷ later) = AreDrawn moves p seed first later
    × IsDrawn moves p (word_at seed (length later)) (suc (length later)) (later ++ first) x
