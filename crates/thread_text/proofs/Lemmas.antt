-- Lemmas of fields. Other crates cite these alone.
use Rattle.std.proofs.Common.{List, Ok, Bool, true, length, ℕ, ◌+◌, ◌++◌, ◌<◌, ◌≡◌, ◌≤◌}
use Rattle.slot_space.specs.Sets.{has_run}
use Rattle.thread_text.specs.Fields.{Fields, Fit, Obey, Reading, blocks_behind, read, spelled}
use Rattle.thread_text.proofs.BlockRules
use Rattle.thread_text.proofs.FieldLaws
pub use Rattle.thread_text.proofs.FieldLaws.{IsBytes, Takes}

-- ## Reading and spelling

-- what is read of bytes are numbers that obey their rules and fit their fields, and the bytes spell them
pub takes : (f : Fields) (bytes : List ℕ) (at : ℕ) (r : Reading) → IsBytes bytes → at ≤ length bytes → read f bytes at ≡ Ok r → Takes f bytes at r
takes = FieldLaws.takes

-- such numbers are read again from what spells them
pub again : (f : Fields) (ns front rest : List ℕ) → Obey f ns → Fit f ns
    → read f (front ++ (spelled f ns ++ rest)) (length front) ≡ Ok (record { numbers = ns; at = length front + length (spelled f ns); blocks = blocks_behind f ns })
again = FieldLaws.again

-- ## Runs

-- all numbers of a run are in the set
pub run_all : (set : ℕ → Bool) (s count x : ℕ) → has_run set s count ≡ true → s ≤ x → x < s + count → set x ≡ true
run_all = BlockRules.run_all

-- where all numbers are in the set, they are a run
pub all_run : (set : ℕ → Bool) (s count : ℕ) → ((x : ℕ) → s ≤ x → x < s + count → set x ≡ true) → has_run set s count ≡ true
all_run = BlockRules.all_run
