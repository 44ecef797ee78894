-- A semaphore as its callers see it.
use Rattle.std.specs.Prelude.{ℕ, List}
use Rattle.slot_space.specs.declared.names.Tid.{Tid}
use Rattle.marcel_sync.specs.declared.sem.SemRow.{SemRow}

-- a value, and a queue of waiters with their nodes
abbrev pub row_of : ℕ → List (Tid × ℕ) → SemRow
row_of value waiters = record { value = value; waiters = waiters }
