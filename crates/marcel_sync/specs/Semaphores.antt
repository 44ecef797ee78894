-- What P and V do to a semaphore, and to a node's row of semaphores.
use Rattle.std.specs.Prelude.{◌≡◌, ℕ, ◌+◌, ◌-◌, ◌*◌, ◌/◌, ◌%◌, ◌^◌, ◌<◌, List, [], ◌∷◌, ◌++◌, Option, Some, None, All, length, nat_lt, ◌==◌, slice_get, slice_set, option_map, unwrap_or, if◌then◌else◌}
use Rattle.slot_space.specs.declared.names.Tid.{Tid}
use Rattle.marcel_sync.specs.declared.sem.SemRow.{SemRow}
use Rattle.marcel_sync.specs.declared.sem.Pgot.{Pgot}
use Rattle.marcel_sync.specs.declared.sem.Pgot.TheVariants as lowering
use Rattle.marcel_sync.specs.declared.sem.Vgot.{Vgot}
use Rattle.marcel_sync.specs.declared.sem.Vgot.TheVariants as raising
use Rattle.marcel_sync.specs.Rows.{row_of}

-- ## One semaphore

-- threads wait only at value 0, and the value is at most 2^31 - 1
pub record IsSemaphore (sem : SemRow) : Type 0 where
  pub small : sem.value < 2 ^ 31
  pub waits : 0 < sem.value → sem.waiters ≡ []

-- P lowers a value above 0, else its thread joins the queue
abbrev pub p_answer : SemRow → Pgot
p_answer sem = if sem.value == 0 then lowering.Later else lowering.Got

abbrev pub after_p : Tid × ℕ → SemRow → SemRow
after_p waiter sem = if sem.value == 0 then row_of sem.value (sem.waiters ++ waiter ∷ []) else row_of (sem.value - 1) sem.waiters

-- V wakes the first of the queue; where there is none it raises the value, but for the greatest
abbrev pub v_of : ℕ → List (Tid × ℕ) → Vgot
v_of value [] = if value == 2 ^ 31 - 1 then raising.AtLimit else raising.Stored
v_of value (first ∷ rest) = raising.Woke first.0 first.1

abbrev pub v_answer : SemRow → Vgot
v_answer sem = v_of sem.value sem.waiters

abbrev pub left_by_v : ℕ → List (Tid × ℕ) → SemRow
left_by_v value [] = row_of (if value == 2 ^ 31 - 1 then value else value + 1) []
left_by_v value (first ∷ rest) = row_of value rest

abbrev pub after_v : SemRow → SemRow
after_v sem = left_by_v sem.value sem.waiters

-- ## A list of semaphores, by their numbers

-- the semaphore of that number, where there is one, has become what the change makes of it
abbrev pub with_sem : ℕ → List SemRow → Option SemRow → List SemRow
with_sem k sems None = sems
with_sem k sems (Some sem) = slice_set sems k sem

abbrev pub sem_changed : (SemRow → SemRow) → ℕ → List SemRow → List SemRow
sem_changed change k sems = with_sem k sems (option_map change (slice_get sems k))

-- what P and V of the semaphore of that number are answered, and the semaphores after them
abbrev pub lowered_answer : ℕ → List SemRow → Pgot
lowered_answer k sems = unwrap_or (option_map p_answer (slice_get sems k)) lowering.NoSuch

abbrev pub lowered : ℕ → Tid × ℕ → List SemRow → List SemRow
lowered k waiter sems = sem_changed (after_p waiter) k sems

abbrev pub raised_answer : ℕ → List SemRow → Vgot
raised_answer k sems = unwrap_or (option_map v_answer (slice_get sems k)) raising.NoSuch

abbrev pub raised : ℕ → List SemRow → List SemRow
raised k sems = sem_changed after_v k sems

-- one more semaphore, of this value
abbrev pub with_one_more : ℕ → List SemRow → List SemRow
with_one_more v sems = sems ++ row_of v [] ∷ []

-- the threads that wait for the semaphore of that number
abbrev pub waiters_of : Option SemRow → List (Tid × ℕ)
waiters_of None = []
waiters_of (Some sem) = sem.waiters

abbrev pub waiters_at : ℕ → List SemRow → List (Tid × ℕ)
waiters_at k sems = waiters_of (slice_get sems k)

-- ## The semaphores of a node

pub record SemsView : Type 0 where
  pub node : ℕ
  pub nodes : ℕ
  pub sems : List SemRow

abbrev pub semaphores : (node nodes : ℕ) → List SemRow → SemsView
semaphores node nodes sems = record { node = node; nodes = nodes; sems = sems }

-- fewer than 2^32 semaphores
pub record AreSemaphores (sems : List SemRow) : Type 0 where
  pub few : length sems < 2 ^ 32
  pub each : All IsSemaphore sems

-- a name is node * 2^32 + number
abbrev pub node_in : ℕ → ℕ
node_in id = id / 2 ^ 32

abbrev pub number_in : ℕ → ℕ
number_in id = id % 2 ^ 32

-- a new semaphore has the next number
abbrev pub name_on : (node number : ℕ) → ℕ
name_on node number = node * 2 ^ 32 + number

abbrev pub new_name : ℕ → SemsView → Option ℕ
new_name v s = if nat_lt v (2 ^ 31) then Some (name_on s.node (length s.sems)) else None

abbrev pub after_make : ℕ → SemsView → SemsView
after_make v s = record s { sems = if nat_lt v (2 ^ 31) then with_one_more v s.sems else s.sems }

abbrev pub p_told : ℕ → SemsView → Pgot
p_told id s = lowered_answer (number_in id) s.sems

abbrev pub after_p_of : ℕ → Tid × ℕ → SemsView → SemsView
after_p_of id waiter s = record s { sems = lowered (number_in id) waiter s.sems }

abbrev pub v_told : ℕ → SemsView → Vgot
v_told id s = raised_answer (number_in id) s.sems

abbrev pub after_v_of : ℕ → SemsView → SemsView
after_v_of id s = record s { sems = raised (number_in id) s.sems }
