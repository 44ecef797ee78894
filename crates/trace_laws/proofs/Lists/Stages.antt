-- Stages, by what the lists have of a thread in them: at home, at rest between events, in hand, waiting, leaving, and after a reply.
use Rattle.std.proofs.Common.{arith, ◌≡◌, ℕ, [], Some, Bool, true, false, eqb, refl}
use Rattle.std.proofs.lemmas.Bool.{eq-eqb}
use Rattle.slot_space.specs.declared.names.Tid.{Tid}
use Rattle.run_trace.specs.declared.node.Wait.{Wait}
use Rattle.run_trace.specs.declared.node.Wait.TheVariants as wait
use Rattle.run_trace.specs.Rules.{MayLeave}
use Rattle.trace_laws.specs.Obeys.{IsSettled}
use Rattle.run_trace.specs.Guests.{Guest, waits}
use Rattle.run_trace.specs.Spots.{Stage, Ready, Running, Due, Served, Seeks, Told_next, Told_then, Departs, Ends, Leaves, Halts, Stays, Shows, Shown_there, Asks, Awaits, Answered, Detaches, Signals, Queues, Life, On, Response, told_stage, Showing, Answers}
use Rattle.run_trace.specs.Stands.{thread_in_stage, ways_of, held_in_stage, holding_of, wait_of}
use Rattle.trace_laws.proofs.Underway.Midst.{Quiet, quiet, Plain, plain, is_plain}
use Rattle.run_trace.specs.Items.{is_busy}

-- ## Stages that show on the thread's own node alone

abbrev pub is_home : Stage → Bool
is_home Ready = true
is_home Running = true
is_home (Due code) = true
is_home (Served c) = true
is_home Told_next = true
is_home (Told_then to) = true
is_home (Departs to) = true
is_home (Ends end) = true
is_home (Leaves end) = true
is_home Halts = true
is_home _ = false

pub home_way : (t : Tid) (n : ℕ) (stage : Stage) (v : Response) (g : Guest) → is_home stage ≡ true → ways_of t (On n stage) v g ≡ []
home_way t n stage v g h = grind (arith, h)

pub home_quiet : (n : ℕ) (stage : Stage) (life : Life) → life ≡ On n stage → is_home stage ≡ true → Quiet life
home_quiet n stage life x h = quiet x (grind (arith, h))

pub home_plain : (n : ℕ) (stage : Stage) → is_home stage ≡ true → Plain (On n stage)
home_plain n stage h = plain (On n stage) (grind (arith, h))

pub home_busy : (n k : ℕ) (stage : Stage) → is_home stage ≡ true → eqb n k ≡ false → is_busy k (On n stage) ≡ false
home_busy n k stage h e = grind (arith, h, e)

-- ## Stages in which a thread may be between events

abbrev pub is_resting : Stage → Bool
is_resting Ready = true
is_resting Stays = true
is_resting (Shows bytes) = true
is_resting Shown_there = true
is_resting (Asks u) = true
is_resting (Awaits u) = true
is_resting (Answered h) = true
is_resting (Detaches u) = true
is_resting (Signals id up) = true
is_resting (Queues id) = true
is_resting Seeks = true
is_resting _ = false

pub resting : (n : ℕ) (stage : Stage) → IsSettled (On n stage) → is_resting stage ≡ true
resting n Ready k = refl
resting n Stays k = refl
resting n (Shows bytes) k = refl
resting n Shown_there k = refl
resting n (Asks u) k = refl
resting n (Awaits u) k = refl
resting n (Answered h) k = refl
resting n (Detaches u) k = refl
resting n (Signals id up) k = refl
resting n (Queues id) k = refl
resting n Seeks k = refl
resting n Showing k = absurd (cc (k 0))
resting n (Answers h reply second) k = absurd (cc (k h, eq-eqb h h refl))
resting n stage k = absurd (cc (k n, eq-eqb n n refl))

-- it shows on its node, and is on the run list exactly where it waits for nothing
pub rest_thread : (n : ℕ) (stage : Stage) (g : Guest) → is_resting stage ≡ true → thread_in_stage n stage g ≡ Some (waits (wait_of n stage) g)
rest_thread n stage g h = grind (arith, h)

-- ## Stages in which an event has its thread in hand: it is on its node alone, off the run list, and waits for nothing

abbrev pub is_in_hand : Stage → Bool
is_in_hand Running = true
is_in_hand (Due code) = true
is_in_hand (Served c) = true
is_in_hand Told_next = true
is_in_hand (Told_then to) = true
is_in_hand (Ends end) = true
is_in_hand Halts = true
is_in_hand _ = false

pub hand_home : (stage : Stage) → is_in_hand stage ≡ true → is_home stage ≡ true
hand_home stage h = grind (arith, h)

pub hand_busy : (n : ℕ) (stage : Stage) → is_in_hand stage ≡ true → is_busy n (On n stage) ≡ true
hand_busy n stage h = grind (arith, h, eq-eqb n n refl)

pub hand_thread : (n : ℕ) (stage : Stage) (g : Guest) → is_in_hand stage ≡ true → thread_in_stage n stage g ≡ Some (waits wait.No g)
hand_thread n stage g h = grind (arith, h)

-- ## A stage in which a thread waits on its node: it shows there, off the run list, and no event is busy with it

pub record StandsWaiting (n : ℕ) (t : Tid) (stage : Stage) (waiting : Wait) (g : Guest) : Type 0 where
  pub thread : thread_in_stage n stage g ≡ Some (waits waiting g)
  pub idle : (k : ℕ) → is_busy k (On n stage) ≡ false
  pub held : held_in_stage stage g ≡ Some (holding_of g)
  pub plain : is_plain (On n stage) ≡ true

-- ## A stage in which a thread may leave

pub leaves_home : (n to : ℕ) (stage : Stage) → MayLeave n to (On n stage) → is_home stage ≡ true
leaves_home n to Ready may = refl
leaves_home n to (Departs other) may = refl
leaves_home n to stage may = grind (arith, may)

pub leaves_holding : (n to : ℕ) (stage : Stage) (g : Guest) → MayLeave n to (On n stage) → held_in_stage stage g ≡ Some (holding_of g)
leaves_holding n to Ready g may = refl
leaves_holding n to (Departs other) g may = refl
leaves_holding n to stage g may = grind (arith, may)

-- ## The stage in which a thread goes on that is told: it is on the run list

pub told_home : (life : Life) → is_home (told_stage life) ≡ true
told_home (On m (Told_then to)) = refl
told_home life = grind arith

pub told_thread : (n : ℕ) (life : Life) (g : Guest) → thread_in_stage n (told_stage life) g ≡ Some (waits wait.No g)
told_thread n (On m (Told_then to)) g = refl
told_thread n life g = grind arith

pub told_held : (life : Life) (g : Guest) → held_in_stage (told_stage life) g ≡ Some (holding_of g)
told_held (On m (Told_then to)) g = refl
told_held life g = grind arith
