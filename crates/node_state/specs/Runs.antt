-- A processor comes to a thread, which runs in place, looked up where it stands.
use Rattle.std.specs.Prelude.{◌≡◌, ℕ, ◌-◌, List, Option, Some, None, Bool, true, false}
use Rattle.slot_space.specs.declared.names.Tid.{Tid}
use Rattle.rv_step.specs.declared.hart.Stop.{Stop}
use Rattle.run_trace.specs.declared.label.Label.TheVariants.{Ran}
use Rattle.run_trace.specs.Program.{Program, code_of}
use Rattle.run_trace.specs.Guests.{Thread, Run}
use Rattle.run_trace.specs.Local.{EventSoFar}
use Rattle.run_trace.specs.Steps.{say, keep, at_thread}
use Rattle.run_trace.specs.Machine.{stopped, chooses}
use Rattle.node_thread.specs.Runs.{run_at, after_run}

-- the run of a thread that is chosen, and its label
abbrev pub ran_at : List ℕ → Tid → (vp quantum : ℕ) → Thread → EventSoFar → EventSoFar
ran_at image t vp quantum x d =
    let r : Run = run_at image quantum x in
    say (Ran t vp r.count r.stop) (keep t (after_run r x) d)

abbrev pub stop_found : List ℕ → ℕ → Option Thread → Option Stop
stop_found image quantum None = None
stop_found image quantum (Some x) = Some (run_at image quantum x).stop

-- a thread that is chosen runs, and what follows on its stop, if it is here
abbrev pub run_chosen : Program → (me vp quantum : ℕ) → Tid → Option Thread → EventSoFar → Option EventSoFar
run_chosen p me vp quantum t None d = None
run_chosen p me vp quantum t (Some x) d =
    let r : Run = run_at (code_of p) quantum x in
    Some (at_thread t (stopped p me t r.stop) (ran_at (code_of p) t vp quantum x d))

-- of at most so many choices the first moves a bubble, and the others come to what all would have; or it comes to a thread, which has run
abbrev pub Chooses : Program → (me vp quantum left : ℕ) → EventSoFar → EventSoFar → Bool → Type 0
Chooses p me vp quantum left old new true = chooses p me vp quantum (left - 1) new ≡ chooses p me vp quantum left old
Chooses p me vp quantum left old new false = Some new ≡ chooses p me vp quantum left old
