-- A thread that runs in place.
use Rattle.std.specs.Prelude.{ℕ, List}
use Rattle.run_trace.specs.Guests.{Thread, Run, run_of, with_state}

-- the run of a thread for at most so many instructions
abbrev pub run_at : List ℕ → ℕ → Thread → Run
run_at image quantum x = run_of image quantum x.guest.solo.state

-- the thread after this run
abbrev pub after_run : Run → Thread → Thread
after_run r x = record x { guest = with_state r.state x.guest }
