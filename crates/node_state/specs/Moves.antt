-- A thread that comes, as it is once its packet is opened.
use Rattle.std.specs.Prelude.{ℕ, Bool, ◌&&◌, None, is_none, nat_lt}
use Rattle.std.specs.Map.{lookup}
use Rattle.run_trace.specs.declared.label.Label.TheVariants.{Came}
use Rattle.run_trace.specs.Names.{is_tid}
use Rattle.run_trace.specs.Program.{Program, nodes_of}
use Rattle.run_trace.specs.Guests.{guest_slots}
use Rattle.run_trace.specs.Local.{Local, EventSoFar}
use Rattle.run_trace.specs.Steps.{say, thread_in, enter}
use Rattle.run_trace.specs.Machine.{lives_yet, are_away}
use Rattle.node_thread.specs.declared.newcomer.Newcomer.{Newcomer}

-- this node expects it
abbrev pub may_enter : Program → ℕ → Local → Newcomer → Bool
may_enter p me s n =
    nat_lt n.tid.home (nodes_of p) && (n.unserving && (is_none (lookup (is_tid n.tid) s.threads)
    && (lives_yet me s n.tid && are_away (guest_slots n.thread.guest) s)))

-- it comes, and is on the root list
abbrev pub enters : Newcomer → EventSoFar → EventSoFar
enters n d = enter n.tid n.thread.guest.priority None (thread_in n.tid n.thread (say (Came n.tid) d))
