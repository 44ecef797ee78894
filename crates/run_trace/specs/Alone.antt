-- A thread, as its own labels tell it, and of a service its caller's call too: its code run alone in its own memory, with the replies that
-- it was told.
use Rattle.std.specs.Prelude.{◌≡◌, List, [], ◌∷◌, Option, Some, None, Bool, false, if◌then◌else◌}
use Rattle.slot_space.specs.declared.names.Tid.{Tid}
use Rattle.run_trace.specs.declared.entry.Entry.{Entry}
use Rattle.run_trace.specs.declared.label.Label.{Label}
use Rattle.run_trace.specs.declared.label.Label.TheVariants.{Born, Ran, Asked, Judged, Told, Took, Gave, Decided}
use Rattle.run_trace.specs.Names.{is_tid}
use Rattle.run_trace.specs.Program.{Program, code_of}
use Rattle.slot_space.specs.Sets.{run}
use Rattle.slot_space.specs.declared.names.Reply.{Reply}
use Rattle.iso_blocks.specs.Heap.{rounded, place, placed, without}
use Rattle.run_trace.specs.declared.call.Call.{Call}
use Rattle.run_trace.specs.declared.call.Call.TheVariants.{Isomalloc, Isofree}
use Rattle.run_trace.specs.Calls.{call_of, refusal}
use Rattle.run_trace.specs.Guests.{Solo, Guest, newborn, with_bytes, with_zero_slots, without_slots, heap_of}
use Rattle.run_trace.specs.Cluster.{Net}
use Rattle.run_trace.specs.Holding.{Location, IsAt}
use Rattle.run_trace.specs.Spots.{Remote, remote_after, stack_bytes, Response, no_response, stepped, told_state, Life, On, Served, Seeks, Spot, unborn}
use Rattle.run_trace.specs.Items.{Subject, Thread, Turns, subject}

abbrev pub is_about : Tid → Option Subject → Bool
is_about t None = false
is_about t (Some (Thread u)) = is_tid u t
is_about t (Some Turns) = false

-- the bytes that the remote calls of each thread named in a trace, newest entry first
abbrev pub remote_in : List Label → Remote → Remote
remote_in [] remote = remote
remote_in (l ∷ ls) remote = remote_in ls (remote_after l remote)

abbrev pub remote_of : List Entry → Remote
remote_of [] = λ t. []
remote_of (x ∷ xs) = remote_in x.labels (remote_of xs)

-- registers, pc, memory and blocks; the call of its heap that it waits for; and the reply that was judged last
pub record Alone : Type 0 where
  pub solo : Solo
  pub asked : Option Call
  pub reply : Response

-- a call by which a thread's blocks change
abbrev pub heap_call : Call → Option Call
heap_call (Isomalloc len) = Some (Isomalloc len)
heap_call (Isofree address) = Some (Isofree address)
heap_call _ = None

-- the call, where no check of it fails
abbrev pub unless_refused : Option Reply → Option Call → Option Call
unless_refused None asked = asked
unless_refused (Some reply) asked = None

-- a block lives from the reply of its isomalloc to the reply of its isofree
abbrev pub answered : Option Call → Solo → Solo
answered (Some (Isomalloc len)) x = record x { live = (placed (heap_of x) (rounded len) (place (heap_of x) (rounded len))).live }
answered (Some (Isofree address)) x = record x { live = without x.live address }
answered _ x = x

-- what a label of the thread makes of it; a service has the bytes of its caller's asked call at the end of its stack
abbrev pub alone_then : Program → Remote → Tid → Label → Alone → Alone
alone_then p remote t (Born u why entry a0 a1 sp slot) a =
    record { solo = (with_bytes sp (stack_bytes why remote) (newborn entry a0 a1 sp slot 0)).solo; asked = None; reply = no_response }
alone_then p remote t (Ran u vp count stop) a =
    record a { solo = record a.solo { state = stepped (code_of p) count a.solo.state } }
alone_then p remote t (Asked u call args bytes) a =
    record a { asked = unless_refused (refusal p t a.solo (call_of a.solo.state)) (heap_call (call_of a.solo.state)) }
alone_then p remote t (Judged u reply extra) a =
    record { solo = answered a.asked a.solo; asked = None; reply = record { code = reply; extra = extra } }
alone_then p remote t (Decided u count None) a = record a { asked = None }
alone_then p remote t (Told u) a = record a { solo = record a.solo { state = told_state a.reply a.solo.state } }
alone_then p remote t (Took u first count) a =
    record a { solo = record a.solo { state = record a.solo.state { memory = with_zero_slots (run first count) a.solo.state.memory } } }
alone_then p remote t (Gave u slots) a =
    record a { solo = record a.solo { state = record a.solo.state { memory = without_slots slots a.solo.state.memory } } }
alone_then p remote t _ a = a

-- only labels of thread t count
abbrev pub alone_after : Program → Remote → Tid → List Label → Alone → Alone
alone_after p remote t [] a = a
alone_after p remote t (l ∷ ls) a = alone_after p (remote_after l remote) t ls (if is_about t (subject l) then alone_then p remote t l a else a)

abbrev pub asked_in : Life → Solo → Option Call
asked_in (On n (Served c)) x = heap_call c
asked_in (On n Seeks) x = heap_call (call_of x.state)
asked_in _ x = None

abbrev pub alone_in : Spot → Alone
alone_in s = record { solo = s.guest.solo; asked = asked_in s.life s.guest.solo; reply = s.verdict }

-- thread t by its labels in a trace, newest entry first
abbrev pub alone_of : Program → Tid → List Entry → Alone
alone_of p t [] = alone_in unborn
alone_of p t (x ∷ xs) = alone_after p (remote_of xs) t x.labels (alone_of p t xs)

-- each thread, on whatever node it is, and on its way too, has the registers, the bytes and the blocks of its code run alone
abbrev pub EachRunsAlone : Program → Net → List Entry → Type 0
EachRunsAlone p net trace = (t : Tid) (place : Location) (g : Guest) → IsAt net place t g → g.solo ≡ (alone_of p t trace).solo
