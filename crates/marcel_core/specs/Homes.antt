-- The births of one home, by their numbers: what joins and detaches are answered, and what they and ends change.
use Rattle.std.specs.Prelude.{ℕ, List, Bool, true, false, Option, Some, None, slice_get, slice_set}
use Rattle.rv_step.specs.Fault.{fault_number}
use Rattle.slot_space.specs.declared.names.Tid.{Tid}
use Rattle.slot_space.specs.declared.names.Reply.{Reply}
use Rattle.slot_space.specs.declared.names.Reply.TheVariants as replies
use Rattle.marcel_core.specs.declared.end.End.{End}
use Rattle.marcel_core.specs.declared.end.End.TheVariants.{Exit, Fault}
use Rattle.marcel_core.specs.declared.birth.Birth.{Birth}
use Rattle.marcel_core.specs.declared.birth.Birth.TheVariants.{Lives, Awaited, Detached, Ended, Over}
use Rattle.marcel_core.specs.declared.birth.Verdict.{Verdict}
use Rattle.marcel_core.specs.declared.birth.Verdict.TheVariants.{Now, Later, NoSuch, Taken}
use Rattle.marcel_core.specs.declared.birth.Detached.{Detached as DetachVerdict}
use Rattle.marcel_core.specs.declared.birth.Detached.TheVariants as detaching

-- what a join of this birth is answered; None is a number that wasn't born here
abbrev pub verdict : Option Birth → Verdict
verdict None = NoSuch
verdict (Some Lives) = Later
verdict (Some (Awaited by at)) = Taken
verdict (Some Detached) = NoSuch
verdict (Some (Ended end)) = Now end
verdict (Some Over) = NoSuch

-- the birth after a join by this thread on that node
abbrev pub joined : Tid → ℕ → Birth → Birth
joined by at Lives = Awaited by at
joined by at (Awaited other there) = Awaited other there
joined by at Detached = Detached
joined by at (Ended end) = Over
joined by at Over = Over

-- what a detach of this birth is answered: one whose end is known may be detached too
abbrev pub detach_verdict : Option Birth → DetachVerdict
detach_verdict None = detaching.NoSuch
detach_verdict (Some Lives) = detaching.Done
detach_verdict (Some (Awaited by at)) = detaching.Taken
detach_verdict (Some Detached) = detaching.NoSuch
detach_verdict (Some (Ended end)) = detaching.Done
detach_verdict (Some Over) = detaching.NoSuch

-- the birth after a detach
abbrev pub detached : Birth → Birth
detached Lives = Detached
detached (Awaited by at) = Awaited by at
detached Detached = Detached
detached (Ended end) = Over
detached Over = Over

abbrev pub detached_reply : DetachVerdict → Reply
detached_reply detaching.Done = replies.Value 0
detached_reply detaching.NoSuch = replies.NoSuch
detached_reply detaching.Taken = replies.Taken

-- the birth after its end has become known
abbrev pub ended : End → Birth → Birth
ended end Lives = Ended end
ended end (Awaited by at) = Over
ended end Detached = Over
ended end (Ended other) = Ended other
ended end Over = Over

-- the thread that waits for the end, and its node
abbrev pub joiner : Option Birth → Option (Tid × ℕ)
joiner (Some (Awaited by at)) = Some (by, at)
joiner (Some Lives) = None
joiner (Some Detached) = None
joiner (Some (Ended end)) = None
joiner (Some Over) = None
joiner None = None

-- born here, and its end isn't known
abbrev pub is_open : Option Birth → Bool
is_open (Some Lives) = true
is_open (Some (Awaited by at)) = true
is_open (Some Detached) = true
is_open (Some (Ended end)) = false
is_open (Some Over) = false
is_open None = false

abbrev pub set_found : List Birth → ℕ → (Birth → Birth) → Option Birth → List Birth
set_found births seq f None = births
set_found births seq f (Some birth) = slice_set births seq (f birth)

-- the births with the one of this number changed
abbrev pub with_birth : List Birth → ℕ → (Birth → Birth) → List Birth
with_birth births seq f = set_found births seq f (slice_get births seq)

-- ## What a joiner is told: 0 and the value after an exit, 1 and the fault's number after a fault

abbrev pub end_reply : End → Reply
end_reply (Exit value) = replies.Value 0
end_reply (Fault kind pc) = replies.Value 1

abbrev pub end_value : End → ℕ
end_value (Exit value) = value
end_value (Fault kind pc) = fault_number kind
