-- What the shapes say. In these forms letters stand for numbers.
use Rattle.std.specs.Prelude.{ℕ, codes, ◌==◌, if◌then◌else◌}
use Rattle.rv_step.specs.declared.hart.FaultKind.TheVariants as kinds
use Rattle.rv_step.specs.declared.hart.Stop.{Stop}
use Rattle.rv_step.specs.declared.hart.Stop.TheVariants as stops
use Rattle.marcel_core.specs.declared.end.End.{End}
use Rattle.marcel_core.specs.declared.end.End.TheVariants as ends
use Rattle.pictures.specs.declared.shape.Message.{Message}
use Rattle.pictures.specs.declared.shape.Message.TheVariants as carry
use Rattle.pictures.specs.declared.shape.Reason.{Reason}
use Rattle.pictures.specs.declared.shape.Reason.TheVariants as reasons
use Rattle.pictures.specs.declared.shape.Sign.{Sign}
use Rattle.pictures.specs.declared.shape.Sign.TheVariants as sign
use Rattle.pictures.specs.declared.shape.Shape.{Shape}
use Rattle.pictures.specs.declared.shape.Shape.TheVariants.{Bar, Wait, Arrow, Mark, NodeMark}
use Rattle.picture_texts.specs.Filling.{Text}

-- what a run says
abbrev pub of_run : Stop → Text
of_run stops.Quantum = codes "ran A.B G H quantum"
of_run stops.Call = codes "ran A.B G H call"
of_run (stops.Fault kinds.Illegal) = codes "ran A.B G H illegal"
of_run (stops.Fault kinds.Break) = codes "ran A.B G H break"
of_run (stops.Fault kinds.Misaligned) = codes "ran A.B G H misaligned"
of_run (stops.Fault kinds.Fetch) = codes "ran A.B G H fetch"
of_run (stops.Fault kinds.Load) = codes "ran A.B G H load"
of_run (stops.Fault kinds.Store) = codes "ran A.B G H store"

-- what an arrow says
abbrev pub of_message : Message → Text
of_message carry.Thread = codes "left A.B E, came A.B"
of_message carry.Join = codes "asked A.B, heard A.B"
of_message carry.Line = codes "asked A.B print, shown A.B"
of_message carry.Answer = codes "judged A.B, told A.B"
of_message carry.EndNote = codes "ended A.B, known A.B"
of_message (carry.Call count) = codes "asked A.B, born for its remote call G"

-- what an end says
abbrev pub of_end : End → Text
of_end (ends.Exit value) = codes "ended A.B exit G"
of_end (ends.Fault kinds.Illegal pc) = codes "ended A.B illegal G"
of_end (ends.Fault kinds.Break pc) = codes "ended A.B break G"
of_end (ends.Fault kinds.Misaligned pc) = codes "ended A.B misaligned G"
of_end (ends.Fault kinds.Fetch pc) = codes "ended A.B fetch G"
of_end (ends.Fault kinds.Load pc) = codes "ended A.B load G"
of_end (ends.Fault kinds.Store pc) = codes "ended A.B store G"

-- what a mark says
abbrev pub of_sign : Sign → Text
of_sign sign.BornMain = codes "born A.B main"
of_sign (sign.Created home seq) = codes "born A.B create G.H"
of_sign (sign.BornInside home seq bubble) = codes "born A.B in G.H P"
of_sign (sign.BornFor home seq count) = codes "born A.B service G.H P"
of_sign (sign.Ended end) = of_end end
of_sign sign.Line = codes "shown A.B"
of_sign sign.Halted = codes "halted A.B"
of_sign (sign.Took first count) = codes "took A.B G H"
of_sign (sign.Gave slots) = codes "gave A.B, G slots"
of_sign (sign.Lent to slots) = codes "lent G, H slots"
of_sign (sign.InHand lender slots) = codes "inhand G, H slots"
of_sign (sign.Decided count first) = codes "decided A.B G H"
of_sign (sign.Undecided count) = codes "decided A.B G -"
of_sign (sign.Returned to slots) = codes "returned G, H slots"
of_sign (sign.Home slots) = codes "home, G slots"
of_sign (sign.Down bubble list) = codes "down G H"
of_sign (sign.Burst bubble list) = codes "burst G H"
of_sign (sign.Gathered bubble count) = codes "gathered G H"
of_sign (sign.Dropped count) = codes "dropped A.B G"

-- what a call says that is waited for; H and P are a thread's name, or a semaphore's: its node and its number there
abbrev pub of_call : ℕ → Text
of_call number =
    if number == 7 then codes "A.B waits, asked join H.P"
    else (if number == 8 then codes "A.B waits, asked detach H.P"
    else (if number == 10 then codes "A.B waits, asked sem_p H.P"
    else (if number == 11 then codes "A.B waits, asked sem_v H.P"
    else (if number == 16 then codes "A.B waits, asked print" else codes "A.B waits, asked call G"))))

-- what a wait says
abbrev pub of_wait : Reason → Text
of_wait reasons.Ready = codes "A.B is ready"
of_wait (reasons.Call number argument) = of_call number
of_wait (reasons.Coming to) = codes "A.B goes to node G"
of_wait reasons.Gone = codes "A.B is gone"

-- what a shape says: its labels, in their own words where it is one label's
abbrev pub says : Shape → Text
says (Bar t vp count stop at to) = of_run stop
says (Wait t reason at to) = of_wait reason
says (Arrow t carries at to) = of_message carries
says (Mark t sign at) = of_sign sign
says (NodeMark sign at) = of_sign sign
