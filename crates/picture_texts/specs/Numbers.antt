-- The numbers of a shape, by the letters that stand for them in the forms.
use Rattle.std.specs.Prelude.{ℕ, ◌-◌, ◌/◌, ◌%◌, ◌^◌, List, [], ◌∷◌, Option, Some, None}
use Rattle.slot_space.specs.declared.names.Tid.{Tid}
use Rattle.marcel_core.specs.declared.end.End.{End}
use Rattle.marcel_core.specs.declared.end.End.TheVariants as ends
use Rattle.run_trace.specs.Names.{tid}
use Rattle.pictures.specs.declared.shape.Message.TheVariants as carry
use Rattle.pictures.specs.declared.shape.Reason.{Reason}
use Rattle.pictures.specs.declared.shape.Reason.TheVariants as reasons
use Rattle.pictures.specs.declared.shape.Sign.{Sign}
use Rattle.pictures.specs.declared.shape.Sign.TheVariants as sign
use Rattle.pictures.specs.declared.shape.Shape.{Shape}
use Rattle.pictures.specs.declared.shape.Shape.TheVariants.{Bar, Wait, Arrow, Mark, NodeMark}
use Rattle.picture_texts.specs.Frames.{Frame}
use Rattle.picture_texts.specs.declared.numbers.Details.{Details}
use Rattle.picture_texts.specs.Parts.{start, finish, subject, processor}
use Rattle.picture_texts.specs.Layouts.{across, row_down, lane_down, lane_of}

abbrev pub three : ℕ → ℕ → ℕ → Details
three first second third = record { first = first; second = second; third = third }

-- of a call its number, and its first argument as a name of a thread
abbrev pub of_reason : Reason → Details
of_reason reasons.Ready = three 0 0 0
of_reason (reasons.Call number argument) = three number (argument / 2 ^ 32) (argument % 2 ^ 32)
of_reason (reasons.Coming to) = three to 0 0
of_reason reasons.Gone = three 0 0 0

-- of an end the exit's value, or the pc of the fault
abbrev pub of_end : End → Details
of_end (ends.Exit value) = three value 0 0
of_end (ends.Fault kind pc) = three pc 0 0

abbrev pub of_sign : Sign → Details
of_sign sign.BornMain = three 0 0 0
of_sign (sign.Created home seq) = three home seq 0
of_sign (sign.BornInside home seq bubble) = three home seq bubble
of_sign (sign.BornFor home seq count) = three home seq count
of_sign (sign.Ended end) = of_end end
of_sign sign.Line = three 0 0 0
of_sign sign.Halted = three 0 0 0
of_sign (sign.Took first count) = three first count 0
of_sign (sign.Gave slots) = three slots 0 0
of_sign (sign.Lent to slots) = three to slots 0
of_sign (sign.InHand lender slots) = three lender slots 0
of_sign (sign.Decided count first) = three count first 0
of_sign (sign.Undecided count) = three count 0 0
of_sign (sign.Returned to slots) = three to slots 0
of_sign (sign.Home slots) = three slots 0 0
of_sign (sign.Down bubble list) = three bubble list 0
of_sign (sign.Burst bubble list) = three bubble list 0
of_sign (sign.Gathered bubble count) = three bubble count 0
of_sign (sign.Dropped count) = three count 0 0

abbrev pub details : Shape → Details
details (Bar t vp count stop at to) = three vp count 0
details (Wait t reason at to) = of_reason reason
details (Arrow t (carry.Call count) at to) = three count 0 0
details (Arrow t _ at to) = three 0 0 0
details (Mark t sign at) = of_sign sign
details (NodeMark sign at) = of_sign sign

abbrev pub named : Option Tid → Tid
named None = tid 0 0
named (Some t) = t

-- in its thread's lane, or else in its node's row
abbrev pub level : Frame → Option Tid → ℕ → ℕ
level layout None row = row
level layout (Some t) row = lane_down layout.nodes layout.processors (lane_of layout.lanes t)

-- A home, B number of the thread; C node, D stamp of the start; E node, F stamp of the end; G, H, P what it says; I, J where its start
-- and K, L where its end stands among the rows; M its width; N how far down its lane is; O the colour of its node
abbrev pub numbers : Frame → Shape → List ℕ
numbers layout s =
    (named (subject s)).home ∷ (named (subject s)).seq
    ∷ (start s).node ∷ (start s).stamp ∷ (finish s).node ∷ (finish s).stamp
    ∷ (details s).first ∷ (details s).second
    ∷ across layout.axis (start s).stamp ∷ row_down layout.processors (start s).node (processor s)
    ∷ across layout.axis (finish s).stamp ∷ row_down layout.processors (finish s).node (processor s)
    ∷ (across layout.axis (finish s).stamp - across layout.axis (start s).stamp)
    ∷ level layout (subject s) (row_down layout.processors (start s).node (processor s))
    ∷ (start s).node % 8
    ∷ (details s).third ∷ []
