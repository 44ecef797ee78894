-- The lines of a shape in a Pajé trace. In the forms letters stand for numbers.
use Rattle.std.specs.Prelude.{ℕ, [], ◌++◌, codes, ◌==◌, if◌then◌else◌}
use Rattle.pictures.specs.declared.shape.Message.{Message}
use Rattle.pictures.specs.declared.shape.Message.TheVariants as carry
use Rattle.pictures.specs.declared.shape.Reason.{Reason}
use Rattle.pictures.specs.declared.shape.Reason.TheVariants as reasons
use Rattle.pictures.specs.declared.shape.Sign.TheVariants as sign
use Rattle.pictures.specs.declared.shape.Shape.{Shape}
use Rattle.pictures.specs.declared.shape.Shape.TheVariants.{Bar, Wait, Arrow, Mark, NodeMark}
use Rattle.picture_texts.specs.Filling.{Text, filled}
use Rattle.picture_texts.specs.Frames.{Frame}
use Rattle.picture_texts.specs.Numbers.{numbers}
use Rattle.picture_texts.specs.Sayings.{says}

-- the state of a thread that waits for a call
abbrev pub call_state : ℕ → Text
call_state number = if number == 7 then codes "8 D st tA.B join\n" else (if number == 16 then codes "8 D st tA.B print\n" else codes "8 D st tA.B call\n")

-- the state of a thread that waits
abbrev pub wait_state : Reason → Text
wait_state reasons.Ready = codes "8 D st tA.B ready\n"
wait_state (reasons.Call number argument) = call_state number
wait_state (reasons.Coming to) = codes "8 D st tA.B coming\n"
wait_state reasons.Gone = codes "8 D st tA.B gone\n"

-- the start of a link; its key is its kind, its thread and its stamps
abbrev pub link_start : Message → Text
link_start carry.Thread = codes "10 D ln c nC move moveA.B.D.F\n"
link_start carry.Join = codes "10 D ln c nC ask askA.B.D.F\n"
link_start carry.Line = codes "10 D ln c nC say sayA.B.D.F\n"
link_start carry.Answer = codes "10 D ln c nC answer answerA.B.D.F\n"
link_start carry.EndNote = codes "10 D ln c nC end endA.B.D.F\n"
link_start (carry.Call count) = codes "10 D ln c nC remote remoteA.B.D.F\n"

-- the end of a link
abbrev pub link_end : Message → Text
link_end carry.Thread = codes "11 F ln c nE move moveA.B.D.F\n"
link_end carry.Join = codes "11 F ln c nE ask askA.B.D.F\n"
link_end carry.Line = codes "11 F ln c nE say sayA.B.D.F\n"
link_end carry.Answer = codes "11 F ln c nE answer answerA.B.D.F\n"
link_end carry.EndNote = codes "11 F ln c nE end endA.B.D.F\n"
link_end (carry.Call count) = codes "11 F ln c nE remote remoteA.B.D.F\n"

-- the line of a shape's start
abbrev pub starts : Shape → Text
starts (Bar t vp count stop at to) = codes "8 D sp pC.G busy\n8 D st tA.B run\n"
starts (Wait t reason at to) = wait_state reason
starts (Arrow t carries at to) = link_start carries
starts (Mark t sign at) = codes "9 D et tA.B \""
starts (NodeMark sign at) = codes "9 D en nC \""

-- what stands there of a mark: its label
abbrev pub name_starts : Shape → Text
name_starts (Mark t sign at) = says (Mark t sign at)
name_starts (NodeMark sign at) = says (NodeMark sign at)
name_starts _ = []

-- what stands behind it
abbrev pub name_ends : Shape → Text
name_ends (Mark t sign at) = codes "\"\n"
name_ends (NodeMark sign at) = codes "\"\n"
name_ends _ = []

-- the line of a shape's end: a processor is idle, a link comes, a thread is gone
abbrev pub ends : Shape → Text
ends (Bar t vp count stop at to) = codes "8 F sp pC.G idle\n"
ends (Arrow t carries at to) = link_end carries
ends (Mark t (sign.Ended end) at) = codes "8 F st tA.B gone\n"
ends _ = []

unfoldable pub start_text : Frame → Shape → Text
start_text f s = filled (numbers f s) (starts s) ++ (filled (numbers f s) (name_starts s) ++ name_ends s)

unfoldable pub end_text : Frame → Shape → Text
end_text f s = filled (numbers f s) (ends s)
