-- The shapes of a picture as elements of SVG. In the forms letters stand for numbers.
use Rattle.std.specs.Prelude.{ℕ, ◌++◌, codes, ◌==◌, if◌then◌else◌}
use Rattle.marcel_core.specs.declared.end.End.TheVariants as ends
use Rattle.pictures.specs.declared.shape.Message.{Message}
use Rattle.pictures.specs.declared.shape.Message.TheVariants as carry
use Rattle.pictures.specs.declared.shape.Reason.{Reason}
use Rattle.pictures.specs.declared.shape.Reason.TheVariants as reasons
use Rattle.pictures.specs.declared.shape.Sign.{Sign}
use Rattle.pictures.specs.declared.shape.Sign.TheVariants as sign
use Rattle.pictures.specs.declared.shape.Shape.{Shape}
use Rattle.pictures.specs.declared.shape.Shape.TheVariants.{Bar, Wait, Arrow, Mark, NodeMark}
use Rattle.picture_texts.specs.Filling.{Text, filled}
use Rattle.picture_texts.specs.Frames.{Frame}
use Rattle.picture_texts.specs.Numbers.{numbers}
use Rattle.picture_texts.specs.Sayings.{says}

-- how a wait for a call is drawn
abbrev pub call_form : ℕ → Text
call_form number = if number == 7 then codes "<rect class='join' x='I' y='N' width='M' height='12'/>"
    else (if number == 16 then codes "<rect class='print' x='I' y='N' width='M' height='12'/>" else codes "<rect class='call' x='I' y='N' width='M' height='12'/>")

-- how a wait is drawn
abbrev pub wait_form : Reason → Text
wait_form reasons.Ready = codes "<rect class='ready' x='I' y='N' width='M' height='12'/>"
wait_form (reasons.Call number argument) = call_form number
wait_form (reasons.Coming to) = codes "<rect class='coming' x='I' y='N' width='M' height='12'/>"
wait_form reasons.Gone = codes "<rect class='gone' x='I' y='N' width='M' height='12'/>"

-- how an arrow is drawn
abbrev pub arrow_form : Message → Text
arrow_form carry.Thread = codes "<line class='move' x1='I' y1='J' x2='K' y2='L' transform='translate(0 8)' marker-end='url(#a)'/>"
arrow_form carry.Join = codes "<line class='ask' x1='I' y1='J' x2='K' y2='L' transform='translate(0 8)' marker-end='url(#a)'/>"
arrow_form carry.Line = codes "<line class='say' x1='I' y1='J' x2='K' y2='L' transform='translate(0 8)' marker-end='url(#a)'/>"
arrow_form carry.Answer = codes "<line class='answer' x1='I' y1='J' x2='K' y2='L' transform='translate(0 8)' marker-end='url(#a)'/>"
arrow_form carry.EndNote = codes "<line class='end' x1='I' y1='J' x2='K' y2='L' transform='translate(0 8)' marker-end='url(#a)'/>"
arrow_form (carry.Call count) = codes "<line class='remote' x1='I' y1='J' x2='K' y2='L' transform='translate(0 8)' marker-end='url(#a)'/>"

-- how a mark is drawn
abbrev pub sign_form : Sign → Text
sign_form sign.BornMain = codes "<text class='sign' x='I' y='N' dy='10'>b</text>"
sign_form (sign.Created home seq) = codes "<text class='sign' x='I' y='N' dy='10'>b</text>"
sign_form (sign.BornInside home seq bubble) = codes "<text class='sign' x='I' y='N' dy='10'>b</text>"
sign_form (sign.BornFor home seq count) = codes "<text class='sign' x='I' y='N' dy='10'>b</text>"
sign_form (sign.Ended (ends.Exit value)) = codes "<text class='sign' x='I' y='N' dy='10'>e</text>"
sign_form (sign.Ended (ends.Fault kind pc)) = codes "<text class='fault' x='I' y='N' dy='10'>f</text>"
sign_form sign.Line = codes "<text class='sign' x='I' y='N' dy='10'>l</text>"
sign_form sign.Halted = codes "<text class='sign' x='I' y='N' dy='10'>h</text>"
sign_form (sign.Took first count) = codes "<text class='slots' x='I' y='N' dx='9' dy='10'>t</text>"
sign_form (sign.Gave slots) = codes "<text class='slots' x='I' y='N' dx='9' dy='10'>g</text>"
sign_form (sign.Lent to slots) = codes "<text class='slots' x='I' y='N' dx='9' dy='10'>n</text>"
sign_form (sign.InHand lender slots) = codes "<text class='slots' x='I' y='N' dx='9' dy='10'>i</text>"
sign_form (sign.Decided count first) = codes "<text class='slots' x='I' y='N' dx='9' dy='10'>d</text>"
sign_form (sign.Undecided count) = codes "<text class='slots' x='I' y='N' dx='9' dy='10'>d</text>"
sign_form (sign.Returned to slots) = codes "<text class='slots' x='I' y='N' dx='9' dy='10'>r</text>"
sign_form (sign.Home slots) = codes "<text class='slots' x='I' y='N' dx='9' dy='10'>o</text>"
sign_form (sign.Down bubble list) = codes "<text class='sign' x='I' y='N' dy='10'>v</text>"
sign_form (sign.Burst bubble list) = codes "<text class='sign' x='I' y='N' dy='10'>u</text>"
sign_form (sign.Gathered bubble count) = codes "<text class='sign' x='I' y='N' dy='10'>m</text>"
sign_form (sign.Dropped count) = codes "<text class='sign' x='I' y='N' dy='10'>k</text>"

-- how a shape is drawn: a bar in its processor's row and in its thread's lane, a wait in the lane, an arrow between rows, a mark as a letter
abbrev pub shape_form : Shape → Text
shape_form (Bar t vp count stop at to) = codes "<rect class='nO' x='I' y='J' width='M' height='16'/><rect class='nO' x='I' y='N' width='M' height='12'/>"
shape_form (Wait t reason at to) = wait_form reason
shape_form (Arrow t carries at to) = arrow_form carries
shape_form (Mark t sign at) = sign_form sign
shape_form (NodeMark sign at) = sign_form sign

-- where a shape stands, in words
abbrev pub place_form : Shape → Text
place_form (Bar t vp count stop at to) = codes " at D on node C</title>"
place_form (Wait t reason at to) = codes " from D to F on node C</title>"
place_form (Arrow t carries at to) = codes " from D on node C to F on node E</title>"
place_form (Mark t sign at) = codes " at D on node C</title>"
place_form (NodeMark sign at) = codes " at D on node C</title>"

unfoldable pub title_text : Frame → Shape → Text
title_text f s = filled (numbers f s) (says s) ++ filled (numbers f s) (place_form s)

unfoldable pub drawing_text : Frame → Shape → Text
drawing_text f s = filled (numbers f s) (shape_form s) ++ codes "</g>\n"

-- a shape with its title
unfoldable pub shape_text : Frame → Shape → Text
shape_text f s = codes "<g><title>" ++ (title_text f s ++ drawing_text f s)
