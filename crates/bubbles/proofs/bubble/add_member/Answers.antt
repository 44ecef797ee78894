use Rattle.std.proofs.Common.{◌++◌, [], ◌∷◌, sym, ap, ◌∙◌, List}
use Rattle.std.specs.Prelude.{slice_set}
use Rattle.levels.specs.declared.entity.Entity.{Entity}
use Rattle.bubbles.specs.declared.bubble.BubbleRow.{BubbleRow}
use Rattle.bubbles.specs.Rows.{bubble_row}
use Rattle.bubbles.proofs.Members.{member_set, member_beyond}
use Rattle.bubbles.proofs.bubble.add_member.Goals as goal

pub returns-in_ok-push : goal.returns-in_ok-push
returns-in_ok-push c =
    ap (λ (es : List Entity). slice_set c.args.bubbles.now c.args.b (bubble_row c.bubble.inside.state c.bubble.inside.priority c.bubble.inside.depth es)) c.in_ok-push.ensures.items
    ∙ ap (λ (d : BubbleRow). slice_set c.args.bubbles.now c.args.b (record d { members = d.members ++ c.args.e ∷ [] })) c.bubble.view_is
    ∙ member_set c.args.bubbles.now c.args.b c.args.e c.index-bubbles-b.result c.if-b-bubbles.true

pub returns-else-b-bubbles : goal.returns-else-b-bubbles
returns-else-b-bubbles c = sym (member_beyond c.args.bubbles.now c.args.b c.args.e c.if-b-bubbles.false)
