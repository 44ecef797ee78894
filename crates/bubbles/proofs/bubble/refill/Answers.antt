use Rattle.std.proofs.Common.{sym, ap, ◌∙◌}
use Rattle.std.specs.Prelude.{slice_set}
use Rattle.bubbles.specs.declared.bubble.BubbleRow.{BubbleRow}
use Rattle.bubbles.specs.declared.bubble.BubbleState.TheVariants.{Filling}
use Rattle.bubbles.specs.Rows.{bubble_row}
use Rattle.bubbles.proofs.Gathering.{refill_set, refill_beyond}
use Rattle.bubbles.proofs.bubble.refill.Goals as goal

pub returns-then-b-bubbles : goal.returns-then-b-bubbles
returns-then-b-bubbles c =
    ap (λ (d : BubbleRow). slice_set c.args.bubbles.now c.args.b (bubble_row Filling d.priority d.depth c.args.members.items)) c.bubble.view_is
    ∙ refill_set c.args.bubbles.now c.args.b c.args.members.items c.index-bubbles-b.result c.if-b-bubbles.true

pub returns-else-b-bubbles : goal.returns-else-b-bubbles
returns-else-b-bubbles c = sym (refill_beyond c.args.bubbles.now c.args.b c.args.members.items c.if-b-bubbles.false)
