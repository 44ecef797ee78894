use Rattle.std.proofs.Common.{sym, ap, ◌∙◌}
use Rattle.std.specs.Prelude.{slice_set}
use Rattle.bubbles.specs.declared.bubble.BubbleRow.{BubbleRow}
use Rattle.bubbles.proofs.Updates.{state_set, state_beyond}
use Rattle.bubbles.proofs.bubble.set_state.Goals as goal

pub returns-then-b-bubbles : goal.returns-then-b-bubbles
returns-then-b-bubbles c =
    ap (λ (d : BubbleRow). slice_set c.args.bubbles.now c.args.b (record d { state = c.args.state })) c.bubble.view_is
    ∙ state_set c.args.bubbles.now c.args.b c.args.state c.index-bubbles-b.result c.if-b-bubbles.true

pub returns-else-b-bubbles : goal.returns-else-b-bubbles
returns-else-b-bubbles c = sym (state_beyond c.args.bubbles.now c.args.b c.args.state c.if-b-bubbles.false)
