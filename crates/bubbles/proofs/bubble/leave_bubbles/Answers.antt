use Rattle.std.proofs.Common.{◌<◌, ◌≤◌, List, length, suc, sym, ap, ◌∙◌, arith, add-one}
use Rattle.std.specs.Prelude.{slice_set}
use Rattle.levels.specs.declared.entity.Entity.{Entity}
use Rattle.levels.specs.Rows.{is_entity}
use Rattle.bubbles.specs.declared.bubble.BubbleRow.{BubbleRow}
use Rattle.bubbles.specs.Rows.{bubble_row, first_out}
use Rattle.bubbles.proofs.Leaving.{without_from, out_next, out_all}
use Rattle.bubbles.proofs.bubble.leave_bubbles.Goals as goal

pub loop-i-preserved : goal.loop-i-preserved
loop-i-preserved c =
    let i = c.loop-i.i in
    let xs = c.loop-i.bubbles in
    let e = c.args.e.now in
    let l : i < length xs = omega arith in
    rw add-one (
    ap (λ (ms : List Entity). without_from (suc i) e (slice_set xs i (bubble_row c.bubble.inside.state c.bubble.inside.priority c.bubble.inside.depth ms))) c.member_out.ensures
    ∙ ap (λ (d : BubbleRow). without_from (suc i) e (slice_set xs i (record d { members = first_out (λ m. is_entity m e) d.members }))) c.bubble.view_is
    ∙ out_next xs i e c.index-bubbles-i.result l ∙ c.loop-i.invariant
    )

pub returns : goal.returns
returns c =
    let l : length c.loop-i.bubbles ≤ c.loop-i.i = omega arith in
    sym (out_all c.loop-i.bubbles c.loop-i.i c.args.e.now l) ∙ c.loop-i.invariant
