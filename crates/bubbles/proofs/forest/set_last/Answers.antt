use Rattle.std.proofs.Common.{◌≡◌, ◌<◌, ◌≤◌, sym, ap, ◌∙◌, arith, add-one, length, get_or, true, None}
use Rattle.std.proofs.lemmas.List.{take_all, get_or_default}
use Rattle.levels.specs.declared.entity.Entity.TheVariants.{Thread}
use Rattle.levels.specs.Rows.{is_entity}
use Rattle.bubbles.specs.declared.bubble.KnownThread.{KnownThread}
use Rattle.bubbles.specs.Rows.{with_last, thread_of}
use Rattle.bubbles.proofs.Updates.{last_set, last_not_yet, last_none}
use Rattle.bubbles.proofs.forest.set_last.Goals as goal

pub returns-then-is : goal.returns-then-is
returns-then-is c =
    let l : c.loop-i.i < length c.loop-i.threads = omega arith in
    let one : is_entity (Thread (get_or c.loop-i.threads c.loop-i.i c.index-threads-i-then-is.result).tid) (Thread c.args.t.now) ≡ true
    = ap (λ (x : KnownThread). is_entity (Thread x.tid) (Thread c.args.t.now)) (get_or_default c.loop-i.threads c.loop-i.i c.index-threads-i-then-is.result c.index-threads-i.result l) ∙ sym c.is.ensures ∙ c.if-is.true in
    last_set c.loop-i.threads c.args.t.now c.loop-i.i c.args.list c.index-threads-i-then-is.result l c.loop-i.invariant.1 one ∙ ap (with_last c.args.t.now c.args.list) c.loop-i.invariant.0

pub loop-i-preserved : goal.loop-i-preserved
loop-i-preserved c =
    let l : c.loop-i.i < length c.loop-i.threads = omega arith in
    (c.loop-i.invariant.0, rw add-one (last_not_yet c.loop-i.threads c.args.t.now c.loop-i.i _ l c.loop-i.invariant.1 (sym c.is.ensures ∙ c.if-is.false)))

pub returns : goal.returns
returns c =
    let l : length c.loop-i.threads ≤ c.loop-i.i = omega arith in
    let n : thread_of c.args.t.now c.loop-i.threads ≡ None = ap (thread_of c.args.t.now) (sym (take_all c.loop-i.i c.loop-i.threads l)) ∙ c.loop-i.invariant.1 in
    sym (last_none c.loop-i.threads c.args.t.now c.args.list n) ∙ ap (with_last c.args.t.now c.args.list) c.loop-i.invariant.0
