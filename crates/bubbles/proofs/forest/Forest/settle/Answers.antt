use Rattle.std.proofs.Common.{◌≡◌, ◌≤◌, sym, ap, ◌∙◌, arith, add-one, None, length}
use Rattle.std.specs.Prelude.{slice_get}
use Rattle.bubbles.specs.Rows.{bubble_of, members_of}
use Rattle.bubbles.specs.Forests.{arrives}
use Rattle.bubbles.proofs.Updates.{arrived_next, skipped_next, all_done, members_queue}
use Rattle.bubbles.proofs.forest.Forest.settle.Goals.{in-Some+in_ok-arrive, in_default}
use Rattle.bubbles.proofs.forest.Forest.settle.Goals as goal

pub loop-i-preserved : goal.loop-i-preserved
loop-i-preserved c =
    let ms = members_of (bubble_of c.args.b c.args.self.now.bubbles) in
    let get : c.member.result ≡ slice_get ms c.loop-i.i = c.member.ensures ∙ ap (λ ys. slice_get ys c.loop-i.i) c.loop-i.invariant.0 in
    elim c.match-member.branch [
      | in-Some+in_ok-arrive w ↦
          let s : c.match-member.self ≡ arrives c.args.list w.in-Some.e c.loop-i.self = w.self-is ∙ w.in_ok-arrive.ensures in
          rw (s, add-one) (
            members_queue w.in-Some.e c.loop-i.self.bubbles c.args.b ∙ c.loop-i.invariant.0,
            arrived_next c.args.list c.args.b c.loop-i.i w.in-Some.e c.loop-i.self c.args.self.now ms (sym get ∙ w.in-Some.is) c.loop-i.invariant.1,
          )
      | in_default w ↦
          let n : c.member.result ≡ None = grind (arith, w.in_default) in
          rw (w.self-is, add-one) (c.loop-i.invariant.0, skipped_next c.args.list c.loop-i.i c.loop-i.self c.args.self.now ms (sym get ∙ n) c.loop-i.invariant.1)
    ]

pub returns : goal.returns
returns c =
    let l : length (members_of (bubble_of c.args.b c.args.self.now.bubbles)) ≤ c.loop-i.i = omega (arith, c.width-i-end.ensures) in
    all_done c.args.list c.loop-i.i c.loop-i.self c.args.self.now _ l c.loop-i.invariant.1
