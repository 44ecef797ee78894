use Rattle.std.proofs.Common.{◌≡◌, ◌++◌, [], ◌∷◌, None, true, false, suc, drop, refl, sym, ap, ◌∙◌, arith, add-one}
use Rattle.std.specs.Prelude.{is_some, slice_get}
use Rattle.levels.specs.Rows.{place_of}
use Rattle.bubbles.specs.Rows.{bubble_of, members_of}
use Rattle.bubbles.specs.Forests.{taken_back}
use Rattle.bubbles.proofs.Gathering.{members_held, back_kept, back_passed, back_next, back_skipped}
use Rattle.bubbles.proofs.forest.Forest.members_back.Goals.{in-Some+then-take_back+in_ok-push, in-Some+else-take_back, in_default}
use Rattle.bubbles.proofs.forest.Forest.members_back.Goals as goal

pub loop-i-preserved : goal.loop-i-preserved
loop-i-preserved c =
    let w = c.loop-i.self in
    let i = c.loop-i.i in
    let kept = c.loop-i.kept.items in
    let ms = members_of (bubble_of c.args.b c.args.self.now.bubbles) in
    let get : c.member.result ≡ slice_get ms i = c.member.ensures ∙ ap (λ ys. slice_get ys i) c.loop-i.invariant.0 in
    elim c.match-member.branch [
      | in-Some+then-take_back+in_ok-push v ↦
          let e = v.in-Some.e in
          let there : is_some (place_of e w.lists.rows) ≡ true = sym v.take_back.ensures.found ∙ v.if-take_back.true in
          let s : c.match-member.self ≡ taken_back e w = v.self-is ∙ v.take_back.ensures.after ∙ (rw there refl) in
          let k : c.match-member.kept.items ≡ kept ++ e ∷ [] = grind (arith, v.kept-is, v.in_ok-push.ensures.items) in
          rw (s, k, add-one) (
            members_held e w.bubbles c.args.b ∙ c.loop-i.invariant.0,
            back_kept kept (drop (suc i) ms) e w there ∙ back_next kept ms i e w (sym get ∙ v.in-Some.is) ∙ c.loop-i.invariant.1,
          )
      | in-Some+else-take_back v ↦
          let e = v.in-Some.e in
          let there : is_some (place_of e w.lists.rows) ≡ false = sym v.take_back.ensures.found ∙ v.if-take_back.false in
          let s : c.match-member.self ≡ w = v.self-is ∙ v.take_back.ensures.after ∙ (rw there refl) in
          let k : c.match-member.kept.items ≡ kept = grind (arith, v.kept-is) in
          rw (s, k, add-one) (
            c.loop-i.invariant.0,
            back_passed kept (drop (suc i) ms) e w there ∙ back_next kept ms i e w (sym get ∙ v.in-Some.is) ∙ c.loop-i.invariant.1,
          )
      | in_default v ↦
          let n : c.member.result ≡ None = grind (arith, v.in_default) in
          let k : c.match-member.kept.items ≡ kept = grind (arith, v.kept-is) in
          rw (v.self-is, k, add-one) (c.loop-i.invariant.0, back_skipped kept ms i w (sym get ∙ n) ∙ c.loop-i.invariant.1)
    ]
