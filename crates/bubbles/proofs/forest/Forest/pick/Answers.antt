use Rattle.std.proofs.Common.{◌≡◌, sym, subst, ◌∙◌, Some}
use Rattle.bubbles.specs.Forests.{ForestView}
use Rattle.bubbles.specs.Picking.{step, Picks}
use Rattle.bubbles.specs.declared.bubble.Step.TheVariants.{Empty, Takes, Shifts}
use Rattle.bubbles.proofs.Whole.{falls, further, ended, found_none}
use Rattle.bubbles.proofs.forest.Forest.pick.Goals as goal

pub returns-in-Empty-clause-forest : goal.returns-in-Empty-clause-forest
returns-in-Empty-clause-forest c =
    let what : (step c.args.vp c.loop-moves.self).what ≡ Empty = sym c.in_ok-step.ensures.0 ∙ c.in-Empty.is in
    rw c.in_ok-step.ensures.1 (found_none c.args.vp c.args.self.now c.loop-moves.self c.loop-moves.moves.items c.loop-moves.invariant what).0

pub returns-in-Empty-clause-picked : goal.returns-in-Empty-clause-picked
returns-in-Empty-clause-picked c =
    let what : (step c.args.vp c.loop-moves.self).what ≡ Empty = sym c.in_ok-step.ensures.0 ∙ c.in-Empty.is in
    (found_none c.args.vp c.args.self.now c.loop-moves.self c.loop-moves.moves.items c.loop-moves.invariant what).1

pub returns-in-Takes-clause-forest : goal.returns-in-Takes-clause-forest
returns-in-Takes-clause-forest c =
    let what : (step c.args.vp c.loop-moves.self).what ≡ Takes c.in-Takes.thread = sym c.in_ok-step.ensures.0 ∙ c.in-Takes.is in
    rw c.in_ok-step.ensures.1 (ended c.args.vp c.args.self.now c.loop-moves.self c.loop-moves.moves.items c.in-Takes.thread c.loop-moves.invariant what).0

pub returns-in-Takes-clause-picked : goal.returns-in-Takes-clause-picked
returns-in-Takes-clause-picked c =
    let what : (step c.args.vp c.loop-moves.self).what ≡ Takes c.in-Takes.thread = sym c.in_ok-step.ensures.0 ∙ c.in-Takes.is in
    let e = ended c.args.vp c.args.self.now c.loop-moves.self c.loop-moves.moves.items c.in-Takes.thread c.loop-moves.invariant what in
    (e.1, subst (λ (after : ForestView). Picks c.args.vp c.args.self.now c.loop-moves.moves.items (Some c.in-Takes.thread) after) (sym c.in_ok-step.ensures.1) e.2)

pub loop-moves-smaller : goal.loop-moves-smaller
loop-moves-smaller c =
    let what : (step c.args.vp c.loop-moves.self).what ≡ Shifts c.in-Shifts.shift = sym c.in_ok-step.ensures.0 ∙ c.in-Shifts.is in
    rw c.in_ok-step.ensures.1 (falls c.args.vp c.args.self.now c.loop-moves.self c.loop-moves.moves.items c.in-Shifts.shift c.loop-moves.invariant c.requires.processor what)

pub loop-moves-preserved : goal.loop-moves-preserved
loop-moves-preserved c =
    let what : (step c.args.vp c.loop-moves.self).what ≡ Shifts c.in-Shifts.shift = sym c.in_ok-step.ensures.0 ∙ c.in-Shifts.is in
    rw (c.in_ok-step.ensures.1, c.in_ok-push-in-Shifts.ensures.items) (further c.args.vp c.args.self.now c.loop-moves.self c.loop-moves.moves.items c.in-Shifts.shift c.loop-moves.invariant c.requires.processor what)
