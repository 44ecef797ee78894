use Rattle.std.proofs.Common.{◌≡◌, ◌<◌, ◌∙◌, ℕ, ◌+◌, ◌++◌, ◌∷◌, [], sym, ap, arith}
use Rattle.slot_space.specs.Limits.{slot_limit}
use Rattle.slot_space.proofs.Ascending.{below, below-zero, below-next, below-all_told, least_from-within, least_from-found}
use Rattle.slot_space.proofs.slot_set.SlotSet.members.Goals as goal

pub loop-s-init : goal.loop-s-init
loop-s-init c = record { within = omega arith; so_far = c.new-slots.ensures.items ∙ sym (below-zero c.args.self.now) }

pub overflow_add-from : goal.overflow_add-from
overflow_add-from c = let is : c.s.inside.0 ≡ c.in-Some.s = c.s.view_is in let small : c.in-Some.s < slot_limit = least_from-within c.loop-s.from c.in-Some.s c.args.self.now c.in-Some.ensures.proper (sym c.in-Some.ensures.least) in omega arith

pub loop-s-smaller : goal.loop-s-smaller
loop-s-smaller c =
    let is : c.s.inside.0 ≡ c.in-Some.s = c.s.view_is in let small : c.in-Some.s < slot_limit = least_from-within c.loop-s.from c.in-Some.s c.args.self.now c.in-Some.ensures.proper (sym c.in-Some.ensures.least) in
    let up = least_from-found c.loop-s.from c.in-Some.s c.args.self.now (sym c.in-Some.ensures.least) in
    omega (arith, up.0)

pub loop-s-preserved : goal.loop-s-preserved
loop-s-preserved c =
    let is : c.s.inside.0 ≡ c.in-Some.s = c.s.view_is in
    let s : ℕ = c.in-Some.s in
    let small : s < slot_limit = least_from-within c.loop-s.from s c.args.self.now c.in-Some.ensures.proper (sym c.in-Some.ensures.least) in
    record {
      within = omega arith;
      so_far = c.in_ok-push.ensures.items ∙ ap (λ xs. xs ++ s ∷ []) c.loop-s.invariant.so_far ∙ sym (below-next c.loop-s.from s c.args.self.now c.in-Some.ensures.proper.ascending (sym c.in-Some.ensures.least)) ∙ ap (λ k. below (k + 1) c.args.self.now) (sym is);
    }

pub returns : goal.returns
returns c = c.loop-s.invariant.so_far ∙ below-all_told c.loop-s.from c.args.self.now c.next_from.result c.next_from.ensures.least c.in_default.not-Some
