use Rattle.std.proofs.Common.{◌≡◌, Some, None, refl, sym, ◌∙◌, arith}
use Rattle.std.specs.List.{position}
use Rattle.levels.specs.Rows.{Row, RunLists, is_entity, without}
use Rattle.levels.proofs.Finding.{found, missing}
use Rattle.levels.proofs.Order.{in_order_without}
use Rattle.levels.proofs.lists.Lists.remove.Goals as goal

pub invariant_of-self : goal.invariant_of-self
invariant_of-self c =
    let s : RunLists = record { tree = c.self.inside.tree; rows = c.self.inside.rows.items; next = c.self.inside.next } in
    let at : position (λ (row : Row). is_entity row.0 c.args.e) c.self.inside.rows.items ≡ Some c.in-Some.at = grind (arith, c.deref.ensures.value, c.row_of.ensures, c.in-Some.is) in
    let gone : c.remove.new.self.items ≡ without c.args.e c.self.inside.rows.items = c.remove.ensures.items ∙ sym (found c.args.e c.self.inside.rows.items c.in-Some.at at).0 in
    rw gone (in_order_without c.args.e s c.self.invariant)

pub returns-in-None-clause-after : goal.returns-in-None-clause-after
returns-in-None-clause-after c =
    let none : position (λ (row : Row). is_entity row.0 c.args.e) c.self.inside.rows.items ≡ None = grind (arith, c.deref.ensures.value, c.row_of.ensures, c.in-None.is) in
    let same = (missing c.args.e c.self.inside.rows.items none).0 in
    rw (← c.self.view_is, same) refl

pub returns-in-None-clause-found : goal.returns-in-None-clause-found
returns-in-None-clause-found c =
    let none : position (λ (row : Row). is_entity row.0 c.args.e) c.self.inside.rows.items ≡ None = grind (arith, c.deref.ensures.value, c.row_of.ensures, c.in-None.is) in
    let nowhere = (missing c.args.e c.self.inside.rows.items none).1 in
    rw (← c.self.view_is, nowhere) refl

pub returns-in-Some-clause-after : goal.returns-in-Some-clause-after
returns-in-Some-clause-after c =
    let at : position (λ (row : Row). is_entity row.0 c.args.e) c.self.inside.rows.items ≡ Some c.in-Some.at = grind (arith, c.deref.ensures.value, c.row_of.ensures, c.in-Some.is) in
    let gone : c.remove.new.self.items ≡ without c.args.e c.self.inside.rows.items = c.remove.ensures.items ∙ sym (found c.args.e c.self.inside.rows.items c.in-Some.at at).0 in
    rw (← c.self.view_is, gone) refl

pub returns-in-Some-clause-found : goal.returns-in-Some-clause-found
returns-in-Some-clause-found c =
    let at : position (λ (row : Row). is_entity row.0 c.args.e) c.self.inside.rows.items ≡ Some c.in-Some.at = grind (arith, c.deref.ensures.value, c.row_of.ensures, c.in-Some.is) in
    let there = (found c.args.e c.self.inside.rows.items c.in-Some.at at).1 in
    rw (← c.self.view_is, there) refl
