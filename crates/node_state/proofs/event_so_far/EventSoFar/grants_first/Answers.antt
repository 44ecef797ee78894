use Rattle.std.proofs.Common.{rules, ◌≡◌, Some}
use Rattle.std.specs.Prelude.{slice_get}
use Rattle.node_state.proofs.Granting.{granted_one, granted_none}
use Rattle.node_state.proofs.event_so_far.EventSoFar.grants_first.Goals as goal

pub returns-then-has_slots : goal.returns-then-has_slots
returns-then-has_slots c =
    let first : Some c.in-Some.t ≡ slice_get c.args.self.now.node.talk.claims 0 = search rules in
    granted_one c.args.here.now.me c.args.left c.in-Some.t c.args.self.now c.drops_claim.new.self c.serves.new.self c.in_ok-has_slots.has_slots
    c.requires.some c.requires.few first c.in_ok-has_slots.ensures c.if-has_slots.true c.drops_claim.ensures c.in_ok-serves.ensures

pub returns : goal.returns
returns c =
    let first : Some c.in-Some.t ≡ slice_get c.args.self.now.node.talk.claims 0 = search rules in
    granted_none c.args.here.now.me c.args.left c.in-Some.t c.args.self.now c.drops_claim.new.self c.refuses.new.self c.ends_turn.new.self c.wants_again.new.self
    c.in_ok-has_slots.has_slots c.requires.some first c.in_ok-has_slots.ensures c.if-has_slots.false c.drops_claim.ensures c.in_ok-refuses.ensures
    c.in_ok-ends_turn.ensures c.in_ok-wants_again.ensures
