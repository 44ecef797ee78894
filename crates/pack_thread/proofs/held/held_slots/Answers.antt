use Rattle.std.proofs.Common.{◌≡◌, ◌∙◌}
use Rattle.slot_space.specs.Sets.{insert}
use Rattle.pack_thread.proofs.Limits.{slots_few, with_stack}
use Rattle.slot_space.proofs.Lemmas.{length-insert}
use Rattle.pack_thread.proofs.held.held_slots.Goals as goal

items : (c : goal.In_ok-held) → c.in_ok-held.held.items ≡ insert c.args.stack c.args.heap.now
items c = c.in_ok-held.ensures ∙ c.insert.ensures

pub returns-clause-ascending : goal.returns-clause-ascending
returns-clause-ascending c = rw (items c) (with_stack c.args.stack c.args.heap.now c.requires.small c.requires.proper).ascending

pub returns-clause-few : goal.returns-clause-few
returns-clause-few c = rw (items c) (slots_few (insert c.args.stack c.args.heap.now) (with_stack c.args.stack c.args.heap.now c.requires.small c.requires.proper))

pub returns-clause-count : goal.returns-clause-count
returns-clause-count c = λ apart. rw (items c) (length-insert c.args.stack c.args.heap.now apart)
