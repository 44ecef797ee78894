use Rattle.std.proofs.Common.{◌∙◌, Some, rules}
use Rattle.std.proofs.lemmas.Map.Text.{btree_map_updates_str}
use Rattle.asm_targets.specs.Labels.{mark_in}
use Rattle.asm_targets.proofs.Kept.{added}
use Rattle.asm_targets.proofs.labels.add_label.Goals as goal

pub returns-in_ok-insert : goal.returns-in_ok-insert
returns-in_ok-insert c = λ w.
    btree_map_updates_str c.args.name.now c.args.labels.now c.insert.new.self (Some c.args.mark) c.in_ok-insert.ensures.updates w
    ∙ added (mark_in c.args.labels.now) c.args.name.now w c.args.mark (search rules)
