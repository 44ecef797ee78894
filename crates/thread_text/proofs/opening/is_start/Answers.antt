use Rattle.std.proofs.Common.{◌∙◌, sym, leb}
use Rattle.std.proofs.lemmas.Bool.{and_left}
use Rattle.thread_text.proofs.BlockRules.{start_from}
use Rattle.thread_text.proofs.opening.is_start.Goals as goal

pub returns-else-stands : goal.returns-else-stands
returns-else-stands c =
    c.if-stands.false ∙ sym (and_left c.is_block-stands.result (leb c.args.low c.args.address) c.if-stands.false)
    ∙ start_from c.args.slots.now c.args.low c.args.address c.is_block-stands.result c.is_block-stands.ensures.0 c.is_block-stands.ensures.1
