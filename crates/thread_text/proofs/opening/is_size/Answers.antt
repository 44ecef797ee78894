use Rattle.thread_text.proofs.BlockRules.{size_from}
use Rattle.thread_text.proofs.opening.is_size.Goals as goal

pub returns-clause-size : goal.returns-clause-size
returns-clause-size c = size_from c.args.slots.now c.args.address c.args.size c.is_block.result c.requires.aligned c.is_block.ensures.0 c.is_block.ensures.1
