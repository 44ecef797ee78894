use Rattle.std.proofs.Common.{◌∙◌}
use Rattle.pack_thread.specs.Threads.{thread_of}
use Rattle.pack_thread.specs.Moving.{IsMovingOf}
use Rattle.pack_thread.proofs.Movings.{moving_text}
use Rattle.pack_thread.proofs.splitting.split.Goals as goal

is_moving : (c : goal.After-parted) → IsMovingOf c.parted.result (thread_of c.args.b)
is_moving c = record {
  rules = c.requires;
  typed = record { numbers = c.in-Ok.ensures.fit.0; regs = c.in-Ok.ensures.fit.1; blocks = c.parted.ensures.blocks.1 };
  head = c.parted.ensures.head ∙ c.in-Ok.ensures.head;
  blocks = c.parted.ensures.blocks.0;
}

pub returns-in-Ok-clause-text : goal.returns-in-Ok-clause-text
returns-in-Ok-clause-text c = moving_text c.parted.result (thread_of c.args.b) (is_moving c)

pub returns-in-Ok-clause-moving : goal.returns-in-Ok-clause-moving
returns-in-Ok-clause-moving c = is_moving c
