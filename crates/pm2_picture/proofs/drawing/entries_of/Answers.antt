use Rattle.std.proofs.Common.{arith}
use Rattle.trace_text.proofs.Lemmas.{few_lines}
use Rattle.pm2_picture.proofs.drawing.entries_of.Goals as goal

pub read_trace-requires : goal.read_trace-requires
read_trace-requires c = few_lines c.args.text.now (omega (arith, c.requires.short))
