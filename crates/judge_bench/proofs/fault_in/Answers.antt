use Rattle.std.proofs.Common.{rules, tests}
use Rattle.trace_text.proofs.Lemmas.{few_lines}
use Rattle.judge_bench.proofs.fault_in.Goals as goal

pub read_trace-requires : goal.read_trace-requires
read_trace-requires c = few_lines c.args.text.now (search (rules, tests))
