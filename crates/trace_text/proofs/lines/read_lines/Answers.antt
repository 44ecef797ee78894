use Rattle.std.proofs.Common.{arith}
use Rattle.trace_text.specs.Texts.{read_trace}
use Rattle.trace_text.proofs.LineFacts.{line_count, goes_wrong, goes_on}
use Rattle.trace_text.proofs.lines.read_lines.Goals as goal

pub returns-in-Err : goal.returns-in-Err
returns-in-Err c =
    goes_wrong c.loop-rest.line c.loop-rest.reading c.in-Err.error c.loop-rest.rest.now c.in-Some.bytes.now c.in-Some.behind.now (read_trace c.args.text.now) c.in-Err.ensures c.in-Some.ensures.line.0 c.loop-rest.invariant.0

pub overflow_add-line : goal.overflow_add-line
overflow_add-line c =
    let n = line_count c.loop-rest.rest.now c.in-Some.bytes.now c.in-Some.behind.now c.in-Some.ensures.line.0 in
    omega (arith, c.loop-rest.invariant.1, c.requires, n.0, n.1)

pub loop-rest-preserved : goal.loop-rest-preserved
loop-rest-preserved c =
    let n = line_count c.loop-rest.rest.now c.in-Some.bytes.now c.in-Some.behind.now c.in-Some.ensures.line.0 in (
      goes_on c.loop-rest.line c.loop-rest.reading c.in-Ok.next c.loop-rest.rest.now c.in-Some.bytes.now c.in-Some.behind.now (read_trace c.args.text.now) c.in-Ok.ensures c.in-Some.ensures.line.0 c.loop-rest.invariant.0,
      omega (arith, c.loop-rest.invariant.1, n.0),
    )
