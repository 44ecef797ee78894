use Rattle.std.proofs.Common.{◌∙◌, refl, arith}
use Rattle.std.proofs.lemmas.List.{take_rest}
use Rattle.asm_text.proofs.Parts.{line_ends, line_is_all}
use Rattle.asm_text.proofs.source.first_line.Goals as goal

pub returns-then-end-bytes-clause-first : goal.returns-then-end-bytes-clause-first
returns-then-end-bytes-clause-first c =
    rw take_rest (line_ends c.args.bytes.now c.newline-end.result c.newline-end.ensures c.if-end-bytes.true ∙ rw c.without_carriage_return.ensures refl)

pub returns-else-end-bytes-clause-first : goal.returns-else-end-bytes-clause-first
returns-else-end-bytes-clause-first c = line_is_all c.args.bytes.now c.requires (omega (arith, c.newline-end.ensures, c.if-end-bytes.false))
