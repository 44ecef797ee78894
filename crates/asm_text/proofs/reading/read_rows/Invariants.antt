use Rattle.std.proofs.Common.{◌≡◌, drop}
use Rattle.std.specs.Prelude.{map}
use Rattle.asm_words.specs.Tokens.{token_of}
use Rattle.asm_text.specs.Lines.{read_rows}
use Rattle.asm_text.specs.Rows.{row_of}
use Rattle.asm_text.proofs.Misfits.{with_misfit}
use Rattle.asm_text.proofs.reading.read_rows.Given as goal

abbrev pub invariant-loop-row : goal.invariant-loop-row
invariant-loop-row l = with_misfit l.misfit (read_rows (map row_of (drop l.row-index l.rows)) l.name (map token_of l.tokens)) ≡ read_rows (map row_of l.rows) l.name (map token_of l.tokens)
