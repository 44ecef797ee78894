-- Rows that were tried and did not fit.
use Rattle.std.proofs.Common.{Bool, true, false, Option, Some, None, Result, Err}
use Rattle.asm_text.specs.declared.slots.What.{What}
use Rattle.asm_text.specs.declared.slots.What.TheVariants.{Form}
use Rattle.asm_text.specs.Statements.{FilledOf}

-- what the later rows read, or that none fits, where a row of the name did not
abbrev pub with_misfit : Bool → Option (Result FilledOf What) → Option (Result FilledOf What)
with_misfit true None = Some (Err Form)
with_misfit true (Some r) = Some r
with_misfit false r = r
