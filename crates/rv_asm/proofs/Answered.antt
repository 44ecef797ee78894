-- An answer is what it is.
use Rattle.std.proofs.Common.{refl, Err}
use Rattle.rv_asm.specs.declared.error.AsmError.{AsmError}
use Rattle.rv_asm.specs.declared.error.AsmError.TheVariants.{BadLine, Twice, Unknown, FarTarget, NoMain, TooLong, NoMemory}
use Rattle.rv_asm.specs.Images.{Assembles}

pub same : (e : AsmError) → Assembles (Err e) (Err e)
same NoMemory = tt
same (BadLine line what) = refl
same (Twice line) = refl
same (Unknown line) = refl
same (FarTarget line) = refl
same NoMain = refl
same TooLong = refl
