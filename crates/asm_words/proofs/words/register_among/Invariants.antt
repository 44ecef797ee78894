use Rattle.std.proofs.Common.{◌≡◌, drop}
use Rattle.std.specs.Prelude.{map}
use Rattle.asm_words.specs.Words.{register_among, name_and_number}
use Rattle.asm_words.proofs.words.register_among.Given as goal

abbrev pub invariant-loop-register : goal.invariant-loop-register
invariant-loop-register l = register_among (map name_and_number (drop l.register-index l.table)) l.word ≡ register_among (map name_and_number l.table) l.word
