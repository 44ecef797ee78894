use Rattle.std.proofs.Common.{◌≡◌, take}
use Rattle.std.specs.String.{string_bytes}
use Rattle.pm2_top.specs.Texts.{faults_text}
use Rattle.pm2_top.proofs.texts.faults_text.Given as goal

abbrev pub invariant-loop-entry : goal.invariant-loop-entry
invariant-loop-entry l = string_bytes l.text ≡ faults_text (take l.entry-index l.trace)
