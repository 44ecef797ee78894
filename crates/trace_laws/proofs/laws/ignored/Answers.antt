use Rattle.trace_laws.proofs.Strays.Unexpected.{stray_ignored, beyond_ignored}
use Rattle.trace_laws.proofs.laws.ignored.Goals as goal

pub returns : goal.returns
returns c = record {
  stray = λ p me from s x range stray. stray_ignored p me from s x range stray;
  beyond = λ p me s act x late. beyond_ignored p me s act x late;
}
