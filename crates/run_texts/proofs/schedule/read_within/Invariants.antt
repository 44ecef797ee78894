use Rattle.std.proofs.Common.{◌≡◌, ◌+◌, length}
use Rattle.run_texts.specs.Parts.{lines_of}
use Rattle.run_texts.specs.Schedules.{acts_from, behind, schedule_of}
use Rattle.run_texts.proofs.schedule.read_within.Given as goal

abbrev pub invariant-loop-rest : goal.invariant-loop-rest
invariant-loop-rest l =
    (behind l.acts.items (acts_from l.nodes l.processors (l.line + 1) (length l.acts.items) (lines_of l.rest)) ≡ schedule_of l.nodes l.processors l.text)
    × (l.line + length (lines_of l.rest) ≡ length (lines_of l.text))

abbrev pub decreases-loop-rest : goal.decreases-loop-rest
decreases-loop-rest l = length l.rest
