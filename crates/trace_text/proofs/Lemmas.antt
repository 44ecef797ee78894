-- Lemmas of the text of a trace. Other crates cite these alone.
use Rattle.std.proofs.Common.{List, length, ℕ, ◌+◌, ◌<◌, ◌^◌}
use Rattle.trace_text.specs.Reading.{parts}
use Rattle.trace_text.proofs.LineFacts

-- ## Lines

-- a text has at most one line more than bytes
pub few_lines : (bs : List ℕ) → length bs + 1 < 2 ^ 32 → length (parts 10 bs) < 2 ^ 32
few_lines = LineFacts.few_lines
