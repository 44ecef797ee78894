-- Lemmas of tokens. Other crates cite these alone.
use Rattle.std.proofs.Common.{List, ◌≤◌, length}
use Rattle.asm_words.specs.Tokens.{TokenOf, spans}
use Rattle.asm_words.proofs.Spans

-- a line has at least one byte for each of its tokens
pub count_spans : (ts : List TokenOf) → length ts ≤ spans ts
count_spans = Spans.count_spans
