use Rattle.std.proofs.Common.{rules}
use Rattle.words.proofs.parser.plain_parser.Goals as goal

pub returns : goal.returns
returns c = search rules
