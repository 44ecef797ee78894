use Rattle.std.proofs.Common.{rules}
use Rattle.outside.proofs.memory.MapShelfShelf.read_file.Goals as goal

pub returns-in-None-clause-ok : goal.returns-in-None-clause-ok
returns-in-None-clause-ok c = search rules
