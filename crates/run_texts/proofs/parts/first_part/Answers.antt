use Rattle.std.proofs.Common.{add-one, arith}
use Rattle.std.proofs.lemmas.List.{take_rest}
use Rattle.run_texts.proofs.Splits.{part_ends, whole_part}
use Rattle.run_texts.proofs.parts.first_part.Goals as goal

pub returns-then-place-bytes-clause-first : goal.returns-then-place-bytes-clause-first
returns-then-place-bytes-clause-first c = rw (add-one, take_rest) (part_ends c.args.end c.args.bytes.now c.place_of-place.result c.place_of-place.ensures c.if-place-bytes.true)

pub returns-else-place-bytes-clause-first : goal.returns-else-place-bytes-clause-first
returns-else-place-bytes-clause-first c = whole_part c.args.end c.args.bytes.now c.requires (omega (arith, c.place_of-place.ensures, c.if-place-bytes.false))
