use Rattle.std.proofs.Common.{◌≡◌, ◌-◌, ◌^◌, ◌<◌, ap, ◌∙◌, length, take, drop, arith}
use Rattle.std.proofs.lemmas.List.{take_all, length-drop}
use Rattle.byteorder.specs.Endian.{little_number}
use Rattle.byteorder.specs.Numbers.{little_from-lt}
use Rattle.thread_text.proofs.FieldLaws.{IsBytes-drop}
use Rattle.thread_text.proofs.opening.number_at.Goals as goal

pub returns-clause-fits : goal.returns-clause-fits
returns-clause-fits c =
    let bytes = c.args.bytes.now in
    let rest = drop c.args.at bytes in
    let fits : little_number c.args.width rest < 256 ^ c.args.width = little_from-lt 0 c.args.width rest (IsBytes-drop c.args.at bytes (λ i. omega (arith, c.type_inv.bytes i))) in
    let same : take (length bytes - c.args.at) rest ≡ rest = take_all _ rest (omega (arith, length-drop c.args.at bytes)) in
    omega (arith, c.read_uint.ensures ∙ ap (little_number c.args.width) same, fits)
