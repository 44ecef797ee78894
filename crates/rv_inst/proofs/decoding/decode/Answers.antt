use Rattle.std.proofs.Common.{ap, sym, ◌∙◌}
use Rattle.rv_inst.specs.Fields.{inst_of}
use Rattle.rv_inst.proofs.Again.{again}
use Rattle.rv_inst.proofs.decoding.decode.Goals as goal

pub returns-clause-only : goal.returns-clause-only
returns-clause-only c = λ i f e. c.decoded.ensures.exact ∙ ap inst_of (sym e) ∙ again i f
