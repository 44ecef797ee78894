use Rattle.std.proofs.Common.{ap, ◌∙◌, refl}
use Rattle.rv_step.specs.Step.{HartState}
use Rattle.pack_thread.specs.Threads.{numbers_of}
use Rattle.pack_thread.proofs.Building.{built}
use Rattle.pack_thread.proofs.unpacking.build.Goals as goal

pub returns-clause-numbers : goal.returns-clause-numbers
returns-clause-numbers c =
    let o = c.args.opened in
    let state : HartState = record { regs = o.regs; pc = o.place.pc; memory = c.in_ok-mem.mem.0 } in
    ap numbers_of c.assembled.ensures ∙ built c.args.bytes.now o c.in_ok-blocks.blocks state c.requires.rules refl refl c.in_ok-blocks.ensures
