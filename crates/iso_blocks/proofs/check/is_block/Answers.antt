use Rattle.std.proofs.Common.{arith}
use Rattle.std.proofs.lemmas.Bool.{false≢true}
use Rattle.iso_blocks.proofs.KeptBy.{slots_within}
use Rattle.iso_blocks.proofs.Checks.{block_iff}
use Rattle.iso_blocks.proofs.check.is_block.Goals as goal
use Rattle.iso_blocks.proofs.check.is_block.Goals.{then-address-lt-SLOTS_START-via-then-address-lt-SLOTS_START, then-address-lt-SLOTS_START-via-else-address-lt-SLOTS_START+then-address-ge-SLOTS_END, then-address-lt-SLOTS_START-via-else-address-lt-SLOTS_START+else-address-ge-SLOTS_END+then-size-address}

pub returns-then-address-lt-SLOTS_START : goal.returns-then-address-lt-SLOTS_START
returns-then-address-lt-SLOTS_START c = (
  λ e. absurd (false≢true e),
  λ block.
      let w = slots_within c.args.slots.now c.args.address c.args.size c.requires (omega (arith, block.some)) block.inside in
      absurd (elim c.then-address-lt-SLOTS_START.branch [
        | then-address-lt-SLOTS_START-via-then-address-lt-SLOTS_START w' ↦ omega (arith, w.0, w'.if-address-lt-SLOTS_START.true)
        | then-address-lt-SLOTS_START-via-else-address-lt-SLOTS_START+then-address-ge-SLOTS_END w' ↦ omega (arith, w.1, block.some, w'.if-address-ge-SLOTS_END.true)
        | then-address-lt-SLOTS_START-via-else-address-lt-SLOTS_START+else-address-ge-SLOTS_END+then-size-address w' ↦ omega (arith, w.1, w'.if-address-ge-SLOTS_END.false, w'.if-size-address.true)
      ]),
)

pub returns : goal.returns
returns c = block_iff c.args.slots.now c.args.address c.args.size c.slots_of-first.result.0 c.slots_of-first.result.1 c.missing.result c.is_none.result c.is_none.ensures
    (omega (arith, c.if-address-ne0.false)) (omega (arith, c.if-size-ne0.false)) c.if-size-lt16.false c.slots_of-first.ensures.first c.slots_of-first.ensures.last c.slots_of-first.ensures.some c.missing.ensures
