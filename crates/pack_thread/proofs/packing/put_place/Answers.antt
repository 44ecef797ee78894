use Rattle.std.proofs.Common.{refl, arith, []}
use Rattle.thread_text.specs.Grammar.{place_fields, slot_fields}
use Rattle.pack_thread.proofs.WriteSteps.{writes_none, writes_number}
use Rattle.pack_thread.proofs.packing.put_place.Goals as goal

pub returns : goal.returns
unfolding place_fields
returns c =
    writes_number _ _ _ _ _ _ _ _ _ _ refl c.in_ok-put_number.ensures (omega arith)
    (writes_number _ _ _ _ _ _ _ _ _ _ c.slot_number.ensures c.in_ok-put_number-2.ensures (omega arith)
    (writes_number _ _ _ _ _ _ _ _ _ _ refl c.in_ok-put_number-3.ensures (omega arith) (writes_none _ (slot_fields c.args.heap 0 c.args.stack []))))
