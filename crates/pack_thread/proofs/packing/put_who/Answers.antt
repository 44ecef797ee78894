use Rattle.std.proofs.Common.{refl, arith}
use Rattle.thread_text.specs.Grammar.{thread_fields, duty_fields}
use Rattle.pack_thread.proofs.WriteSteps.{writes_none, writes_number}
use Rattle.pack_thread.proofs.packing.put_who.Goals as goal

pub returns : goal.returns
unfolding thread_fields
returns c =
    writes_number _ _ _ _ _ _ _ _ _ _ refl c.in_ok-put_number.ensures (omega arith)
    (writes_number _ _ _ _ _ _ _ _ _ _ c.node_number.ensures c.in_ok-put_number-2.ensures (omega arith)
    (writes_number _ _ _ _ _ _ _ _ _ _ refl c.in_ok-put_number-3.ensures (omega arith)
    (writes_number _ _ _ _ _ _ _ _ _ _ refl c.in_ok-put_number-4.ensures (omega arith)
    (writes_number _ _ _ _ _ _ _ _ _ _ refl c.in_ok-put_number-5.ensures (omega arith) (writes_none _ duty_fields)))))
