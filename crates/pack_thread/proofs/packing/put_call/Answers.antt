use Rattle.std.proofs.Common.{refl, arith}
use Rattle.thread_text.specs.Grammar.{duty_fields, register_fields}
use Rattle.pack_thread.proofs.WriteSteps.{writes_none, writes_number}
use Rattle.pack_thread.proofs.packing.put_call.Goals as goal

pub returns : goal.returns
unfolding duty_fields
returns c =
    writes_number _ _ _ _ _ _ _ _ _ _ refl c.in_ok-put_number.ensures (omega arith)
    (writes_number _ _ _ _ _ _ _ _ _ _ c.node_number.ensures c.in_ok-put_number-2.ensures (omega arith)
    (writes_number _ _ _ _ _ _ _ _ _ _ refl c.in_ok-put_number-3.ensures (omega arith)
    (writes_number _ _ _ _ _ _ _ _ _ _ refl c.in_ok-put_number-4.ensures (omega arith)
    (writes_number _ _ _ _ _ _ _ _ _ _ c.node_number-2.ensures c.in_ok-put_number-5.ensures (omega arith) (writes_none _ (register_fields 31))))))
