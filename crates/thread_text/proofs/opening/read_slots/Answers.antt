use Rattle.std.proofs.Common.{◌≡◌, ◌+◌, ◌++◌, [], ◌∷◌, ◌∙◌, ap, sym, length, arith}
use Rattle.std.proofs.lemmas.Result.{err_from_is_err_and}
use Rattle.std.proofs.lemmas.List.{length-append}
use Rattle.thread_text.specs.Fields.{read}
use Rattle.thread_text.specs.Grammar.{slot_fields}
use Rattle.thread_text.proofs.Steps.{slot_read, slot_short, slot_broken, slots_all, with_slot}
use Rattle.thread_text.proofs.opening.read_slots.Goals as goal

pub returns-in_err-slot-clause-numbers : goal.returns-in_err-slot-clause-numbers
returns-in_err-slot-clause-numbers c =
    let p = err_from_is_err_and c.from_residual.result c.from_residual.ensures.1 in
    rw (p.1, p.2) (slot_short c.args.bytes.now c.args.count c.loop-k.k c.loop-k.low c.args.stack c.in_err-slot.field-0.0 c.loop-k.slots
    (read (slot_fields c.args.count 0 c.args.stack []) c.args.bytes.now 285) (omega arith) c.in_err-slot.ensures.number c.loop-k.invariant.so_far)

pub returns-in_err-require-clause-numbers : goal.returns-in_err-require-clause-numbers
returns-in_err-require-clause-numbers c =
    let p = err_from_is_err_and c.from_residual-in_err-require.result c.from_residual-in_err-require.ensures.1 in
    rw (p.1, p.2, c.in_err-require.ensures.1) (slot_broken c.args.bytes.now c.args.count c.loop-k.k c.loop-k.low c.args.stack c.in_ok-slot.slot c.loop-k.slots
    (read (slot_fields c.args.count 0 c.args.stack []) c.args.bytes.now 285) (omega arith) c.in_ok-slot.ensures.number (sym c.is_heap_slot.ensures ∙ c.in_err-require.ensures.0) c.loop-k.invariant.so_far)

pub loop-k-preserved : goal.loop-k-preserved
loop-k-preserved c =
    let i = c.loop-k.invariant in
    let n = c.in_ok-slot.slot in
    let slots = c.loop-k.slots in
    let obeys = sym c.is_heap_slot.ensures ∙ c.in_ok-require.ensures in
    let w = with_slot c.loop-k.low c.args.stack n slots obeys i.below i.apart i.ascending in
    let last : c.insert.new.self ≡ slots ++ n ∷ [] = c.insert.ensures ∙ w.last in
    let counted : length c.insert.new.self ≡ c.loop-k.k + 1 = ap length last ∙ length-append slots (n ∷ []) ∙ ap (λ x. x + 1) i.counted in
    record {
      so_far = rw last (slot_read c.args.bytes.now c.args.count c.loop-k.k c.loop-k.low c.args.stack n slots
          (read (slot_fields c.args.count 0 c.args.stack []) c.args.bytes.now 285) (omega arith) c.in_ok-slot.ensures.number obeys i.so_far);
      ascending = rw c.insert.ensures w.ascending;
      below = rw c.insert.ensures w.below;
      small = omega (arith, w.small);
      apart = rw c.insert.ensures w.apart;
      counted = counted;
    }

pub returns-clause-numbers : goal.returns-clause-numbers
returns-clause-numbers c = slots_all c.args.bytes.now c.args.count c.loop-k.k c.loop-k.low c.args.stack c.loop-k.slots (read (slot_fields c.args.count 0 c.args.stack []) c.args.bytes.now 285) (omega arith) c.loop-k.invariant.so_far

pub returns-clause-slots : goal.returns-clause-slots
returns-clause-slots c = (record { ascending = c.loop-k.invariant.ascending; small = λ s e. omega (arith, c.loop-k.invariant.below s e, c.loop-k.invariant.small) }, c.loop-k.invariant.apart, omega (arith, c.loop-k.invariant.counted))
