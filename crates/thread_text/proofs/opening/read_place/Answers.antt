use Rattle.std.proofs.Common.{[], ◌∷◌}
use Rattle.std.proofs.lemmas.Result.{err_from_is_err_and}
use Rattle.thread_text.proofs.Steps.{is_short, is_broken}
use Rattle.thread_text.proofs.PlaceSteps.{is_pc, is_slot, behind_pc, behind_stack, behind_heap, whole, begin, pc_read, stack_read, heap_read}
use Rattle.thread_text.proofs.opening.read_place.Goals as goal

pub returns-in_err-pc-clause-numbers : goal.returns-in_err-pc-clause-numbers
returns-in_err-pc-clause-numbers c =
    let bytes = c.args.bytes.now in
    let p = err_from_is_err_and c.from_residual.result c.from_residual.ensures.1 in
    rw (p.1, p.2) (is_short 8 is_pc behind_pc bytes 273 c.in_err-pc.field-0.0 [] (whole bytes) c.in_err-pc.ensures.number (begin bytes))

pub returns-in_err-require-clause-numbers : goal.returns-in_err-require-clause-numbers
returns-in_err-require-clause-numbers c =
    let bytes = c.args.bytes.now in
    let p = err_from_is_err_and c.from_residual-in_err-require.result c.from_residual-in_err-require.ensures.1 in
    rw (p.1, p.2, c.in_err-require.ensures.1) (is_broken 8 is_pc behind_pc bytes 273 c.in_ok-pc.pc [] (whole bytes) c.in_ok-pc.ensures.number c.in_err-require.ensures.0 (begin bytes))

pub returns-in_err-stack-clause-numbers : goal.returns-in_err-stack-clause-numbers
returns-in_err-stack-clause-numbers c =
    let bytes = c.args.bytes.now in
    let s1 = pc_read bytes c.in_ok-pc.pc c.in_ok-pc.ensures.number c.in_ok-require.ensures in
    let p = err_from_is_err_and c.from_residual-in_err-stack.result c.from_residual-in_err-stack.ensures.1 in
    rw (p.1, p.2) (is_short 2 is_slot behind_stack bytes 281 c.in_err-stack.field-0.0 (c.in_ok-pc.pc ∷ []) (whole bytes) c.in_err-stack.ensures.number s1)

pub returns-in_err-require-2-clause-numbers : goal.returns-in_err-require-2-clause-numbers
returns-in_err-require-2-clause-numbers c =
    let bytes = c.args.bytes.now in
    let s1 = pc_read bytes c.in_ok-pc.pc c.in_ok-pc.ensures.number c.in_ok-require.ensures in
    let p = err_from_is_err_and c.from_residual-in_err-require-2.result c.from_residual-in_err-require-2.ensures.1 in
    rw (p.1, p.2, c.in_err-require-2.ensures.1) (is_broken 2 is_slot behind_stack bytes 281 c.in_ok-stack.stack (c.in_ok-pc.pc ∷ []) (whole bytes) c.in_ok-stack.ensures.number c.in_err-require-2.ensures.0 s1)

pub returns-in_err-heap-clause-numbers : goal.returns-in_err-heap-clause-numbers
returns-in_err-heap-clause-numbers c =
    let bytes = c.args.bytes.now in
    let s1 = pc_read bytes c.in_ok-pc.pc c.in_ok-pc.ensures.number c.in_ok-require.ensures in
    let s2 = stack_read bytes c.in_ok-pc.pc c.in_ok-stack.stack s1 c.in_ok-stack.ensures.number c.in_ok-require-2.ensures in
    let p = err_from_is_err_and c.from_residual-in_err-heap.result c.from_residual-in_err-heap.ensures.1 in
    rw (p.1, p.2) (is_short 2 is_slot (behind_heap c.in_ok-stack.stack) bytes 283 c.in_err-heap.field-0.0 (c.in_ok-pc.pc ∷ c.in_ok-stack.stack ∷ []) (whole bytes) c.in_err-heap.ensures.number s2)

pub returns-in_err-require-3-clause-numbers : goal.returns-in_err-require-3-clause-numbers
returns-in_err-require-3-clause-numbers c =
    let bytes = c.args.bytes.now in
    let s1 = pc_read bytes c.in_ok-pc.pc c.in_ok-pc.ensures.number c.in_ok-require.ensures in
    let s2 = stack_read bytes c.in_ok-pc.pc c.in_ok-stack.stack s1 c.in_ok-stack.ensures.number c.in_ok-require-2.ensures in
    let p = err_from_is_err_and c.from_residual-in_err-require-3.result c.from_residual-in_err-require-3.ensures.1 in
    rw (p.1, p.2, c.in_err-require-3.ensures.1) (is_broken 2 is_slot (behind_heap c.in_ok-stack.stack) bytes 283 c.in_ok-heap.heap (c.in_ok-pc.pc ∷ c.in_ok-stack.stack ∷ []) (whole bytes) c.in_ok-heap.ensures.number c.in_err-require-3.ensures.0 s2)

pub returns-clause-numbers : goal.returns-clause-numbers
returns-clause-numbers c =
    let bytes = c.args.bytes.now in
    let s1 = pc_read bytes c.in_ok-pc.pc c.in_ok-pc.ensures.number c.in_ok-require.ensures in
    let s2 = stack_read bytes c.in_ok-pc.pc c.in_ok-stack.stack s1 c.in_ok-stack.ensures.number c.in_ok-require-2.ensures in
    let s3 = heap_read bytes c.in_ok-pc.pc c.in_ok-stack.stack c.in_ok-heap.heap s2 c.in_ok-heap.ensures.number c.in_ok-require-3.ensures in
    s3
