-- A thread that is here can be packed, and one that is unpacked holds its slots and blocks.
use Rattle.std.proofs.Common.{◌≡◌, ℕ, ◌%◌, ◌<◌, ◌≤◌, List, [], ◌∷◌, length, false, refl, sym, ap, ◌∙◌, subst, arith}
use Rattle.std.specs.Prelude.{slice_index}
use Rattle.std.proofs.lemmas.Bool.{eq-eqb}
use Rattle.slot_space.specs.declared.names.Tid.{Tid}
use Rattle.slot_space.specs.Limits.{slot_limit}
use Rattle.slot_space.specs.Sets.{has, insert, minus, IsSlotSet}
use Rattle.slot_space.proofs.Lemmas.{ascending-insert, ascending-minus, same_members, has-insert, has-minus, has-left_out, insert-left_out, proper-left_out}
use Rattle.iso_blocks.specs.Heap.{Heap, IsSound}
use Rattle.rv_step.specs.declared.hart.Hart.{Hart}
use Rattle.rv_step.specs.Memory.{slots_of}
use Rattle.rv_step.specs.Step.{state_of}
use Rattle.lrpc.specs.declared.duty.Duty.TheVariants as duties
use Rattle.pack_thread.specs.Rules.{KeepsRules}
use Rattle.pack_thread.specs.Threads.{PackedThread as Packed, IsThread, IsTyped}
use Rattle.pack_thread.proofs.Lemmas.{packable, rules_of_typed}
use Rattle.run_trace.specs.declared.node.Wait.{Wait}
use Rattle.run_trace.specs.Guests.{packed}
use Rattle.node_thread.specs.Views.{thread_of, IsOwn, CanTravel}

-- as a thread with these parts travels
abbrev travelling : Tid → (priority stack : ℕ) → Hart → Heap → Packed
travelling t priority stack hart blocks = record { tid = t; priority = priority; calls = 0; duty = duties.None; state = state_of hart; stack = stack; heap = blocks }

heap_is : (b : Heap) (xs : List ℕ) → b.slots ≡ xs → b ≡ record { live = b.live; slots = xs }
heap_is b xs e = rw (← e) refl

pub travels_as : (t : Tid) (wait : Wait) (priority stack : ℕ) (hart : Hart) (slots : List ℕ) (blocks : Heap) → IsOwn stack hart slots blocks
    → travelling t priority stack hart blocks ≡ packed t (thread_of wait priority stack hart blocks.live).guest
travels_as t wait priority stack hart slots blocks own =
    ap (travelling t priority stack hart) (heap_is blocks (minus (slots_of hart.mem.0) (stack ∷ [])) (own.heap ∙ ap (λ xs. minus xs (stack ∷ [])) (sym own.held)))

pub can_travel : (t : Tid) (priority stack : ℕ) (hart : Hart) (slots : List ℕ) (blocks : Heap) → t.home < 8 → length hart.regs ≡ 32 → IsSlotSet slots → IsSound blocks
    → IsOwn stack hart slots blocks → CanTravel priority hart → IsThread (travelling t priority stack hart blocks)
can_travel t priority stack hart slots blocks home regs proper sound own can =
    packable (travelling t priority stack hart blocks) regs can.zero rules holds
  where
    rules : KeepsRules (travelling t priority stack hart blocks)
    rules = record {
      home = home;
      priority = can.low;
      duty = tt;
      pc = can.pc;
      stack = proper.small stack own.stack;
      heap = subst (λ xs. IsSlotSet xs) (sym own.heap) (proper-left_out stack slots proper);
      apart = ap (has stack) own.heap ∙ has-left_out stack slots;
      sound = sound;
    }

    holds : slots_of hart.mem.0 ≡ insert stack blocks.slots
    holds = own.held ∙ sym (ap (insert stack) own.heap ∙ insert-left_out stack slots proper.ascending own.stack)

-- a thread that has come holds its heap slots and its stack
pub comes_own : (stack : ℕ) (hart : Hart) (blocks : Heap) (slots : List ℕ) (x : Packed) → IsThread x → IsTyped x → x.state ≡ state_of hart → x.stack ≡ stack → x.heap ≡ blocks
    → slots ≡ insert stack blocks.slots → IsOwn stack hart slots blocks
comes_own stack hart blocks slots x is typed state at heap all = record {
  held = ap (λ s. slots_of s.memory) (sym state) ∙ is.holds ∙ ap (λ k. insert k x.heap.slots) at ∙ ap (λ h. insert stack h.slots) heap ∙ sym all;
  stack = ap (has stack) all ∙ has-insert stack stack blocks.slots ∙ (rw (eq-eqb stack stack refl) refl);
  heap = sym (ap (λ xs. minus xs (stack ∷ [])) all ∙ same);
}
  where
    keeps : KeepsRules x
    keeps = rules_of_typed x is typed

    proper : IsSlotSet blocks.slots
    proper = subst (λ h. IsSlotSet h.slots) heap keeps.heap

    apart : has stack blocks.slots ≡ false
    apart = ap (λ h. has stack h.slots) (sym heap) ∙ ap (λ k. has k x.heap.slots) (sym at) ∙ keeps.apart

    same : minus (insert stack blocks.slots) (stack ∷ []) ≡ blocks.slots
    same = same_members _ _ (ascending-minus (insert stack blocks.slots) (stack ∷ []) (ascending-insert stack blocks.slots proper.ascending)) proper.ascending
        (λ s. grind (arith, apart, has-minus s (insert stack blocks.slots) (stack ∷ []), has-insert stack s blocks.slots))

pub comes_able : (hart : Hart) (priority : ℕ) (x : Packed) → IsThread x → IsTyped x → x.state ≡ state_of hart → x.priority ≡ priority → CanTravel priority hart
comes_able hart priority x is typed state same =
    let keeps : KeepsRules x = rules_of_typed x is typed in
    record {
      zero = ap (λ s. slice_index s.regs 0) (sym state) ∙ is.zero;
      pc = ap (λ s. s.pc % 4) (sym state) ∙ keeps.pc;
      low = subst (λ n. n ≤ 7) same keeps.priority;
    }

pub stack_below : (x : Packed) → IsThread x → IsTyped x → x.stack < slot_limit
stack_below x is typed = (rules_of_typed x is typed).stack
