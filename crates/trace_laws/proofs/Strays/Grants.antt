-- A turn gives no slot twice: each claim that it serves gets slots that were the node's.
use Rattle.std.proofs.Common.{◌≡◌, ℕ, List, [], ◌∷◌, Option, Some, None, true, false, cond, refl, sym, ap, ◌∙◌, arith, ◌⊎◌, inl, inr}
use Rattle.std.specs.Map.{lookup}
use Rattle.slot_space.specs.Limits.{slot_limit}
use Rattle.slot_space.specs.Replies.{reply_code, tid_value}
use Rattle.slot_space.specs.Sets.{has, minus, run}
use Rattle.slot_space.proofs.Lemmas.{found, has-minus}
use Rattle.slot_space.specs.declared.names.Tid.{Tid}
use Rattle.slot_space.specs.declared.names.Reply.TheVariants as replies
use Rattle.iso_blocks.specs.Heap.{rounded, place}
use Rattle.marcel_sync.specs.Semaphores.{number_in}
use Rattle.run_trace.specs.declared.call.Call.{Call}
use Rattle.run_trace.specs.declared.call.Call.TheVariants.{Create, CreateIn, Isomalloc}
use Rattle.run_trace.specs.declared.label.Why.{Why}
use Rattle.run_trace.specs.declared.label.Why.TheVariants as why
use Rattle.run_trace.specs.declared.node.Wait.TheVariants as wait
use Rattle.run_trace.specs.declared.packet.Send.{Send}
use Rattle.run_trace.specs.Names.{is_tid, tid_cmp}
use Rattle.run_trace.specs.Calls.{place_code, slots_wanted, call_of}
use Rattle.run_trace.specs.Guests.{Guest, Thread, waits, newborn, stack_end, takes_slots, guest_slots, heap_of, with_placed, slots_for}
use Rattle.run_trace.specs.Talks.{Talk}
use Rattle.run_trace.specs.Local.{EventSoFar}
use Rattle.run_trace.specs.Steps.{thread_at, at_thread, birth, enter, thread_in, birth_in, slots_out, say, keep, judge_as, takes_run, decides, speaks, next_name}
use Rattle.run_trace.specs.Machine.{free_slot, run_for, creates_in, creates, places, allocates_in, serves_call, serves_thread, serves, has_run_for, refuses, ends_turn, wants_again, leaves_claims, grants}
use Rattle.trace_laws.specs.Strays.{IsHeldOnce, slots_here}
use Rattle.run_trace.proofs.Lemmas.{is-true, is-refl, is-same, has_takes}
use Rattle.trace_laws.proofs.Lists.KeyedLemmas.{lookup-insert}
use Rattle.trace_laws.proofs.Strays.Holdings.{same_held, set_entry, same_slots, at_held, told_held, answered_held, given_held}

-- what a node says of turns changes no slot
pub spoke_held : (sends : List Send) (talk : Talk) (d : EventSoFar) → IsHeldOnce d.node → IsHeldOnce (speaks sends talk d).node
unfolding speaks
spoke_held sends talk d h = same_held d.node _ refl (λ u. refl) h

-- ## Births

one_slot : (x slot : ℕ) → has x (slot ∷ []) ≡ true → has x (run slot 1) ≡ true
unfolding run
one_slot x slot k = k

-- whoever had that name here has lost what it had
born_held : (me : ℕ) (reason : Why) (entry argument priority slot : ℕ) (d : EventSoFar) → free_slot d.node.slots.free ≡ Some slot → IsHeldOnce d.node → IsHeldOnce (birth me reason entry argument priority slot d).node
unfolding birth enter thread_in birth_in slots_out say
born_held me reason entry argument priority slot d e h =
    let t : Tid = next_name me d in
    let y : Thread = waits wait.No (newborn entry argument 0 (stack_end slot) slot priority) in
    given_held t y (slot ∷ []) d.node _ refl (λ x k. found (λ s. has s d.node.slots.free) 1 slot_limit slot x e (one_slot x slot k))
    (λ u. lookup-insert is_tid is-true is-refl tid_cmp (λ a b. refl) d.node.threads t u y ∙ ap (λ v. cond v (Some y) (lookup (is_tid u) d.node.threads)) (is-same u t))
    (λ x k. inr k) h

creates_held : (me : ℕ) (t : Tid) (reason : Why) (entry argument priority : ℕ) (d : EventSoFar) → IsHeldOnce d.node → IsHeldOnce (creates me t reason entry argument priority d).node
creates_held me t reason entry argument priority d h = by (free_slot d.node.slots.free) refl
  where
    by : (o : Option ℕ) → free_slot d.node.slots.free ≡ o → IsHeldOnce (creates_in me t reason entry argument priority o d).node
    by None e = spoke_held _ _ d h
    by (Some slot) e = answered_held t (tid_value (next_name me d)) _ (born_held me reason entry argument priority slot d e h)

-- ## Blocks

placed_held : (t : Tid) (size : ℕ) (x : Thread) (d : EventSoFar) → lookup (is_tid t) d.node.threads ≡ Some x → IsHeldOnce d.node → IsHeldOnce (places t size x d).node
unfolding judge_as say keep
placed_held t size x d e h =
    let address : Option ℕ = place (heap_of x.guest.solo) size in
    let y : Guest = with_placed size address x.guest in
    told_held t (place_code address) None (judge_as t (place_code address) y d) (same_held d.node _ refl (same_slots t x (waits wait.No y) d.node e refl) h)

took_held : (t : Tid) (size first : ℕ) (x : Thread) (d : EventSoFar) → lookup (is_tid t) d.node.threads ≡ Some x → run_for size x.guest d.node.slots.free ≡ Some first → IsHeldOnce d.node → IsHeldOnce (takes_run t first (slots_for size) x.guest d).node
unfolding takes_run say slots_out keep
took_held t size first x d e f h =
    let new : List ℕ = run first (slots_for size) in
    let y : Thread = waits wait.No (takes_slots new x.guest) in
    let mine : List ℕ = minus d.node.slots.free (guest_slots x.guest) in
    given_held t y new d.node _ refl
    (λ s k. grind (arith, found (λ z. has z mine) (slots_for size) slot_limit first s f k, has-minus s d.node.slots.free (guest_slots x.guest)))
    (λ u. set_entry t u x y d.node e)
    (λ s k. elim (has s new) as (λ v. has s new ≡ v → cond v true (has s (guest_slots x.guest)) ≡ true → (has s (slots_here d.node t) ≡ true) ⊎ (v ≡ true)) [
      | true ↦ λ a b. inr refl
      | false ↦ λ a b. inl (rw e b)
    ] refl (sym (has_takes s new x.guest.solo.state.memory) ∙ k)) h

allocates_held : (t : Tid) (size : ℕ) (x : Thread) (d : EventSoFar) → lookup (is_tid t) d.node.threads ≡ Some x → (o : Option ℕ) → run_for size x.guest d.node.slots.free ≡ o → IsHeldOnce d.node → IsHeldOnce (allocates_in t size o x d).node
allocates_held t size x d e None f h = spoke_held _ _ d h
allocates_held t size x d e (Some first) f h =
    at_held t (places t size) _ (took_held t size first x d e f h) (λ y k. placed_held t size y _ k (took_held t size first x d e f h))

-- ## Claims

called_held : (me : ℕ) (t : Tid) (c : Call) (x : Thread) (d : EventSoFar) → lookup (is_tid t) d.node.threads ≡ Some x → IsHeldOnce d.node → IsHeldOnce (serves_call me t c x d).node
called_held me t (Create entry argument priority) x d e h = creates_held me t (why.Create t) entry argument priority d h
called_held me t (CreateIn bubble entry argument priority) x d e h = creates_held me t (why.Inside t (number_in bubble)) entry argument priority d h
called_held me t (Isomalloc len) x d e h = allocates_held t (rounded len) x d e (run_for (rounded len) x.guest d.node.slots.free) refl h
called_held me t c x d e h = h

served_held : (me : ℕ) (t : Tid) (d : EventSoFar) → IsHeldOnce d.node → IsHeldOnce (serves me t d).node
served_held me t d h = at_held t (serves_thread me t) d h (λ x e. called_held me t (call_of x.guest.solo.state) x d e h)

refused_held : (t : Tid) (x : Thread) (d : EventSoFar) → lookup (is_tid t) d.node.threads ≡ Some x → IsHeldOnce d.node → IsHeldOnce (refuses t x d).node
unfolding decides say keep
refused_held t x d e h =
    answered_held t (reply_code replies.Full) (decides t (slots_wanted (call_of x.guest.solo.state)) x d) (same_held d.node _ refl (same_slots t x (waits wait.No x.guest) d.node e refl) h)

pub granted_held : (me : ℕ) (ts : List Tid) (d : EventSoFar) → IsHeldOnce d.node → IsHeldOnce (grants me ts d).node
granted_held me [] d h = spoke_held _ _ d h
granted_held me (t ∷ ts) d h =
    let rest : IsHeldOnce (leaves_claims ts d).node = spoke_held _ _ d h in
    elim (has_run_for (thread_at t d) d.node.slots.free) as (λ v. IsHeldOnce (cond v (grants me ts (serves me t (leaves_claims ts d))) (wants_again (ends_turn (at_thread t (refuses t) (leaves_claims ts d))))).node) [
      | true ↦ granted_held me ts (serves me t (leaves_claims ts d)) (served_held me t (leaves_claims ts d) rest)
      | false ↦ spoke_held _ _ _ (spoke_held _ _ _ (at_held t (refuses t) (leaves_claims ts d) rest (λ x e. refused_held t x (leaves_claims ts d) e rest)))
    ]
