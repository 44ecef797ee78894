-- isofree in code is that of the definition.
use Rattle.std.proofs.Common.{◌≡◌, ℕ, List, [], ◌∷◌, Bool, true, false, Some, None, refl, sym, ap, ◌∙◌}
use Rattle.std.specs.Map.{lookup, set_value}
use Rattle.slot_space.specs.declared.names.Tid.{Tid}
use Rattle.iso_blocks.specs.Heap.{emptied}
use Rattle.run_trace.specs.declared.label.Label.TheVariants.{Judged}
use Rattle.run_trace.specs.declared.label.Extra.TheVariants.{Nothing}
use Rattle.run_trace.specs.declared.node.Wait.TheVariants as wait
use Rattle.run_trace.specs.Guests.{Thread, Guest, waits, heap_of, gives_slots, without_slots, without_block}
use Rattle.rv_step.specs.Memory.{Memory}
use Rattle.run_trace.specs.Names.{is_tid}
use Rattle.run_trace.specs.Local.{EventSoFar, with_threads}
use Rattle.run_trace.specs.Steps.{at_found, at_thread, thread_at, say, keep, slots_in, tell, judge_as, returns}
use Rattle.run_trace.specs.Machine.{returns_any, frees_block, frees}
use Rattle.node_state.specs.Heaps.{drops_at, gives_back}

-- a thread that gives slots back stays where it is
pub gave_there : (t u : Tid) (slots : List ℕ) (d : EventSoFar) → thread_at u (gives_back t slots d) ≡ thread_at u d
unfolding gives_back slots_in say
gave_there t u [] d = refl
gave_there t u (s ∷ slots) d = refl

set_twice : {K X : Type 0} (test : K → Bool) (es : List (K × X)) (x y : X) → set_value test (set_value test es x) y ≡ set_value test es y
set_twice test [] x y = refl
set_twice {K} {X} test (e ∷ es) x y = by (test e.0) refl (set_twice test es x y)
  where
    by : (b : Bool) → test e.0 ≡ b → set_value test (set_value test es x) y ≡ set_value test es y → set_value test (set_value test (e ∷ es) x) y ≡ set_value test (e ∷ es) y
    by true h more = rw (h, h) refl
    by false h more = rw (h, h) (ap (λ (rest : List (K × X)). e ∷ rest) more)

set_there : {K X : Type 0} (test : K → Bool) (es : List (K × X)) (x y : X) → lookup test es ≡ Some x → lookup test (set_value test es y) ≡ Some y
set_there test [] x y h = absurd (cc h)
set_there {K} {X} test (e ∷ es) x y h = by (test e.0) refl (set_there test es x y)
  where
    by : (b : Bool) → test e.0 ≡ b → (lookup test es ≡ Some x → lookup test (set_value test es y) ≡ Some y) → lookup test (set_value test (e ∷ es) y) ≡ Some y
    by true g more = rw (g, g) refl
    by false g more = rw (g, g) (more (rw g at h))

none_without : (m : Memory) → without_slots [] m ≡ m
none_without [] = refl
none_without (h ∷ m) = ap (λ (rest : Memory). h ∷ rest) (none_without m)

gives_nothing : (g : Guest) → gives_slots [] g ≡ g
gives_nothing g = ap (λ (m : Memory). record g { solo = record g.solo { state = record g.solo.state { memory = m } } }) (none_without g.solo.state.memory)

-- what the thread is in the end, and what has happened
abbrev freed_to : Tid → ℕ → List ℕ → Guest → EventSoFar → EventSoFar
freed_to t address slots g d = tell t 0 None (say (Judged t 0 Nothing) (keep t (waits wait.No (without_block address (gives_slots slots g))) d))

freed_by : (t : Tid) (address : ℕ) (x : Thread) (d : EventSoFar) (slots : List ℕ) → thread_at t d ≡ Some x
    → freed_to t address slots x.guest (gives_back t slots d) ≡ at_thread t (frees_block t address) (returns_any t slots x.guest d)
unfolding gives_back judge_as returns slots_in say keep
freed_by t address x d [] here =
    ap (λ (g : Guest). freed_to t address [] g d) refl
    ∙ ap (λ (g : Guest). tell t 0 None (say (Judged t 0 Nothing) (keep t (waits wait.No (without_block address g)) d))) (gives_nothing x.guest)
    ∙ sym (ap (λ o. at_found o (frees_block t address) d) here)
freed_by t address x d (s ∷ slots) here =
    let y : Thread = waits wait.No (gives_slots (s ∷ slots) x.guest) in
    let z : Thread = waits wait.No (without_block address y.guest) in
    let there : thread_at t (returns t (s ∷ slots) x.guest d) ≡ Some y = set_there (is_tid t) d.node.threads x y here in
    ap (λ (es : List (Tid × Thread)). tell t 0 None (say (Judged t 0 Nothing) (with_threads es (gives_back t (s ∷ slots) d)))) (sym (set_twice (is_tid t) d.node.threads y z))
    ∙ sym (ap (λ o. at_found o (frees_block t address) (returns t (s ∷ slots) x.guest d)) there)

pub freed : (t : Tid) (address : ℕ) (x : Thread) (d mid dropped new : EventSoFar) → thread_at t d ≡ Some x → mid ≡ gives_back t (emptied (heap_of x.guest.solo) address) d
    → dropped ≡ at_thread t (drops_at t address) mid → new ≡ tell t 0 None (say (Judged t 0 Nothing) dropped) → new ≡ at_thread t (frees t address) d
freed t address x d mid dropped new here m e n =
    let there : thread_at t mid ≡ Some x = ap (thread_at t) m ∙ gave_there t t (emptied (heap_of x.guest.solo) address) d ∙ here in
    n ∙ ap (λ (y : EventSoFar). tell t 0 None (say (Judged t 0 Nothing) y)) (e ∙ ap (λ o. at_found o (drops_at t address) mid) there)
    ∙ ap (λ (y : EventSoFar). freed_to t address (emptied (heap_of x.guest.solo) address) x.guest y) m
    ∙ freed_by t address x d (emptied (heap_of x.guest.solo) address) here
    ∙ sym (ap (λ o. at_found o (frees t address) d) here)
