-- A node that has the turn: it serves its claims from the front, and decides about the first that it has no slots for.
use Rattle.std.proofs.Common.{◌≡◌, ℕ, List, [], ◌∷◌, ◌++◌, Option, Some, None, Bool, true, false, cond, refl, sym, ap, ◌∙◌, subst}
use Rattle.std.specs.Prelude.{is_some, nat_lt}
use Rattle.slot_space.specs.declared.names.Tid.{Tid}
use Rattle.iso_blocks.specs.Heap.{rounded, place}
use Rattle.run_trace.specs.declared.call.Call.{Call}
use Rattle.run_trace.specs.declared.call.Call.TheVariants.{Create, CreateIn, Isomalloc}
use Rattle.marcel_sync.specs.Semaphores.{number_in}
use Rattle.run_trace.specs.declared.label.Why.{Why}
use Rattle.run_trace.specs.declared.label.Why.TheVariants as why
use Rattle.run_trace.specs.declared.node.Wait.TheVariants as wait
use Rattle.run_trace.specs.Program.{Program, nodes_of}
use Rattle.run_trace.specs.Cluster.{Net}
use Rattle.run_trace.specs.Rules.{Occasion}
use Rattle.run_trace.specs.declared.packet.Body.TheVariants.{Turn}
use Rattle.run_trace.specs.Guests.{with_placed, Thread, Guest, waits, heap_of, slots_for}
use Rattle.run_trace.specs.Calls.{place_code, slots_wanted}
use Rattle.run_trace.specs.World.{World}
use Rattle.run_trace.specs.Talks.{Talk}
use Rattle.run_trace.specs.Items.{Turns, Item, Serves, Grants, Decides, Ends_turn, Wants_again, has_slots}
use Rattle.run_trace.specs.Local.{EventSoFar, nothing}
use Rattle.run_trace.specs.Steps.{at_found, at_thread, thread_at, tell, tell_found, judge, judge_as, arrive, say, keep, enter, birth, thread_in, birth_in, slots_out, takes_run, speaks}
use Rattle.run_trace.specs.Machine.{accepts, answer, free_slot, run_for, creates_in, allocates_in, places, serves, serves_thread, serves_call, refuses, grants, ends_turn, wants_again, leaves_claims}
use Rattle.run_trace.specs.Spots.{Spots, Seeks, On, its_call, lowest_free}
use Rattle.run_trace.specs.Stands.{Word, A_turn, WantsSlots, serving}
use Rattle.trace_laws.proofs.Lists.Subjects.{less_word}
use Rattle.trace_laws.proofs.Underway.Midst.{at_link, Outset, Links, Midst}
use Rattle.trace_laws.proofs.Underway.Steps.{on_node}
use Rattle.trace_laws.proofs.Underway.Seeking.{seeks_first, refuses_ok}
use Rattle.trace_laws.proofs.Underway.Lifetimes.{lowest_is}
use Rattle.trace_laws.proofs.Underway.HeapSteps.{lowest_apart, serves_ok}
use Rattle.trace_laws.proofs.Underway.Turns.{StandsBefore, opened_with, turn_begins, Still, left_seekers, serves_next_ok, decides_next_ok, grants_none_ok, ends_turn_ok, wants_again_ok, same_run}

-- ## What the node keeps of the negotiation while a thread is served

answer_talk : (t : Tid) (code : ℕ) (d : EventSoFar) → (answer t code d).node.talk ≡ d.node.talk
unfolding tell judge arrive say keep
answer_talk t code d = by (thread_at t d)
  where
    by : (o : Option Thread) → (tell_found t code None o (judge t code None d)).node.talk ≡ d.node.talk
    by None = refl
    by (Some x) = refl

birth_talk : (n : ℕ) (reason : Why) (e a k slot : ℕ) (d : EventSoFar) → (birth n reason e a k slot d).node.talk ≡ d.node.talk
unfolding birth enter thread_in birth_in slots_out say
birth_talk n reason e a k slot d = refl

takes_talk : (t : Tid) (first count : ℕ) (g : Guest) (d : EventSoFar) → (takes_run t first count g d).node.talk ≡ d.node.talk
unfolding takes_run say slots_out keep
takes_talk t first count g d = refl

places_talk : (t : Tid) (size : ℕ) (x : Thread) (d : EventSoFar) → (places t size x d).node.talk ≡ d.node.talk
unfolding tell judge_as arrive say keep
places_talk t size x d = by (thread_at t (judge_as t code g d))
  where
    code : ℕ
    code = place_code (place (heap_of x.guest.solo) size)

    g : Guest
    g = with_placed size (place (heap_of x.guest.solo) size) x.guest

    by : (o : Option Thread) → (tell_found t code None o (judge_as t code g d)).node.talk ≡ d.node.talk
    by None = refl
    by (Some y) = refl

at_talk : (t : Tid) (step : Thread → EventSoFar → EventSoFar) (d : EventSoFar) → ((x : Thread) → (step x d).node.talk ≡ d.node.talk) → (at_thread t step d).node.talk ≡ d.node.talk
at_talk t step d same = by (thread_at t d)
  where
    by : (o : Option Thread) → (at_found o step d).node.talk ≡ d.node.talk
    by None = refl
    by (Some x) = same x

-- there is a run for it
has_some : (n : ℕ) (t : Tid) (v : Spots) (c : Call) (o : Option ℕ) → has_slots n t v ≡ true → its_call t v ≡ c → lowest_free n (slots_wanted c) v ≡ o → o ≡ None → ⊥
has_some n t v c o some asked is none =
    let bad : true ≡ false = sym some ∙ ap (λ z. is_some (lowest_free n (slots_wanted z) v)) asked ∙ ap is_some (is ∙ none) in
    absurd (cc bad)

left_claims : (ts : List Tid) (d : EventSoFar) → (leaves_claims ts d).node.talk.claims ≡ ts
unfolding speaks
left_claims ts d = refl

module _ {outset : Outset} {L : Links} where
  open outset use {program as p, net, occasion as q, node as n, opening, world as w}

  -- a thread for which there are slots claims none
  served_talk : {ahead : List Item} (d : EventSoFar) (t : Tid) → (m : Midst outset (Serves t ∷ ahead) L d []) → has_slots n t m.now.spots ≡ true → (serves n t d).node.talk ≡ d.node.talk
  served_talk {ahead} d t m some = ap (λ o. (at_found o (serves_thread n t) d).node.talk) (on_node t Seeks m x) ∙ by_call (its_call t m.now.spots) refl (m.agrees.seeks t n x)
    where
      x : (m.now.spots.threads t).life ≡ On n Seeks
      x = seeks_first n t (serving ahead ++ d.node.talk.claims) m.now.spots.threads m.here.seekers

      g : Guest
      g = (m.now.spots.threads t).guest

      creates_talk : (reason : Why) (e a k : ℕ) (o : Option ℕ) → (o ≡ None → ⊥) → (creates_in n t reason e a k o d).node.talk ≡ d.node.talk
      creates_talk reason e a k None h = absurd (h refl)
      creates_talk reason e a k (Some slot) h = answer_talk t _ (birth n reason e a k slot d) ∙ birth_talk n reason e a k slot d

      allocates_talk : (size : ℕ) (o : Option ℕ) → (o ≡ None → ⊥) → (allocates_in t size o (waits wait.ForSlots g) d).node.talk ≡ d.node.talk
      allocates_talk size None h = absurd (h refl)
      allocates_talk size (Some first) h = at_talk t (places t size) (takes_run t first (slots_for size) g d) (λ y. places_talk t size y (takes_run t first (slots_for size) g d)) ∙ takes_talk t first (slots_for size) g d

      by_call : (c : Call) → its_call t m.now.spots ≡ c → WantsSlots c → (serves_call n t c (waits wait.ForSlots g) d).node.talk ≡ d.node.talk
      by_call (Create e a k) asked wants = creates_talk (why.Create t) e a k (free_slot d.node.slots.free) (has_some n t m.now.spots (Create e a k) (free_slot d.node.slots.free) some asked (lowest_is n 1 m.now.spots d.node [] _ m.here))
      by_call (CreateIn b e a k) asked wants = creates_talk (why.Inside t (number_in b)) e a k (free_slot d.node.slots.free) (has_some n t m.now.spots (CreateIn b e a k) (free_slot d.node.slots.free) some asked (lowest_is n 1 m.now.spots d.node [] _ m.here))
      by_call (Isomalloc len) asked wants = allocates_talk (rounded len) (run_for (rounded len) g d.node.slots.free) (has_some n t m.now.spots (Isomalloc len) (run_for (rounded len) g d.node.slots.free) some asked (lowest_apart t (slots_for (rounded len)) m x))
      by_call c asked wants = absurd wants

  -- it has the turn
  pub grants_ok : (below : nat_lt n (nodes_of p) ≡ true) (ts : List Tid) {ahead : List Item} (d : EventSoFar) → (m : Midst outset (Grants ∷ ahead) L d []) → d.node.talk.claims ≡ ts → Midst outset ahead L (grants n ts d) []
  grants_ok below [] d m has = grants_none_ok d m has
  grants_ok below (t ∷ ts) {ahead} d m has =
      subst (λ v. Midst outset ahead L (cond v (grants n ts (serves n t (leaves_claims ts d))) (wants_again (ends_turn (at_thread t (refuses t) (leaves_claims ts d))))) []) (sym (same_run t m x))
      (by (λ e k. grants_ok below ts e k) (has_slots n t m.now.spots) refl)
    where
      x : (m.now.spots.threads t).life ≡ On n Seeks
      x = seeks_first n t (serving ahead ++ ts) m.now.spots.threads (left_seekers t ts m has)

      by : ((e : EventSoFar) → (k : Midst outset (Grants ∷ ahead) L e []) → e.node.talk.claims ≡ ts → Midst outset ahead L (grants n ts e) []) → (v : Bool) → has_slots n t m.now.spots ≡ v
          → Midst outset ahead L (cond v (grants n ts (serves n t (leaves_claims ts d))) (wants_again (ends_turn (at_thread t (refuses t) (leaves_claims ts d))))) []
      by later true some =
          let k : Still outset (Serves t ∷ Grants ∷ ahead) L (leaves_claims ts d) m.now = serves_next_ok d t ts m has some in
          let still : has_slots n t k.0.now.spots ≡ true = ap (λ (z : World). has_slots n t z.spots) k.1 ∙ some in
          later (serves n t (leaves_claims ts d)) (serves_ok below (leaves_claims ts d) t k.0 still)
          (ap (λ (z : Talk). z.claims) (served_talk (leaves_claims ts d) t k.0 still) ∙ left_claims ts d)
      by later false none =
          let k : Still outset (Decides t ∷ Ends_turn ∷ Wants_again ∷ ahead) L (leaves_claims ts d) m.now = decides_next_ok d t ts m has none in
          let still : has_slots n t k.0.now.spots ≡ false = ap (λ (z : World). has_slots n t z.spots) k.1 ∙ none in
          wants_again_ok _ (ends_turn_ok _ (refuses_ok (leaves_claims ts d) t k.0 still))

-- a node takes its turn
pub turn_ok : (p : Program) (net : Net) (q : Occasion) (n : ℕ) (w : World) (L : Links) (before : StandsBefore p net n w.spots L) (below : nat_lt n (nodes_of p) ≡ true) (from : ℕ) (rest : List Word) → L from n ≡ A_turn ∷ rest
    → Midst (opened_with p net q n w L before [] (Grants ∷ []) (net.nodes n).talk) [] (at_link from n (less_word Turns) L) (accepts n from Turn (net.nodes n)) []
turn_ok p net q n w L before below from rest first = grants_ok below (net.nodes n).talk.claims (nothing (net.nodes n)) (turn_begins p net q n w L before from rest first) refl
