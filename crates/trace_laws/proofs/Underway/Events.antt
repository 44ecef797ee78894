-- Calls and runs, composed of their steps.
use Rattle.std.proofs.Common.{◌≡◌, ℕ, zero, suc, ◌<◌, List, [], ◌∷◌, ◌++◌, Option, Some, None, Bool, true, false, eqb, cond, refl, sym, ap, ◌∙◌, subst, arith}
use Rattle.std.specs.Prelude.{nat_lt, length, ◌^◌}
use Rattle.std.proofs.lemmas.Bool.{eqb-false}
use Rattle.std.proofs.lemmas.Bool.Decides.{nat_tests}
use Rattle.slot_space.specs.Replies.{reply_code, tid_value}
use Rattle.slot_space.specs.declared.names.Tid.{Tid}
use Rattle.slot_space.specs.declared.names.Reply.{Reply}
use Rattle.iso_blocks.specs.Heap.{rounded, place}
use Rattle.rv_step.specs.declared.hart.Stop.{Stop}
use Rattle.rv_step.specs.declared.hart.Stop.TheVariants as stops
use Rattle.marcel_core.specs.declared.end.End.TheVariants as end_of
use Rattle.marcel_sync.specs.Semaphores.{node_in, name_on, with_one_more}
use Rattle.levels.specs.Choice.{has_ready}
use Rattle.bubbles.proofs.Lemmas.{step_none}
use Rattle.bubbles.specs.declared.bubble.Shift.{Shift}
use Rattle.bubbles.specs.declared.bubble.Step.{Step}
use Rattle.bubbles.specs.declared.bubble.Step.TheVariants.{Empty, Takes, Shifts}
use Rattle.bubbles.specs.Picking.{step}
use Rattle.run_trace.specs.Bubbles.{is_listed, not_filling, bubble_outcome}
use Rattle.run_trace.specs.declared.node.Wait.TheVariants as wait
use Rattle.run_trace.specs.Names.{tid_of}
use Rattle.run_trace.specs.Program.{Program, nodes_of, processors_of}
use Rattle.run_trace.specs.Guests.{Guest, Solo, heap_of, Thread, Run, waits, with_state}
use Rattle.run_trace.specs.declared.call.Call.{Call}
use Rattle.run_trace.specs.declared.call.Call.TheVariants.{Exit, Name, Node, Nodes, Yield, Create, Join, Detach, SemNew, SemP, SemV, Isomalloc, Isofree, MigrateSelf, Migrate, Print, BubbleNew, BubbleInsert, BubbleWake, BubbleGather, CreateIn, Halt, Unknown}
use Rattle.run_trace.specs.Calls.{call_of, refusal, bytes_of, said_bytes}
use Rattle.run_trace.specs.Local.{EventSoFar}
use Rattle.run_trace.specs.Steps.{at_found, at_thread, thread_at, shifted, ran, asks, asks_slots, asks_here, asks_show, asks_join, asks_detach}
use Rattle.run_trace.specs.Causes.{asked_causes}
use Rattle.run_trace.specs.Machine.{answer, end_thread, serves, places, allocates_at, goes, migrates, sends, sends_away, signals, does_bubbles, creates_inside, calls, stopped, run_thread, run_found, chosen_by, chooses}
use Rattle.run_trace.specs.Rules.{quantum_in}
use Rattle.run_trace.specs.Spots.{Stage, Ready, Running, Due, Served, Seeks, placing_stage, Departs, Ends, Halts, On, Going, Spots, ran_stage, ran_forest, asked_stage, asked_going, asked_sems, asked_forest, asked_gathering, sent_stage, sent_away, entering_stage}
use Rattle.run_trace.specs.Stands.{WantsSlots, serving, busy, thread_in_stage, held_in_stage, holding_of}
use Rattle.trace_laws.proofs.Lists.Stages.{is_in_hand}
use Rattle.trace_laws.proofs.Underway.Midst.{Outset, Links, Midst, Keeps, keeps}
use Rattle.trace_laws.proofs.Underway.Steps.{in_hand, on_node, at_ok}
use Rattle.trace_laws.proofs.Underway.ReplySteps.{answer_ok, answer_move_ok, answer_stay_ok}
use Rattle.trace_laws.proofs.Underway.RunSteps.{chosen_ready, ran_there, ran_ok, ran_guest, runs_out_ok, run_now}
use Rattle.trace_laws.proofs.Underway.CallSteps.{asks_then_ok, asked_guest, departs_ok, asks_ok, asks_show_ok, asks_join_ok, asks_detach_ok, halts_ok, solo_at, bytes_at, IsItsOwn, IsNoBubbles}
use Rattle.trace_laws.proofs.Underway.BubbleCalls.{does_bubbles_ok, shifted_ok}
use Rattle.trace_laws.proofs.Underway.SemaphoreSteps.{asks_here_ok}
use Rattle.trace_laws.proofs.Underway.SemaphoreCalls.{signals_ok}
use Rattle.trace_laws.proofs.Underway.Sendings.{sends_away_ok}
use Rattle.trace_laws.proofs.Lists.Queues.{more_sems, more_waiters}
use Rattle.trace_laws.proofs.Underway.Lifetimes.{end_thread_ok}
use Rattle.trace_laws.proofs.Underway.Seeking.{seeks_first, asks_slots_ok}
use Rattle.trace_laws.proofs.Underway.Turns.{claims_ok}
use Rattle.trace_laws.proofs.Underway.HeapSteps.{places_ok, serves_ok, unserved, frees_ok}
use Rattle.trace_laws.proofs.Lives.Heaps.{frees_well}
use Rattle.run_trace.specs.Items.{Item, Chooses, Serves, has_slots}

-- the checks of a move refuse what is no node
goes_inside : (p : Program) (t : Tid) (x : Solo) (to : ℕ) → refusal p t x (MigrateSelf to) ≡ None → to < nodes_of p
goes_inside p t x to h = grind (arith, nat_tests, h)

sends_inside : (p : Program) (t : Tid) (x : Solo) (name to : ℕ) → refusal p t x (Migrate name to) ≡ None → to < nodes_of p
sends_inside p t x name to h = grind (arith, nat_tests, h)

-- and what is too great for a semaphore
small_value : (p : Program) (t : Tid) (x : Solo) (value : ℕ) → refusal p t x (SemNew value) ≡ None → value < 2 ^ 31
small_value p t x value h = grind (arith, nat_tests, h)

-- nothing comes of a choice where no list of the processor's has an entity
pub choice_ready : (p : Program) (n vp quantum k : ℕ) (d after : EventSoFar) → chooses p n vp quantum k d ≡ Some after → has_ready d.node.forest.lists.tree vp d.node.forest.lists.rows ≡ true
choice_ready p n vp quantum zero d after h = absurd (cc h)
choice_ready p n vp quantum (suc k) d after h = by (has_ready d.node.forest.lists.tree vp d.node.forest.lists.rows) refl
  where
    by : (v : Bool) → has_ready d.node.forest.lists.tree vp d.node.forest.lists.rows ≡ v → v ≡ true
    by true e = refl
    by false e =
        let none : (step vp d.node.forest).what ≡ Empty = (step_none vp d.node.forest e).0 in
        let bad : None ≡ Some after = sym (ap (λ z. chosen_by p n vp quantum (chooses p n vp quantum k) z d) none) ∙ h in
        absurd (cc bad)

abbrev nobody : Going
nobody = None

nobody_else : (b : Bool) → nobody ≡ cond b nobody nobody
nobody_else true = refl
nobody_else false = refl

module _ {outset : Outset} {ahead : List Item} {L : Links} (below : nat_lt outset.node (nodes_of outset.program) ≡ true) where
  open outset use {program as p, net, occasion as q, node as n, opening, world as w}

  -- a thread that seeks slots is served, or claims them
  serve_ok : (d : EventSoFar) (t : Tid) → Midst outset (Serves t ∷ ahead) L d [] → Midst outset ahead L (serves n t d) []
  serve_ok d t m = by (has_slots n t m.now.spots) refl
    where
      x : (m.now.spots.threads t).life ≡ On n Seeks
      x = seeks_first n t (serving ahead ++ d.node.talk.claims) m.now.spots.threads m.here.seekers

      by : (v : Bool) → has_slots n t m.now.spots ≡ v → Midst outset ahead L (serves n t d) []
      by true e = serves_ok below d t m e
      by false e = subst (λ z. Midst outset ahead L z []) (sym (unserved d t m x e)) (claims_ok d t m e)

  -- a thread that goes to another node is answered first, and one that asks for its own is answered alone
  migrates_ok : (d : EventSoFar) (t : Tid) (to : ℕ) → Midst outset ahead L d (busy t (On n (Served (MigrateSelf to))) ∷ []) → to < nodes_of p → Midst outset ahead L (migrates p n to t (answer t 0 d)) []
  migrates_ok d t to m inside = by (eqb to n) refl
    where
      by : (v : Bool) → eqb to n ≡ v → Midst outset ahead L (cond v (answer t 0 d) (at_thread t (goes p t to) (answer t 0 d))) []
      by true e = answer_stay_ok d t to [] m e
      by false e =
          let k : Midst outset ahead L (answer t 0 d) (busy t (On n (Departs to)) ∷ []) = answer_move_ok d t to [] m e in
          at_ok (answer t 0 d) [] t (Departs to) (goes p t to) k (in_hand k) refl
          (departs_ok (answer t 0 d) t to [] k inside (eqb-false to n e))

  -- a call, from the thread that runs
  pub calls_ok : (d : EventSoFar) (t : Tid) → (m : Midst outset ahead L d (busy t (On n Running) ∷ [])) → Midst outset ahead L (stopped p n t stops.Call (waits wait.No (m.now.spots.threads t).guest) d) []
  calls_ok d t m = by (call_of s.state) refl (refusal p t s (call_of s.state)) refl
    where
      v : Spots
      v = m.now.spots

      s : Solo
      s = solo_at v t

      -- whatever follows on the call, by the call and its refusal
      follows : {A : Type 0} (f : Call → Option Reply → A) (c : Call) (o : Option Reply) → call_of s.state ≡ c → refusal p t s (call_of s.state) ≡ o → f (call_of s.state) (refusal p t s (call_of s.state)) ≡ f c o
      follows f c o e g = ap (λ z. f (call_of s.state) z) g ∙ ap (λ z. f z o) e

      -- it leaves the forest as it was
      calm : (c : Call) (o : Option Reply) → call_of s.state ≡ c → refusal p t s (call_of s.state) ≡ o → asked_forest p n c o (v.forests n) ≡ v.forests n → asked_gathering p n c o (v.forests n) ≡ None → IsNoBubbles p n t v
      calm c o e f same none = record {
        forest = follows (λ z y. asked_forest p n z y (v.forests n)) c o e f ∙ same;
        gathers = follows (λ z y. asked_gathering p n z y (v.forests n)) c o e f ∙ none;
      }

      -- it changes its thread alone
      own : (c : Call) (o : Option Reply) (b : Stage) → call_of s.state ≡ c → refusal p t s (call_of s.state) ≡ o → asked_stage p n t v c o ≡ b → asked_going n t v c o ≡ None → asked_sems n t c o (v.sems n) ≡ v.sems n
          → asked_forest p n c o (v.forests n) ≡ v.forests n → asked_gathering p n c o (v.forests n) ≡ None → IsItsOwn p n t v b
      own c o b e f st alone same forest none = record {
        stage = follows (λ z y. asked_stage p n t v z y) c o e f ∙ st;
        going = follows (λ z y. asked_going n t v z y) c o e f ∙ alone;
        sems = follows (λ z y. asked_sems n t z y (v.sems n)) c o e f ∙ same;
        bubbles = calm c o e f forest none;
      }

      -- which bytes it names
      bytes : (c : Call) (o : Option Reply) → call_of s.state ≡ c → refusal p t s (call_of s.state) ≡ o → said_bytes p s.state c o ≡ bytes_at p v t
      bytes c o e f = sym (follows (λ z y. said_bytes p s.state z y) c o e f)

      -- the call is asked, and goes on here in this stage
      asked : (c : Call) (o : Option Reply) (b : Stage) → call_of s.state ≡ c → refusal p t s (call_of s.state) ≡ o → IsItsOwn p n t v b → [] ≡ said_bytes p s.state c o
          → asked_causes t b ≡ [] → is_in_hand b ≡ true
          → Keeps (Some (holding_of (v.threads t).guest)) (held_in_stage b (v.threads t).guest)
          → Midst outset ahead L (asks t c d) (busy t (On n b) ∷ [])
      asked c o b e f st none sent here kept = subst (λ z. Midst outset ahead L (asks t z d) (busy t (On n b) ∷ [])) e
          (asks_ok d t b m st (none ∙ bytes c o e f) sent here kept)

      -- the thread seeks slots for it
      seeks : (c : Call) (o : Option Reply) → call_of s.state ≡ c → refusal p t s (call_of s.state) ≡ o → IsItsOwn p n t v Seeks → [] ≡ said_bytes p s.state c o → WantsSlots c
          → Midst outset (Serves t ∷ ahead) L (asks_slots t c (waits wait.No (v.threads t).guest) d) []
      seeks c o e f st none wants = subst (λ z. Midst outset (Serves t ∷ ahead) L (asks_slots t z (waits wait.No (v.threads t).guest) d) []) e
          (asks_slots_ok d t m st (none ∙ bytes c o e f) (subst (λ z. WantsSlots z) (sym e) wants))

      -- or its block has a place
      placed : (len address : ℕ) → IsItsOwn p n t v (Served (Isomalloc len)) → [] ≡ bytes_at p v t → place (heap_of s) (rounded len) ≡ Some address → Midst outset ahead L (at_thread t (places t (rounded len)) (asks t (call_of s.state) d)) []
      placed len address st none g =
          let k = asks_then_ok d t (Served (Isomalloc len)) m st none refl refl (keeps _ _ refl) in
          at_ok (asks t (call_of s.state) d) [] t (Served (Isomalloc len)) (places t (rounded len)) k.midst (in_hand k.midst) refl
          (places_ok (asks t (call_of s.state) d) t len address [] k.midst (ap (λ (z : Guest). place (heap_of z.solo) (rounded len)) (asked_guest p n m.now k.midst.now t [] (Served (Isomalloc len)) st k.now) ∙ g))

      -- it is answered at once
      due : (c : Call) (code : ℕ) (o : Option Reply) → call_of s.state ≡ c → refusal p t s (call_of s.state) ≡ o → IsItsOwn p n t v (Due code) → [] ≡ said_bytes p s.state c o → Midst outset ahead L (answer t code (asks t c d)) []
      due c code o e f st none = answer_ok (asks t c d) t code [] (asked c o (Due code) e f st none refl refl (keeps _ _ refl))

      -- it is done on the node's bubbles
      bubbles : (c : Call) → call_of s.state ≡ c → refusal p t s (call_of s.state) ≡ None → asked_stage p n t v c None ≡ Due (bubble_outcome p n c (v.forests n)).code → asked_going n t v c None ≡ None → asked_sems n t c None (v.sems n) ≡ v.sems n
          → [] ≡ said_bytes p s.state c None → Midst outset ahead L (does_bubbles p n t c d) []
      bubbles c e f st alone same none = subst (λ z. Midst outset ahead L (does_bubbles p n t z d) []) e (does_bubbles_ok d t m (record {
        stage = follows (λ z y. asked_stage p n t v z y) c None e f ∙ st ∙ ap (λ z. Due (bubble_outcome p n z (v.forests n)).code) (sym e);
        going = follows (λ z y. asked_going n t v z y) c None e f ∙ alone;
        sems = follows (λ z y. asked_sems n t z y (v.sems n)) c None e f ∙ same;
        forest = ap (λ z. asked_forest p n (call_of s.state) z (v.forests n)) f;
        gathers = ap (λ z. asked_gathering p n (call_of s.state) z (v.forests n)) f;
        bytes = none ∙ bytes c None e f;
      }))

      -- a step of the thread after it has asked
      then : (c : Call) (b : Stage) (step : Thread → EventSoFar → EventSoFar) → (k : Midst outset ahead L (asks t c d) (busy t (On n b) ∷ []))
          → thread_in_stage n b (k.now.spots.threads t).guest ≡ Some (waits wait.No (k.now.spots.threads t).guest)
          → Midst outset ahead L (step (waits wait.No (k.now.spots.threads t).guest) (asks t c d)) []
          → Midst outset ahead L (at_thread t step (asks t c d)) []
      then c b step k there done = at_ok (asks t c d) [] t b step k (in_hand k) there done

      -- a step of the thread by which it asks
      now : {next : List Item} (step : Thread → EventSoFar → EventSoFar) → Midst outset next L (step (waits wait.No (m.now.spots.threads t).guest) d) [] → Midst outset next L (at_thread t step d) []
      now step done = at_ok d [] t Running step m (in_hand m) refl done

      by : (c : Call) → call_of s.state ≡ c → (o : Option Reply) → refusal p t s (call_of s.state) ≡ o → Midst outset ahead L (calls p n t c o (bytes_of p s.state c) d) []
      by c e (Some reply) f = due c (reply_code reply) (Some reply) e f (own c (Some reply) (Due (reply_code reply)) e f refl refl refl refl refl) refl
      by Name e None f = due Name _ None e f (own Name None _ e f refl refl refl refl refl) refl
      by Node e None f = due Node _ None e f (own Node None _ e f refl refl refl refl refl) refl
      by Nodes e None f = due Nodes _ None e f (own Nodes None _ e f refl refl refl refl refl) refl
      by Yield e None f = due Yield _ None e f (own Yield None _ e f refl refl refl refl refl) refl
      by (Unknown number) e None f = due (Unknown number) _ None e f (own (Unknown number) None _ e f refl refl refl refl refl) refl
      by (Exit value) e None f =
          let k = asked (Exit value) None (Ends (end_of.Exit value)) e f (own (Exit value) None _ e f refl refl refl refl refl) refl refl refl (keeps _ _ refl) in
          then (Exit value) (Ends (end_of.Exit value)) _ k refl (end_thread_ok (asks t (Exit value) d) t (end_of.Exit value) [] k)
      by (Create entry a i) e None f = serve_ok _ t (now _ (seeks (Create entry a i) None e f (own (Create entry a i) None Seeks e f refl refl refl refl refl) refl tt))
      by (BubbleNew priority depth) e None f = bubbles (BubbleNew priority depth) e f refl refl refl refl
      by (BubbleInsert bubble member) e None f = bubbles (BubbleInsert bubble member) e f refl refl refl refl
      by (BubbleWake bubble) e None f = bubbles (BubbleWake bubble) e f refl refl refl refl
      by (BubbleGather bubble) e None f = bubbles (BubbleGather bubble) e f refl refl refl refl
      by (CreateIn bubble entry a i) e None f = subst (λ z. Midst outset ahead L (creates_inside n t c (not_filling p n bubble z) d) []) (sym m.here.forest) (by_bubble (not_filling p n bubble (v.forests n)) refl)
        where
          c : Call
          c = CreateIn bubble entry a i

          by_bubble : (o : Option Reply) → not_filling p n bubble (v.forests n) ≡ o → Midst outset ahead L (creates_inside n t c o d) []
          by_bubble (Some reply) g = due c (reply_code reply) None e f (own c None (Due (reply_code reply)) e f (ap entering_stage g) refl refl refl refl) refl
          by_bubble None g = serve_ok _ t (now _ (seeks c None e f (own c None Seeks e f (ap entering_stage g) refl refl refl refl) refl tt))
      by (Isomalloc len) e None f = now _ (by_place (place (heap_of s) (rounded len)) refl)
        where
          c : Call
          c = Isomalloc len

          by_place : (o : Option ℕ) → place (heap_of s) (rounded len) ≡ o → Midst outset ahead L (allocates_at n t len o (waits wait.No (v.threads t).guest) d) []
          by_place None g = serve_ok _ t (seeks c None e f (own c None Seeks e f (ap (placing_stage c) g) refl refl refl refl) refl tt)
          by_place (Some address) g = subst (λ z. Midst outset ahead L (at_thread t (places t (rounded len)) (asks t z d)) []) e (placed len address (own c None (Served c) e f (ap (placing_stage c) g) refl refl refl refl) (bytes c None e f) g)
      by (Isofree address) e None f =
          let k = asked (Isofree address) None (Served (Isofree address)) e f (own (Isofree address) None _ e f refl refl refl refl refl) refl refl refl (record { slots = refl; well = λ h. frees_well (v.threads t).guest address h }) in
          then (Isofree address) (Served (Isofree address)) _ k refl (frees_ok (asks t (Isofree address) d) t address [] k)
      by (MigrateSelf to) e None f = migrates_ok (asks t (MigrateSelf to) d) t to
          (asked (MigrateSelf to) None (Served (MigrateSelf to)) e f (own (MigrateSelf to) None _ e f refl refl refl refl refl) refl refl refl (keeps _ _ refl))
          (goes_inside p t s to (ap (refusal p t s) (sym e) ∙ f))
      by (Migrate name to) e None f = by_name (eqb name (tid_value t)) refl
        where
          inside : to < nodes_of p
          inside = sends_inside p t s name to (ap (refusal p t s) (sym e) ∙ f)

          u : Tid
          u = tid_of name

          by_name : (itself : Bool) → eqb name (tid_value t) ≡ itself → Midst outset ahead L (sends p n u to t (eqb name (tid_value t)) (asks t (Migrate name to) d)) []
          by_name true g = subst (λ z. Midst outset ahead L (sends p n u to t z (asks t (Migrate name to) d)) []) (sym g)
              (migrates_ok (asks t (Migrate name to) d) t to
              (asked (Migrate name to) None (Served (MigrateSelf to)) e f
              (own (Migrate name to) None (Served (MigrateSelf to)) e f (ap (λ z. sent_stage z to (is_listed u (v.forests n))) g) (ap (λ z. sent_away n z u to (is_listed u (v.forests n))) g) refl refl refl) refl refl refl (keeps _ _ refl))
              inside)
          by_name false g = subst (λ z. Midst outset ahead L (sends p n u to t z (asks t (Migrate name to) d)) []) (sym g)
              (subst (λ z. Midst outset ahead L (sends_away p n u to t (is_listed u (asks t z d).node.forest) (asks t z d)) []) e
              (sends_away_ok d t u to m (record {
                going = follows (λ z y. asked_going n t v z y) (Migrate name to) None e f ∙ ap (λ z. sent_away n z u to (is_listed u (v.forests n))) g;
                stage = follows (λ z y. asked_stage p n t v z y) (Migrate name to) None e f ∙ ap (λ z. sent_stage z to (is_listed u (v.forests n))) g;
                sems = follows (λ z y. asked_sems n t z y (v.sems n)) (Migrate name to) None e f;
                bubbles = calm (Migrate name to) None e f refl refl;
                bytes = bytes (Migrate name to) None e f;
              })
              inside))
      by Halt e None f =
          let k = asked Halt None Halts e f (own Halt None _ e f refl refl refl refl refl) refl refl refl (keeps _ _ refl) in
          then Halt Halts _ k refl (halts_ok (asks t Halt d) t [] k)
      by (Join name) e None f = now _ (subst (λ z. Midst outset ahead L (asks_join t z (tid_of name) (waits wait.No (v.threads t).guest) d) []) e
          (asks_join_ok d t (tid_of name) m (own (Join name) None _ e f refl refl refl refl refl) (bytes (Join name) None e f)))
      by (Detach name) e None f = now _ (subst (λ z. Midst outset ahead L (asks_detach t z (tid_of name) (waits wait.No (v.threads t).guest) d) []) e
          (asks_detach_ok d t (tid_of name) m (own (Detach name) None _ e f refl refl refl refl refl) (bytes (Detach name) None e f)))
      by (SemNew value) e None f =
          subst (λ z. Midst outset ahead L (answer t (name_on n (length z)) (asks_here t (SemNew value) (with_one_more value z) d)) []) (sym m.here.sems)
          (subst (λ z. Midst outset ahead L (answer t (name_on n (length (v.sems n))) (asks_here t z (with_one_more value (v.sems n)) d)) []) e
          (answer_ok (asks_here t (call_of s.state) (with_one_more value (v.sems n)) d) t (name_on n (length (v.sems n))) []
          (asks_here_ok d t (name_on n (length (v.sems n))) (with_one_more value (v.sems n)) m (record {
            going = follows (λ z y. asked_going n t v z y) (SemNew value) None e f;
            stage = follows (λ z y. asked_stage p n t v z y) (SemNew value) None e f;
            sems = follows (λ z y. asked_sems n t z y (v.sems n)) (SemNew value) None e f;
            bubbles = calm (SemNew value) None e f refl refl;
            bytes = bytes (SemNew value) None e f;
          })
          (more_sems value (v.sems n) (small_value p t s value (ap (refusal p t s) (sym e) ∙ f)) (m.agrees.sems n)) (more_waiters value (v.sems n)))))
      by (SemP id) e None f = subst (λ z. Midst outset ahead L (signals n t z id false d) []) e (signals_ok d t id false m (record {
        going = follows (λ z y. asked_going n t v z y) (SemP id) None e f ∙ nobody_else (eqb (node_in id) n);
        stage = follows (λ z y. asked_stage p n t v z y) (SemP id) None e f;
        sems = follows (λ z y. asked_sems n t z y (v.sems n)) (SemP id) None e f;
        bubbles = calm (SemP id) None e f refl refl;
        bytes = bytes (SemP id) None e f;
      }))
      by (SemV id) e None f = subst (λ z. Midst outset ahead L (signals n t z id true d) []) e (signals_ok d t id true m (record {
        going = follows (λ z y. asked_going n t v z y) (SemV id) None e f;
        stage = follows (λ z y. asked_stage p n t v z y) (SemV id) None e f;
        sems = follows (λ z y. asked_sems n t z y (v.sems n)) (SemV id) None e f;
        bubbles = calm (SemV id) None e f refl refl;
        bytes = bytes (SemV id) None e f;
      }))
      by (Print address len) e None f = now _ (subst (λ z. Midst outset ahead L (asks_show t z (bytes_of p s.state (Print address len)) (waits wait.No (v.threads t).guest) d) []) e
          (asks_show_ok d t (bytes_of p s.state (Print address len)) m (own (Print address len) None _ e f refl refl refl refl refl) (bytes (Print address len) None e f)))

  -- a run of the thread that the processor has chosen, to its stop
  run_ok : (d : EventSoFar) (t : Tid) (vp : ℕ) → (m : Midst outset (Chooses vp ∷ ahead) L d []) → (step vp (m.now.spots.forests n)).what ≡ Takes t → Midst outset ahead L (run_thread p n vp (quantum_in q.act) t (waits wait.No (m.now.spots.threads t).guest) d) []
  run_ok d t vp m chosen = subst (λ o. Midst outset ahead L (at_found o (stopped p n t r.stop) after) []) (sym there) (by r.stop refl)
    where
      r : Run
      r = run_now p q m.now.spots t

      g : Guest
      g = with_state r.state (m.now.spots.threads t).guest

      after : EventSoFar
      after = ran t vp r (waits wait.No (m.now.spots.threads t).guest) d

      there : thread_at t after ≡ Some (waits wait.No g)
      there = ran_there t vp r (waits wait.No (m.now.spots.threads t).guest) d (on_node t Ready m (chosen_ready d t vp m chosen).1)

      by : (stop : Stop) → r.stop ≡ stop → Midst outset ahead L (stopped p n t stop (waits wait.No g) after) []
      by stops.Quantum e = runs_out_ok d t vp m (λ f. ap (λ z. ran_forest z t f) e) chosen (ap (λ z. ran_stage z r.state) e)
      by stops.Call e =
          let k = ran_ok d t vp Running m (λ f. ap (λ z. ran_forest z t f) e) chosen (ap (λ z. ran_stage z r.state) e) refl refl in
          subst (λ (z : Guest). Midst outset ahead L (stopped p n t stops.Call (waits wait.No z) after) []) (ran_guest p q n m.now k.midst.now t vp k.now) (calls_ok after t k.midst)
      by (stops.Fault kind) e =
          let k = ran_ok d t vp (Ends (end_of.Fault kind r.state.pc)) m (λ f. ap (λ z. ran_forest z t f) e) chosen (ap (λ z. ran_stage z r.state) e) refl refl in
          subst (λ z. Midst outset ahead L (end_thread t (waits wait.No z) (end_of.Fault kind r.state.pc) after) []) (ran_guest p q n m.now k.midst.now t vp k.now) (end_thread_ok after t (end_of.Fault kind r.state.pc) [] k.midst)

  -- ## The choices of a processor

  -- what it chooses is by the labels what it is by the node
  chosen_told : {what : Step} (d : EventSoFar) (vp : ℕ) → (m : Midst outset (Chooses vp ∷ ahead) L d []) → (step vp d.node.forest).what ≡ what → (step vp (m.now.spots.forests n)).what ≡ what
  chosen_told d vp m e = ap (λ f. (step vp f).what) (sym m.here.forest) ∙ e

  -- the thread that it takes is there
  taken_there : (d : EventSoFar) (t : Tid) (vp : ℕ) → (m : Midst outset (Chooses vp ∷ ahead) L d []) → (step vp d.node.forest).what ≡ Takes t → thread_at t d ≡ Some (waits wait.No (m.now.spots.threads t).guest)
  taken_there d t vp m e = on_node t Ready m (chosen_ready d t vp m (chosen_told d vp m e)).1

  -- the thread runs
  taken_ok : (d after : EventSoFar) (t : Tid) (vp : ℕ) → (m : Midst outset (Chooses vp ∷ ahead) L d []) → (step vp d.node.forest).what ≡ Takes t → run_found p n vp (quantum_in q.act) t (thread_at t d) d ≡ Some after → Midst outset ahead L after []
  taken_ok d after t vp m e h =
      let ran : Some (run_thread p n vp (quantum_in q.act) t (waits wait.No (m.now.spots.threads t).guest) d) ≡ Some after = sym (ap (λ o. run_found p n vp (quantum_in q.act) t o d) (taken_there d t vp m e)) ∙ h in
      let same : run_thread p n vp (quantum_in q.act) t (waits wait.No (m.now.spots.threads t).guest) d ≡ after = cc ran in
      subst (λ z. Midst outset ahead L z []) same (run_ok d t vp m (chosen_told d vp m e))

  -- all that comes of a choice, with at most so many bubbles moved
  pub chooses_ok : (k vp : ℕ) (d after : EventSoFar) → vp < processors_of p → Midst outset (Chooses vp ∷ ahead) L d [] → chooses p n vp (quantum_in q.act) k d ≡ Some after → Midst outset ahead L after []
  chooses_ok zero vp d after below m h = absurd (cc h)
  chooses_ok (suc k) vp d after below m h = by (λ move e g. chooses_ok k vp (shifted vp move d) after below (shifted_ok d vp move m (chosen_told d vp m e) below) g) (step vp d.node.forest).what refl h
    where
      by : ((move : Shift) → (step vp d.node.forest).what ≡ Shifts move → chooses p n vp (quantum_in q.act) k (shifted vp move d) ≡ Some after → Midst outset ahead L after [])
          → (what : Step) → (step vp d.node.forest).what ≡ what → chosen_by p n vp (quantum_in q.act) (chooses p n vp (quantum_in q.act) k) what d ≡ Some after → Midst outset ahead L after []
      by again Empty e g = absurd (cc g)
      by again (Takes t) e g = taken_ok d after t vp m e g
      by again (Shifts move) e g = again move e g
