-- What the labels tell of a thread is what it comes to by what it has lived through: each label keeps it.
use Rattle.std.proofs.Common.{◌≡◌, ℕ, ◌+◌, ◌⊎◌, List, [], ◌∷◌, ◌++◌, Option, Some, None, Bool, true, false, eqb, cond, refl, sym, ap, ◌∙◌, subst, arith, inl, inr}
use Rattle.std.specs.Prelude.{length, slice_get}
use Rattle.rv_step.specs.Step.{HartState}
use Rattle.rv_step.specs.Run.{after, StopsBy}
use Rattle.rv_step.specs.declared.hart.Stop.{Stop}
use Rattle.rv_step.specs.declared.hart.Stop.TheVariants as stops
use Rattle.marcel_core.specs.declared.birth.Birth.{Birth}
use Rattle.marcel_core.specs.declared.birth.Verdict.{Verdict}
use Rattle.marcel_core.specs.declared.birth.Verdict.TheVariants as verdicts
use Rattle.marcel_core.specs.declared.end.End.TheVariants as end_of
use Rattle.marcel_core.specs.Homes.{verdict}
use Rattle.marcel_sync.specs.declared.sem.SemRow.{SemRow}
use Rattle.marcel_sync.specs.Semaphores.{node_in}
use Rattle.slot_space.specs.Sets.{run}
use Rattle.slot_space.specs.Replies.{reply_code, tid_value}
use Rattle.slot_space.specs.declared.names.Tid.{Tid}
use Rattle.slot_space.specs.declared.names.Reply.{Reply}
use Rattle.slot_space.specs.declared.names.Reply.TheVariants as replies
use Rattle.iso_blocks.specs.Heap.{rounded, place, emptied}
use Rattle.run_trace.specs.declared.call.Call.{Call}
use Rattle.run_trace.specs.declared.call.Call.TheVariants.{Exit, Name, Node, Nodes, Yield, Create, Join, Detach, SemNew, SemP, SemV, Isomalloc, Isofree, MigrateSelf, Migrate, Print, BubbleNew, BubbleInsert, BubbleWake, BubbleGather, CreateIn, Halt, Unknown}
use Rattle.run_trace.specs.declared.label.Label.{Label}
use Rattle.run_trace.specs.declared.label.Label.TheVariants.{Born, Ran, Asked, Heard, Judged, Told, Took, Gave, Ended, Known, Left, Came, Decided, Down, Burst, Gathered, Shown, Halted}
use Rattle.run_trace.specs.declared.label.Why.{Why}
use Rattle.run_trace.specs.declared.label.Why.TheVariants as why
use Rattle.run_trace.specs.Names.{is_tid, tid_of}
use Rattle.run_trace.specs.Program.{Program, code_of}
use Rattle.run_trace.specs.Guests.{Solo, Guest, newborn, stack_start, with_bytes, takes_slots, gives_slots, heap_of}
use Rattle.run_trace.specs.Calls.{call_of, refusal}
use Rattle.run_trace.specs.Bubbles.{is_listed, not_filling}
use Rattle.run_trace.specs.Console.{asked_bytes}
use Rattle.run_trace.specs.Same.{Start, Lived, unlived, lived_then, written_then}
use Rattle.run_trace.specs.Items.{subject}
use Rattle.run_trace.specs.Alone.{is_about}
use Rattle.run_trace.specs.World.{World}
use Rattle.run_trace.specs.Rules.{IsBorn, IsForBlock, MayHear, MayTake, MayGive, MayLeave, MayCome, MayShow, MayKnow, SoloRule, LifeRule, RepliesRule, GrantsRule, Occasion, quantum_in}
use Rattle.run_trace.specs.Spots.{Ready, Running, Due, Served, Seeks, Departs, Ends, Shows, Asks, Detaches, Signals, Life, Unborn, On, Moving, Noting, Gone, Response, Spot, Spots, update, its_call, stack_bytes, creator_served, priority_by, born_spot, ran_spot, ran_stage, stepped, signal_asked, sent_stage, placing_stage, entering_stage, passed_stage, asked_stage, stage_of_call, Going, going_by_call, wakes_heard, sets_going, set_going, heard_life, heard_at, took_life, decided_going, gave_life, shown_life, end_in, after_label}
use Rattle.run_trace.proofs.Lemmas.{is-true}
use Rattle.trace_laws.specs.Obeys.{AgreesRule}
use Rattle.trace_laws.proofs.Lives.Heaps.{gave_all}
use Rattle.trace_laws.proofs.Lives.OwnLives.{exit_value, ends_as, began, with_slots, free_of, given_to, solo_after, printed_by}
use Rattle.trace_laws.proofs.Lives.Tales.{after_sum, after_nothing, Reached, IsReady, IsWaiting, IsAsking, IsDue, InService, ServesAs, IsServed, StageTale, LifeTale, Tale, with_life}
use Rattle.trace_laws.proofs.Lives.OwnReplies.{own_judged, own_told}
use Rattle.trace_laws.proofs.Lives.Signals.{OfSignals, answered_by, signal_by, signal_asked_by}
use Rattle.trace_laws.proofs.Lives.Goings.{MayGo, Wakes, IsSent, IsSentOn, Joins, GoesRightly, call_goes, heard_goes, known_goes}

-- ## Each of its labels

own_born : (image : List ℕ) (n : ℕ) (start : Start) (a1 sp priority : ℕ) (s : Spot) (lines : List (List ℕ)) (a : Lived)
    → s.life ≡ Unborn → a1 ≡ length start.bytes → sp ≡ stack_start start.stack (length start.bytes) → Tale image s lines a
    → Tale image (born_spot n start.bytes start.entry start.argument a1 sp start.stack priority) lines (record unlived { start = start })
own_born image n start a1 sp priority s lines a e second end k =
    let none : (lines ≡ []) × (a.stretches ≡ []) = subst (λ z. LifeTale image z s.guest.solo s.verdict lines a) e k.life in
    let same : (with_bytes sp start.bytes (newborn start.entry start.argument a1 sp start.stack 0)).solo ≡ began start =
    ap (λ z. (with_bytes sp start.bytes (newborn start.entry start.argument z sp start.stack 0)).solo) second
    ∙ ap (λ z. (with_bytes z start.bytes (newborn start.entry start.argument (length start.bytes) z start.stack 0)).solo) end in
    record {
      calls = tt;
      life = record {
        reached = record { steps = after_nothing image (began start).state ∙ ap (λ (x : Solo). Some x.state) (sym same); rest = same ∙ ap (λ (x : Solo). record (began start) { state = x.state }) (sym same) };
        empty = refl;
        lines_are = none.0;
      };
    }

own_ran : (p : Program) (n count quantum : ℕ) (stop : Stop) (s : Spot) (lines : List (List ℕ)) (a : Lived)
    → s.life ≡ On n Ready
    → after (code_of p) s.guest.solo.state count ≡ Some (stepped (code_of p) count s.guest.solo.state)
    → StopsBy (code_of p) (stepped (code_of p) count s.guest.solo.state) quantum count stop
    → Tale (code_of p) s lines a → Tale (code_of p) (ran_spot p n count stop s) lines (record a { since = a.since + count })
own_ran p n count quantum stop s lines a e steps reason k = record { calls = k.calls; life = by stop reason }
  where
    x : Solo
    x = s.guest.solo

    next : HartState
    next = stepped (code_of p) count x.state

    was : IsReady (code_of p) a x lines
    was = subst (λ z. LifeTale (code_of p) z x s.verdict lines a) e k.life

    far : Reached (code_of p) a.start a.stretches (a.since + count) (record x { state = next })
    far = record {
      steps = after_sum (code_of p) (solo_after (code_of p) a.start a.stretches).state x.state a.since count was.reached.steps ∙ steps;
      rest = ap (λ (z : Solo). record z { state = next }) was.reached.rest;
    }

    by : (stop : Stop) → StopsBy (code_of p) next quantum count stop → StageTale (code_of p) (ran_stage stop next) (record x { state = next }) s.verdict lines (record a { since = a.since + count })
    by stops.Quantum h = record { reached = far; empty = was.empty; lines_are = was.lines_are }
    by stops.Call h = record { at = record { reached = far; call = h.1 }; empty = was.empty; lines_are = was.lines_are }
    by (stops.Fault kind) h = record { was = record x { state = next }; reached = far; how = sym (ap (λ o. ends_as o next) h.1); lines_are = was.lines_are }

-- a refused call gives nothing and writes nothing
refused_same : (p : Program) (t : Tid) (x : Solo) (c : Call) (reply : Reply) → refusal p t x c ≡ Some reply → given_to c [] (reply_code reply) x ≡ x
refused_same p t x c reply h = grind (arith, h)

refused_silent : (p : Program) (t : Tid) (x : Solo) (c : Call) (reply : Reply) → refusal p t x c ≡ Some reply → printed_by (code_of p) c (reply_code reply) x.state ≡ []
refused_silent p t x c reply h = grind (arith, h)

-- a call that gives nothing has the same tale wherever its answer comes from
asking_tale : (image : List ℕ) (h id : ℕ) (x : Solo) (v : Response) (lines : List (List ℕ)) (a : Lived) → IsAsking image a x lines → OfSignals (λ stage. StageTale image stage x v lines a) h id
asking_tale image h id x v lines a k = record {
  due = λ code. record { waits = k.waits; same = k.same code; silent = k.silent code };
  answers = λ reply. k;
  queues = k;
}

-- what it has come to, c, gives and prints what d does
as_called : (image : List ℕ) (x : Solo) (c d : Call) → call_of x.state ≡ c → ((slots : List ℕ) (code : ℕ) → given_to c slots code x ≡ given_to d slots code x)
    → ((code : ℕ) → printed_by image c code x.state ≡ printed_by image d code x.state) → ServesAs image d x
as_called image x c d f gives prints = record {
  gives = λ slots code. ap (λ z. given_to z slots code x) f ∙ gives slots code;
  prints = λ code. ap (λ z. printed_by image z code x.state) f ∙ prints code;
}

own_asked : (p : Program) (n : ℕ) (t : Tid) (w : Spots) (lines : List (List ℕ)) (a : Lived) → (w.threads t).life ≡ On n Running
    → Tale (code_of p) (w.threads t) lines a → Tale (code_of p) (record (w.threads t) { life = On n (stage_of_call p n t w) }) lines a
own_asked p n t w lines a e k = record { calls = k.calls; life = by (refusal p t x (call_of x.state)) refl }
  where
    s : Spot
    s = w.threads t

    x : Solo
    x = s.guest.solo

    was : IsWaiting (code_of p) a x lines
    was = subst (λ z. LifeTale (code_of p) z x s.verdict lines a) e k.life

    due : (c : Call) (code : ℕ) → call_of x.state ≡ c → given_to c [] code x ≡ x → printed_by (code_of p) c code x.state ≡ [] → IsDue (code_of p) code a x lines
    due c code f same silent = record { waits = was; same = ap (λ z. given_to z [] code x) f ∙ same; silent = ap (λ z. printed_by (code_of p) z code x.state) f ∙ silent }

    serves : (c : Call) → call_of x.state ≡ c → InService c a.coming.slots x x → IsServed (code_of p) c a x lines
    serves c f midst = record { was = x; at = was.at; serves = as_called (code_of p) x c c f (λ slots code. refl) (λ code. refl); midst = midst; lines_are = was.lines_are }

    asks : (c : Call) → call_of x.state ≡ c → ((code : ℕ) → given_to c [] code x ≡ x) → ((code : ℕ) → printed_by (code_of p) c code x.state ≡ []) → IsAsking (code_of p) a x lines
    asks c f same silent = record { waits = was; same = λ code. ap (λ z. given_to z [] code x) f ∙ same code; silent = λ code. ap (λ z. printed_by (code_of p) z code x.state) f ∙ silent code }

    signals : (id : ℕ) (up : Bool) → IsAsking (code_of p) a x lines → StageTale (code_of p) (signal_asked n id up (w.sems n)) x s.verdict lines a
    signals id up k = signal_asked_by (λ stage. StageTale (code_of p) stage x s.verdict lines a) n id up (w.sems n) (asking_tale (code_of p) n id x s.verdict lines a k) k

    sends : (name to : ℕ) (listed : Bool) → call_of x.state ≡ Migrate name to → StageTale (code_of p) (sent_stage (eqb name (tid_value t)) to listed) x s.verdict lines a
    sends name to listed f = elim (eqb name (tid_value t)) as (λ b. StageTale (code_of p) (sent_stage b to listed) x s.verdict lines a) [
      | true ↦ record { was = x; at = was.at; serves = as_called (code_of p) x (Migrate name to) (MigrateSelf to) f (λ slots code. refl) (λ code. refl); midst = (was.empty, refl); lines_are = was.lines_are }
      | false ↦ due (Migrate name to) _ f refl refl
    ]

    placing : (len : ℕ) (o : Option ℕ) → call_of x.state ≡ Isomalloc len → StageTale (code_of p) (placing_stage (Isomalloc len) o) x s.verdict lines a
    placing len None f = was
    placing len (Some address) f = serves (Isomalloc len) f (ap (λ z. with_slots z x) (sym was.empty))

    entering : (c : Call) (o : Option Reply) → call_of x.state ≡ c → ((code : ℕ) → given_to c [] code x ≡ x) → ((code : ℕ) → printed_by (code_of p) c code x.state ≡ []) → StageTale (code_of p) (entering_stage o) x s.verdict lines a
    entering c (Some reply) f same silent = due c (reply_code reply) f (same (reply_code reply)) (silent (reply_code reply))
    entering c None f same silent = was

    passed : (c : Call) → call_of x.state ≡ c → StageTale (code_of p) (passed_stage p n t w c) x s.verdict lines a
    passed (Exit value) f = record {
      was = x;
      reached = was.at.reached;
      how = sym (ap (λ o. ends_as o x.state) was.at.call ∙ ap (λ c. end_of.Exit (exit_value c)) f);
      lines_are = was.lines_are;
    }
    passed Name f = due Name _ f refl refl
    passed Node f = due Node _ f refl refl
    passed Nodes f = due Nodes _ f refl refl
    passed Yield f = due Yield _ f refl refl
    passed (Create entry argument priority) f = was
    passed (Join name) f = asks (Join name) f (λ code. refl) (λ code. refl)
    passed (Detach name) f = asks (Detach name) f (λ code. refl) (λ code. refl)
    passed (SemNew value) f = due (SemNew value) _ f refl refl
    passed (SemP id) f = signals id false (asks (SemP id) f (λ code. refl) (λ code. refl))
    passed (SemV id) f = signals id true (asks (SemV id) f (λ code. refl) (λ code. refl))
    passed (Migrate name to) f = sends name to (is_listed (tid_of name) (w.forests n)) f
    passed (Isomalloc len) f = placing len (place (heap_of x) (rounded len)) f
    passed (Isofree address) f = serves (Isofree address) f (was.empty, inl refl)
    passed (MigrateSelf to) f = serves (MigrateSelf to) f (was.empty, refl)
    passed (Print address len) f = (record { at = was.at; empty = was.empty; address = address; len = len; is = f; bytes_are = refl }, was.lines_are)
    passed (BubbleNew priority depth) f = due (BubbleNew priority depth) _ f refl refl
    passed (BubbleInsert bubble member) f = due (BubbleInsert bubble member) _ f refl refl
    passed (BubbleWake bubble) f = due (BubbleWake bubble) _ f refl refl
    passed (BubbleGather bubble) f = due (BubbleGather bubble) _ f refl refl
    passed (CreateIn bubble entry argument priority) f = entering (CreateIn bubble entry argument priority) (not_filling p n bubble (w.forests n)) f (λ code. refl) (λ code. refl)
    passed Halt f = was
    passed (Unknown number) f = due (Unknown number) _ f refl refl

    by : (o : Option Reply) → refusal p t x (call_of x.state) ≡ o → StageTale (code_of p) (asked_stage p n t w (call_of x.state) o) x s.verdict lines a
    by (Some reply) f = due (call_of x.state) (reply_code reply) refl (refused_same p t x (call_of x.state) reply f) (refused_silent p t x (call_of x.state) reply f)
    by None f = passed (call_of x.state) refl

own_heard : (image : List ℕ) (n : ℕ) (births : ℕ → List Birth) (sems : ℕ → List SemRow) (life : Life) (x : Solo) (v : Response) (lines : List (List ℕ)) (a : Lived)
    → MayHear n life → LifeTale image life x v lines a → LifeTale image (heard_at births sems life) x v lines a
own_heard image n births sems (On m (Asks u)) x v lines a h k = by (verdict (slice_get (births u.home) u.seq))
  where
    by : (o : Verdict) → LifeTale image (heard_life m u o) x v lines a
    by (verdicts.Now end) = k
    by verdicts.Later = k
    by verdicts.NoSuch = k
    by verdicts.Taken = k
own_heard image n births sems (On m (Detaches u)) x v lines a h k = k
own_heard image n births sems (On m (Signals id up)) x v lines a h k =
    signal_by (λ stage. StageTale image stage x v lines a) (node_in id) m id up (sems (node_in id)) (asking_tale image (node_in id) id x v lines a k)
own_heard image n births sems life x v lines a h k = grind (arith, h)

-- ## Slots

-- with slots for its block it goes on as one that has a place
own_took : (image : List ℕ) (n first count : ℕ) (life : Life) (g : Guest) (v : Response) (lines : List (List ℕ)) (a : Lived) → MayTake n life → IsForBlock (call_of g.solo.state) count
    → LifeTale image life g.solo v lines a
    → LifeTale image (took_life g.solo.state life) (takes_slots (run first count) g).solo v lines (record a { coming = record a.coming { slots = a.coming.slots ++ run first count } })
own_took image n first count (On m Seeks) g v lines a may is k = record {
  was = g.solo;
  at = k.at;
  serves = record { gives = λ slots code. refl; prints = λ code. refl };
  midst = by (call_of g.solo.state) is;
  lines_are = k.lines_are;
}
  where
    slots : List ℕ
    slots = a.coming.slots ++ run first count

    same : with_slots (run first count) g.solo ≡ with_slots slots g.solo
    same = ap (λ z. with_slots (z ++ run first count) g.solo) (sym k.empty)

    by : (c : Call) → IsForBlock c count → InService c slots g.solo (with_slots (run first count) g.solo)
    by (Isomalloc len) h = same
    by c h = grind (arith, h)
own_took image n first count life g v lines a may is k = grind (arith, may)

own_gave : (image : List ℕ) (n : ℕ) (slots : List ℕ) (life : Life) (g : Guest) (v : Response) (lines : List (List ℕ)) (a : Lived) → MayGive n life g slots → LifeTale image life g.solo v lines a
    → LifeTale image (gave_life life) (gives_slots slots g).solo v lines a
own_gave image n slots (On m (Ends end)) g v lines a may k = k
own_gave image n slots (On m (Served (Isofree address))) g v lines a may k = record { was = k.was; at = k.at; serves = k.serves; midst = (k.midst.0, inr (by k.midst.1)); lines_are = k.lines_are }
  where
    by : ((g.solo ≡ k.was) ⊎ (g.solo ≡ free_of (emptied (heap_of k.was) address) k.was)) → (gives_slots slots g).solo ≡ free_of (emptied (heap_of k.was) address) k.was
    by (inl same) = ap (λ (z : List ℕ). free_of z g.solo) may.1 ∙ ap (λ (z : Solo). free_of (emptied (heap_of z) address) z) same
    by (inr same) =
        let none : emptied (heap_of g.solo) address ≡ [] = ap (λ (z : Solo). emptied (heap_of z) address) same ∙ gave_all (record { priority = 0; solo = k.was }) address in
        absurd (may.2 (may.1 ∙ none))
own_gave image n slots life g v lines a may k = grind (arith, may)

-- ## Lives that change alone

own_known : (image : List ℕ) (life : Life) (x : Solo) (v : Response) (lines : List (List ℕ)) (a : Lived) → MayKnow life → LifeTale image life x v lines a → LifeTale image (Gone (end_in life)) x v lines a
own_known image (Noting m end) x v lines a may k = k
own_known image life x v lines a may k = grind (arith, may)

own_left : (image : List ℕ) (n to : ℕ) (life : Life) (x : Solo) (v : Response) (lines : List (List ℕ)) (a : Lived) → MayLeave n to life → LifeTale image life x v lines a → IsReady image a x lines
own_left image n to (On m Ready) x v lines a may k = k
own_left image n to (On m (Departs other)) x v lines a may k = k
own_left image n to life x v lines a may k = grind (arith, may)

own_came : (image : List ℕ) (n : ℕ) (life : Life) (x : Solo) (v : Response) (lines : List (List ℕ)) (a : Lived) → MayCome n life → LifeTale image life x v lines a → IsReady image a x lines
own_came image n (Moving from to) x v lines a may k = k
own_came image n life x v lines a may k = grind (arith, may)

own_shown : (image : List ℕ) (n : ℕ) (life : Life) (x : Solo) (v : Response) (lines : List (List ℕ)) (a : Lived) → MayShow n life → LifeTale image life x v lines a
    → LifeTale image (shown_life life) x v (lines ++ asked_bytes life ∷ []) a
own_shown image n (On m (Shows bytes)) x v lines a may k = (bytes, k.0, ap (λ z. z ++ bytes ∷ []) k.1)
own_shown image n life x v lines a may k = grind (arith, may)

-- whoever is set going waited for the reply of a call that gives nothing, or was on a run list
going_tale : (image : List ℕ) (life new : Life) (x : Solo) (v : Response) (lines : List (List ℕ)) (a : Lived) → MayGo life new → LifeTale image life x v lines a → LifeTale image new x v lines a
going_tale image life new x v lines a (Wakes h m id e f) k = subst (λ z. LifeTale image z x v lines a) (sym f)
    (answered_by (λ stage. StageTale image stage x v lines a) h m id (replies.Value 0) (asking_tale image h id x v lines a (subst (λ z. LifeTale image z x v lines a) e k)))
going_tale image life new x v lines a (IsSent m to e f) k = subst (λ z. LifeTale image z x v lines a) (sym f) (subst (λ z. LifeTale image z x v lines a) e k)
going_tale image life new x v lines a (IsSentOn m other to e f) k = subst (λ z. LifeTale image z x v lines a) (sym f) (subst (λ z. LifeTale image z x v lines a) e k)
going_tale image life new x v lines a (Joins m u reply second e f) k = subst (λ z. LifeTale image z x v lines a) (sym f) (subst (λ z. LifeTale image z x v lines a) e k)

-- whatever call it has come to, the reply that there are no slots gives nothing and writes nothing
full_same : (c : Call) (x : Solo) → given_to c [] (reply_code replies.Full) x ≡ x
full_same c x = grind arith

full_silent : (image : List ℕ) (c : Call) (s : HartState) → printed_by image c (reply_code replies.Full) s ≡ []
full_silent image c s = grind arith

own_refused : (image : List ℕ) (n : ℕ) (s : Spot) (lines : List (List ℕ)) (a : Lived) → s.life ≡ On n Seeks → Tale image s lines a
    → Tale image (record s { life = On n (Due (reply_code replies.Full)) }) lines a
own_refused image n s lines a e k =
    let x : Solo = s.guest.solo in
    with_life image s (On n (Due (reply_code replies.Full))) lines lines a k (λ y. record {
      waits = subst (λ z. LifeTale image z x s.verdict lines a) e y;
      same = full_same (call_of x.state) x;
      silent = full_silent image (call_of x.state) x.state;
    })

-- ## A label

module _ (p : Program) (t : Tid) where
  abbrev Told_of : Spot → List (List ℕ) → Lived → Type 0
  Told_of s lines a = Tale (code_of p) s lines a

  -- a label of u, as t sees it
  mine : (w : Tid → Spot) (u : Tid) (s : Spot) (lines more : List (List ℕ)) (a b : Lived) → (Told_of (w u) lines a → Told_of s more b) → Told_of (w t) lines a
      → Told_of (cond (is_tid u t) s (w t)) (cond (is_tid u t) more lines) (cond (is_tid u t) b a)
  mine w u s lines more a b f k = elim (is_tid u t) as (λ v. is_tid u t ≡ v → Told_of (cond v s (w t)) (cond v more lines) (cond v b a)) [
    | true ↦ λ e. f (subst (λ z. Told_of (w z) lines a) (sym (is-true u t e)) k)
    | false ↦ λ e. k
  ] refl

  -- one that writes nothing
  quietly : (w : Tid → Spot) (u : Tid) (s : Spot) (lines : List (List ℕ)) (a b : Lived) → (Told_of (w u) lines a → Told_of s lines b) → Told_of (w t) lines a
      → Told_of (cond (is_tid u t) s (w t)) lines (cond (is_tid u t) b a)
  quietly w u s lines a b f k = elim (is_tid u t) as (λ v. is_tid u t ≡ v → Told_of (cond v s (w t)) lines (cond v b a)) [
    | true ↦ λ e. f (subst (λ z. Told_of (w z) lines a) (sym (is-true u t e)) k)
    | false ↦ λ e. k
  ] refl

  -- a change of u that isn't t's doing
  beside : (w : Tid → Spot) (u : Tid) (s : Spot) (lines : List (List ℕ)) (a : Lived) → (Told_of (w u) lines a → Told_of s lines a) → Told_of (w t) lines a → Told_of (cond (is_tid u t) s (w t)) lines a
  beside w u s lines a f k = elim (is_tid u t) as (λ v. is_tid u t ≡ v → Told_of (cond v s (w t)) lines a) [
    | true ↦ λ e. f (subst (λ z. Told_of (w z) lines a) (sym (is-true u t e)) k)
    | false ↦ λ e. k
  ] refl

  -- one whose call gives nothing is due its reply
  served : (n : ℕ) (by : Tid) (code : ℕ) (c : Call) (w : Spots) (lines : List (List ℕ)) (a : Lived) → (w.threads by).life ≡ On n Seeks → its_call by w ≡ c
      → given_to c [] code (w.threads by).guest.solo ≡ (w.threads by).guest.solo → printed_by (code_of p) c code (w.threads by).guest.solo.state ≡ [] → Told_of (w.threads t) lines a
      → Told_of (update w.threads by (record (w.threads by) { life = On n (Due code) }) t) lines a
  served n by code c w lines a e call same silent k =
      let x : Solo = (w.threads by).guest.solo in
      beside w.threads by _ lines a (λ z. record {
        calls = z.calls;
        life = record {
          waits = subst (λ life. LifeTale (code_of p) life x (w.threads by).verdict lines a) e z.life;
          same = ap (λ d. given_to d [] code x) call ∙ same;
          silent = ap (λ d. printed_by (code_of p) d code x.state) call ∙ silent;
        };
      }) k

  -- a creator is due its reply
  creator : (n : ℕ) (u : Tid) (why : Why) (entry a0 : ℕ) (w : Spots) (lines : List (List ℕ)) (a : Lived) → IsBorn p n why entry a0 w → Told_of (w.threads t) lines a → Told_of (creator_served n u why w.threads t) lines a
  creator n u why.Main entry a0 w lines a h k = k
  creator n u (why.Create by) entry a0 w lines a h k = served n by (tid_value u) (Create entry a0 h.1) w lines a h.0 h.2 refl refl k
  creator n u (why.Inside by bubble) entry a0 w lines a h k = served n by (tid_value u) (CreateIn h.1 entry a0 h.2) w lines a h.0 h.3 refl refl k
  creator n u (why.Service by count) entry a0 w lines a h k = k

  -- whoever is set going
  set_tale : (going : Going) (w : Tid → Spot) (lines : List (List ℕ)) (a : Lived) → GoesRightly going w → Told_of (w t) lines a → Told_of (set_going going w t) lines a
  set_tale None w lines a h k = k
  set_tale (Some going) w lines a h k =
      let u : Tid = going.0 in
      beside w u _ lines a (λ z. with_life (code_of p) (w u) going.1 lines lines a z (λ y. going_tale (code_of p) (w u).life going.1 (w u).guest.solo (w u).verdict lines a h y)) k

  -- a label of u that sets another thread going, as t sees it
  setting : (going : Going) (w : Tid → Spot) (u : Tid) (s : Spot) (lines : List (List ℕ)) (a : Lived) → GoesRightly going w → (Told_of (w u) lines a → Told_of s lines a) → Told_of (w t) lines a
      → Told_of (cond (is_tid u t) s (set_going going w t)) lines (cond (is_tid u t) a a)
  setting going w u s lines a h f k = elim (is_tid u t) as (λ v. is_tid u t ≡ v → Told_of (cond v s (set_going going w t)) lines (cond v a a)) [
    | true ↦ λ e. f (subst (λ z. Told_of (w z) lines a) (sym (is-true u t e)) k)
    | false ↦ λ e. set_tale going w lines a h k
  ] refl

  -- the decision about a thread that waits for slots
  decided : (n : ℕ) (u : Tid) (first : Option ℕ) (w : Tid → Spot) (lines : List (List ℕ)) (a : Lived) → (w u).life ≡ On n Seeks → Told_of (w t) lines a → Told_of (set_going (decided_going n u first) w t) lines a
  decided n u None w lines a e k = beside w u _ lines a (λ z. own_refused (code_of p) n (w u) lines a e z) k
  decided n u (Some first) w lines a e k = k

  -- each label keeps it
  pub label_tale : (on : Occasion) (n : ℕ) (l : Label) (w : World) (lines : List (List ℕ)) (a : Lived) → SoloRule p on n l w → LifeRule p on n l w → RepliesRule p on n l w → GrantsRule p on n l w → AgreesRule p on n l w
      → Told_of (w.spots.threads t) lines a
      → Told_of ((after_label p n l w.spots).threads t) (written_then t l w.spots lines) (cond (is_about t (subject l)) (lived_then w.spots.remote l a) a)
  label_tale on n (Born u why entry a0 a1 sp slot) w lines a solo life replies grants agrees k =
      elim (is_tid u t) as (λ v. is_tid u t ≡ v → Told_of (cond v (born_spot n (stack_bytes why w.spots.remote) entry a0 a1 sp slot (priority_by w.spots.threads why)) (creator_served n u why w.spots.threads t)) lines (cond v (lived_then w.spots.remote (Born u why entry a0 a1 sp slot) a) a)) [
        | true ↦ λ e. own_born (code_of p) n (record { entry = entry; argument = a0; stack = slot; bytes = stack_bytes why w.spots.remote }) a1 sp (priority_by w.spots.threads why) (w.spots.threads t) lines a (subst (λ z. (w.spots.threads z).life ≡ Unborn) (is-true u t e) life.0) solo.1 solo.2 k
        | false ↦ λ e. creator n u why entry a0 w.spots lines a solo.0 k
      ] refl
  label_tale on n (Ran u vp count stop) w lines a solo life replies grants agrees k = quietly w.spots.threads u _ lines a _ (λ z. own_ran p n count (quantum_in on.act) stop (w.spots.threads u) lines a life.0 solo.0 solo.1 z) k
  label_tale on n (Asked u call args bytes) w lines a solo life replies grants agrees k = setting (going_by_call p n u w.spots) w.spots.threads u _ lines a (call_goes p w.spots agrees n u) (λ z. own_asked p n u w.spots lines a life z) k
  label_tale on n (Heard u) w lines a solo life replies grants agrees k =
      setting (wakes_heard w.spots.sems (w.spots.threads u).life) w.spots.threads u _ lines a (heard_goes p w.spots agrees (w.spots.threads u).life)
      (λ z. with_life (code_of p) (w.spots.threads u) _ lines lines a z (λ y. own_heard (code_of p) n w.spots.births w.spots.sems (w.spots.threads u).life _ _ lines a life y)) k
  label_tale on n (Judged u reply extra) w lines a solo life replies grants agrees k =
      quietly w.spots.threads u _ lines a _ (λ z. record { calls = z.calls; life = own_judged (code_of p) n (w.spots.threads u).life (w.spots.threads u).guest (w.spots.threads u).verdict lines a reply extra life replies z.life }) k
  label_tale on n (Told u) w lines a solo life replies grants agrees k = quietly w.spots.threads u _ lines a _ (λ z. own_told (code_of p) n (w.spots.threads u) lines a life z) k
  label_tale on n (Took u first count) w lines a solo life replies grants agrees k =
      quietly w.spots.threads u _ lines a _ (λ z. record { calls = z.calls; life = own_took (code_of p) n first count (w.spots.threads u).life (w.spots.threads u).guest (w.spots.threads u).verdict lines a life grants.0 z.life }) k
  label_tale on n (Gave u slots) w lines a solo life replies grants agrees k =
      quietly w.spots.threads u _ lines a a (λ z. record { calls = z.calls; life = own_gave (code_of p) n slots (w.spots.threads u).life (w.spots.threads u).guest (w.spots.threads u).verdict lines a life z.life }) k
  label_tale on n (Ended u end) w lines a solo life replies grants agrees k =
      quietly w.spots.threads u _ lines a a (λ z. with_life (code_of p) (w.spots.threads u) _ lines lines a z (λ y. subst (λ h. LifeTale (code_of p) h (w.spots.threads u).guest.solo (w.spots.threads u).verdict lines a) life y)) k
  label_tale on n (Known u) w lines a solo life replies grants agrees k =
      setting (sets_going p n (Known u) w.spots) w.spots.threads u _ lines a (known_goes p w.spots agrees n u)
      (λ z. with_life (code_of p) (w.spots.threads u) _ lines lines a z (λ y. own_known (code_of p) (w.spots.threads u).life _ _ lines a life.0 y)) k
  label_tale on n (Shown u) w lines a solo life replies grants agrees k =
      mine w.spots.threads u _ lines _ a a (λ z. with_life (code_of p) (w.spots.threads u) _ lines _ a z (λ y. own_shown (code_of p) n (w.spots.threads u).life _ _ lines a life y)) k
  label_tale on n (Halted u) w lines a solo life replies grants agrees k =
      quietly w.spots.threads u _ lines a a (λ z. with_life (code_of p) (w.spots.threads u) _ lines lines a z (λ y. subst (λ h. LifeTale (code_of p) h (w.spots.threads u).guest.solo (w.spots.threads u).verdict lines a) life y)) k
  label_tale on n (Left u to) w lines a solo life replies grants agrees k =
      quietly w.spots.threads u _ lines a a (λ z. with_life (code_of p) (w.spots.threads u) _ lines lines a z (λ y. own_left (code_of p) n to (w.spots.threads u).life _ _ lines a life.0 y)) k
  label_tale on n (Came u) w lines a solo life replies grants agrees k =
      quietly w.spots.threads u _ lines a a (λ z. with_life (code_of p) (w.spots.threads u) _ lines lines a z (λ y. own_came (code_of p) n (w.spots.threads u).life _ _ lines a life y)) k
  label_tale on n (Decided u count first) w lines a solo life replies grants agrees k =
      elim (is_tid u t) as (λ v. Told_of (set_going (decided_going n u first) w.spots.threads t) lines (cond v a a)) [
        | true ↦ decided n u first w.spots.threads lines a life k
        | false ↦ decided n u first w.spots.threads lines a life k
      ]
  label_tale on n (Down bubble list) w lines a solo life replies grants agrees k = k
  label_tale on n (Burst bubble list) w lines a solo life replies grants agrees k = k
  label_tale on n (Gathered bubble count) w lines a solo life replies grants agrees k = k
  label_tale on n l w lines a solo life replies grants agrees k = absurd life
