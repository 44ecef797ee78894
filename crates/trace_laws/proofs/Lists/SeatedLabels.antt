-- Each forest stays the forest of its node: what a label needs for that, and what it is after the label.
use Rattle.std.proofs.Common.{arith, ◌≡◌, ◌<◌, ℕ, List, [], ◌∷◌, Option, Some, None, Bool, true, false, eqb, cond, ◌&&◌, ◌⊎◌, inl, inr, refl, sym, ap, ◌∙◌, subst}
use Rattle.std.specs.Prelude.{is_some, not, slice_get, ⊤, if◌then◌else◌}
use Rattle.std.proofs.lemmas.Bool.{eq-eqb}
use Rattle.slot_space.specs.declared.names.Tid.{Tid}
use Rattle.slot_space.specs.declared.names.Reply.{Reply}
use Rattle.slot_space.specs.declared.names.Reply.TheVariants as replies
use Rattle.slot_space.specs.Replies.{tid_value}
use Rattle.rv_step.specs.declared.hart.Stop.{Stop}
use Rattle.rv_step.specs.declared.hart.Stop.TheVariants as stops
use Rattle.rv_step.specs.Step.{HartState}
use Rattle.marcel_core.specs.declared.birth.Birth.{Birth}
use Rattle.marcel_core.specs.declared.birth.Verdict.{Verdict}
use Rattle.marcel_core.specs.declared.birth.Verdict.TheVariants as verdicts
use Rattle.marcel_core.specs.declared.end.End.{End}
use Rattle.marcel_core.specs.Homes.{verdict, joiner}
use Rattle.marcel_sync.specs.declared.sem.SemRow.{SemRow}
use Rattle.marcel_sync.specs.declared.sem.Vgot.{Vgot}
use Rattle.marcel_sync.specs.declared.sem.Vgot.TheVariants as raising
use Rattle.marcel_sync.specs.Semaphores.{node_in, number_in, waiters_at, raised, raised_answer}
use Rattle.iso_blocks.specs.Heap.{rounded, place}
use Rattle.bubbles.specs.declared.bubble.KnownThread.{KnownThread}
use Rattle.bubbles.specs.declared.bubble.Shift.{Shift}
use Rattle.bubbles.specs.declared.bubble.Shift.TheVariants as shifts
use Rattle.bubbles.specs.declared.bubble.Step.TheVariants.{Takes, Shifts}
use Rattle.bubbles.specs.Rows.{thread_of, picked_from}
use Rattle.bubbles.specs.Forests.{ForestView, wakes, inserts, gathers, enters, goes_on, leaves}
use Rattle.bubbles.specs.Picking.{step, down, burst}
use Rattle.bubbles.specs.Standing.{IsForest, IsLoose, IsHeldBack}
use Rattle.bubbles.specs.Changes.{KeepsThreads, ChangesThread, IsTaken}
use Rattle.bubbles.specs.Covering.{AreCovered}
use Rattle.bubbles.proofs.Lemmas.{covered_new, covered_wakes, covered_inserts, covered_gathers, covered_enters, covered_goes_on, covered_leaves, covered_step, forest_empty, seats_empty, seats_listed, held_back as held_back_in, keeps_new, keeps_wakes, keeps_inserts, keeps_gathers, thread_enters, known_enters, thread_goes_on, listed_goes_on, thread_leaves, known_leaves, loose_away, loose_listed, step_taken, keeps_shift, step_down, step_burst}
use Rattle.run_trace.specs.declared.label.Label.{Label}
use Rattle.run_trace.specs.declared.label.Label.TheVariants.{Born, Ran, Asked, Heard, Judged, Told, Took, Gave, Ended, Known, Left, Came, Decided, Down, Burst, Gathered, Shown, Halted}
use Rattle.run_trace.specs.declared.label.Why.{Why}
use Rattle.run_trace.specs.declared.label.Why.TheVariants as why
use Rattle.run_trace.specs.declared.call.Call.{Call}
use Rattle.run_trace.specs.declared.call.Call.TheVariants.{CreateIn, SemP, SemV, Isomalloc, Isofree, MigrateSelf, Migrate, BubbleNew, BubbleInsert, BubbleWake, BubbleGather}
use Rattle.run_trace.specs.Names.{is_tid, tid_of}
use Rattle.levels.specs.Trees.{processors}
use Rattle.run_trace.specs.Program.{Program, code_of, tree_of}
use Rattle.run_trace.specs.Bubbles.{is_listed, or_else, no_bubble, not_filling, unless_unnamed, bubble_for}
use Rattle.run_trace.specs.Guests.{Guest, heap_of}
use Rattle.run_trace.specs.Keyed.{StandsFor, item_of}
use Rattle.run_trace.specs.Spots.{Ready, Running, Due, Served, Seeks, Told_next, Told_then, Departs, Ends, Leaves, Halts, Stays, Shows, Showing, Shown_there, Asks, Awaits, Answers, Answered, Detaches, Signals, Queues, Life, Unborn, On, Moving, Noting, Gone, Spot, Spots, Going, set_going, update, at_node, at_first, forests_after, after_label, creator_served, born_spot, stack_bytes, priority_by, ran_spot, ran_stage, ran_forest, stepped, stage_of_call, going_by_call, forest_by_call, asked_stage, asked_going, asked_forest, passed_stage, passed_going, passed_forest, its_call, its_refusal, sent_stage, sent_away, placing_stage, entering_stage, signal_wakes, woken, answered_stage, heard_at, heard_life, wakes_heard, joiner_going, end_in, judged_life, judged_guest, judged_stage, took_life, gave_life, shown_life, told_stage, told_guest, decided_going}
use Rattle.run_trace.specs.Stands.{Agrees, AreSeated, Busy, busy, busy_name, busy_part, seats_in_stage, seats_in_life, priority_in_life, known_priority}
use Rattle.run_trace.specs.Items.{is_busy}
use Rattle.run_trace.specs.Rules.{Occasion, IsBorn, MayJudge, MayTell, MayHear, MayTake, MayGive, MayLeave, MayCome, MayShow, MayKnow, JoinerAwaits}
use Rattle.run_trace.specs.World.{World}
use Rattle.run_trace.specs.Obeying.{Allows}
use Rattle.trace_laws.proofs.Lives.Signals.{OfSignals, answered_by, signal_by, signal_asked_by}
use Rattle.trace_laws.proofs.Lists.Queues.{raised_less, first_waits}
use Rattle.trace_laws.proofs.Lists.Seats.{AllSeated, all_seated, seated_by, node_of_life, is_idle, idle_seats, IsElsewhere, elsewhere_on, elsewhere_seats, elsewhere_priority, node_elsewhere, node_priority, there_seats, there_priority, seated_life, same_elsewhere, seated_same, IsIdle, idle_on, same_idle, amid, one_idle, GoesIdle, going_idle, kept_seat, each_node, at_home, at_other, moved, listed_down, listed_burst}

-- what a label needs besides its rules: a processor has chosen what it says; and at a call nobody is about to leave
abbrev pub IsShifted : (n : ℕ) → Label → Spots → Type 0
IsShifted n (Ran t vp count stop) w = (step vp (w.forests n)).what ≡ Takes t
IsShifted n (Down bubble list) w =
    (vp : ℕ) × ((step vp (w.forests n)).what ≡ Shifts (shifts.Down bubble list)) × (vp < processors (w.forests n).lists.tree)
IsShifted n (Burst bubble list) w = (vp : ℕ) × ((step vp (w.forests n)).what ≡ Shifts (shifts.Burst bubble list))
IsShifted n (Asked t call args bytes) w = (u : Tid) (to : ℕ) → (w.threads u).life ≡ On n (Departs to) → ⊥
IsShifted n _ w = ⊤

-- the forest that a moved bubble leaves
abbrev pub shift_forest : Shift → ForestView → ForestView
shift_forest (shifts.Down bubble list) f = (down bubble list f).after
shift_forest (shifts.Burst bubble list) f = (burst bubble list f).after

-- nobody in hand is about to leave
abbrev pub NoneDeparts : ℕ → List Busy → Type 0
NoneDeparts n [] = ⊤
NoneDeparts n (x ∷ xs) = ((to : ℕ) → x.life ≡ On n (Departs to) → ⊥) × NoneDeparts n xs

-- ## What a forest tells

-- a thread on a list is on the node
pub listed_life : (p : Program) (n : ℕ) (t : Tid) (w : Spots) → AreSeated p n w → is_listed t (w.forests n) ≡ true → ((w.threads t).life ≡ On n Ready) ⊎ ((to : ℕ) × ((w.threads t).life ≡ On n (Departs to)))
listed_life p n t w seated e = seated_life n (w.threads t).life (sym (seated.seats t) ∙ seats_listed t (w.forests n) seated.forest e)

pub listed_ready : (p : Program) (n : ℕ) (t : Tid) (w : Spots) → AreSeated p n w → ((u : Tid) (to : ℕ) → (w.threads u).life ≡ On n (Departs to) → ⊥) → is_listed t (w.forests n) ≡ true → (w.threads t).life ≡ On n Ready
listed_ready p n t w seated none e = by (listed_life p n t w seated e)
  where
    by : ((w.threads t).life ≡ On n Ready) ⊎ ((to : ℕ) × ((w.threads t).life ≡ On n (Departs to))) → (w.threads t).life ≡ On n Ready
    by (inl r) = r
    by (inr d) = absurd (none t d.0 d.1)

-- who is chosen is on a list of the node
pub chosen_there : (p : Program) (n vp : ℕ) (t : Tid) (w : Spots) → AreSeated p n w → ((u : Tid) (to : ℕ) → (w.threads u).life ≡ On n (Departs to) → ⊥) → (step vp (w.forests n)).what ≡ Takes t
    → (is_listed t (w.forests n) ≡ true) × ((w.threads t).life ≡ On n Ready)
chosen_there p n vp t w seated none e = let taken = step_taken vp t (w.forests n) seated.forest e in (taken.listed, listed_ready p n t w seated none taken.listed)

-- where no list has an entity, who waits for nothing is held back
pub held_back : (p : Program) (n : ℕ) (t : Tid) (w : Spots) → AreSeated p n w → (w.forests n).lists.rows ≡ [] → (w.threads t).life ≡ On n Ready → IsHeldBack t (w.forests n)
held_back p n t w seated empty ready = held_back_in t (w.forests n) seated.forest empty (seated.seats t ∙ there_seats n (w.threads t).life Ready ready)

pub shift_after : (vp : ℕ) (f : ForestView) (m : Shift) → (step vp f).what ≡ Shifts m → (step vp f).after ≡ shift_forest m f
shift_after vp f (shifts.Down bubble list) e = step_down vp bubble list f e
shift_after vp f (shifts.Burst bubble list) e = step_burst vp bubble list f e

-- before the first label
pub seated_first : (p : Program) (k : ℕ) → AreSeated p k (at_first p)
seated_first p k = record { tree = refl; forest = forest_empty (tree_of p); known = λ t. refl; seats = λ t. seats_empty t (tree_of p); departs = λ t to e. absurd (cc e) }

-- ## The other nodes

pub forest_elsewhere : (p : Program) (n : ℕ) (l : Label) (w : Spots) (k : ℕ) → eqb n k ≡ false → forests_after p n l w k ≡ w.forests k
forest_elsewhere p n (Born t why entry a0 a1 sp slot) w k e = rw e refl
forest_elsewhere p n (Ran t vp count stop) w k e = rw e refl
forest_elsewhere p n (Asked t call args bytes) w k e = rw e refl
forest_elsewhere p n (Told t) w k e = rw e refl
forest_elsewhere p n (Ended t end) w k e = rw e refl
forest_elsewhere p n (Left t to) w k e = rw e refl
forest_elsewhere p n (Came t) w k e = rw e refl
forest_elsewhere p n (Down bubble list) w k e = rw e refl
forest_elsewhere p n (Burst bubble list) w k e = rw e refl
forest_elsewhere p n l w k e = grind arith

-- ## Who is about to leave is in hand

none_in_hand : (n to : ℕ) (u : Tid) (xs : List Busy) → NoneDeparts n xs → item_of is_tid busy_name xs u ≡ Some (busy u (On n (Departs to))) → ⊥
none_in_hand n to u [] d h = cc h
none_in_hand n to u (x ∷ xs) d h = by (is_tid u x.tid) (none_in_hand n to u xs d.1) h
  where
    by : (v : Bool) → (item_of is_tid busy_name xs u ≡ Some (busy u (On n (Departs to))) → ⊥) → cond v (Some x) (item_of is_tid busy_name xs u) ≡ Some (busy u (On n (Departs to))) → ⊥
    by true rest g = let same : x ≡ busy u (On n (Departs to)) = cc g in d.0 to (ap (λ (y : Busy). y.life) same)
    by false rest g = rest g

pub nobody_departs : (n : ℕ) (w : Tid → Spot) (hand : List Busy) → StandsFor is_tid busy_name (busy_part n) hand w → NoneDeparts n hand → (u : Tid) (to : ℕ) → (w u).life ≡ On n (Departs to) → ⊥
nobody_departs n w hand stands none u to e =
    let in_hand : busy_part n u (w u) ≡ Some (busy u (On n (Departs to))) = ap (λ l. cond (is_busy n l) (Some (busy u l)) None) e ∙ (rw (eq-eqb n n refl) refl) in
    none_in_hand n to u hand none (stands.shows u ∙ in_hand)

-- ## What becomes of a life, where the forests stay

judged_node : (life : Life) → node_of_life (judged_life life) ≡ node_of_life life
judged_node (On m (Due code)) = refl
judged_node (On m (Served c)) = refl
judged_node (On m Showing) = refl
judged_node (On m (Answers h reply second)) = refl
judged_node life = grind arith

judged_before : (n : ℕ) (life : Life) → MayJudge n life → is_idle life ≡ true
judged_before n life may = grind (arith, may)

served_idle : (m : ℕ) (c : Call) → is_idle (On m (judged_stage m c)) ≡ true
served_idle m (MigrateSelf to) = elim (eqb to m) as (λ v. is_idle (On m (cond v Told_next (Told_then to))) ≡ true) [ true ↦ refl | false ↦ refl ]
served_idle m c = grind arith

judged_after : (n : ℕ) (life : Life) → MayJudge n life → is_idle (judged_life life) ≡ true
judged_after n (On m (Due code)) may = refl
judged_after n (On m (Served c)) may = served_idle m c
judged_after n (On m Showing) may = refl
judged_after n (On m (Answers h reply second)) may = refl
judged_after n life may = grind (arith, may)

judged_priority : (life : Life) (g : Guest) → (judged_guest life g).priority ≡ g.priority
judged_priority (On m (Served (Isomalloc len))) g = refl
judged_priority (On m (Served (Isofree address))) g = refl
judged_priority life g = grind arith

took_node : (s : HartState) (life : Life) → node_of_life (took_life s life) ≡ node_of_life life
took_node s (On m Seeks) = refl
took_node s life = grind arith

took_before : (n : ℕ) (life : Life) → MayTake n life → is_idle life ≡ true
took_before n life may = grind (arith, may)

took_after : (n : ℕ) (s : HartState) (life : Life) → MayTake n life → is_idle (took_life s life) ≡ true
took_after n s (On m Seeks) may = refl
took_after n s life may = grind (arith, may)

gave_node : (life : Life) → node_of_life (gave_life life) ≡ node_of_life life
gave_node (On m (Ends end)) = refl
gave_node life = grind arith

gave_before : (n : ℕ) (life : Life) (g : Guest) (slots : List ℕ) → MayGive n life g slots → is_idle life ≡ true
gave_before n (On m (Ends end)) g slots may = refl
gave_before n (On m (Served c)) g slots may = refl
gave_before n life g slots may = grind (arith, may)

gave_after : (n : ℕ) (life : Life) (g : Guest) (slots : List ℕ) → MayGive n life g slots → is_idle (gave_life life) ≡ true
gave_after n (On m (Ends end)) g slots may = refl
gave_after n (On m (Served c)) g slots may = refl
gave_after n life g slots may = grind (arith, may)

shown_node : (life : Life) → node_of_life (shown_life life) ≡ node_of_life life
shown_node (On m (Shows bytes)) = refl
shown_node life = grind arith

shown_before : (n : ℕ) (life : Life) → MayShow n life → is_idle life ≡ true
shown_before n (On m (Shows bytes)) may = refl
shown_before n life may = grind (arith, may)

shown_after : (n : ℕ) (life : Life) → MayShow n life → is_idle (shown_life life) ≡ true
shown_after n (On m (Shows bytes)) may = refl
shown_after n life may = grind (arith, may)

-- ## Calls and what is heard

idle_signals : (m h id : ℕ) → OfSignals (λ stage. is_idle (On m stage) ≡ true) h id
idle_signals m h id = record { due = λ code. refl; answers = λ reply. refl; queues = refl }

passed_idle : (p : Program) (n : ℕ) (t : Tid) (w : Spots) (c : Call) → is_idle (On n (passed_stage p n t w c)) ≡ true
passed_idle p n t w (SemP id) = signal_asked_by (λ stage. is_idle (On n stage) ≡ true) n id false (w.sems n) (idle_signals n n id) refl
passed_idle p n t w (SemV id) = signal_asked_by (λ stage. is_idle (On n stage) ≡ true) n id true (w.sems n) (idle_signals n n id) refl
passed_idle p n t w (Isomalloc len) = by (place (heap_of (w.threads t).guest.solo) (rounded len))
  where
    by : (o : Option ℕ) → is_idle (On n (placing_stage (Isomalloc len) o)) ≡ true
    by None = refl
    by (Some address) = refl
passed_idle p n t w (Migrate name to) = by (eqb name (tid_value t))
  where
    by : (v : Bool) → is_idle (On n (sent_stage v to (is_listed (tid_of name) (w.forests n)))) ≡ true
    by true = refl
    by false = refl
passed_idle p n t w (CreateIn bubble entry argument priority) = by (not_filling p n bubble (w.forests n))
  where
    by : (o : Option Reply) → is_idle (On n (entering_stage o)) ≡ true
    by None = refl
    by (Some reply) = refl
passed_idle p n t w c = grind arith

asked_idle : (p : Program) (n : ℕ) (t : Tid) (w : Spots) (c : Call) (o : Option Reply) → is_idle (On n (asked_stage p n t w c o)) ≡ true
asked_idle p n t w c (Some reply) = refl
asked_idle p n t w c None = passed_idle p n t w c

-- who is woken waited
woken_idle : (p : Program) (h k : ℕ) (w : Spots) → Agrees p w → GoesIdle w.threads (woken h (raised_answer k (w.sems h)))
woken_idle p h k w a = by (raised_answer k (w.sems h)) refl
  where
    by : (got : Vgot) → raised_answer k (w.sems h) ≡ got → GoesIdle w.threads (woken h got)
    by (raising.Woke u at) e =
        let waits = first_waits h k u at (waiters_at k (raised k (w.sems h))) (waiters_at k (w.sems h)) w.threads (a.queues h k) (raised_less k (w.sems h) u at e).was in
        idle_on (w.threads u) (record (w.threads u) { life = On at (answered_stage h at (replies.Value 0)) }) at (Queues waits.id) (answered_stage h at (replies.Value 0)) waits.life refl refl refl
        (answered_by (λ stage. is_idle (On at stage) ≡ true) h at 0 (replies.Value 0) (idle_signals at h 0))
    by raising.Stored e = tt
    by raising.AtLimit e = tt
    by raising.NoSuch e = tt

wakes_idle : (p : Program) (h id : ℕ) (up : Bool) (w : Spots) → Agrees p w → GoesIdle w.threads (signal_wakes h id up (w.sems h))
wakes_idle p h id true w a = woken_idle p h (number_in id) w a
wakes_idle p h id false w a = tt

heard_going : (p : Program) (w : Spots) (life : Life) → Agrees p w → GoesIdle w.threads (wakes_heard w.sems life)
heard_going p w (On m (Signals id up)) a = wakes_idle p (node_in id) id up w a
heard_going p w life a = tt

heard_node : (births : ℕ → List Birth) (sems : ℕ → List SemRow) (n : ℕ) (life : Life) → MayHear n life → node_of_life (heard_at births sems life) ≡ node_of_life life
heard_node births sems n (On m (Asks u)) may = by (verdict (slice_get (births u.home) u.seq))
  where
    by : (v : Verdict) → node_of_life (heard_life m u v) ≡ Some m
    by (verdicts.Now end) = refl
    by verdicts.Later = refl
    by verdicts.NoSuch = refl
    by verdicts.Taken = refl
heard_node births sems n (On m (Detaches u)) may = refl
heard_node births sems n (On m (Signals id up)) may = refl
heard_node births sems n life may = grind (arith, may)

heard_before : (n : ℕ) (life : Life) → MayHear n life → is_idle life ≡ true
heard_before n (On m (Asks u)) may = refl
heard_before n (On m (Detaches u)) may = refl
heard_before n (On m (Signals id up)) may = refl
heard_before n life may = grind (arith, may)

heard_after : (births : ℕ → List Birth) (sems : ℕ → List SemRow) (n : ℕ) (life : Life) → MayHear n life → is_idle (heard_at births sems life) ≡ true
heard_after births sems n (On m (Asks u)) may = by (verdict (slice_get (births u.home) u.seq))
  where
    by : (v : Verdict) → is_idle (heard_life m u v) ≡ true
    by (verdicts.Now end) = refl
    by verdicts.Later = refl
    by verdicts.NoSuch = refl
    by verdicts.Taken = refl
heard_after births sems n (On m (Detaches u)) may = refl
heard_after births sems n (On m (Signals id up)) may = signal_by (λ stage. is_idle (On m stage) ≡ true) (node_in id) m id up (sems (node_in id)) (idle_signals m (node_in id) id)
heard_after births sems n life may = grind (arith, may)

joiner_idle : (t : Tid) (end : End) (o : Option (Tid × ℕ)) (w : Spots) → JoinerAwaits t o w → GoesIdle w.threads (joiner_going t end o)
joiner_idle t end None w h = tt
joiner_idle t end (Some by) w h = idle_on (w.threads by.0) _ by.1 (Awaits t) _ h refl refl refl refl

known_node : (life : Life) → MayKnow life → node_of_life life ≡ None
known_node (Noting m end) may = refl
known_node life may = grind (arith, may)

known_before : (life : Life) → MayKnow life → is_idle life ≡ true
known_before (Noting m end) may = refl
known_before life may = grind (arith, may)

decided_idle : (n : ℕ) (t : Tid) (first : Option ℕ) (w : Spots) → (w.threads t).life ≡ On n Seeks → GoesIdle w.threads (decided_going n t first)
decided_idle n t None w h = idle_on (w.threads t) _ n Seeks _ h refl refl refl refl
decided_idle n t (Some first) w h = tt

-- ## Labels that leave the forests

-- each thread has its place as before
left_alone : (p : Program) (k : ℕ) (w v : Spots) → v.forests ≡ w.forests → AreSeated p k w → AllSeated k v.threads (w.forests k) → AreSeated p k v
left_alone p k w v e a all = seated_by p k v (w.forests k) (ap (λ (f : ℕ → ForestView). f k) e) a.tree a.forest all

-- one thread is set going, and another has changed, and both have no place
both_idle : (k : ℕ) (w : Tid → Spot) (going : Going) (t : Tid) (s : Spot) (f : ForestView) → AllSeated k w f → GoesIdle w going → IsIdle (w t) s → AllSeated k (update (set_going going w) t s) f
both_idle k w going t s f all e i = amid k (set_going going w) t s f f (going_idle k w going f all e) (seated_same t f (same_idle k i) (all t)) (λ u n h. h)

-- ## A call

keeps_all : (f : ForestView) → IsForest f → KeepsThreads f f
keeps_all f m = record { forest = m; tree = refl; seats = λ u. refl; threads = refl }

passed_keeps : (p : Program) (n : ℕ) (c : Call) (f : ForestView) → IsForest f → KeepsThreads f (passed_forest p n c f)
passed_keeps p n (BubbleNew priority depth) f m = keeps_new priority depth f m
passed_keeps p n (BubbleInsert b c) f m = by (or_else (no_bubble p n b f) (no_bubble p n c f))
  where
    by : (o : Option Reply) → KeepsThreads f (unless_unnamed o f (inserts (number_in b) (number_in c) f)).after
    by (Some reply) = keeps_all f m
    by None = keeps_inserts (number_in b) (number_in c) f m
passed_keeps p n (BubbleWake b) f m = by (no_bubble p n b f)
  where
    by : (o : Option Reply) → KeepsThreads f (unless_unnamed o f (wakes (number_in b) f)).after
    by (Some reply) = keeps_all f m
    by None = keeps_wakes (number_in b) f m
passed_keeps p n (BubbleGather b) f m = by (no_bubble p n b f)
  where
    by : (o : Option Reply) → KeepsThreads f (unless_unnamed o f (gathers (number_in b) f)).after
    by (Some reply) = keeps_all f m
    by None = keeps_gathers (number_in b) f m
passed_keeps p n c f m = keeps_all f m

asked_keeps : (p : Program) (n : ℕ) (c : Call) (o : Option Reply) (f : ForestView) → IsForest f → KeepsThreads f (asked_forest p n c o f)
asked_keeps p n c (Some reply) f m = keeps_all f m
asked_keeps p n c None f m = passed_keeps p n c f m

-- where nobody is about to leave
all_kept : (k : ℕ) (w : Tid → Spot) (f g : ForestView) → ((u : Tid) (to : ℕ) → (w u).life ≡ On k (Departs to) → ⊥) → KeepsThreads f g → AllSeated k w f → AllSeated k w g
all_kept k w f g none e all u = kept_seat k u (w u) f g e (λ to q. absurd (none u to q)) (all u)

-- another thread is sent away that is on a list
sent_here : (p : Program) (n to : ℕ) (itself : Bool) (u : Tid) (w : Spots) → ((v : Tid) (to : ℕ) → (w.threads v).life ≡ On n (Departs to) → ⊥) → AreSeated p n w
    → AllSeated n (set_going (sent_away n itself u to (is_listed u (w.forests n))) w.threads) (w.forests n)
sent_here p n to true u w none a = all_seated a
sent_here p n to false u w none a = by (is_listed u (w.forests n)) (not (eqb to n)) refl
  where
    s : Spot
    s = record (w.threads u) { life = On n (Departs to) }

    by : (listed away : Bool) → is_listed u (w.forests n) ≡ listed → AllSeated n (set_going (cond (listed && away) (Some (u, On n (Departs to))) None) w.threads) (w.forests n)
    by false away e = all_seated a
    by true false e = all_seated a
    by true true e =
        let ready : (w.threads u).life ≡ On n Ready = listed_ready p n u w a none e in
        amid n w.threads u s (w.forests n) (w.forests n) (all_seated a)
        (record {
          known = a.known u ∙ there_priority n (w.threads u).life Ready (w.threads u).guest ready ∙ sym (there_priority n s.life (Departs to) s.guest refl);
          seats = a.seats u ∙ there_seats n (w.threads u).life Ready ready ∙ sym (there_seats n s.life (Departs to) refl);
          departs = λ other h. e;
        }) (λ v d h. h)

sent_there : (p : Program) (n k to : ℕ) (itself : Bool) (u : Tid) (w : Spots) → eqb n k ≡ false → ((v : Tid) (to : ℕ) → (w.threads v).life ≡ On n (Departs to) → ⊥) → AreSeated p n w → AreSeated p k w
    → AllSeated k (set_going (sent_away n itself u to (is_listed u (w.forests n))) w.threads) (w.forests k)
sent_there p n k to true u w far none a b = all_seated b
sent_there p n k to false u w far none a b = by (is_listed u (w.forests n)) (not (eqb to n)) refl
  where
    s : Spot
    s = record (w.threads u) { life = On n (Departs to) }

    by : (listed away : Bool) → is_listed u (w.forests n) ≡ listed → AllSeated k (set_going (cond (listed && away) (Some (u, On n (Departs to))) None) w.threads) (w.forests k)
    by false away e = all_seated b
    by true false e = all_seated b
    by true true e =
        let ready : (w.threads u).life ≡ On n Ready = listed_ready p n u w a none e in
        amid k w.threads u s (w.forests k) (w.forests k) (all_seated b)
        (seated_same u (w.forests k) (same_elsewhere k (w.threads u) s (elsewhere_on k n (w.threads u).life Ready ready far) far) (all_seated b u)) (λ v d h. h)

-- who raises a semaphore of its node
signals_idle : (p : Program) (n id : ℕ) (w : Spots) → Agrees p w → GoesIdle w.threads (if eqb (node_in id) n then signal_wakes n id true (w.sems n) else None)
signals_idle p n id w a = elim (eqb (node_in id) n) as (λ v. GoesIdle w.threads (cond v (signal_wakes n id true (w.sems n)) None)) [ true ↦ wakes_idle p n id true w a | false ↦ tt ]

passed_here : (p : Program) (n : ℕ) (t : Tid) (w : Spots) (c : Call) → ((u : Tid) (to : ℕ) → (w.threads u).life ≡ On n (Departs to) → ⊥) → Agrees p w → AreSeated p n w
    → AllSeated n (set_going (passed_going n t w c) w.threads) (passed_forest p n c (w.forests n))
passed_here p n t w (SemV id) none g a = going_idle n w.threads (passed_going n t w (SemV id)) (w.forests n) (all_seated a) (signals_idle p n id w g)
passed_here p n t w (Migrate name to) none g a = sent_here p n to (eqb name (tid_value t)) (tid_of name) w none a
passed_here p n t w c none g a = all_kept n w.threads (w.forests n) (passed_forest p n c (w.forests n)) none (passed_keeps p n c (w.forests n) a.forest) (all_seated a)

passed_there : (p : Program) (n k : ℕ) (t : Tid) (w : Spots) (c : Call) → eqb n k ≡ false → ((u : Tid) (to : ℕ) → (w.threads u).life ≡ On n (Departs to) → ⊥) → Agrees p w → AreSeated p n w → AreSeated p k w
    → AllSeated k (set_going (passed_going n t w c) w.threads) (w.forests k)
passed_there p n k t w (SemV id) far none g a b = going_idle k w.threads (passed_going n t w (SemV id)) (w.forests k) (all_seated b) (signals_idle p n id w g)
passed_there p n k t w (Migrate name to) far none g a b = sent_there p n k to (eqb name (tid_value t)) (tid_of name) w far none a b
passed_there p n k t w c far none g a b = all_seated b

asked_here : (p : Program) (n : ℕ) (t : Tid) (w : Spots) (c : Call) (o : Option Reply) → ((u : Tid) (to : ℕ) → (w.threads u).life ≡ On n (Departs to) → ⊥) → Agrees p w → AreSeated p n w
    → AllSeated n (set_going (asked_going n t w c o) w.threads) (asked_forest p n c o (w.forests n))
asked_here p n t w c (Some reply) none g a = all_seated a
asked_here p n t w c None none g a = passed_here p n t w c none g a

asked_there : (p : Program) (n k : ℕ) (t : Tid) (w : Spots) (c : Call) (o : Option Reply) → eqb n k ≡ false → ((u : Tid) (to : ℕ) → (w.threads u).life ≡ On n (Departs to) → ⊥) → Agrees p w → AreSeated p n w → AreSeated p k w
    → AllSeated k (set_going (asked_going n t w c o) w.threads) (w.forests k)
asked_there p n k t w c (Some reply) far none g a b = all_seated b
asked_there p n k t w c None far none g a b = passed_there p n k t w c far none g a b

seated_asked : (p : Program) (n : ℕ) (t : Tid) (call : ℕ) (args : List ℕ) (bytes : List ℕ) (w : Spots) → (w.threads t).life ≡ On n Running → ((u : Tid) (to : ℕ) → (w.threads u).life ≡ On n (Departs to) → ⊥) → Agrees p w → ((k : ℕ) → AreSeated p k w)
    → (k : ℕ) → AreSeated p k (after_label p n (Asked t call args bytes) w)
seated_asked p n t call args bytes w life none g a k = each_node p n v here there k
  where
    v : Spots
    v = after_label p n (Asked t call args bytes) w

    c : Call
    c = its_call t w

    o : Option Reply
    o = its_refusal p t w

    s : Spot
    s = record (w.threads t) { life = On n (stage_of_call p n t w) }

    keeps : KeepsThreads (w.forests n) (forest_by_call p n t w)
    keeps = asked_keeps p n c o (w.forests n) (a n).forest

    idle : IsIdle (w.threads t) s
    idle = idle_on (w.threads t) s n Running (stage_of_call p n t w) life refl refl refl (asked_idle p n t w c o)

    here : AreSeated p n v
    here = seated_by p n v (forest_by_call p n t w) (at_home n w.forests (forest_by_call p n t w)) (keeps.tree ∙ (a n).tree) keeps.forest
        (amid n (set_going (going_by_call p n t w) w.threads) t s (forest_by_call p n t w) (forest_by_call p n t w) (asked_here p n t w c o none g (a n))
        (seated_same t (forest_by_call p n t w) (same_idle n idle) (kept_seat n t (w.threads t) (w.forests n) (forest_by_call p n t w) keeps (λ to q. absurd (none t to q)) (all_seated (a n) t))) (λ u d h. h))

    there : (k : ℕ) → eqb n k ≡ false → AreSeated p k v
    there k far = seated_by p k v (w.forests k) (at_other n k w.forests (forest_by_call p n t w) far) (a k).tree (a k).forest
        (amid k (set_going (going_by_call p n t w) w.threads) t s (w.forests k) (w.forests k) (asked_there p n k t w c o far none g (a n) (a k))
        (seated_same t (w.forests k) (same_idle k idle) (all_seated (a k) t)) (λ u d h. h))

-- ## Who comes to a forest, or goes

unknown : (o : Option KnownThread) → known_priority o ≡ None → o ≡ None
unknown None h = refl
unknown (Some x) h = absurd (cc h)

is_known : (o : Option KnownThread) (priority : ℕ) → known_priority o ≡ Some priority → is_some o ≡ true
is_known None priority h = absurd (cc h)
is_known (Some x) priority h = refl

picked_priority : (list : ℕ) (o : Option KnownThread) → known_priority (picked_from list o) ≡ known_priority o
picked_priority list None = refl
picked_priority list (Some x) = refl

changes_twice : (t : Tid) (a b : ℕ) (f g h : ForestView) → ChangesThread t a f g → ChangesThread t b g h → ChangesThread t b f h
changes_twice t a b f g h x y = record {
  forest = y.forest;
  tree = y.tree ∙ x.tree;
  own = y.own;
  others = λ u d. y.others u d ∙ x.others u d;
  known = λ u d. y.known u d ∙ x.known u d;
  places = λ u d. y.places u d ∙ x.places u d;
  count = y.count ∙ x.count;
}

-- the creator is due the new name
creator_all : (p : Program) (n : ℕ) (t : Tid) (why : Why) (entry a0 : ℕ) (w : Spots) → IsBorn p n why entry a0 w → (k : ℕ) → AreSeated p k w → AllSeated k (creator_served n t why w.threads) (w.forests k)
creator_all p n t (why.Create by) entry a0 w h k a = one_idle k w.threads by (record (w.threads by) { life = On n (Due (tid_value t)) }) (w.forests k) (all_seated a) (idle_on (w.threads by) _ n Seeks (Due (tid_value t)) h.0 refl refl refl refl)
creator_all p n t (why.Inside by bubble) entry a0 w h k a = one_idle k w.threads by (record (w.threads by) { life = On n (Due (tid_value t)) }) (w.forests k) (all_seated a) (idle_on (w.threads by) _ n Seeks (Due (tid_value t)) h.0 refl refl refl refl)
creator_all p n t y entry a0 w h k a = all_seated a

seated_born : (p : Program) (n : ℕ) (t : Tid) (y : Why) (entry a0 a1 sp slot : ℕ) (w : Spots) → (w.threads t).life ≡ Unborn → IsBorn p n y entry a0 w → ((k : ℕ) → AreSeated p k w)
    → (k : ℕ) → AreSeated p k (after_label p n (Born t y entry a0 a1 sp slot) w)
seated_born p n t y entry a0 a1 sp slot w life born a = moved (after_label p n (Born t y entry a0 a1 sp slot) w) refl refl (record {
  before = a;
  others = λ k. creator_all p n t y entry a0 w born k (a k);
  forest = thread_enters t (priority_by w.threads y) (bubble_for y) (w.forests n) (a n).forest ((a n).seats t ∙ ap (seats_in_life n) life) none;
  own = record {
    known = ap known_priority (known_enters t (priority_by w.threads y) (bubble_for y) (w.forests n) none) ∙ sym (there_priority n (On n Ready) Ready s.guest refl);
    seats = (thread_enters t (priority_by w.threads y) (bubble_for y) (w.forests n) (a n).forest ((a n).seats t ∙ ap (seats_in_life n) life) none).own ∙ sym (there_seats n (On n Ready) Ready refl);
    departs = λ to q. absurd (cc q);
  };
  left = λ k far. subst (IsElsewhere k) (sym life) tt;
  come = λ k far. far;
})
  where
    s : Spot
    s = born_spot n (stack_bytes y w.remote) entry a0 a1 sp slot (priority_by w.threads y)

    none : thread_of t (w.forests n).threads ≡ None
    none = unknown (thread_of t (w.forests n).threads) ((a n).known t ∙ ap (λ l. priority_in_life n l (w.threads t).guest) life)

-- who is chosen runs, and arrives again where its quantum is used up
ran_change : (n : ℕ) (t : Tid) (f g : ForestView) (stop : Stop) (next : HartState) → ChangesThread t 0 f g → ChangesThread t (seats_in_stage (ran_stage stop next)) f (ran_forest stop t g)
ran_change n t f g stops.Quantum next x = changes_twice t 0 1 f g (goes_on t g) x (thread_goes_on t g x.forest x.own)
ran_change n t f g stops.Call next x = x
ran_change n t f g (stops.Fault kind) next x = x

ran_threads : (stop : Stop) (t : Tid) (g : ForestView) → (ran_forest stop t g).threads ≡ g.threads
ran_threads stops.Quantum t g = refl
ran_threads stops.Call t g = refl
ran_threads (stops.Fault kind) t g = refl

ran_stays : (n to : ℕ) (stop : Stop) (next : HartState) → On n (ran_stage stop next) ≡ On n (Departs to) → ⊥
ran_stays n to stops.Quantum next h = cc h
ran_stays n to stops.Call next h = cc h
ran_stays n to (stops.Fault kind) next h = cc h

seated_ran : (p : Program) (n : ℕ) (t : Tid) (vp count : ℕ) (stop : Stop) (w : Spots) → (w.threads t).life ≡ On n Ready → (step vp (w.forests n)).what ≡ Takes t → ((k : ℕ) → AreSeated p k w)
    → (k : ℕ) → AreSeated p k (after_label p n (Ran t vp count stop) w)
seated_ran p n t vp count stop w life chosen a = moved (after_label p n (Ran t vp count stop) w) refl refl (record {
  before = a;
  others = λ k. all_seated (a k);
  forest = change;
  own = record {
    known = ap (λ (xs : List KnownThread). known_priority (thread_of t xs)) (ran_threads stop t g) ∙ ap known_priority taken.known ∙ picked_priority taken.list (thread_of t (w.forests n).threads)
        ∙ (a n).known t ∙ there_priority n (w.threads t).life Ready (w.threads t).guest life ∙ sym (there_priority n s.life (ran_stage stop next) s.guest refl);
    seats = change.own ∙ sym (there_seats n s.life (ran_stage stop next) refl);
    departs = λ to q. absurd (ran_stays n to stop next q);
  };
  left = λ k far. elsewhere_on k n (w.threads t).life Ready life far;
  come = λ k far. far;
})
  where
    next : HartState
    next = stepped (code_of p) count (w.threads t).guest.solo.state

    s : Spot
    s = ran_spot p n count stop (w.threads t)

    g : ForestView
    g = (step vp (w.forests n)).after

    taken : IsTaken vp t (w.forests n)
    taken = step_taken vp t (w.forests n) (a n).forest chosen

    change : ChangesThread t (seats_in_stage (ran_stage stop next)) (w.forests n) (ran_forest stop t g)
    change = ran_change n t (w.forests n) g stop next taken.change

told_node : (n : ℕ) (life : Life) → MayTell n life → node_of_life life ≡ Some n
told_node n (On m Told_next) may = ap Some may
told_node n (On m (Told_then to)) may = ap Some may
told_node n (On m Shown_there) may = ap Some may
told_node n (On m (Answered h)) may = ap Some may
told_node n life may = grind (arith, may)

told_before : (n : ℕ) (life : Life) → MayTell n life → is_idle life ≡ true
told_before n (On m Told_next) may = refl
told_before n (On m (Told_then to)) may = refl
told_before n (On m Shown_there) may = refl
told_before n (On m (Answered h)) may = refl
told_before n life may = grind (arith, may)

told_seats : (life : Life) → seats_in_stage (told_stage life) ≡ 1
told_seats (On m (Told_then to)) = refl
told_seats life = grind arith

-- who is told goes on
seated_told : (p : Program) (n : ℕ) (t : Tid) (w : Spots) → MayTell n (w.threads t).life → ((k : ℕ) → AreSeated p k w) → (k : ℕ) → AreSeated p k (after_label p n (Told t) w)
seated_told p n t w may a = moved (after_label p n (Told t) w) refl refl (record {
  before = a;
  others = λ k. all_seated (a k);
  forest = change;
  own = record {
    known = (a n).known t ∙ node_priority n (w.threads t).life (w.threads t).guest node ∙ sym (there_priority n s.life (told_stage (w.threads t).life) s.guest refl);
    seats = change.own ∙ sym (there_seats n s.life (told_stage (w.threads t).life) refl ∙ told_seats (w.threads t).life);
    departs = λ to q. listed_goes_on t (w.forests n);
  };
  left = λ k far. node_elsewhere k n (w.threads t).life node far;
  come = λ k far. far;
})
  where
    s : Spot
    s = record (w.threads t) { life = On n (told_stage (w.threads t).life); guest = told_guest (w.threads t).verdict (w.threads t).guest }

    node : node_of_life (w.threads t).life ≡ Some n
    node = told_node n (w.threads t).life may

    change : ChangesThread t 1 (w.forests n) (goes_on t (w.forests n))
    change = thread_goes_on t (w.forests n) (a n).forest ((a n).seats t ∙ idle_seats n (w.threads t).life (told_before n (w.threads t).life may))

-- who leaves the node is gone there
seated_gone : (p : Program) (n : ℕ) (t : Tid) (s : Spot) (w v : Spots) → v.threads ≡ update w.threads t s → v.forests ≡ at_node w.forests n (leaves t (w.forests n)) → node_of_life (w.threads t).life ≡ Some n
    → IsLoose t (w.forests n) → ((k : ℕ) → IsElsewhere k s.life) → ((k : ℕ) → AreSeated p k w) → (k : ℕ) → AreSeated p k v
seated_gone p n t s w v threads forests node loose away a = moved v threads forests (record {
  before = a;
  others = λ k. all_seated (a k);
  forest = change;
  own = record {
    known = ap known_priority (known_leaves t (w.forests n) (a n).forest) ∙ sym (elsewhere_priority n s.life s.guest (away n));
    seats = change.own ∙ sym (elsewhere_seats n s.life (away n));
    departs = λ to q. let one : seats_in_life n s.life ≡ 1 = there_seats n s.life (Departs to) q in let none = elsewhere_seats n s.life (away n) in absurd (omega (arith, one, none));
  };
  left = λ k far. node_elsewhere k n (w.threads t).life node far;
  come = λ k far. away k;
})
  where
    change : ChangesThread t 0 (w.forests n) (leaves t (w.forests n))
    change = thread_leaves t (w.forests n) (a n).forest loose
        (is_known (thread_of t (w.forests n).threads) (w.threads t).guest.priority ((a n).known t ∙ node_priority n (w.threads t).life (w.threads t).guest node))

left_node : (n to : ℕ) (life : Life) → MayLeave n to life → node_of_life life ≡ Some n
left_node n to (On m Ready) may = ap Some may
left_node n to (On m (Departs other)) may = ap Some may.0
left_node n to life may = grind (arith, may)

came_elsewhere : (n k : ℕ) (life : Life) → MayCome n life → IsElsewhere k life
came_elsewhere n k (Moving from to) may = tt
came_elsewhere n k life may = absurd may

-- who comes
seated_came : (p : Program) (n : ℕ) (t : Tid) (w : Spots) → MayCome n (w.threads t).life → ((k : ℕ) → AreSeated p k w) → (k : ℕ) → AreSeated p k (after_label p n (Came t) w)
seated_came p n t w may a = moved (after_label p n (Came t) w) refl refl (record {
  before = a;
  others = λ k. all_seated (a k);
  forest = change;
  own = record {
    known = ap known_priority (known_enters t (w.threads t).guest.priority None (w.forests n) none) ∙ sym (there_priority n (On n Ready) Ready (w.threads t).guest refl);
    seats = change.own ∙ sym (there_seats n (On n Ready) Ready refl);
    departs = λ to q. absurd (cc q);
  };
  left = λ k far. came_elsewhere n k (w.threads t).life may;
  come = λ k far. far;
})
  where
    away : IsElsewhere n (w.threads t).life
    away = came_elsewhere n n (w.threads t).life may

    none : thread_of t (w.forests n).threads ≡ None
    none = unknown (thread_of t (w.forests n).threads) ((a n).known t ∙ elsewhere_priority n (w.threads t).life (w.threads t).guest away)

    change : ChangesThread t 1 (w.forests n) (enters t (w.threads t).guest.priority None (w.forests n))
    change = thread_enters t (w.threads t).guest.priority None (w.forests n) (a n).forest ((a n).seats t ∙ elsewhere_seats n (w.threads t).life away) none

-- a bubble moves
seated_shift : (p : Program) (n : ℕ) (g : ForestView) (w v : Spots) → v.threads ≡ w.threads → v.forests ≡ at_node w.forests n g → KeepsThreads (w.forests n) g
    → ((u : Tid) → is_listed u (w.forests n) ≡ true → is_listed u g ≡ true) → ((k : ℕ) → AreSeated p k w) → (k : ℕ) → AreSeated p k v
seated_shift p n g w v threads forests keeps listed a = each_node p n v
    (seated_by p n v g (ap (λ (f : ℕ → ForestView). f n) forests ∙ at_home n w.forests g) (keeps.tree ∙ (a n).tree) keeps.forest
    (subst (λ x. AllSeated n x g) (sym threads) (λ u. kept_seat n u (w.threads u) (w.forests n) g keeps (λ to q h. listed u h) (all_seated (a n) u))))
    (λ k far. seated_by p k v (w.forests k) (ap (λ (f : ℕ → ForestView). f k) forests ∙ at_other n k w.forests g far) (a k).tree (a k).forest (subst (λ x. AllSeated k x (w.forests k)) (sym threads) (all_seated (a k))))

-- ## Each label

pub seated_label : (p : Program) (o : Occasion) (n : ℕ) (l : Label) (w : World) → Allows p o n l w → IsShifted n l w.spots → Agrees p w.spots → ((k : ℕ) → AreSeated p k w.spots)
    → (k : ℕ) → AreSeated p k (after_label p n l w.spots)
seated_label p o n (Born t y entry a0 a1 sp slot) w may shifted agrees a = seated_born p n t y entry a0 a1 sp slot w.spots may.life.0 may.solo.0 a
seated_label p o n (Ran t vp count stop) w may shifted agrees a = seated_ran p n t vp count stop w.spots may.life.0 shifted a
seated_label p o n (Asked t call args bytes) w may shifted agrees a = seated_asked p n t call args bytes w.spots may.life shifted agrees a
seated_label p o n (Heard t) w may shifted agrees a = λ k. let x = w.spots in let life = (x.threads t).life in
    left_alone p k x (after_label p n (Heard t) x) refl (a k) (both_idle k x.threads (wakes_heard x.sems life) t (record (x.threads t) { life = heard_at x.births x.sems life }) (x.forests k) (all_seated (a k)) (heard_going p x life agrees)
    (record { node = heard_node x.births x.sems n life may.life; priority = refl; before = heard_before n life may.life; after = heard_after x.births x.sems n life may.life }))
seated_label p o n (Judged t reply extra) w may shifted agrees a = λ k. let x = w.spots in let life = (x.threads t).life in
    left_alone p k x (after_label p n (Judged t reply extra) x) refl (a k) (one_idle k x.threads t _ (x.forests k) (all_seated (a k))
    (record { node = judged_node life; priority = judged_priority life (x.threads t).guest; before = judged_before n life may.life; after = judged_after n life may.life }))
seated_label p o n (Told t) w may shifted agrees a = seated_told p n t w.spots may.life a
seated_label p o n (Took t first count) w may shifted agrees a = λ k. let x = w.spots in let life = (x.threads t).life in
    left_alone p k x (after_label p n (Took t first count) x) refl (a k) (one_idle k x.threads t _ (x.forests k) (all_seated (a k))
    (record { node = took_node (x.threads t).guest.solo.state life; priority = refl; before = took_before n life may.life; after = took_after n (x.threads t).guest.solo.state life may.life }))
seated_label p o n (Gave t slots) w may shifted agrees a = λ k. let x = w.spots in let life = (x.threads t).life in let g = (x.threads t).guest in
    left_alone p k x (after_label p n (Gave t slots) x) refl (a k) (one_idle k x.threads t _ (x.forests k) (all_seated (a k))
    (record { node = gave_node life; priority = refl; before = gave_before n life g slots may.life; after = gave_after n life g slots may.life }))
seated_label p o n (Ended t end) w may shifted agrees a = let x = w.spots in let life = (x.threads t).life in
    seated_gone p n t (record (x.threads t) { life = Noting n end }) x (after_label p n (Ended t end) x) refl refl (ap node_of_life may.life)
    (loose_away t (x.forests n) ((a n).seats t ∙ there_seats n life (Leaves end) may.life)) (λ k. tt) a
seated_label p o n (Known t) w may shifted agrees a = λ k. let x = w.spots in let life = (x.threads t).life in let end = end_in life in
    left_alone p k x (after_label p n (Known t) x) refl (a k) (both_idle k x.threads (joiner_going t end (joiner (slice_get (x.births t.home) t.seq))) t (record (x.threads t) { life = Gone end }) (x.forests k) (all_seated (a k))
    (joiner_idle t end (joiner (slice_get (x.births t.home) t.seq)) x may.life.2)
    (record { node = sym (known_node life may.life.0); priority = refl; before = known_before life may.life.0; after = refl }))
seated_label p o n (Left t to) w may shifted agrees a = let x = w.spots in
    seated_gone p n t (record (x.threads t) { life = Moving n to }) x (after_label p n (Left t to) x) refl refl (left_node n to (x.threads t).life may.life.0)
    (loose_listed t (x.forests n) (a n).forest may.life.1) (λ k. tt) a
seated_label p o n (Came t) w may shifted agrees a = seated_came p n t w.spots may.life a
seated_label p o n (Decided t count first) w may shifted agrees a = λ k. let x = w.spots in
    left_alone p k x (after_label p n (Decided t count first) x) refl (a k) (going_idle k x.threads (decided_going n t first) (x.forests k) (all_seated (a k)) (decided_idle n t first x may.life))
seated_label p o n (Down bubble list) w may shifted agrees a = let x = w.spots in let f = x.forests n in
    seated_shift p n (down bubble list f).after x (after_label p n (Down bubble list) x) refl refl
    (subst (λ g. KeepsThreads f g) (step_down shifted.0 bubble list f shifted.1) (keeps_shift shifted.0 f (shifts.Down bubble list) (a n).forest shifted.1)) (λ u h. listed_down u bubble list f h) a
seated_label p o n (Burst bubble list) w may shifted agrees a = let x = w.spots in let f = x.forests n in
    seated_shift p n (burst bubble list f).after x (after_label p n (Burst bubble list) x) refl refl
    (subst (λ g. KeepsThreads f g) (step_burst shifted.0 bubble list f shifted.1) (keeps_shift shifted.0 f (shifts.Burst bubble list) (a n).forest shifted.1)) (λ u h. listed_burst u bubble list f h) a
seated_label p o n (Gathered bubble count) w may shifted agrees a = λ k. left_alone p k w.spots (after_label p n (Gathered bubble count) w.spots) refl (a k) (all_seated (a k))
seated_label p o n (Shown t) w may shifted agrees a = λ k. let x = w.spots in let life = (x.threads t).life in
    left_alone p k x (after_label p n (Shown t) x) refl (a k) (one_idle k x.threads t _ (x.forests k) (all_seated (a k))
    (record { node = shown_node life; priority = refl; before = shown_before n life may.life; after = shown_after n life may.life }))
seated_label p o n (Halted t) w may shifted agrees a = λ k. let x = w.spots in
    left_alone p k x (after_label p n (Halted t) x) refl (a k) (one_idle k x.threads t _ (x.forests k) (all_seated (a k)) (idle_on (x.threads t) _ n Halts Stays may.life refl refl refl refl))
seated_label p o n l w may shifted agrees a = absurd may.life

-- ## Each entity stays on a list of the tree

passed_covered : (p : Program) (n : ℕ) (c : Call) (f : ForestView) → 0 < processors f.lists.tree → AreCovered f → AreCovered (passed_forest p n c f)
passed_covered p n (BubbleNew priority depth) f some h = covered_new priority depth f h
passed_covered p n (BubbleInsert b c) f some h = by (or_else (no_bubble p n b f) (no_bubble p n c f))
  where
    by : (o : Option Reply) → AreCovered (unless_unnamed o f (inserts (number_in b) (number_in c) f)).after
    by (Some reply) = h
    by None = covered_inserts (number_in b) (number_in c) f h
passed_covered p n (BubbleWake b) f some h = by (no_bubble p n b f)
  where
    by : (o : Option Reply) → AreCovered (unless_unnamed o f (wakes (number_in b) f)).after
    by (Some reply) = h
    by None = covered_wakes (number_in b) f h some
passed_covered p n (BubbleGather b) f some h = by (no_bubble p n b f)
  where
    by : (o : Option Reply) → AreCovered (unless_unnamed o f (gathers (number_in b) f)).after
    by (Some reply) = h
    by None = covered_gathers (number_in b) f h
passed_covered p n c f some h = h

asked_covered : (p : Program) (n : ℕ) (c : Call) (o : Option Reply) (f : ForestView) → 0 < processors f.lists.tree → AreCovered f → AreCovered (asked_forest p n c o f)
asked_covered p n c (Some reply) f some h = h
asked_covered p n c None f some h = passed_covered p n c f some h

ran_covered : (stop : Stop) (t : Tid) (f : ForestView) → 0 < processors f.lists.tree → AreCovered f → AreCovered (ran_forest stop t f)
ran_covered stops.Quantum t f some h = covered_goes_on t f h some
ran_covered stops.Call t f some h = h
ran_covered (stops.Fault kind) t f some h = h

-- where the label changes the forest of its node
one_covered : (n : ℕ) (w : Spots) (g : ForestView) → AreCovered g → ((k : ℕ) → AreCovered (w.forests k)) → (k : ℕ) → AreCovered (at_node w.forests n g k)
one_covered n w g h c k = elim (eqb n k) as (λ v. AreCovered (cond v g (w.forests k))) [ true ↦ h | false ↦ c k ]

some_processor : (p : Program) (n : ℕ) (w : Spots) → AreSeated p n w → 0 < processors (w.forests n).lists.tree
some_processor p n w a = subst (λ tree. 0 < processors tree) (sym a.tree) p.setup.some_processor

pub covered_label : (p : Program) (n : ℕ) (l : Label) (w : Spots) → IsShifted n l w → ((k : ℕ) → AreSeated p k w) → ((k : ℕ) → AreCovered (w.forests k)) → (k : ℕ) → AreCovered (forests_after p n l w k)
covered_label p n (Born t y entry a0 a1 sp slot) w shifted a c =
    one_covered n w _ (covered_enters t (priority_by w.threads y) (bubble_for y) (w.forests n) (c n) (some_processor p n w (a n))) c
covered_label p n (Ran t vp count stop) w shifted a c =
    let taken = step_taken vp t (w.forests n) (a n).forest shifted in
    one_covered n w _ (ran_covered stop t (step vp (w.forests n)).after (subst (λ tree. 0 < processors tree) (sym taken.change.tree) (some_processor p n w (a n)))
    (covered_step vp (w.forests n) (a n).forest (λ b list e. absurd (cc (shifted, e))) (c n))) c
covered_label p n (Asked t call args bytes) w shifted a c =
    one_covered n w _ (asked_covered p n (its_call t w) (its_refusal p t w) (w.forests n) (some_processor p n w (a n)) (c n)) c
covered_label p n (Told t) w shifted a c = one_covered n w _ (covered_goes_on t (w.forests n) (c n) (some_processor p n w (a n))) c
covered_label p n (Ended t end) w shifted a c = one_covered n w _ (covered_leaves t (w.forests n) (c n)) c
covered_label p n (Left t to) w shifted a c = one_covered n w _ (covered_leaves t (w.forests n) (c n)) c
covered_label p n (Came t) w shifted a c =
    one_covered n w _ (covered_enters t (w.threads t).guest.priority None (w.forests n) (c n) (some_processor p n w (a n))) c
covered_label p n (Down bubble list) w shifted a c =
    one_covered n w _ (subst (λ g. AreCovered g) (step_down shifted.0 bubble list (w.forests n) shifted.1) (covered_step shifted.0 (w.forests n) (a n).forest (λ b other e. shifted.2) (c n))) c
covered_label p n (Burst bubble list) w shifted a c =
    one_covered n w _ (subst (λ g. AreCovered g) (step_burst shifted.0 bubble list (w.forests n) shifted.1)
    (covered_step shifted.0 (w.forests n) (a n).forest (λ b other e. absurd (cc (shifted.1, e))) (c n))) c
covered_label p n l w shifted a c = λ k. subst (λ f. AreCovered f) (sym (same k)) (c k)
  where
    same : (k : ℕ) → forests_after p n l w k ≡ w.forests k
    same k = grind arith
