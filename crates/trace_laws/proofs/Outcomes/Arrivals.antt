-- Whatever is said, the rows of each node stand in the order of their arrival; so what a processor chooses is before all others.
use Rattle.std.proofs.Common.{◌≡◌, ℕ, List, [], ◌∷◌, Option, Some, None, true, false, eqb, cond}
use Rattle.std.specs.Prelude.{is_some}
use Rattle.slot_space.specs.declared.names.Tid.{Tid}
use Rattle.slot_space.specs.declared.names.Reply.{Reply}
use Rattle.rv_step.specs.declared.hart.Stop.{Stop}
use Rattle.rv_step.specs.declared.hart.Stop.TheVariants as stops
use Rattle.levels.specs.declared.entity.Entity.{Entity}
use Rattle.levels.specs.declared.entity.Entity.TheVariants as entities
use Rattle.levels.specs.declared.entity.Place.{Place}
use Rattle.levels.specs.Rows.{place_of}
use Rattle.levels.specs.Trees.{next_towards}
use Rattle.levels.specs.Choice.{choice, IsChosen}
use Rattle.levels.proofs.Lemmas.{AreRising, rising_arrived, rising_without, chosen_is}
use Rattle.bubbles.specs.declared.bubble.BubbleRow.{BubbleRow}
use Rattle.bubbles.specs.declared.bubble.Did.TheVariants as did
use Rattle.bubbles.specs.Rows.{bubble_of, members_of, is_filling, is_filling_as, is_burst_as, thread_of}
use Rattle.bubbles.specs.Forests.{ForestView, arrives, all_arrive, off_list, enters, gone, leaves, joined, with_thread, Done, wakes_filled, wakes_if, wakes, inserts, with_kept, all_back, taken_back, filled_with, members_back, apart_from_others, gathers_if, gathers, refused}
use Rattle.bubbles.specs.Picking.{bursts_at, bursting, burst, down, chosen, step, step_by}
use Rattle.bubbles.proofs.Lemmas.{lists_inserts}
use Rattle.run_trace.specs.declared.call.Call.{Call}
use Rattle.run_trace.specs.declared.call.Call.TheVariants.{BubbleNew, BubbleInsert, BubbleWake, BubbleGather}
use Rattle.run_trace.specs.declared.entry.Entry.{Entry}
use Rattle.run_trace.specs.declared.label.Label.{Label}
use Rattle.run_trace.specs.declared.label.Label.TheVariants.{Born, Ran, Asked, Told, Ended, Left, Came, Down, Burst}
use Rattle.run_trace.specs.Program.{Program}
use Rattle.run_trace.specs.Bubbles.{unless_unnamed, or_else, no_bubble, bubble_outcome, bubble_for}
use Rattle.marcel_sync.specs.Semaphores.{number_in}
use Rattle.run_trace.specs.Rules.{spots_of}
use Rattle.run_trace.specs.Spots.{Spots, at_node, priority_by, its_call, its_refusal, asked_forest, ran_forest, after_label, after_labels, at_first}

abbrev IsRising : ForestView → Type 0
IsRising f = AreRising f.lists

-- ## A forest

arrives_rising : (list : ℕ) (e : Entity) (f : ForestView) → IsRising f → IsRising (arrives list e f)
arrives_rising list e f h = rising_arrived e list _ f.lists h

all_rising : (list : ℕ) (es : List Entity) (f : ForestView) → IsRising f → IsRising (all_arrive list es f)
all_rising list [] f h = h
all_rising list (e ∷ es) f h = all_rising list es (arrives list e f) (arrives_rising list e f h)

enters_rising : (t : Tid) (priority : ℕ) (bubble : Option ℕ) (f : ForestView) → IsRising f → IsRising (enters t priority bubble f)
enters_rising t priority None f h = arrives_rising 0 (entities.Thread t) (with_thread t priority f) h
enters_rising t priority (Some b) f h =
    elim (is_filling (bubble_of b f.bubbles)) as (λ v. IsRising (cond v (joined b (entities.Thread t) (with_thread t priority f)) (arrives 0 (entities.Thread t) (with_thread t priority f))))
    [ true ↦ h | false ↦ arrives_rising 0 (entities.Thread t) (with_thread t priority f) h ]

leaves_rising : (t : Tid) (f : ForestView) → IsRising f → IsRising (leaves t f)
leaves_rising t f h = elim (is_some (thread_of t f.threads)) as (λ v. IsRising (cond v (gone t f) f)) [ true ↦ rising_without (entities.Thread t) f.lists h | false ↦ h ]

wakes_rising : (b : ℕ) (f : ForestView) → IsRising f → IsRising (wakes b f).after
wakes_rising b f h = by (bubble_of b f.bubbles)
  where
    filled : (es : List Entity) → IsRising (wakes_filled es b f).after
    filled [] = h
    filled (e ∷ es) = arrives_rising 0 (entities.Bubble b) f h

    by : (o : Option BubbleRow) → IsRising (wakes_if o b f).after
    by None = h
    by (Some x) = elim (is_filling_as x.state) as (λ v. IsRising (cond v (wakes_filled x.members b f) (refused did.Taken f)).after) [ true ↦ filled x.members | false ↦ h ]

back_rising : (es : List Entity) (f : ForestView) → IsRising f → IsRising (all_back es f).after
back_rising [] f h = h
back_rising (e ∷ es) f h = elim (is_some (place_of e f.lists.rows)) as (λ v. IsRising (cond v (with_kept e (all_back es (taken_back e f))) (all_back es f)).after)
    [ true ↦ back_rising es (taken_back e f) (rising_without e f.lists h) | false ↦ back_rising es f h ]

gathers_rising : (b : ℕ) (f : ForestView) → IsRising f → IsRising (gathers b f).after
gathers_rising b f h = by (bubble_of b f.bubbles)
  where
    apart : ForestView
    apart = apart_from_others b f

    by : (o : Option BubbleRow) → IsRising (gathers_if o b f).after
    by None = h
    by (Some x) = elim (is_burst_as x.state) as (λ v. IsRising (cond v (filled_with b (members_back b apart)) (refused did.Taken f)).after)
        [ true ↦ back_rising (members_of (bubble_of b apart.bubbles)) apart h | false ↦ h ]

down_rising : (b list : ℕ) (f : ForestView) → IsRising f → IsRising (down b list f).after
down_rising b list f h = arrives_rising list (entities.Bubble b) (off_list (entities.Bubble b) f) (rising_without (entities.Bubble b) f.lists h)

burst_rising : (b list : ℕ) (f : ForestView) → IsRising f → IsRising (burst b list f).after
burst_rising b list f h = all_rising list (members_of (bubble_of b f.bubbles)) (bursting b f) (rising_without (entities.Bubble b) f.lists h)

step_rising : (vp : ℕ) (f : ForestView) → IsRising f → IsRising (step vp f).after
unfolding step
step_rising vp f h = by (choice f.lists.tree vp f.lists.rows)
  where
    by_entity : (list : ℕ) (e : Entity) → IsRising (chosen vp f list e).after
    by_entity list (entities.Thread t) = rising_without (entities.Thread t) f.lists h
    by_entity list (entities.Bubble b) =
        elim (bursts_at f.lists.tree list (bubble_of b f.bubbles)) as (λ v. IsRising (cond v (burst b list f) (down b (next_towards f.lists.tree list vp) f)).after)
        [ true ↦ burst_rising b list f h | false ↦ down_rising b (next_towards f.lists.tree list vp) f h ]

    by : (o : Option (Place × Entity)) → IsRising (step_by vp f o).after
    by None = h
    by (Some r) = by_entity r.0.list r.1

-- ## A label

unnamed_rising : (o : Option Reply) (f : ForestView) (d : Done) → IsRising f → IsRising d.after → IsRising (unless_unnamed o f d).after
unnamed_rising None f d h k = k
unnamed_rising (Some reply) f d h k = h

called_rising : (p : Program) (n : ℕ) (c : Call) (f : ForestView) → IsRising f → IsRising (bubble_outcome p n c f).after
called_rising p n (BubbleNew priority depth) f h = h
called_rising p n (BubbleInsert b c) f h =
    unnamed_rising (or_else (no_bubble p n b f) (no_bubble p n c f)) f (inserts (number_in b) (number_in c) f) h (rw (lists_inserts (number_in b) (number_in c) f) h)
called_rising p n (BubbleWake b) f h = unnamed_rising (no_bubble p n b f) f (wakes (number_in b) f) h (wakes_rising (number_in b) f h)
called_rising p n (BubbleGather b) f h = unnamed_rising (no_bubble p n b f) f (gathers (number_in b) f) h (gathers_rising (number_in b) f h)
called_rising p n c f h = h

asked_rising : (p : Program) (n : ℕ) (c : Call) (o : Option Reply) (f : ForestView) → IsRising f → IsRising (asked_forest p n c o f)
asked_rising p n c None f h = called_rising p n c f h
asked_rising p n c (Some reply) f h = h

ran_rising : (stop : Stop) (t : Tid) (f : ForestView) → IsRising f → IsRising (ran_forest stop t f)
ran_rising stops.Quantum t f h = arrives_rising _ (entities.Thread t) f h
ran_rising stop t f h = h

abbrev AllRising : Spots → Type 0
AllRising w = (k : ℕ) → IsRising (w.forests k)

at_rising : (w : Spots) (n : ℕ) (f : ForestView) → AllRising w → IsRising f → (k : ℕ) → IsRising (at_node w.forests n f k)
at_rising w n f h own k = elim (eqb n k) as (λ v. IsRising (cond v f (w.forests k))) [ true ↦ own | false ↦ h k ]

label_rising : (p : Program) (n : ℕ) (l : Label) (w : Spots) → AllRising w → AllRising (after_label p n l w)
label_rising p n (Born t why entry a0 a1 sp slot) w h = at_rising w n _ h (enters_rising t (priority_by w.threads why) (bubble_for why) (w.forests n) (h n))
label_rising p n (Ran t vp count stop) w h = at_rising w n _ h (ran_rising stop t (step vp (w.forests n)).after (step_rising vp (w.forests n) (h n)))
label_rising p n (Asked t call args bytes) w h = at_rising w n _ h (asked_rising p n (its_call t w) (its_refusal p t w) (w.forests n) (h n))
label_rising p n (Told t) w h = at_rising w n _ h (arrives_rising _ (entities.Thread t) (w.forests n) (h n))
label_rising p n (Ended t end) w h = at_rising w n _ h (leaves_rising t (w.forests n) (h n))
label_rising p n (Left t to) w h = at_rising w n _ h (leaves_rising t (w.forests n) (h n))
label_rising p n (Came t) w h = at_rising w n _ h (enters_rising t (w.threads t).guest.priority None (w.forests n) (h n))
label_rising p n (Down bubble list) w h = at_rising w n _ h (down_rising bubble list (w.forests n) (h n))
label_rising p n (Burst bubble list) w h = at_rising w n _ h (burst_rising bubble list (w.forests n) (h n))
label_rising p n l w h = h

labels_rising : (p : Program) (n : ℕ) (ls : List Label) (w : Spots) → AllRising w → AllRising (after_labels p n ls w)
labels_rising p n [] w h = h
labels_rising p n (l ∷ ls) w h = labels_rising p n ls (after_label p n l w) (label_rising p n l w h)

trace_rising : (p : Program) (trace : List Entry) → AllRising (spots_of p (at_first p) trace)
trace_rising p [] k = record { ascending = tt; arrived = tt }
trace_rising p (x ∷ xs) k = labels_rising p x.node x.labels (spots_of p (at_first p) xs) (trace_rising p xs) k

-- ## The law

pub best_chosen : (p : Program) (trace : List Entry) (n : ℕ) (ls : List Label) (k vp : ℕ) (r : Place × Entity)
    → let f : ForestView = (after_labels p n ls (spots_of p (at_first p) trace)).forests k in choice f.lists.tree vp f.lists.rows ≡ Some r → IsChosen f.lists.tree vp r f.lists.rows
best_chosen p trace n ls k vp r h =
    let f : ForestView = (after_labels p n ls (spots_of p (at_first p) trace)).forests k in
    chosen_is f.lists.tree vp f.lists.rows r (labels_rising p n ls (spots_of p (at_first p) trace) (trace_rising p trace) k).ascending h
