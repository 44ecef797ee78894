-- A processor's choices in code are those of the machine.
use Rattle.std.proofs.Common.{◌≡◌, ℕ, suc, ◌-◌, ◌<◌, List, Option, Some, None, refl, sym, ap, ◌∙◌, arith}
use Rattle.slot_space.specs.declared.names.Tid.{Tid}
use Rattle.rv_step.specs.declared.hart.Stop.{Stop}
use Rattle.bubbles.specs.declared.bubble.Shift.{Shift}
use Rattle.bubbles.specs.declared.bubble.Step.{Step}
use Rattle.bubbles.specs.declared.bubble.Step.TheVariants.{Takes, Shifts}
use Rattle.bubbles.specs.Picking.{step}
use Rattle.run_trace.specs.declared.label.Label.{Label}
use Rattle.run_trace.specs.declared.label.Label.TheVariants.{Ran}
use Rattle.run_trace.specs.Program.{Program, code_of}
use Rattle.run_trace.specs.Guests.{Thread, Run}
use Rattle.run_trace.specs.Local.{EventSoFar}
use Rattle.run_trace.specs.Steps.{at_found, at_thread, thread_at, choose, say, keep, shift_label, shifted, ran}
use Rattle.run_trace.specs.Machine.{stopped, run_found, chosen_by, chooses}
use Rattle.node_thread.specs.Runs.{run_at, after_run}
use Rattle.node_state.specs.Runs.{ran_at, stop_found, run_chosen}

-- ## A thread that runs

pub ran_is : (t : Tid) (vp : ℕ) (r : Run) (x : Thread) (d kept new : EventSoFar) (count : ℕ) (stop : Stop)
    → kept ≡ keep t (after_run r x) d → count ≡ r.count → stop ≡ r.stop → new ≡ say (Ran t vp count stop) kept
    → new ≡ say (Ran t vp r.count r.stop) (keep t (after_run r x) d)
ran_is t vp r x d kept new count stop k c s e =
    e ∙ ap (λ (n : ℕ). say (Ran t vp n stop) kept) c ∙ ap (λ (z : Stop). say (Ran t vp r.count z) kept) s ∙ ap (say (Ran t vp r.count r.stop)) k

abbrev stop_in : Stop → Option Stop → Stop
stop_in z None = z
stop_in z (Some y) = y

stop_same : {a b : Stop} → Some a ≡ Some b → a ≡ b
stop_same {a} e = ap (stop_in a) e

ran_on : (p : Program) (me vp quantum : ℕ) (t : Tid) (o : Option Thread) (stop : Stop) (d mid new : EventSoFar)
    → Some stop ≡ stop_found (code_of p) quantum o → mid ≡ at_found o (ran_at (code_of p) t vp quantum) d
    → new ≡ at_thread t (stopped p me t stop) mid
    → Some new ≡ run_chosen p me vp quantum t o d
ran_on p me vp quantum t None stop d mid new s m n = absurd (cc s)
ran_on p me vp quantum t (Some x) stop d mid new s m n =
    let r : Run = run_at (code_of p) quantum x in
    ap Some (n ∙ ap (λ (z : Stop). at_thread t (stopped p me t z) mid) (stop_same s)
    ∙ ap (λ (e : EventSoFar). at_thread t (stopped p me t r.stop) e) m)

-- the same with bytes that are the image's
pub ran_with : (p : Program) (code : List ℕ) (me vp quantum : ℕ) (t : Tid) (o : Option Thread) (stop : Stop) (d mid new : EventSoFar)
    → code ≡ code_of p → Some stop ≡ stop_found code quantum o → mid ≡ at_found o (ran_at code t vp quantum) d
    → new ≡ at_thread t (stopped p me t stop) mid
    → Some new ≡ run_chosen p me vp quantum t o d
ran_with p code me vp quantum t o stop d mid new same s m n =
    ran_on p me vp quantum t o stop d mid new (s ∙ ap (λ (k : List ℕ). stop_found k quantum o) same)
    (m ∙ ap (λ (k : List ℕ). at_found o (ran_at k t vp quantum) d) same) n

-- ## One choice

found_there : (p : Program) (me vp quantum : ℕ) (t : Tid) (o : Option Thread) (d : EventSoFar) → run_chosen p me vp quantum t o (choose vp d) ≡ run_found p me vp quantum t o d
unfolding ran
found_there p me vp quantum t None d = refl
found_there p me vp quantum t (Some x) d = refl

-- a thread stands where it did while its processor chooses
stands : (t : Tid) (vp : ℕ) (d : EventSoFar) → thread_at t (choose vp d) ≡ thread_at t d
unfolding choose
stands t vp d = refl

next : (left : ℕ) → 0 < left → suc (left - 1) ≡ left
next left some = omega (arith, some)

-- the thread that is taken runs
pub took : (p : Program) (me vp quantum left : ℕ) (t : Tid) (what : Step) (d mid new : EventSoFar) → 0 < left → what ≡ (step vp d.node.forest).what → what ≡ Takes t
    → mid ≡ choose vp d → Some new ≡ run_chosen p me vp quantum t (thread_at t mid) mid → Some new ≡ chooses p me vp quantum left d
took p me vp quantum left t what d mid new some w is m n =
    n ∙ ap (λ (e : EventSoFar). run_chosen p me vp quantum t (thread_at t e) e) m
    ∙ ap (λ (o : Option Thread). run_chosen p me vp quantum t o (choose vp d)) (stands t vp d)
    ∙ found_there p me vp quantum t (thread_at t d) d
    ∙ ap (λ (s : Step). chosen_by p me vp quantum (chooses p me vp quantum (left - 1)) s d) (sym is ∙ w)
    ∙ ap (λ k. chooses p me vp quantum k d) (next left some)

-- the bubble is moved, and on it goes
pub moved : (p : Program) (me vp quantum left : ℕ) (shift : Shift) (label : Label) (what : Step) (d mid new : EventSoFar) → 0 < left → what ≡ (step vp d.node.forest).what → what ≡ Shifts shift
    → label ≡ shift_label shift → mid ≡ choose vp d → new ≡ say label mid → chooses p me vp quantum (left - 1) new ≡ chooses p me vp quantum left d
unfolding shifted
moved p me vp quantum left shift label what d mid new some w is l m n =
    ap (chooses p me vp quantum (left - 1)) (n ∙ ap (λ (k : Label). say k mid) l ∙ ap (say (shift_label shift)) m)
    ∙ ap (λ (s : Step). chosen_by p me vp quantum (chooses p me vp quantum (left - 1)) s d) (sym is ∙ w)
    ∙ ap (λ k. chooses p me vp quantum k d) (next left some)
