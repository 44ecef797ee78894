-- The labels of a trace that keeps the rules are determined by what was asked: two such traces of the same acts are one.
use Rattle.std.proofs.Common.{◌≡◌, ℕ, List, [], ◌∷◌, map, Option, refl, sym, ap, ◌∙◌, subst}
use Rattle.slot_space.specs.declared.names.Tid.{Tid}
use Rattle.rv_step.specs.declared.hart.Stop.{Stop}
use Rattle.rv_step.specs.Step.{HartState}
use Rattle.bubbles.specs.declared.bubble.Shift.TheVariants as shifts
use Rattle.bubbles.specs.declared.bubble.Step.{Step}
use Rattle.bubbles.specs.declared.bubble.Step.TheVariants.{Empty, Takes, Shifts}
use Rattle.bubbles.specs.Picking.{step}
use Rattle.run_trace.specs.declared.entry.Act.{Act}
use Rattle.run_trace.specs.declared.entry.Act.TheVariants.{Boot, Run as RunThread, Take, Move}
use Rattle.run_trace.specs.declared.entry.Entry.{Entry}
use Rattle.run_trace.specs.declared.label.Label.{Label}
use Rattle.run_trace.specs.declared.label.Label.TheVariants.{Ran, Decided}
use Rattle.run_trace.specs.declared.packet.Packet.{Packet}
use Rattle.run_trace.specs.Program.{Program, code_of}
use Rattle.run_trace.specs.Guests.{Run, run_of}
use Rattle.run_trace.specs.Rules.{Occasion, quantum_in, saying}
use Rattle.run_trace.specs.Spots.{Spots, stepped}
use Rattle.run_trace.specs.World.{World, world_after}
use Rattle.run_trace.specs.Items.{Thread, Turns, Item, Says, Chooses, Does, Serves, Grants, Decides, Ends_turn, Wants_again, Progress, worked_off, said, begins_with}
use Rattle.run_trace.specs.Obeying.{Starts, Allows, IsChoice, IsBy, IsNext, GoesOn, IsEntry, occasion, KeepsRules}
use Rattle.trace_laws.proofs.Lives.RunLemmas.{run_is}
use Rattle.trace_laws.proofs.Rules.Nexts.{busy_speaks, seeker_speaks, one_next}
use Rattle.run_trace.specs.Telling.{world_of}
use Rattle.trace_laws.specs.Headings.{Heading, heading}

-- ## One label

-- a run has one count and one stop
one_run : (p : Program) (q : Occasion) (n vp count more : ℕ) (stop other : Stop) (t : Tid) (w : World) → Allows p q n (Ran t vp count stop) w → Allows p q n (Ran t vp more other) w → Ran t vp count stop ≡ Ran t vp more other
one_run p q n vp count more stop other t w x y =
    let s : HartState = (w.spots.threads t).guest.solo.state in
    let a : run_of (code_of p) (quantum_in q.act) s ≡ record { count = count; stop = stop; state = stepped (code_of p) count s } = run_is (code_of p) (quantum_in q.act) s _ (record { steps = x.solo.0; stop = x.solo.1 }) in
    let b : run_of (code_of p) (quantum_in q.act) s ≡ record { count = more; stop = other; state = stepped (code_of p) more s } = run_is (code_of p) (quantum_in q.act) s _ (record { steps = y.solo.0; stop = y.solo.1 }) in
    ap (λ (r : Run). Ran t vp r.count r.stop) (sym a ∙ b)

-- a decision is about all that its thread's call wants, and finds nothing as yet
one_decision : (p : Program) (q : Occasion) (n count more : ℕ) (first other : Option ℕ) (t : Tid) (w : World) → Allows p q n (Decided t count first) w → Allows p q n (Decided t more other) w → Decided t count first ≡ Decided t more other
one_decision p q n count more first other t w x y =
    let same : count ≡ more = x.grants.0 ∙ sym y.grants.0 in
    let none : first ≡ other = x.grants.2 ∙ sym y.grants.2 in
    ap (λ z. Decided t z first) same ∙ ap (Decided t more) none

-- what is chosen says itself
one_choice : (p : Program) (q : Occasion) (n vp : ℕ) (l m : Label) (w : World) (s : Step) → IsChoice vp s l → IsChoice vp s m → Allows p q n l w → Allows p q n m w → l ≡ m
one_choice p q n vp l m w Empty x y a b = absurd x
one_choice p q n vp l m w (Takes t) x y a b =
    x.2 ∙ one_run p q n vp x.0 y.0 x.1 y.1 t w (subst (λ z. Allows p q n z w) x.2 a) (subst (λ z. Allows p q n z w) y.2 b) ∙ sym y.2
one_choice p q n vp l m w (Shifts (shifts.Down bubble list)) x y a b = x ∙ sym y
one_choice p q n vp l m w (Shifts (shifts.Burst bubble list)) x y a b = x ∙ sym y

one_label : (p : Program) (q : Occasion) (n : ℕ) (l m : Label) (w : World) (i : Item) → IsBy n l w.spots i → IsBy n m w.spots i → Allows p q n l w → Allows p q n m w → l ≡ m
one_label p q n l m w (Says k) x y a b = x ∙ sym y
one_label p q n l m w (Chooses vp) x y a b = one_choice p q n vp l m w (step vp (w.spots.forests n)).what x y a b
one_label p q n l m w (Does (Thread t)) x y a b = one_next p q n w l m t x.0 y.0 (busy_speaks n (w.spots.threads t).life x.1) a b
one_label p q n l m w (Does Turns) x y a b = absurd (cc x.1)
one_label p q n l m w (Serves t) x y a b = one_next p q n w l m t x.0 y.0 (seeker_speaks n (w.spots.threads t).life x.1) a b
one_label p q n l m w (Decides t) x y a b =
    x.2 ∙ one_decision p q n x.0 y.0 x.1 y.1 t w (subst (λ z. Allows p q n z w) x.2 a) (subst (λ z. Allows p q n z w) y.2 b) ∙ sym y.2
one_label p q n l m w Grants x y a b = absurd x
one_label p q n l m w Ends_turn x y a b = absurd x
one_label p q n l m w Wants_again x y a b = absurd x

one_next_label : (p : Program) (q : Occasion) (n : ℕ) (l m : Label) (w : World) (to_do : List Item) → IsNext n l w.spots to_do → IsNext n m w.spots to_do → Allows p q n l w → Allows p q n m w → l ≡ m
one_next_label p q n l m w [] x y a b = absurd x
one_next_label p q n l m w (i ∷ is) x y a b = one_label p q n l m w i x y a b

-- ## All labels

nothing_to_do : (n : ℕ) (l : Label) (w : Spots) (to_do : List Item) → to_do ≡ [] → IsNext n l w to_do → ⊥
nothing_to_do n l w to_do e k = subst (λ z. IsNext n l w z) e k

one_way_on : (p : Program) (q : Occasion) (n : ℕ) (ls ms : List Label) (w : World) (r : Progress) → GoesOn p q n ls w r → GoesOn p q n ms w r → ls ≡ ms
one_way_on p q n [] [] w r x y = refl
one_way_on p q n [] (m ∷ ms) w r x y = absurd (nothing_to_do n m w.spots (worked_off n w.spots r).to_do x y.0)
one_way_on p q n (l ∷ ls) [] w r x y = absurd (nothing_to_do n l w.spots (worked_off n w.spots r).to_do y x.0)
one_way_on p q n (l ∷ ls) (m ∷ ms) w r x y =
    let one : l ≡ m = one_next_label p q n l m w (worked_off n w.spots r).to_do x.0 y.0 x.1 y.1 in
    let rest : ls ≡ ms = one_way_on p (saying l q) n ls ms (world_after p n l w) (said p n l w.spots (worked_off n w.spots r)) x.2
    (subst (λ z. GoesOn p (saying z q) n ms (world_after p n z w) (said p n z w.spots (worked_off n w.spots r))) (sym one) y.2) in
    ap (λ z. z ∷ ls) one ∙ ap (λ zs. m ∷ zs) rest

-- ## The beginning of an entry

one_start : (p : Program) (stamp n : ℕ) (a : Act) (w : World) (h k : Progress) → Starts p stamp n a w h → Starts p stamp n a w k → h ≡ k
one_start p stamp n Boot w h k x y = x ∙ sym y
one_start p stamp n (RunThread vp q) w h k x y = x.1 ∙ sym y.1
one_start p stamp n (Take from) w h k x y =
    let packet : x.0 ≡ y.0 = cc (x.1, y.1) in
    x.3 ∙ ap (λ (z : Packet). begins_with n from z.body (w.talks n)) packet ∙ sym y.3
one_start p stamp n (Move t to) w h k x y = x.1 ∙ sym y.1

-- ## An entry, and a trace

abbrev with_labels : Heading → List Label → Entry
with_labels h ls = record { stamp = h.stamp; node = h.node; round = h.round; act = h.act; labels = ls }

pub one_entry : (p : Program) (w : World) (x y : Entry) → heading x ≡ heading y → IsEntry p w x → IsEntry p w y → x ≡ y
one_entry p w x y e i j =
    let k : IsEntry p w (with_labels (heading x) y.labels) = subst (λ h. IsEntry p w (with_labels h y.labels)) (sym e) j in
    let first : i.first ≡ k.first = one_start p x.stamp x.node x.act w i.first k.first i.starts k.starts in
    let labels : x.labels ≡ y.labels = one_way_on p (occasion x w) x.node x.labels y.labels w i.first i.goes (subst (λ h. GoesOn p (occasion x w) x.node y.labels w h) (sym first) k.goes) in
    ap (λ ls. with_labels (heading x) ls) labels ∙ ap (λ h. with_labels h y.labels) e

-- two traces that were asked the same are the same
pub one_trace : (p : Program) (old : World) (xs ys : List Entry) → map heading xs ≡ map heading ys → KeepsRules p old xs → KeepsRules p old ys → xs ≡ ys
one_trace p old [] [] e x y = refl
one_trace p old [] (b ∷ ys) e x y = absurd (cc e)
one_trace p old (a ∷ xs) [] e x y = absurd (cc e)
one_trace p old (a ∷ xs) (b ∷ ys) e x y =
    let head : heading a ≡ heading b = cc e in
    let tail : map heading xs ≡ map heading ys = cc e in
    let rest : xs ≡ ys = one_trace p old xs ys tail x.0 y.0 in
    let one : a ≡ b = one_entry p (world_of p old xs) a b head x.1 (subst (λ zs. IsEntry p (world_of p old zs) b) (sym rest) y.1) in
    ap (λ z. z ∷ xs) one ∙ ap (λ zs. b ∷ zs) rest
