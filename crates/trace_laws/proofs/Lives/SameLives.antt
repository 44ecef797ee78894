-- Two threads that have lived through the same are the same, and have written the same.
use Rattle.std.proofs.Common.{◌≡◌, ℕ, List, [], ◌∷◌, ◌++◌, Some, None, true, false, eqb, cond, refl, sym, ap, ◌∙◌, subst, arith}
use Rattle.slot_space.specs.declared.names.Tid.{Tid}
use Rattle.marcel_core.specs.declared.end.End.{End}
use Rattle.run_trace.specs.declared.entry.Entry.{Entry}
use Rattle.run_trace.specs.declared.label.Label.{Label}
use Rattle.run_trace.specs.Program.{Program, code_of}
use Rattle.run_trace.specs.Guests.{Solo, Guest}
use Rattle.run_trace.specs.Calls.{call_of}
use Rattle.run_trace.specs.Items.{subject, is_busy}
use Rattle.run_trace.specs.Obeying.{occasion}
use Rattle.std.proofs.lemmas.Bool.{eq-eqb}
use Rattle.std.specs.Prelude.{⊤}
use Rattle.run_trace.specs.Alone.{is_about}
use Rattle.run_trace.specs.World.{World, world_after}
use Rattle.trace_laws.specs.Obeys.{ObeyEach, Obey, AgreesRule, world_at}
use Rattle.run_trace.specs.Cluster.{Net, fresh_net}
use Rattle.run_trace.specs.Holding.{Location, On_node, On_link, IsAt}
use Rattle.run_trace.specs.Legality.{Legal}
use Rattle.run_trace.specs.Rules.{spots_of, SoloRule, LifeRule, RepliesRule, GrantsRule, Occasion, saying}
use Rattle.run_trace.specs.Same.{Start, Stretch, Lived, lived_then, lived_in, lived, written_then, written_in, written, IsUpTo, HasLivedLike, HasWritten, HasEnded}
use Rattle.run_trace.specs.Spots.{Ready, Seeks, Stays, Shows, Showing, Shown_there, Asks, Awaits, Answers, Answered, Detaches, Signals, Queues, Life, Unborn, On, Moving, Noting, Gone, Response, Spot, Spots, at_first, after_labels}
use Rattle.run_trace.specs.Stands.{Stands, busy}
use Rattle.run_trace.specs.Trace.{net_after_trace}
use Rattle.trace_laws.proofs.Outcomes.Consequences.{Found, found, LivesAt, remote_are}
use Rattle.trace_laws.proofs.Lives.OwnLives.{end_at, ran_on, solo_after, named_line, lines_after, EachCalls, SamePast, same_past}
use Rattle.trace_laws.proofs.Lives.Tales.{Comes, lines_before, LifeTale, Tale}
use Rattle.trace_laws.proofs.Lives.OwnReplies.{came_so}
use Rattle.trace_laws.proofs.Lives.OwnLabels.{label_tale}
use Rattle.trace_laws.proofs.Outcomes.Wholes.{starts, run_whole, Whole}

-- ## Over a trace

module _ (p : Program) (t : Tid) where
  labels_tale : (on : Occasion) (n : ℕ) (ls : List Label) (w : World) (lines : List (List ℕ)) (a : Lived) → ObeyEach SoloRule p on n ls w → ObeyEach LifeRule p on n ls w → ObeyEach RepliesRule p on n ls w → ObeyEach GrantsRule p on n ls w → ObeyEach AgreesRule p on n ls w
      → Tale (code_of p) (w.spots.threads t) lines a → Tale (code_of p) ((after_labels p n ls w.spots).threads t) (written_in p n t ls w.spots lines) (lived_in w.spots.remote t ls a)
  labels_tale on n [] w lines a solo life replies grants agrees k = k
  labels_tale on n (l ∷ ls) w lines a solo life replies grants agrees k =
      labels_tale (saying l on) n ls (world_after p n l w) (written_then t l w.spots lines) (cond (is_about t (subject l)) (lived_then w.spots.remote l a) a) solo.1 life.1 replies.1 grants.1 agrees.1
      (label_tale p t on n l w lines a solo.0 life.0 replies.0 grants.0 agrees.0 k)

  trace_tale : (base : Net) (trace : List Entry) → Obey SoloRule p (at_first p) base trace → Obey LifeRule p (at_first p) base trace → Obey RepliesRule p (at_first p) base trace → Obey GrantsRule p (at_first p) base trace → Obey AgreesRule p (at_first p) base trace
      → Tale (code_of p) ((spots_of p (at_first p) trace).threads t) (written p t trace) (lived t trace)
  trace_tale base [] solo life replies grants agrees = record { calls = tt; life = (refl, refl) }
  trace_tale base (x ∷ xs) solo life replies grants agrees =
      subst (λ z. Tale (code_of p) ((spots_of p (at_first p) (x ∷ xs)).threads t) (written p t (x ∷ xs)) (lived_in z t x.labels (lived t xs))) (remote_are p xs)
      (labels_tale (occasion x (world_at (spots_of p (at_first p) xs) (net_after_trace p base xs))) x.node x.labels (world_at (spots_of p (at_first p) xs) (net_after_trace p base xs)) (written p t xs) (lived t xs) solo.1 life.1 replies.1 grants.1 agrees.1 (trace_tale base xs solo.0 life.0 replies.0 grants.0 agrees.0))

  legal_whole : (trace : List Entry) → Legal p trace → Whole p (at_first p) (fresh_net p) trace
  legal_whole trace l = run_whole p (at_first p) (fresh_net p) (starts p) trace l.runs

  legal_tale : (trace : List Entry) → Legal p trace → Tale (code_of p) ((spots_of p (at_first p) trace).threads t) (written p t trace) (lived t trace)
  legal_tale trace l = let all : Whole p (at_first p) (fresh_net p) trace = legal_whole trace l in trace_tale (fresh_net p) trace all.obeys.solo all.obeys.life all.obeys.replies all.obeys.grants all.agrees

  legal_stands : (trace : List Entry) → Legal p trace → Stands p (spots_of p (at_first p) trace) (net_after_trace p (fresh_net p) trace)
  legal_stands trace l = (legal_whole trace l).stands

-- ## At the end of an entry

-- what it comes to by what it has lived through
abbrev comes_to : List ℕ → Lived → Solo
comes_to image a = ran_on image a.since (solo_after image a.start a.stretches)

-- the line that it names
abbrev next_line : List ℕ → Lived → List ℕ
next_line image a = named_line image (call_of (comes_to image a).state) (comes_to image a).state

-- no entry is in its midst
abbrev Idle : Life → Type 0
Idle life = (n : ℕ) → is_busy n life ≡ false

idle_at : (p : Program) (w : Spots) (net : Net) → Stands p w net → (t : Tid) → Idle (w.threads t).life
idle_at p w net s t n =
    elim (is_busy n (w.threads t).life) as (λ v. None ≡ cond v (Some (busy t (w.threads t).life)) None → v ≡ false) [ true ↦ λ e. absurd (cc e) | false ↦ λ e. refl ] ((s.nodes n).busy.shows t)

abbrev IfHere : Life → Type 0 → Type 0
IfHere (On n stage) A = A
IfHere (Moving from to) A = A
IfHere _ A = ⊤

-- its code has come so far, wherever it is, and its lines are those that it has come by
record Rests (image : List ℕ) (life : Life) (x : Solo) (lines : List (List ℕ)) (a : Lived) : Type 0 where
  comes : IfHere life (Comes image a x)
  lines_are : IsUpTo (lines_before image a) (next_line image a) life lines

rests : (image : List ℕ) (life : Life) (x : Solo) (v : Response) (lines : List (List ℕ)) (a : Lived) → Idle life → LifeTale image life x v lines a → Rests image life x lines a
rests image Unborn x v lines a s k = record { comes = tt; lines_are = k.0 ∙ sym (ap (lines_after image a.start) k.1) }
rests image (On m Ready) x v lines a s k = record { comes = k.reached; lines_are = k.lines_are }
rests image (On m Seeks) x v lines a s k = record { comes = k.at.reached; lines_are = k.lines_are }
rests image (On m Stays) x v lines a s k = record { comes = k.at.reached; lines_are = k.lines_are }
rests image (On m (Shows bytes)) x v lines a s k = record { comes = k.0.at.reached; lines_are = k.1 }
rests image (On m Shown_there) x v lines a s k = record {
  comes = k.at.reached;
  lines_are = k.lines_are ∙ ap (λ (z : Solo). lines_before image a ++ named_line image (call_of z.state) z.state ∷ []) (sym (came_so image a x k.at.reached));
}
rests image (On m (Asks u)) x v lines a s k = record { comes = k.waits.at.reached; lines_are = k.waits.lines_are }
rests image (On m (Awaits u)) x v lines a s k = record { comes = k.waits.at.reached; lines_are = k.waits.lines_are }
rests image (On m (Detaches u)) x v lines a s k = record { comes = k.waits.at.reached; lines_are = k.waits.lines_are }
rests image (On m (Signals id up)) x v lines a s k = record { comes = k.waits.at.reached; lines_are = k.waits.lines_are }
rests image (On m (Queues id)) x v lines a s k = record { comes = k.waits.at.reached; lines_are = k.waits.lines_are }
rests image (On m (Answered h)) x v lines a s k = record { comes = k.at.reached; lines_are = k.lines_are }
rests image (Moving from to) x v lines a s k = record { comes = k.reached; lines_are = k.lines_are }
rests image (Noting n end) x v lines a s k = record { comes = tt; lines_are = k.lines_are }
rests image (Gone end) x v lines a s k = record { comes = tt; lines_are = k.lines_are }
rests image (On m Showing) x v lines a s k = absurd (cc (s 0))
rests image (On m (Answers h reply second)) x v lines a s k = absurd (cc (s h, eq-eqb h h refl))
rests image (On m stage) x v lines a s k = let idle : is_busy m (On m stage) ≡ false = s m in let same : eqb m m ≡ true = eq-eqb m m refl in grind (arith, idle, same)

here_comes : (image : List ℕ) (place : Location) (life : Life) (x : Solo) (a : Lived) → LivesAt place life → IfHere life (Comes image a x) → Comes image a x
here_comes image (On_node n) life x a at k = subst (λ z. IfHere z (Comes image a x)) at.1 k
here_comes image (On_link from to) life x a at k = subst (λ z. IfHere z (Comes image a x)) at k

-- one that has ended has ended as what it had come to says
ended_so : (image : List ℕ) (life : Life) (x : Solo) (v : Response) (lines : List (List ℕ)) (a : Lived) (how : End) → LifeTale image life x v lines a → HasEnded life how → how ≡ end_at image (comes_to image a)
ended_so image (Noting n end) x v lines a how k h = sym h ∙ k.how ∙ ap (end_at image) (sym (came_so image a k.was k.reached))
ended_so image (Gone end) x v lines a how k h = sym h ∙ k.how ∙ ap (end_at image) (sym (came_so image a k.was k.reached))
ended_so image life x v lines a how k h = grind (arith, h)

-- ## The law

pub guest_comes : (p : Program) (t : Tid) (trace : List Entry) → Legal p trace → (place : Location) (g : Guest) → IsAt (net_after_trace p (fresh_net p) trace) place t g → g.solo ≡ comes_to (code_of p) (lived t trace)
guest_comes p t trace l place g at =
    let w : Spots = spots_of p (at_first p) trace in
    let net : Net = net_after_trace p (fresh_net p) trace in
    let s : Stands p w net = legal_stands p t trace l in
    let f : Found place (w.threads t) g = found p w net s place t g at in
    let k : Tale (code_of p) (w.threads t) (written p t trace) (lived t trace) = legal_tale p t trace l in
    let rest : Rests (code_of p) (w.threads t).life (w.threads t).guest.solo (written p t trace) (lived t trace) =
    rests (code_of p) (w.threads t).life (w.threads t).guest.solo (w.threads t).verdict (written p t trace) (lived t trace) (idle_at p w net s t) k.life in
    ap (λ (z : Guest). z.solo) (sym f.guest)
    ∙ sym (came_so (code_of p) (lived t trace) (w.threads t).guest.solo (here_comes (code_of p) place (w.threads t).life (w.threads t).guest.solo (lived t trace) f.life rest.comes))

pub lines_come : (p : Program) (t : Tid) (trace : List Entry) → Legal p trace → HasWritten p trace t (lines_before (code_of p) (lived t trace)) (next_line (code_of p) (lived t trace))
lines_come p t trace l =
    let w : Spots = spots_of p (at_first p) trace in
    let net : Net = net_after_trace p (fresh_net p) trace in
    let k : Tale (code_of p) (w.threads t) (written p t trace) (lived t trace) = legal_tale p t trace l in
    (rests (code_of p) (w.threads t).life (w.threads t).guest.solo (w.threads t).verdict (written p t trace) (lived t trace) (idle_at p w net (legal_stands p t trace l) t) k.life).lines_are

end_comes : (p : Program) (t : Tid) (trace : List Entry) → Legal p trace → (how : End) → HasEnded ((spots_of p (at_first p) trace).threads t).life how → how ≡ end_at (code_of p) (comes_to (code_of p) (lived t trace))
end_comes p t trace l how h =
    let s : Spot = (spots_of p (at_first p) trace).threads t in
    ended_so (code_of p) s.life s.guest.solo s.verdict (written p t trace) (lived t trace) how (legal_tale p t trace l).life h

-- what is computed of the past, the instructions and the image is the same of both
alike : {A : Type 0} (f : List ℕ → Lived → A) → (g : List ℕ → Start → List Stretch → ℕ → A) → ((image : List ℕ) (a : Lived) → f image a ≡ g image a.start a.stretches a.since)
    → (one other : List ℕ) (a b : Lived) → one ≡ other → SamePast a b → f one a ≡ f other b
alike f g is one other a b image past =
    is one a ∙ ap (λ z. g z a.start a.stretches a.since) image ∙ ap (λ z. g other z a.stretches a.since) past.start
    ∙ ap (λ z. g other b.start z a.since) past.stretches ∙ ap (λ z. g other b.start b.stretches z) past.since ∙ sym (is other b)

module _ (p q : Program) (xs ys : List Entry) (l : Legal p xs) (m : Legal q ys) (image : code_of p ≡ code_of q) (t u : Tid) (h : HasLivedLike (lived t xs) (lived u ys)) where
  past : SamePast (lived t xs) (lived u ys)
  past = same_past (code_of p) (lived t xs) (lived u ys) h (legal_tale p t xs l).calls (subst (λ z. EachCalls z (lived u ys).start (lived u ys).stretches) (sym image) (legal_tale q u ys m).calls)

  pub same_guest : (a b : Location) (g k : Guest) → IsAt (net_after_trace p (fresh_net p) xs) a t g → IsAt (net_after_trace q (fresh_net q) ys) b u k → g.solo ≡ k.solo
  same_guest a b g k x y =
      guest_comes p t xs l a g x
      ∙ alike comes_to (λ i s z n. ran_on i n (solo_after i s z)) (λ i a. refl) (code_of p) (code_of q) (lived t xs) (lived u ys) image past
      ∙ sym (guest_comes q u ys m b k y)

  pub same_end : (e f : End) → HasEnded ((spots_of p (at_first p) xs).threads t).life e → HasEnded ((spots_of q (at_first q) ys).threads u).life f → e ≡ f
  same_end e f x y =
      end_comes p t xs l e x
      ∙ alike (λ i a. end_at i (comes_to i a)) (λ i s z n. end_at i (ran_on i n (solo_after i s z))) (λ i a. refl) (code_of p) (code_of q) (lived t xs) (lived u ys) image past
      ∙ sym (end_comes q u ys m f y)

  pub same_lines : (before : List (List ℕ)) × (next : List ℕ) × HasWritten p xs t before next × HasWritten q ys u before next
  same_lines = (lines_before (code_of p) (lived t xs), next_line (code_of p) (lived t xs), lines_come p t xs l, subst (λ z. HasWritten q ys u z (next_line (code_of p) (lived t xs))) (sym lines) (subst (λ z. HasWritten q ys u (lines_before (code_of q) (lived u ys)) z) (sym next) (lines_come q u ys m)))
    where
      lines : lines_before (code_of p) (lived t xs) ≡ lines_before (code_of q) (lived u ys)
      lines = alike lines_before (λ i s z n. lines_after i s z) (λ i a. refl) (code_of p) (code_of q) (lived t xs) (lived u ys) image past

      next : next_line (code_of p) (lived t xs) ≡ next_line (code_of q) (lived u ys)
      next = alike next_line (λ i s z n. let x : Solo = ran_on i n (solo_after i s z) in named_line i (call_of x.state) x.state) (λ i a. refl) (code_of p) (code_of q) (lived t xs) (lived u ys) image past
