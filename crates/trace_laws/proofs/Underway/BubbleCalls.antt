-- Calls on bubbles, and the bubbles that a processor moves, on an event in its midst.
use Rattle.std.proofs.Common.{◌≡◌, ℕ, List, [], ◌∷◌, ◌++◌, Option, Some, None, refl, sym, ap, ◌∙◌, subst, ◌<◌}
use Rattle.std.proofs.lemmas.Bool.{eq-eqb}
use Rattle.std.proofs.lemmas.List.{append-nil}
use Rattle.slot_space.specs.declared.names.Tid.{Tid}
use Rattle.bubbles.specs.declared.bubble.Shift.{Shift}
use Rattle.bubbles.specs.declared.bubble.Shift.TheVariants as shifts
use Rattle.bubbles.specs.declared.bubble.Step.TheVariants.{Shifts}
use Rattle.bubbles.specs.Forests.{ForestView}
use Rattle.bubbles.specs.Picking.{step}
use Rattle.run_trace.specs.declared.label.Label.{Label}
use Rattle.run_trace.specs.declared.label.Label.TheVariants.{Down, Burst, Gathered}
use Rattle.run_trace.specs.declared.call.Call.{Call}
use Rattle.run_trace.specs.Names.{is_tid}
use Rattle.levels.specs.Trees.{processors}
use Rattle.run_trace.specs.Program.{Program, processors_of}
use Rattle.run_trace.specs.Bubbles.{bubble_outcome, Gathering, gathering}
use Rattle.run_trace.specs.Cluster.{Net}
use Rattle.run_trace.specs.Local.{Local, EventSoFar}
use Rattle.run_trace.specs.Steps.{say, choose, asks, asks_bubbles, gathered, shifted}
use Rattle.run_trace.specs.Machine.{answer, gathers_found, does_bubbles}
use Rattle.run_trace.specs.Spots.{Running, Due, On, Spots, update, at_node, remote_after, after_label, stage_of_call, going_by_call, sems_by_call, forest_by_call, gathered_by_call}
use Rattle.run_trace.specs.Causes.{causes, asked_causes}
use Rattle.run_trace.specs.Console.{shown_by}
use Rattle.run_trace.specs.Stands.{Busy, Here, busy, busy_name, busy_part}
use Rattle.run_trace.specs.Obeying.{Allows, IsChoice}
use Rattle.run_trace.specs.Items.{Item, Says, Chooses, Does, Thread as Its, as_list, one_going, items_in, items_for, told_gathered}
use Rattle.run_trace.proofs.Lemmas.{is-true, is-refl}
use Rattle.trace_laws.proofs.Lists.KeyedLemmas.{refronted}
use Rattle.trace_laws.proofs.Lists.Parts.{busy_was}
use Rattle.trace_laws.proofs.Lists.SeatedLabels.{shift_forest, shift_after}
use Rattle.trace_laws.proofs.Underway.Midst.{Outset, Links, Midst, MidstDoing, StandsAmid, Beside, amid, doing, having_said, labelled, spots_with, own_forest, other_forest, under}
use Rattle.trace_laws.proofs.Underway.Steps.{in_hand, own_next, life_then}
use Rattle.trace_laws.proofs.Underway.ReplySteps.{answer_ok}
use Rattle.trace_laws.proofs.Underway.CallSteps.{call_at, bytes_at, asked_label, asked_spots, asked_as, same_at, nobody_leaves}
use Rattle.trace_laws.proofs.Underway.SemaphoreSteps.{due_spot, due_amid}

-- ## A forest that changes

-- node n has this forest then
forest_amid : {p : Program} {net : Net} {n : ℕ} {v : Spots} {M : Links} {s : Local} {hand : List Busy} {ahead : List Item} (f : ForestView) → StandsAmid p net n v M s hand ahead
    → StandsAmid p net n (spots_with v.threads v.slots v.births v.sems (at_node v.forests n f) v.halts v.remote) M (record s { forest = f }) hand ahead
forest_amid {net = net} {n} {v} f o = record {
  here = record { threads = o.here.threads; forest = own_forest v.forests n f; busy = o.here.busy; seekers = o.here.seekers; births = o.here.births; sems = o.here.sems; free = o.here.free; halted = o.here.halted };
  there = λ k e. (let h : Here k v (net.nodes k) [] [] = o.there k e in
      record { threads = h.threads; forest = h.forest ∙ sym (other_forest v.forests n f k e); busy = h.busy; seekers = h.seekers; births = h.births; sems = h.sems; free = h.free; halted = h.halted });
  links = o.links;
  turns = o.turns;
  agrees = record {
    seeks = o.agrees.seeks;
    homes = o.agrees.homes;
    named = o.agrees.named;
    awaits = o.agrees.awaits;
    waits = o.agrees.waits;
    sems = o.agrees.sems;
    queues = o.agrees.queues;
    signals = o.agrees.signals;
    stays = o.agrees.stays;
    slots = o.agrees.slots;
    blocks = o.agrees.blocks;
  };
}

-- a call on bubbles: what it answers, the node's forest then, and the bubble that it gathers
pub record IsOnBubbles (p : Program) (n : ℕ) (t : Tid) (v : Spots) (code : ℕ) (after : ForestView) (found : Option Gathering) : Type 0 where
  pub stage : stage_of_call p n t v ≡ Due code
  pub going : going_by_call p n t v ≡ None
  pub sems : sems_by_call p n t v ≡ v.sems n
  pub forest : forest_by_call p n t v ≡ after
  pub gathers : gathered_by_call p n t v ≡ found
  pub bytes : [] ≡ bytes_at p v t

module _ {outset : Outset} {ahead : List Item} {L : Links} where
  open outset use {program as p, net, occasion as q, node as n, opening, world as w}

  -- ## A processor that chooses a bubble

  shift_said : (d : EventSoFar) (vp : ℕ) (move : Shift) (l : Label) → (m : Midst outset (Chooses vp ∷ ahead) L d []) → (step vp (m.now.spots.forests n)).what ≡ Shifts move
      → after_label p n l m.now.spots ≡ spots_with m.now.spots.threads m.now.spots.slots m.now.spots.births m.now.spots.sems (at_node m.now.spots.forests n (shift_forest move (m.now.spots.forests n))) m.now.spots.halts m.now.spots.remote
      → Allows p (having_said d.labels q) n l m.now → causes p n l m.now.spots ≡ [] → shown_by l m.now.spots ≡ []
      → Beside p n m.now.spots l d.node (record d.node { forest = (step vp d.node.forest).after }) (Chooses vp ∷ ahead) (Chooses vp ∷ ahead)
      → Midst outset (Chooses vp ∷ ahead) L (say l (choose vp d)) []
  unfolding say choose
  shift_said d vp move l m chosen same may sent shown aside =
      let v : Spots = m.now.spots in
      let v1 : Spots = spots_with v.threads v.slots v.births v.sems (at_node v.forests n (shift_forest move (v.forests n))) v.halts v.remote in
      (labelled L [] l v1 _ m same may
      (sym (append-nil d.sends) ∙ ap (λ z. d.sends ++ z) (sym sent))
      (sym (append-nil d.prints) ∙ ap (λ z. d.prints ++ z) (sym shown))
      (subst (λ f. StandsAmid p net n v1 (under n L d.sends) (record d.node { forest = f }) [] (Chooses vp ∷ ahead))
      (sym (ap (λ f. (step vp f).after) m.here.forest ∙ shift_after vp (v.forests n) move chosen))
      (forest_amid (shift_forest move (v.forests n)) (amid m)))
      aside).midst

  -- the bubble is moved, and the processor chooses again
  pub shifted_ok : (d : EventSoFar) (vp : ℕ) (move : Shift) → (m : Midst outset (Chooses vp ∷ ahead) L d []) → (step vp (m.now.spots.forests n)).what ≡ Shifts move → vp < processors_of p
      → Midst outset (Chooses vp ∷ ahead) L (shifted vp move d) []
  unfolding shifted
  shifted_ok d vp (shifts.Down b list) m chosen below =
      shift_said d vp (shifts.Down b list) (Down b list) m chosen refl (record { solo = tt; holders = tt; life = tt; replies = tt; grants = tt }) refl refl
      (record { front = λ sends talk. refl; still = refl; next = subst (λ z. IsChoice vp z (Down b list)) (sym chosen) refl; shifted = (vp, chosen, subst (λ tree. vp < processors tree) (sym (m.seated n).tree) below); talk = refl; booted = refl })
  shifted_ok d vp (shifts.Burst b list) m chosen below =
      shift_said d vp (shifts.Burst b list) (Burst b list) m chosen refl (record { solo = tt; holders = tt; life = tt; replies = tt; grants = tt }) refl refl
      (record { front = λ sends talk. refl; still = refl; next = subst (λ z. IsChoice vp z (Burst b list)) (sym chosen) refl; shifted = (vp, chosen); talk = refl; booted = refl })

  -- ## Calls

  -- the call is asked, and done: a bubble that it gathers is to be told, and then its thread is due the reply
  asks_bubbles_ok : (d : EventSoFar) (t : Tid) (code : ℕ) (after : ForestView) (found : Option Gathering) → (m : Midst outset ahead L d (busy t (On n Running) ∷ [])) → IsOnBubbles p n t m.now.spots code after found
      → MidstDoing outset ahead L (asks_bubbles t (call_at m.now.spots t) after d) (busy t (On n (Due code)) ∷ []) (told_gathered found ++ (Does (Its t) ∷ []) ++ ahead)
  unfolding asks_bubbles asks say
  asks_bubbles_ok d t code after found m on =
      let v : Spots = m.now.spots in
      let x : (v.threads t).life ≡ On n Running = in_hand m in
      let l : Label = asked_label v t [] in
      let more : List Busy = busy t (On n (Due code)) ∷ [] in
      let v1 : Spots = spots_with (update v.threads t (due_spot n code (v.threads t))) v.slots v.births v.sems (at_node v.forests n after) v.halts (remote_after l v.remote) in
      let same : after_label p n l v ≡ v1 =
      asked_as p n v t [] None (Due code) v.sems on.going on.stage (same_at v.sems n _ on.sems) ∙ ap (λ k. asked_spots n v t [] None (Due code) v.sems (at_node v.forests n k)) on.forest in
      let its : items_in n t ((after_label p n l v).threads t).life ≡ Does (Its t) ∷ [] =
      ap (items_in n t) (life_then p n v l t (due_spot n code (v.threads t)) v1 same refl) ∙ (rw (eq-eqb n n refl) refl) in
      (labelled L more l v1 _ m same
      (record { solo = (refl, refl, on.bytes); holders = tt; life = x; replies = tt; grants = tt })
      (sym (append-nil d.sends) ∙ ap (λ z. d.sends ++ z) (sym (ap (asked_causes t) on.stage)))
      (sym (append-nil d.prints))
      (forest_amid after (due_amid code more t (amid m) x
      (refronted is_tid is-true is-refl busy_name (busy_part n) v.threads t (due_spot n code (v.threads t)) [] (busy t (On n Running)) (busy t (On n (Due code))) m.here.busy refl refl
      (busy_was n t (due_spot n code (v.threads t)) (On n (Due code)) refl (eq-eqb n n refl)))))
      (record {
        front = λ sends talk. refl;
        still = ap (λ g. told_gathered g ++ (Does (Its t) ∷ []) ++ ahead) (sym on.gathers)
            ∙ ap (λ z. told_gathered (gathered_by_call p n t v) ++ (z ++ []) ++ ahead) (sym its)
            ∙ ap (λ z. told_gathered (gathered_by_call p n t v) ++ items_for n z (after_label p n l v) ++ ahead) (sym (ap (λ k. as_list (one_going k) ++ Its t ∷ []) on.going));
        next = own_next l m refl;
        shifted = nobody_leaves m;
        talk = refl;
        booted = refl;
      })).midst

  -- a bubble that is gathered is told
  gathered_ok : (d : EventSoFar) (g : Gathering) (hand : List Busy) → MidstDoing outset ahead L d hand (Says (Gathered g.bubble g.count) ∷ doing hand ahead) → Midst outset ahead L (gathered g d) hand
  unfolding gathered say
  gathered_ok d g hand m =
      (labelled L hand (Gathered g.bubble g.count) m.now.spots d.node m refl (record { solo = tt; holders = tt; life = tt; replies = tt; grants = tt }) (sym (append-nil d.sends)) (sym (append-nil d.prints)) (amid m)
      (record { front = λ sends talk. refl; still = refl; next = refl; shifted = tt; talk = refl; booted = refl })).midst

  -- a call on bubbles is done and answered at once
  pub does_bubbles_ok : (d : EventSoFar) (t : Tid) → (m : Midst outset ahead L d (busy t (On n Running) ∷ []))
      → IsOnBubbles p n t m.now.spots (bubble_outcome p n (call_at m.now.spots t) (m.now.spots.forests n)).code (bubble_outcome p n (call_at m.now.spots t) (m.now.spots.forests n)).after (gathering p n (call_at m.now.spots t) (m.now.spots.forests n))
      → Midst outset ahead L (does_bubbles p n t (call_at m.now.spots t) d) []
  does_bubbles_ok d t m on =
      subst (λ f. Midst outset ahead L (answer t (bubble_outcome p n c f).code (gathers_found (gathering p n c f) (asks_bubbles t c (bubble_outcome p n c f).after d))) []) (sym m.here.forest)
      (answer_ok (gathers_found (gathering p n c forest) (asks_bubbles t c after d)) t code [] (by (gathering p n c forest) (asks_bubbles_ok d t code after (gathering p n c forest) m on)))
    where
      c : Call
      c = call_at m.now.spots t

      forest : ForestView
      forest = m.now.spots.forests n

      code : ℕ
      code = (bubble_outcome p n c forest).code

      after : ForestView
      after = (bubble_outcome p n c forest).after

      by : (found : Option Gathering) → MidstDoing outset ahead L (asks_bubbles t c after d) (busy t (On n (Due code)) ∷ []) (told_gathered found ++ (Does (Its t) ∷ []) ++ ahead)
          → Midst outset ahead L (gathers_found found (asks_bubbles t c after d)) (busy t (On n (Due code)) ∷ [])
      by None k = k
      by (Some g) k = gathered_ok (asks_bubbles t c after d) g (busy t (On n (Due code)) ∷ []) k
