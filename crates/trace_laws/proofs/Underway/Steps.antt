-- What the small steps of an event are made of: a label of one thread, by which it stays on its node, comes to wait for what a packet
-- brings, or does anything else; and what it means that the event is busy with a thread.
use Rattle.std.proofs.Common.{Bool, ◌≡◌, ℕ, List, [], ◌∷◌, ◌++◌, Some, true, false, eqb, refl, sym, ap, ◌∙◌, subst}
use Rattle.std.specs.Map.{lookup}
use Rattle.std.proofs.lemmas.List.{append-nil}
use Rattle.slot_space.specs.Sets.{has}
use Rattle.slot_space.specs.declared.names.Tid.{Tid}
use Rattle.run_trace.specs.declared.label.Label.{Label}
use Rattle.run_trace.specs.declared.packet.Body.{Body}
use Rattle.run_trace.specs.declared.packet.Send.{Send}
use Rattle.run_trace.specs.declared.node.Wait.TheVariants as wait
use Rattle.run_trace.specs.Names.{is_tid}
use Rattle.run_trace.specs.Program.{Program}
use Rattle.run_trace.specs.Guests.{Thread, waits}
use Rattle.run_trace.specs.Local.{Local, EventSoFar}
use Rattle.run_trace.specs.Steps.{at_found, at_thread}
use Rattle.run_trace.specs.Keyed.{StandsFor, MapStandsFor}
use Rattle.run_trace.specs.Spots.{Stage, Life, On, Spot, Spots, update, forests_after, remote_after, after_label}
use Rattle.run_trace.specs.Console.{shown_by}
use Rattle.run_trace.specs.Cluster.{Net}
use Rattle.run_trace.specs.Stands.{Here, itself, seeker_part, serving, Busy, busy, busy_name, busy_part, thread_part, thread_in_stage, word_subject, word_of, way, ways_of, phase_of, held, held_in_stage}
use Rattle.run_trace.proofs.Lemmas.{is-true, is-refl}
use Rattle.trace_laws.proofs.Lists.SeatedLabels.{IsShifted, forest_elsewhere}
use Rattle.run_trace.specs.Causes.{causes}
use Rattle.run_trace.specs.Talks.{one_send}
use Rattle.run_trace.specs.World.{World}
use Rattle.run_trace.specs.Obeying.{Allows, IsBy, IsNext}
use Rattle.trace_laws.proofs.Underway.Midst.{Speaks, StandsAmid, IsAsBefore, in_turn_kept, turn_words, no_seeker, put_turns, Outset, GoesOnOnly, doing, having_said, Own, beside, Links, Midst, under, LinkStands, Frame, spots_with, labelled, here_kept, agrees_kept, Quiet, Plain, fits, links_kept, Keeps, put_link, Then, updated}
use Rattle.trace_laws.proofs.Lists.KeyedLemmas.{kept}
use Rattle.trace_laws.proofs.Lists.Parts.{thread_was, at_hand, frame_home}
use Rattle.trace_laws.proofs.Lists.Stages.{is_home, home_way, home_quiet, home_plain}
use Rattle.run_trace.specs.Items.{Thread as Its, is_busy, is_seeking, doer, goes_on_with, Item, Says, Chooses, Does, Serves, Grants, Decides, Ends_turn, Wants_again}

-- the life that a label has given its thread
pub life_then : (p : Program) (n : ℕ) (v : Spots) (l : Label) (t : Tid) (r : Spot) (u : Spots) → after_label p n l v ≡ u → u.threads ≡ update v.threads t r → ((after_label p n l v).threads t).life ≡ r.life
life_then p n v l t r u same threads = ap (λ (x : Spots). (x.threads t).life) same ∙ ap (λ f. (f t).life) threads ∙ ap (λ (z : Spot). z.life) (updated v.threads t r)

-- the lists of node n, once t's spot is r
pub record Ties (n : ℕ) (v : Spots) (t : Tid) (r : Spot) (now : Local) (hand : List Busy) : Type 0 where
  pub threads : MapStandsFor is_tid (thread_part n) now.threads (update v.threads t r)
  pub busy : StandsFor is_tid busy_name (busy_part n) hand (update v.threads t r)

-- a label of t that the event's node may say of the world v, and what it leaves as it was
pub record IsMove (outset : Outset) (due ahead : List Item) (d : EventSoFar) (hand more : List Busy) (l : Label) (t : Tid) (r : Spot) (now : Local) (v : World) : Type 0 where
  pub same : after_label outset.program outset.node l v.spots ≡ spots_with (update v.spots.threads t r) v.spots.slots v.spots.births v.spots.sems (forests_after outset.program outset.node l v.spots) v.spots.halts (remote_after l v.spots.remote)
  pub may : Allows outset.program (having_said d.labels outset.occasion) outset.node l v
  pub ties : Ties outset.node v.spots t r now more
  pub births : now.births ≡ d.node.births
  pub sems : now.sems ≡ d.node.sems
  pub free : now.slots.free ≡ d.node.slots.free
  pub halted : now.halted ≡ d.node.halted
  pub next : Own outset.program outset.node l t v.spots due ahead hand more r.life
  pub after : IsAsBefore due ahead
  pub talk : now.talk ≡ d.node.talk
  pub forest : now.forest ≡ forests_after outset.program outset.node l v.spots outset.node
  pub shifted : IsShifted outset.node l v.spots
  pub booted : now.booted ≡ d.node.booted

-- what the label sends and prints, and what is on the links then
pub record IsCarried (p : Program) (n : ℕ) (L M : Links) (d : EventSoFar) (l : Label) (t : Tid) (r : Spot) (v : Spots) (sends : List Send) (prints : List ℕ) : Type 0 where
  pub sent : sends ≡ d.sends ++ causes p n l v
  pub shown : prints ≡ d.prints ++ shown_by l v
  pub links : (i j : ℕ) → LinkStands i j (under n M sends i j) (update v.threads t r)
  pub turns : (i j : ℕ) → turn_words (under n M sends) i j ≡ turn_words (under n L d.sends) i j

-- what the other nodes and t's home see of t's new spot
pub record IsSeen (n : ℕ) (t : Tid) (r : Spot) (v : Spots) : Type 0 where
  pub frame : (k : ℕ) → eqb n k ≡ false → Frame k t (v.threads t) r
  pub phase : phase_of r.life ≡ phase_of (v.threads t).life
  pub quiet : Quiet (v.threads t).life
  pub holds : Keeps (held (v.threads t).life (v.threads t).guest) (held r.life r.guest)
  pub whole : Plain r.life

-- t stays on node n, in another stage, and says nothing to a link or a console
pub record IsAtHome (p : Program) (n : ℕ) (l : Label) (t : Tid) (r : Spot) (a b : Stage) (v : Spots) : Type 0 where
  pub sent : causes p n l v ≡ []
  pub shown : shown_by l v ≡ []
  pub was : (v.threads t).life ≡ On n a
  pub is : r.life ≡ On n b
  pub home_was : is_home a ≡ true
  pub home_is : is_home b ≡ true

-- t's one packet goes to a node
pub record IsSent (p : Program) (n : ℕ) (l : Label) (t : Tid) (r : Spot) (to : ℕ) (body : Body) (v : Spots) : Type 0 where
  pub sent : causes p n l v ≡ one_send to body
  pub shown : shown_by l v ≡ []
  pub before : ways_of t (v.threads t).life (v.threads t).verdict (v.threads t).guest ≡ []
  pub after : ways_of t r.life r.verdict r.guest ≡ way n to (word_of to body)
  pub name : word_subject (word_of to body) ≡ Its t

-- ## What is ahead

-- an item that says something whatever there is
abbrev pub is_spoken : Item → Bool
is_spoken (Says l) = true
is_spoken (Chooses vp) = true
is_spoken (Does s) = true
is_spoken _ = false

spoken_front : (n : ℕ) (v : Spots) (i : Item) (is : List Item) → is_spoken i ≡ true → Speaks n v (i ∷ is)
spoken_front n v (Says l) is e = λ sends talk. refl
spoken_front n v (Chooses vp) is e = λ sends talk. refl
spoken_front n v (Does s) is e = λ sends talk. refl
spoken_front n v (Serves t) is e = absurd (cc e)
spoken_front n v Grants is e = absurd (cc e)
spoken_front n v (Decides t) is e = absurd (cc e)
spoken_front n v Ends_turn is e = absurd (cc e)
spoken_front n v Wants_again is e = absurd (cc e)

-- of turns it says nothing, and serves nobody
pub after_first : (i : Item) {ahead : List Item} → is_spoken i ≡ true → IsAsBefore (i ∷ ahead) ahead
after_first (Says l) e = record { turns = refl; wants = refl; serves = refl }
after_first (Chooses vp) e = record { turns = refl; wants = refl; serves = refl }
after_first (Does s) e = record { turns = refl; wants = refl; serves = refl }
after_first (Serves t) e = absurd (cc e)
after_first Grants e = absurd (cc e)
after_first (Decides t) e = absurd (cc e)
after_first Ends_turn e = absurd (cc e)
after_first Wants_again e = absurd (cc e)

-- who stands so with what was due stands so with what is ahead
pub stands_as : {p : Program} {net : Net} {n : ℕ} {v : Spots} {M : Links} {s : Local} {hand : List Busy} {due ahead : List Item} → IsAsBefore due ahead → StandsAmid p net n v M s hand due → StandsAmid p net n v M s hand ahead
stands_as {p} {net} {n} {v} {M} {s} {hand} {due} {ahead} same o = record {
  here = subst (λ xs. Here n v s hand xs) (sym same.serves) o.here;
  there = o.there;
  links = o.links;
  turns = in_turn_kept net n s.talk s.talk M M due ahead o.turns refl (λ i j. refl) same.turns same.wants;
  agrees = o.agrees;
}

-- a label that is the first of what is ahead, after which the event is busy with its thread, or with none
pub own_starts : {p : Program} {n : ℕ} {ahead : List Item} {i : Item} {v : Spots} {t : Tid} {l : Label} {new next : Life} → IsBy n l v i → is_spoken i ≡ true → goes_on_with p n l v ≡ Its t ∷ [] → GoesOnOnly p n l v → is_busy n new ≡ true
    → Own p n l t v (i ∷ ahead) ahead [] (busy t next ∷ []) new
own_starts {n = n} {ahead} {i} {v} by spoken on only busied = record { heir = on; only = only; front = spoken_front n v i ahead spoken; next = by; still = rw busied refl }

pub own_alone : {p : Program} {n : ℕ} {ahead : List Item} {i : Item} {v : Spots} {t : Tid} {l : Label} {new : Life} → IsBy n l v i → is_spoken i ≡ true → goes_on_with p n l v ≡ Its t ∷ [] → GoesOnOnly p n l v → is_busy n new ≡ false → is_seeking n new ≡ false
    → Own p n l t v (i ∷ ahead) ahead [] [] new
own_alone {n = n} {ahead} {i} {v} by spoken on only idle rests = record { heir = on; only = only; front = spoken_front n v i ahead spoken; next = by; still = rw (idle, rests) refl }

-- the threads that seek slots, where one has a new spot that seeks none, before or after
pub seekers_kept : (n : ℕ) {xs ys : List Tid} (w : Tid → Spot) (t : Tid) (r : Spot) → StandsFor is_tid itself (seeker_part n) xs w → ys ≡ xs → is_seeking n (w t).life ≡ false → is_seeking n r.life ≡ false
    → StandsFor is_tid itself (seeker_part n) ys (update w t r)
seekers_kept n {xs} w t r h same old new = subst (λ zs. StandsFor is_tid itself (seeker_part n) zs (update w t r)) (sym same)
    (kept is_tid is-true is-refl itself (seeker_part n) w t r xs h (no_seeker n t r new ∙ sym (no_seeker n t (w t) old)))

-- the thread of this stage, as it is on the node
pub on_node : {outset : Outset} {ahead : List Item} {L : Links} {d : EventSoFar} {hand : List Busy} (t : Tid) (a : Stage) → (m : Midst outset ahead L d hand) → (m.now.spots.threads t).life ≡ On outset.node a
    → lookup (is_tid t) d.node.threads ≡ thread_in_stage outset.node a (m.now.spots.threads t).guest
on_node {outset} t a m x = m.here.threads.shows t ∙ thread_was outset.node t (m.now.spots.threads t) a x

module _ {outset : Outset} {ahead : List Item} where
  open outset use {program as p, net, occasion as q, node as n, opening, world as w}

  -- a label of one thread, that leaves slots, births and halts; before it, what is due was ahead
  pub moved : {due : List Item} {L : Links} {d : EventSoFar} {hand : List Busy} {sends : List Send} {prints : List ℕ} (M : Links) (more : List Busy) (l : Label) (t : Tid) (r : Spot) (now : Local)
      → (m : Midst outset due L d hand) → IsMove outset due ahead d hand more l t r now m.now → IsCarried p n L M d l t r m.now.spots sends prints → IsSeen n t r m.now.spots
      → Then outset ahead M m.now l (record { node = now; labels = d.labels ++ l ∷ []; sends = sends; prints = prints }) more
  moved {due} {L} {d} {sends = sends} M more l t r now m move carried seen =
      let v : Spots = m.now.spots in
      labelled M more l (spots_with (update v.threads t r) v.slots v.births v.sems (forests_after p n l v) v.halts (remote_after l v.remote)) now m move.same move.may carried.sent carried.shown
      (record {
        here = record {
          threads = move.ties.threads;
          forest = move.forest;
          busy = move.ties.busy;
          seekers = seekers_kept n v.threads t r m.here.seekers (ap (λ (z : List Tid). z ++ now.talk.claims) move.after.serves ∙ ap (λ z. serving due ++ z.claims) move.talk) (seen.quiet.seeks n) (seen.whole.seeks n);
          births = move.births ∙ m.here.births;
          sems = move.sems ∙ m.here.sems;
          free = λ x. ap (λ (xs : List ℕ). has x xs) move.free ∙ m.here.free x;
          halted = move.halted ∙ m.here.halted;
        };
        there = λ k e. here_kept k v t r (net.nodes k) [] [] (m.there k e) (seen.frame k e) refl refl (forest_elsewhere p n l v k e) (λ x. refl) refl;
        links = carried.links;
        turns = in_turn_kept net n _ _ (under n L d.sends) (under n M sends) due ahead m.turns move.talk carried.turns move.after.turns move.after.wants;
        agrees = agrees_kept p v t r v.halts m.agrees seen.phase seen.quiet seen.holds (fits seen.whole) (λ j k. seen.whole.queues j k t) (λ k e. e);
      })
      (beside move.next (life_then p n v l t r _ move.same refl) move.shifted move.booted move.talk)

  -- a label that leaves its thread on node n, and no packet
  pub home_step : {due : List Item} {L : Links} {d : EventSoFar} {hand : List Busy} (more : List Busy) (l : Label) (t : Tid) (r : Spot) (now : Local) (a b : Stage)
      → (m : Midst outset due L d hand) → IsMove outset due ahead d hand more l t r now m.now → IsAtHome p n l t r a b m.now.spots
      → Keeps (held_in_stage a (m.now.spots.threads t).guest) (held_in_stage b r.guest)
      → Then outset ahead L m.now l (record { node = now; labels = d.labels ++ l ∷ []; sends = d.sends; prints = d.prints }) more
  home_step {L = L} {d = d} more l t r now a b m move home holds =
      let s : Spot = m.now.spots.threads t in
      let old : ways_of t s.life s.verdict s.guest ≡ [] = ap (λ z. ways_of t z s.verdict s.guest) home.was ∙ home_way t n a s.verdict s.guest home.home_was in
      let new : ways_of t r.life r.verdict r.guest ≡ [] = ap (λ z. ways_of t z r.verdict r.guest) home.is ∙ home_way t n b r.verdict r.guest home.home_is in
      moved L more l t r now m move
      (record {
        sent = sym (append-nil d.sends) ∙ ap (λ z. d.sends ++ z) (sym home.sent);
        shown = sym (append-nil d.prints) ∙ ap (λ z. d.prints ++ z) (sym home.shown);
        links = λ i j. links_kept t r m.now.spots.threads (under n L d.sends) m.links (new ∙ sym old) i j;
        turns = λ i j. refl;
      })
      (record {
        frame = λ k e. frame_home n k t s r a b home.was home.is home.home_was home.home_is e;
        phase = ap phase_of home.is ∙ sym (ap phase_of home.was);
        quiet = home_quiet n a s.life home.was home.home_was;
        holds = subst (λ z. Keeps (held s.life s.guest) (held z r.guest)) (sym home.is) (subst (λ z. Keeps (held z s.guest) (held_in_stage b r.guest)) (sym home.was) holds);
        whole = subst (λ z. Plain z) (sym home.is) (home_plain n b home.home_is);
      })

  -- a label by which its thread, on node n, comes to wait for what a packet brings
  pub send_step : {due : List Item} {L : Links} {d : EventSoFar} {hand : List Busy} (more : List Busy) (l : Label) (t : Tid) (r : Spot) (now : Local) (to : ℕ) (body : Body)
      → (m : Midst outset due L d hand) → IsMove outset due ahead d hand more l t r now m.now → IsSent p n l t r to body m.now.spots → IsSeen n t r m.now.spots
      → Then outset ahead L m.now l (record { node = now; labels = d.labels ++ l ∷ []; sends = d.sends ++ one_send to body; prints = d.prints }) more
  send_step {L = L} {d = d} more l t r now to body m move packet seen =
      moved L more l t r now m move
      (record {
        sent = ap (λ z. d.sends ++ z) (sym packet.sent);
        shown = sym (append-nil d.prints) ∙ ap (λ z. d.prints ++ z) (sym packet.shown);
        links = λ i j. put_link n to body t r L d.sends m.now.spots.threads m.links packet.name (packet.after ∙ ap (λ xs. xs ++ way n to (word_of to body)) (sym packet.before)) i j;
        turns = λ i j. put_turns n to body t L d.sends packet.name i j;
      })
      seen

  -- ## What the event is busy with

  at_front : {L : Links} {d : EventSoFar} {t : Tid} {life : Life} {hs : List Busy} → (m : Midst outset ahead L d (busy t life ∷ hs)) → ((m.now.spots.threads t).life ≡ life) × (is_busy n (m.now.spots.threads t).life ≡ true)
  at_front {t = t} {life} m = at_hand t (is_busy n (m.now.spots.threads t).life) life (m.now.spots.threads t).life (sym (m.here.busy.shows t) ∙ (rw (is-refl t) refl))

  pub in_hand : {L : Links} {d : EventSoFar} {t : Tid} {life : Life} {hs : List Busy} → (m : Midst outset ahead L d (busy t life ∷ hs)) → (m.now.spots.threads t).life ≡ life
  in_hand m = (at_front m).0

  pub busy_in_hand : {L : Links} {d : EventSoFar} {t : Tid} {life : Life} {hs : List Busy} → (m : Midst outset ahead L d (busy t life ∷ hs)) → is_busy n life ≡ true
  busy_in_hand m = let both = at_front m in ap (is_busy n) (sym both.0) ∙ both.1

  -- a label of the thread in hand is what comes next
  pub own_next : {L : Links} {d : EventSoFar} {t : Tid} {life : Life} {hs : List Busy} (l : Label) → (m : Midst outset ahead L d (busy t life ∷ hs)) → doer l ≡ Some (Its t) → IsNext n l m.now.spots (doing (busy t life ∷ hs) ahead)
  own_next l m by = (by, (at_front m).1)

  -- a label of the thread in hand, which stays there, or is let go
  pub own_stays : {L : Links} {d : EventSoFar} {t : Tid} {life : Life} {hs : List Busy} {l : Label} {new next : Life} → (m : Midst outset ahead L d (busy t life ∷ hs)) → doer l ≡ Some (Its t) → goes_on_with p n l m.now.spots ≡ Its t ∷ [] → GoesOnOnly p n l m.now.spots → is_busy n new ≡ true
      → Own p n l t m.now.spots ahead ahead (busy t life ∷ hs) (busy t next ∷ hs) new
  own_stays m by on only busied = record { heir = on; only = only; front = λ sends talk. refl; next = (by, (at_front m).1); still = rw busied refl }

  pub own_goes : {L : Links} {d : EventSoFar} {t : Tid} {life : Life} {hs : List Busy} {l : Label} {new : Life} → (m : Midst outset ahead L d (busy t life ∷ hs)) → doer l ≡ Some (Its t) → goes_on_with p n l m.now.spots ≡ Its t ∷ [] → GoesOnOnly p n l m.now.spots → is_busy n new ≡ false → is_seeking n new ≡ false
      → Own p n l t m.now.spots ahead ahead (busy t life ∷ hs) hs new
  own_goes m by on only idle rests = record { heir = on; only = only; front = λ sends talk. refl; next = (by, (at_front m).1); still = rw (idle, rests) refl }

  -- a step of the thread, as it is on the node
  pub at_ok : {due : List Item} {L : Links} (d : EventSoFar) {hand : List Busy} (more : List Busy) (t : Tid) (a : Stage) (step : Thread → EventSoFar → EventSoFar) → (m : Midst outset due L d hand) → (m.now.spots.threads t).life ≡ On n a
      → thread_in_stage n a (m.now.spots.threads t).guest ≡ Some (waits wait.No (m.now.spots.threads t).guest)
      → Midst outset ahead L (step (waits wait.No (m.now.spots.threads t).guest) d) more → Midst outset ahead L (at_thread t step d) more
  at_ok {L = L} d more t a step m x there done = subst (λ o. Midst outset ahead L (at_found o step d) more) (sym (on_node t a m x ∙ there)) done
