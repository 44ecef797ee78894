-- Slots and blocks of a thread that goes on, on an event in its midst: isomalloc and isofree.
use Rattle.std.proofs.Common.{◌≡◌, ℕ, ◌<◌, List, [], ◌∷◌, ◌++◌, Option, Some, None, Bool, true, false, cond, refl, sym, ap, ◌∙◌, subst, arith}
use Rattle.std.specs.Prelude.{is_some, nat_lt}
use Rattle.std.proofs.lemmas.Bool.{eq-eqb}
use Rattle.std.proofs.lemmas.List.{append-nil}
use Rattle.slot_space.specs.Sets.{has, minus, run}
use Rattle.slot_space.specs.declared.names.Tid.{Tid}
use Rattle.slot_space.proofs.Lemmas.{lowest_run-found, lowest_run-same, has-minus}
use Rattle.iso_blocks.specs.Heap.{rounded, place, emptied}
use Rattle.run_trace.specs.declared.label.Label.TheVariants.{Took, Gave}
use Rattle.run_trace.specs.declared.node.Wait.TheVariants as wait
use Rattle.run_trace.specs.Names.{is_tid}
use Rattle.run_trace.specs.Program.{Program, nodes_of}
use Rattle.run_trace.specs.Guests.{Guest, waits, guest_slots, takes_slots, gives_slots, heap_of, with_placed, without_block, slots_for}
use Rattle.std.specs.Map.{set_value}
use Rattle.run_trace.specs.declared.call.Call.{Call}
use Rattle.run_trace.specs.declared.call.Call.TheVariants.{Create, CreateIn, Isomalloc, Isofree}
use Rattle.run_trace.specs.declared.label.Why.TheVariants as why
use Rattle.marcel_sync.specs.Semaphores.{number_in}
use Rattle.run_trace.specs.Keyed.{MapStandsFor}
use Rattle.run_trace.specs.Local.{Local, EventSoFar}
use Rattle.run_trace.specs.Steps.{at_found, at_thread, say, keep, slots_out, slots_in, takes_run, returns}
use Rattle.run_trace.specs.Machine.{free_run, places, allocates_in, allocates, returns_any, frees_block, frees, serves, serves_thread, serves_call, claims, creates_in}
use Rattle.run_trace.specs.Spots.{Stage, Served, Seeks, its_call, took_life, after_label, On, Spot, Spots, Of_node, Of_thread, update, gave_life, is_free, lowest_free}
use Rattle.run_trace.specs.Rules.{MayGive, IsServed, IsForBlock}
use Rattle.run_trace.specs.Stands.{WantsSlots, itself, seeker_part, serving, ways_of, phase_of, waiter_in_life, Busy, busy, busy_name, busy_part, thread_part, held, slots_held, IsWellHeld, is_thread}
use Rattle.run_trace.proofs.Lemmas.{is-true, is-refl, has_gives, has_takes}
use Rattle.trace_laws.proofs.Lists.KeyedLemmas.{kept, fronted, unfronted, map_set}
use Rattle.run_trace.specs.World.{World, world_after}
use Rattle.trace_laws.proofs.Underway.Midst.{StandsAmid, under, labelled, beside, here_kept, links_kept, in_turn_kept, agrees_changed, fits, plain, queued, queued_kept, no_seeker, Outset, Links, Midst, keeps, spots_with, Then, updated}
use Rattle.trace_laws.proofs.Underway.Steps.{on_node, own_stays, life_then, Ties, in_hand, at_ok}
use Rattle.trace_laws.proofs.Underway.Seeking.{seeks_first, no_run, creation, creation_inside}
use Rattle.trace_laws.proofs.Underway.ReplySteps.{judge_and_tell_ok}
use Rattle.trace_laws.proofs.Lists.Parts.{thread_holds, thread_was, busy_was, away_thread, away_seeker, busy_none}
use Rattle.trace_laws.proofs.Lists.Stages.{home_busy}
use Rattle.trace_laws.proofs.Underway.Lifetimes.{creates_ok, Changes, slots_step, given, taken, gives_change, takes_change, lowest_held, lowest_is}
use Rattle.trace_laws.proofs.Lives.Heaps.{empty_held, gave_well, gave_all, placed_well, takes_well, has_place}
use Rattle.run_trace.specs.Calls.{place_code, slots_wanted}
use Rattle.run_trace.specs.Items.{is_busy, is_seeking, has_slots, Item, Serves}

-- the guest after a label that moves slots
taken_guest : (p : Program) (n : ℕ) (v u : World) (t : Tid) (first count : ℕ) → u ≡ world_after p n (Took t first count) v → (u.spots.threads t).guest ≡ takes_slots (run first count) (v.spots.threads t).guest
taken_guest p n v u t first count e = ap (λ (z : World). (z.spots.threads t).guest) e ∙ ap (λ (z : Spot). z.guest) (updated v.spots.threads t _)

returned_guest : (p : Program) (n : ℕ) (v u : World) (t : Tid) (slots : List ℕ) → u ≡ world_after p n (Gave t slots) v → (u.spots.threads t).guest ≡ gives_slots slots (v.spots.threads t).guest
returned_guest p n v u t slots e = ap (λ (z : World). (z.spots.threads t).guest) e ∙ ap (λ (z : Spot). z.guest) (updated v.spots.threads t _)

-- a thread that has got these slots for its block
abbrev served_spot : ℕ → ℕ → List ℕ → Spot → Spot
served_spot n len got s = record s { life = On n (Served (Isomalloc len)); guest = takes_slots got s.guest }

-- none of the node's slots is the thread's, so its lowest run is one of those that aren't
pub lowest_apart : {outset : Outset} {due : List Item} {L : Links} {d : EventSoFar} {hand : List Busy} (t : Tid) (count : ℕ) → (m : Midst outset due L d hand) → (m.now.spots.threads t).life ≡ On outset.node Seeks
    → lowest_free outset.node count m.now.spots ≡ free_run (minus d.node.slots.free (guest_slots (m.now.spots.threads t).guest)) count
lowest_apart {outset} {d = d} t count m x = lowest_run-same (λ y. is_free outset.node (m.now.spots.slots y)) (λ y. has y (minus d.node.slots.free mine)) count 4096 (λ y. by_holder y (has y mine) (had y) ∙ sym (has-minus y d.node.slots.free mine))
  where
    mine : List ℕ
    mine = guest_slots (m.now.spots.threads t).guest

    had : (y : ℕ) → is_thread t (m.now.spots.slots y) ≡ has y mine
    had y = sym (m.agrees.slots t y) ∙ ap (λ z. has y (slots_held (held z (m.now.spots.threads t).guest))) x

    by_holder : (y : ℕ) (b : Bool) → is_thread t (m.now.spots.slots y) ≡ b → is_free outset.node (m.now.spots.slots y) ≡ cond b false (has y d.node.slots.free)
    by_holder y true e = ap (is_free outset.node) (thread_holds t (m.now.spots.slots y) e)
    by_holder y false e = sym (m.here.free y)

module _ {outset : Outset} {ahead : List Item} {L : Links} where
  open outset use {program as p, net, occasion as q, node as n, opening, world as w}

  -- the lists of node n, where only the guest of its thread has changed
  served_ties : (d : EventSoFar) (t : Tid) (c : Call) (g : Guest) (hs : List Busy) (now : Local) → (m : Midst outset ahead L d (busy t (On n (Served c)) ∷ hs)) → (m.now.spots.threads t).life ≡ On n (Served c)
      → now.threads ≡ set_value (is_tid t) d.node.threads (waits wait.No g)
      → Ties n m.now.spots t (record (m.now.spots.threads t) { guest = g }) now (busy t (On n (Served c)) ∷ hs)
  served_ties d t c g hs now m x threads =
      let v : Spots = m.now.spots in
      let s : Spot = m.now.spots.threads t in
      let r : Spot = record s { guest = g } in
      record {
        threads = subst (λ es. MapStandsFor is_tid (thread_part n) es (update v.threads t r)) (sym threads)
            (map_set is_tid is-true is-refl (thread_part n) v.threads t r d.node.threads (waits wait.No s.guest) (waits wait.No g) m.here.threads (thread_was n t s (Served c) x) (thread_was n t r (Served c) x));
        busy = kept is_tid is-true is-refl busy_name (busy_part n) v.threads t r (busy t (On n (Served c)) ∷ hs) m.here.busy
            (busy_was n t r (On n (Served c)) x (eq-eqb n n refl) ∙ sym (busy_was n t s (On n (Served c)) x (eq-eqb n n refl)));
      }

  -- ## isomalloc

  -- the block is placed
  pub places_ok : (d : EventSoFar) (t : Tid) (len address : ℕ) (hs : List Busy) → (m : Midst outset ahead L d (busy t (On n (Served (Isomalloc len))) ∷ hs))
      → place (heap_of (m.now.spots.threads t).guest.solo) (rounded len) ≡ Some address
      → Midst outset ahead L (places t (rounded len) (waits wait.No (m.now.spots.threads t).guest) d) hs
  places_ok d t len address hs m has =
      let g : Guest = (m.now.spots.threads t).guest in
      let x : (m.now.spots.threads t).life ≡ On n (Served (Isomalloc len)) = in_hand m in
      let o : Option ℕ = place (heap_of g.solo) (rounded len) in
      let served : IsServed (Isomalloc len) g (place_code o) = has ∙ ap (λ z. Some (place_code z)) (sym has) in
      judge_and_tell_ok d t (place_code o) (with_placed (rounded len) o g) (Isomalloc len) hs m refl refl
      (record { solo = tt; holders = tt; life = rw x refl; replies = rw x (served, refl); grants = tt })
      (record { slots = refl; well = λ h. placed_well g (rounded len) o refl h })

  -- nodes and links stand for what is told once the thread has got these slots of the node, for its block
  taken_amid : {d : EventSoFar} (t : Tid) (len : ℕ) (got : List ℕ) → (m : Midst outset (Serves t ∷ ahead) L d []) → (m.now.spots.threads t).life ≡ On n Seeks → ((y : ℕ) → has y got ≡ true → m.now.spots.slots y ≡ Of_node n)
      → StandsAmid p net n (spots_with (update m.now.spots.threads t (served_spot n len got (m.now.spots.threads t))) (taken t got m.now.spots.slots) m.now.spots.births m.now.spots.sems m.now.spots.forests m.now.spots.halts m.now.spots.remote) (under n L d.sends)
      (record d.node { threads = set_value (is_tid t) d.node.threads (waits wait.No (takes_slots got (m.now.spots.threads t).guest)); slots = record d.node.slots { free = minus d.node.slots.free got } }) (busy t (On n (Served (Isomalloc len))) ∷ []) ahead
  taken_amid {d} t len got m x holder =
      let v : Spots = m.now.spots in
      let s : Spot = m.now.spots.threads t in
      let g : Guest = s.guest in
      let b : Stage = Served (Isomalloc len) in
      let r : Spot = served_spot n len got s in
      let change : Changes n v t r (minus d.node.slots.free got) (taken t got v.slots) = takes_change p n v t r d.node.slots.free got m.agrees m.here.free holder
      (λ y. has_takes y got g.solo.state.memory ∙ ap (λ z. cond (has y got) true (has y (slots_held (held z g)))) (sym x)) in
      record {
        here = record {
          threads = map_set is_tid is-true is-refl (thread_part n) v.threads t r d.node.threads (waits wait.ForSlots g) (waits wait.No (takes_slots got g)) m.here.threads (thread_was n t s Seeks x) (thread_was n t r b refl);
          busy = fronted is_tid is-true is-refl busy_name (busy_part n) v.threads t r [] (busy t (On n b)) m.here.busy refl (busy_none n t s (On n Seeks) x refl) (busy_was n t r (On n b) refl (eq-eqb n n refl));
          seekers = unfronted is_tid is-true is-refl itself (seeker_part n) v.threads t r (serving ahead ++ d.node.talk.claims) t m.here.seekers refl (no_seeker n t r refl);
          forest = m.here.forest;
          births = m.here.births;
          sems = m.here.sems;
          free = change.free;
          halted = m.here.halted;
        };
        there = λ k e. here_kept k v t r (net.nodes k) [] [] (m.there k e)
            (record {
              thread = away_thread n k t r b refl e ∙ sym (away_thread n k t s Seeks x e);
              busy = busy_none k t r (On n b) refl (home_busy n k b refl e) ∙ sym (busy_none k t s (On n Seeks) x refl);
              seeker = away_seeker n k t r b refl e ∙ sym (away_seeker n k t s Seeks x e);
            })
            refl refl refl (change.there k e) refl;
        links = λ i j. links_kept t r v.threads (under n L d.sends) m.links (sym (ap (λ z. ways_of t z s.verdict g) x)) i j;
        turns = in_turn_kept net n d.node.talk d.node.talk (under n L d.sends) (under n L d.sends) (Serves t ∷ ahead) ahead m.turns refl (λ i j. refl) refl refl;
        agrees = agrees_changed p v t r m.agrees (sym (ap phase_of x)) (λ e. absurd (cc (e, x))) (λ u k e. absurd (cc (e, x))) (fits (plain r.life refl))
            (queued_kept v.threads t r (queued m.agrees) (λ j k. ap (waiter_in_life j k t) x) (λ j k. refl)) (λ k e. e) change.slots
            (takes_well g got (subst (λ z. IsWellHeld (held z g)) x (m.agrees.blocks t)));
      }

  -- a thread that seeks slots for its block takes a run of the node's
  takes_run_ok : (d : EventSoFar) (t : Tid) (len first : ℕ) → (m : Midst outset (Serves t ∷ ahead) L d []) → its_call t m.now.spots ≡ Isomalloc len
      → lowest_free n (slots_for (rounded len)) m.now.spots ≡ Some first
      → Then outset ahead L m.now (Took t first (slots_for (rounded len))) (takes_run t first (slots_for (rounded len)) (m.now.spots.threads t).guest d) (busy t (On n (Served (Isomalloc len))) ∷ [])
  unfolding takes_run keep slots_out say
  takes_run_ok d t len first m asked free =
      let v : Spots = m.now.spots in
      let s : Spot = m.now.spots.threads t in
      let g : Guest = s.guest in
      let count : ℕ = slots_for (rounded len) in
      let got : List ℕ = run first count in
      let b : Stage = Served (Isomalloc len) in
      let x : s.life ≡ On n Seeks = seeks_first n t (serving ahead ++ d.node.talk.claims) v.threads m.here.seekers in
      let r : Spot = record s { life = On n b; guest = takes_slots got g } in
      let hand : List Busy = busy t (On n b) ∷ [] in
      let holder : (y : ℕ) → has y got ≡ true → v.slots y ≡ Of_node n = λ y h. lowest_held n count v first y free h in
      let some : has_slots n t v ≡ true = ap (λ z. is_some (lowest_free n (slots_wanted z) v)) asked ∙ ap is_some free in
      let same : after_label p n (Took t first count) v ≡ spots_with (update v.threads t r) (taken t got v.slots) v.births v.sems v.forests v.halts v.remote =
      ap (λ z. spots_with (update v.threads t (record s { life = took_life g.solo.state z; guest = takes_slots got g })) (taken t got v.slots) v.births v.sems v.forests v.halts v.remote) x
      ∙ ap (λ c. spots_with (update v.threads t (record s { life = On n (Served c); guest = takes_slots got g })) (taken t got v.slots) v.births v.sems v.forests v.halts v.remote) asked in
      labelled L hand (Took t first count) _ _ m same
      (record { solo = tt; holders = holder; life = rw x refl; replies = tt; grants = (subst (λ c. IsForBlock c count) (sym asked) refl, free) })
      (sym (append-nil d.sends)) (sym (append-nil d.prints))
      (taken_amid t len got m x holder)
      (beside {due = Serves t ∷ ahead} {ahead = ahead} {hand = []} {more = hand} {new = On n b} (record { heir = refl; only = tt; front = λ sends talk. rw some refl; next = (refl, ap (is_seeking n) x ∙ eq-eqb n n refl); still = rw (eq-eqb n n refl) refl })
      (life_then p n v (Took t first count) t r _ same refl) tt refl refl)

  -- and then its block is placed
  pub allocates_ok : (d : EventSoFar) (t : Tid) (len : ℕ) → (m : Midst outset (Serves t ∷ ahead) L d []) → its_call t m.now.spots ≡ Isomalloc len → has_slots n t m.now.spots ≡ true
      → Midst outset ahead L (allocates t (rounded len) (waits wait.ForSlots (m.now.spots.threads t).guest) d) []
  allocates_ok d t len m asked some = by_run (free_run (minus d.node.slots.free (guest_slots g)) count) refl
    where
      g : Guest
      g = (m.now.spots.threads t).guest

      size : ℕ
      size = rounded len

      count : ℕ
      count = slots_for size

      x : (m.now.spots.threads t).life ≡ On n Seeks
      x = seeks_first n t (serving ahead ++ d.node.talk.claims) m.now.spots.threads m.here.seekers

      well : IsWellHeld (held (On n Seeks) g)
      well = subst (λ z. IsWellHeld (held z g)) x (m.agrees.blocks t)

      -- the node's slots aren't the thread's
      apart : (first : ℕ) → lowest_free n count m.now.spots ≡ Some first → (y : ℕ) → has y (run first count) ≡ true → has y (guest_slots g) ≡ false
      apart first free y h = ap (λ z. has y (slots_held (held z g))) (sym x) ∙ m.agrees.slots t y ∙ ap (is_thread t) (lowest_held n count m.now.spots first y free h)

      lowest : lowest_free n count m.now.spots ≡ free_run (minus d.node.slots.free (guest_slots g)) count
      lowest = lowest_apart t count m x

      by_run : (o : Option ℕ) → free_run (minus d.node.slots.free (guest_slots g)) count ≡ o → Midst outset ahead L (allocates_in t size o (waits wait.ForSlots g) d) []
      by_run None f = let none : has_slots n t m.now.spots ≡ false = ap (λ z. is_some (lowest_free n (slots_wanted z) m.now.spots)) asked ∙ ap is_some (lowest ∙ f) in absurd (cc (some, none))
      by_run (Some first) f = by_place (place (heap_of (k.now.spots.threads t).guest.solo) size) refl
        where
          free : lowest_free n count m.now.spots ≡ Some first
          free = lowest ∙ f

          low : first < 4096
          low = (lowest_run-found (λ y. is_free n (m.now.spots.slots y)) count 4096 first free).below

          after : EventSoFar
          after = takes_run t first count g d

          then : Then outset ahead L m.now (Took t first count) after (busy t (On n (Served (Isomalloc len))) ∷ [])
          then = takes_run_ok d t len first m asked free

          k : Midst outset ahead L after (busy t (On n (Served (Isomalloc len))) ∷ [])
          k = then.midst

          by_place : (o : Option ℕ) → place (heap_of (k.now.spots.threads t).guest.solo) size ≡ o → Midst outset ahead L (at_thread t (places t size) after) []
          by_place None e = absurd (has_place g size first count well (omega arith) low (apart first free)
              (subst (λ (z : Guest). place (heap_of z.solo) size ≡ None) (taken_guest p n m.now k.now t first count then.now) e))
          by_place (Some address) e = at_ok after [] t (Served (Isomalloc len)) (places t size) k (in_hand k) refl (places_ok after t len address [] k e)

  -- ## isofree

  returns_ok : (d : EventSoFar) (t : Tid) (address : ℕ) (hs : List Busy) → (m : Midst outset ahead L d (busy t (On n (Served (Isofree address))) ∷ hs))
      → (emptied (heap_of (m.now.spots.threads t).guest.solo) address ≡ [] → ⊥)
      → Then outset ahead L m.now (Gave t (emptied (heap_of (m.now.spots.threads t).guest.solo) address)) (returns t (emptied (heap_of (m.now.spots.threads t).guest.solo) address) (m.now.spots.threads t).guest d) (busy t (On n (Served (Isofree address))) ∷ hs)
  unfolding returns keep slots_in say
  returns_ok d t address hs m some =
      let v : Spots = m.now.spots in
      let s : Spot = m.now.spots.threads t in
      let g : Guest = s.guest in
      let back : List ℕ = emptied (heap_of g.solo) address in
      let a : Stage = Served (Isofree address) in
      let x : s.life ≡ On n a = in_hand m in
      let r : Spot = record s { guest = gives_slots back g } in
      let had : (y : ℕ) → has y (slots_held (held s.life g)) ≡ has y (guest_slots g) = λ y. ap (λ z. has y (slots_held (held z g))) x in
      let holder : (y : ℕ) → has y back ≡ true → v.slots y ≡ Of_thread t = λ y h. thread_holds t (v.slots y) (sym (m.agrees.slots t y) ∙ had y ∙ empty_held g address y h) in
      slots_step (busy t (On n a) ∷ hs) (Gave t back) t r _ (given n back v.slots) a a m
      (record {
        same = ap (λ z. spots_with (update v.threads t (record s { life = z; guest = gives_slots back g })) (given n back v.slots) v.births v.sems v.forests v.halts v.remote) (ap gave_life x ∙ sym x);
        may = record { solo = tt; holders = holder; life = subst (λ z. MayGive n z g back) (sym x) (refl, refl, some); replies = tt; grants = tt };
        ties = served_ties d t (Isofree address) (gives_slots back g) hs _ m x refl;
        births = refl;
        sems = refl;
        halted = refl;
        change = gives_change p n v t r d.node.slots.free back m.agrees m.here.free holder
            (λ y. ap (λ z. has y (slots_held (held z (gives_slots back g)))) x ∙ has_gives y back g.solo.state.memory ∙ ap (λ z. cond (has y back) false (has y (slots_held (held z g)))) (sym x));
        well = subst (λ z. IsWellHeld (held z (gives_slots back g))) (sym x) (gave_well g address (subst (λ z. IsWellHeld (held z g)) x (m.agrees.blocks t)));
        next = own_stays m refl refl tt (ap (is_busy n) x ∙ eq-eqb n n refl);
        talk = refl;
        forest = refl;
        shifted = tt;
        booted = refl;
      })
      (record {
        sent = refl;
        shown = refl;
        was = x;
        is = x;
        home_was = refl;
        home_is = refl;
      })

  -- the block is gone, once no slot is left to be given
  freed_ok : (d : EventSoFar) (t : Tid) (address : ℕ) (hs : List Busy) → (m : Midst outset ahead L d (busy t (On n (Served (Isofree address))) ∷ hs))
      → emptied (heap_of (m.now.spots.threads t).guest.solo) address ≡ []
      → Midst outset ahead L (at_thread t (frees_block t address) d) hs
  freed_ok d t address hs m none =
      let x : (m.now.spots.threads t).life ≡ On n (Served (Isofree address)) = in_hand m in
      at_ok d hs t (Served (Isofree address)) (frees_block t address) m x refl
      (judge_and_tell_ok d t 0 (without_block address (m.now.spots.threads t).guest) (Isofree address) hs m refl refl
      (record { solo = tt; holders = tt; life = rw x refl; replies = rw x ((refl, none), refl); grants = tt })
      (keeps _ _ refl))

  pub frees_ok : (d : EventSoFar) (t : Tid) (address : ℕ) (hs : List Busy) → (m : Midst outset ahead L d (busy t (On n (Served (Isofree address))) ∷ hs)) → Midst outset ahead L (frees t address (waits wait.No (m.now.spots.threads t).guest) d) hs
  frees_ok d t address hs m = by (emptied (heap_of g.solo) address) refl
    where
      g : Guest
      g = (m.now.spots.threads t).guest

      by : (slots : List ℕ) → emptied (heap_of g.solo) address ≡ slots → Midst outset ahead L (at_thread t (frees_block t address) (returns_any t slots g d)) hs
      by [] e = freed_ok d t address hs m e
      by (y ∷ slots) e = let k = returns_ok d t address hs m (λ none. absurd (cc (none, e))) in subst (λ (back : List ℕ). Midst outset ahead L (at_thread t (frees_block t address) (returns t back g d)) hs) e
          (freed_ok (returns t (emptied (heap_of g.solo) address) g d) t address hs k.midst
          (subst (λ (z : Guest). emptied (heap_of z.solo) address ≡ []) (sym (returned_guest p n m.now k.midst.now t (emptied (heap_of g.solo) address) k.now)) (gave_all g address)))

-- ## Slots for a thread that seeks them, where the node has some for it

pub serves_ok : {outset : Outset} {ahead : List Item} {L : Links} (below : nat_lt outset.node (nodes_of outset.program) ≡ true) (d : EventSoFar) (t : Tid) → (m : Midst outset (Serves t ∷ ahead) L d []) → has_slots outset.node t m.now.spots ≡ true
    → Midst outset ahead L (serves outset.node t d) []
serves_ok {outset} {ahead} {L} below d t m some =
    subst (λ o. Midst outset ahead L (at_found o (serves_thread outset.node t) d) []) (sym (on_node t Seeks m x)) (by_call (its_call t m.now.spots) refl (m.agrees.seeks t outset.node x))
  where
    x : (m.now.spots.threads t).life ≡ On outset.node Seeks
    x = seeks_first outset.node t (serving ahead ++ d.node.talk.claims) m.now.spots.threads m.here.seekers

    by_call : (c : Call) → its_call t m.now.spots ≡ c → WantsSlots c → Midst outset ahead L (serves_call outset.node t c (waits wait.ForSlots (m.now.spots.threads t).guest) d) []
    by_call (Create e a k) asked wants = creates_ok below d t (why.Create t) e a k m (creation outset.program outset.node t m.now.spots e a k x asked) some
    by_call (CreateIn b e a k) asked wants = creates_ok below d t (why.Inside t (number_in b)) e a k m (creation_inside outset.program outset.node t m.now.spots b e a k x asked) some
    by_call (Isomalloc len) asked wants = allocates_ok d t len m asked some
    by_call c asked wants = absurd wants

-- where it has none, the thread claims them
pub unserved : {outset : Outset} {due : List Item} {L : Links} {hand : List Busy} (d : EventSoFar) (t : Tid) → (m : Midst outset due L d hand) → (m.now.spots.threads t).life ≡ On outset.node Seeks → has_slots outset.node t m.now.spots ≡ false
    → serves outset.node t d ≡ claims t d
unserved {outset} {hand = hand} d t m x none = ap (λ o. at_found o (serves_thread outset.node t) d) (on_node t Seeks m x) ∙ by_call (its_call t m.now.spots) refl (m.agrees.seeks t outset.node x)
  where
    g : Guest
    g = (m.now.spots.threads t).guest

    empty : (c : Call) → its_call t m.now.spots ≡ c → lowest_free outset.node (slots_wanted c) m.now.spots ≡ None
    empty c asked = no_run _ (ap (λ z. is_some (lowest_free outset.node (slots_wanted z) m.now.spots)) (sym asked) ∙ none)

    by_call : (c : Call) → its_call t m.now.spots ≡ c → WantsSlots c → serves_call outset.node t c (waits wait.ForSlots g) d ≡ claims t d
    by_call (Create e a k) asked wants = ap (λ o. creates_in outset.node t (why.Create t) e a k o d) (sym (lowest_is outset.node 1 m.now.spots d.node hand _ m.here) ∙ empty (Create e a k) asked)
    by_call (CreateIn b e a k) asked wants = ap (λ o. creates_in outset.node t (why.Inside t (number_in b)) e a k o d) (sym (lowest_is outset.node 1 m.now.spots d.node hand _ m.here) ∙ empty (CreateIn b e a k) asked)
    by_call (Isomalloc len) asked wants = ap (λ o. allocates_in t (rounded len) o (waits wait.ForSlots g) d) (sym (lowest_apart t (slots_for (rounded len)) m x) ∙ empty (Isomalloc len) asked)
    by_call c asked wants = absurd wants
