-- What one event after another comes to in a round.
use Rattle.std.proofs.Common.{◌≡◌, ℕ, zero, suc, ◌+◌, ◌-◌, ◌<◌, ◌≤◌, ◌⊎◌, inl, inr, List, [], ◌∷◌, ◌++◌, length, max, Option, Some, None, Bool, true, false, is_some, refl, sym, ap, ◌∙◌, subst, arith, append_assoc, append-nil}
use Rattle.std.specs.Prelude.{nat_lt}
use Rattle.std.proofs.lemmas.List.{length-append}
use Rattle.std.proofs.Math.Nat.{max-eq_right, le-max_left}
use Rattle.run_trace.specs.declared.entry.Act.{Act}
use Rattle.run_trace.specs.declared.entry.Act.TheVariants.{Boot, Run, Take, Move}
use Rattle.run_trace.specs.declared.packet.Packet.{Packet}
use Rattle.run_trace.specs.Console.{printed}
use Rattle.run_trace.specs.Histories.{Turn, IsTurn, IsStamped, clock, seen, turn_state}
use Rattle.run_trace.specs.Local.{Local}
use Rattle.run_trace.specs.Machine.{turn_event}
use Rattle.run_trace.specs.Program.{Program, nodes_of, processors_of}
use Rattle.wires.specs.Ends.{known_from}
use Rattle.basics.proofs.Lemmas.{by_eq}
use Rattle.wires.proofs.Lemmas.{stays_refl, stays_trans}
use Rattle.node_loop.specs.Histories.{HasHistory, Waits, events_of_turns}
use Rattle.node_loop.specs.Passes.{Moment, AreRuns, AreTakes, ArePasses, HasTake, IsPass, IsRound, NoneReady, RunsNext, acts_in, first_pass, ready_after}
use Rattle.node_loop.specs.Rounds.{DoesMore, DoesPass, DoesPasses, DoesRuns, DoesTakes, FailsLater, HasDone, HasRounded, HasStopped, can_run, moments_of_node}
use Rattle.node_loop.specs.Turns.{Does, Idles, IsActInRange, IsInRange, IsLost, StaysKnown, Turns, can, turn_of}
use Rattle.node_loop.specs.View.{NodeView}
use Rattle.node_loop.specs.declared.node.Turned.TheVariants.{Did, Idle}
use Rattle.node_loop.proofs.ManyTurns.{one_more, turns_history}

abbrev no_acts : List Moment
no_acts = []

waits_refl : (v : NodeView) → Waits v v
waits_refl v = record {
  program = refl;
  me = refl;
  state = refl;
  clock = omega arith;
  entries = refl;
  console = refl;
  wide = refl;
  received = λ k. refl;
  sent = λ k. refl;
}

-- ## Since some moment

pub nothing_done : (v : NodeView) → v.state.booted ≡ true → HasDone v [] v
nothing_done v b = record {
  history = turns_history v [] v (waits_refl v);
  clock = refl;
  later = omega arith;
  round = refl;
  one_round = tt;
  console = sym (append-nil v.console);
  booted = b;
  wired = stays_refl v.ends;
}

-- a stamp above its node's clock is above an earlier clock too
restamped : (t u : Turn) (v : NodeView) (last : ℕ) (act : Act) → IsInRange v act → t.event ≡ u.event → t.began ≡ last → u.began ≤ last → IsStamped last t act → IsStamped last u act
restamped t u v last act n e b l s = by act n s
  where
    same : t.event.stamp ≡ 1 + max t.began (max last (seen t.event.took)) → u.event.stamp ≡ 1 + max u.began (max last (seen u.event.took))
    same h =
        let low : last ≤ max last (seen t.event.took) = le-max_left last (seen t.event.took) in
        let at_last : max t.began (max last (seen t.event.took)) ≡ max last (seen t.event.took) = max-eq_right {n = t.began} {m = max last (seen t.event.took)} (omega (arith, b, low)) in
        let at_first : max u.began (max last (seen t.event.took)) ≡ max last (seen t.event.took) = max-eq_right {n = u.began} {m = max last (seen t.event.took)} (omega (arith, l, low)) in
        ap (λ (z : Turn). z.event.stamp) (sym (same_turn u e)) ∙ h ∙ ap (λ m. 1 + m) (at_last ∙ sym at_first) ∙ ap (λ o. 1 + max u.began (max last (seen o))) (ap (λ ev. ev.took) e)
      where
        same_turn : (w : Turn) → t.event ≡ w.event → record w { event = t.event } ≡ w
        same_turn w h = ap (λ ev. record w { event = ev }) h

    by : (a : Act) → IsInRange v a → IsStamped last t a → IsStamped last u a
    by Boot m h = absurd m
    by (Run vp quantum) m h = same h
    by (Take from) m h = same h
    by (Move r to) m h = same h

module _ (start : NodeView) (turns : List Turn) (old : NodeView) (i : HasDone start turns old) (act : Act) (range : IsInRange old act) (new : NodeView) (d : Does old act new) (booted : new.state.booted ≡ true) where
  abbrev t : Turn
  t = turn_of old act d.took d.done

  -- the turn, as one of the round that began with the first clock
  abbrev u : Turn
  u = record { began = start.clock; event = t.event }

  more : HasHistory start (t ∷ turns) new
  more = one_more start old new turns t i.history (record { act = act; range = range; after = new; does = d; is = refl; waits = waits_refl new })

  turned : IsTurn start.program start.me (clock start.clock turns) (turn_state start.program start.me start.state turns) u
  turned =
      let k : IsTurn start.program start.me (clock start.clock turns) (turn_state start.program start.me start.state turns) t = more.history.1 in
      record {
        done = k.done;
        is = k.is;
        labels = k.labels;
        sends = k.sends;
        prints = k.prints;
        shape = k.shape;
        stamp = restamped t u old (clock start.clock turns) act range refl i.clock (omega (arith, i.later, i.clock)) k.stamp;
      }

  in_range : IsActInRange start.program start.me act
  in_range = subst (λ m. IsActInRange start.program m act) i.history.me (subst (λ (q : Program). IsActInRange q old.me act) i.history.program range)

  clock_now : new.clock ≡ suc (max old.clock (seen d.took))
  clock_now = ap (λ (v : NodeView). v.clock) d.after

  pub done_more : HasDone start (u ∷ turns) new
  done_more = record {
    history = record {
      program = more.program;
      me = more.me;
      history = (i.history.history, turned);
      state = more.state;
      clock = more.clock;
      entries = more.entries;
      wide = more.wide;
      received = more.received;
      sent = more.sent;
    };
    clock = clock_now;
    later = omega (arith, clock_now, i.later, le-max_left old.clock (seen d.took));
    round = ap (λ (v : NodeView). v.round) d.after ∙ i.round;
    one_round = ((i.history.me, refl, i.round, in_range), i.one_round);
    console = ap (λ (v : NodeView). v.console) d.after ∙ ap (λ bs. bs ++ d.done.prints) i.console ∙ append_assoc start.console (printed (events_of_turns turns)) d.done.prints;
    booted = booted;
    wired = stays_trans start.ends old.ends new.ends i.wired d.links.wired;
  }

  pub moment_more : moments_of_node start (u ∷ turns) ≡ (record { act = act; ready = can_run new.program new.me new.state }) ∷ moments_of_node start turns
  moment_more = ap (λ b. (record { act = act; ready = b }) ∷ moments_of_node start turns)
      (ap (λ s. can_run start.program start.me s) more.state ∙ sym (ap (λ m. can_run start.program m new.state) more.me) ∙ sym (ap (λ (q : Program). can_run q new.me new.state) more.program))

-- ## One event

pub does_one : (old : NodeView) (act : Act) → IsInRange old act → (new : NodeView) → Does old act new → new.state.booted ≡ true
    → DoesMore ((record { act = act; ready = can_run new.program new.me new.state }) ∷ []) old new
does_one old act range new d b = record {
  further = λ start turns i. ((record { began = start.clock; event = (turn_of old act d.took d.done).event }) ∷ [], done_more start turns old i act range new d b, moment_more start turns old i act range new d b);
  entries = ap (λ (v : NodeView). length v.entries) d.after ∙ length-append old.entries _;
  program = ap (λ (v : NodeView). v.program) d.after;
  me = ap (λ (v : NodeView). v.me) d.after;
  booted = b;
  ready = refl;
}

idle_done : (start : NodeView) (turns : List Turn) (old : NodeView) → HasDone start turns old → (act : Act) (new : NodeView) → Idles old act new → new.state.booted ≡ true → HasDone start turns new
idle_done start turns old i act new d b = record {
  history = record {
    program = ap (λ (v : NodeView). v.program) d.same ∙ i.history.program;
    me = ap (λ (v : NodeView). v.me) d.same ∙ i.history.me;
    history = i.history.history;
    state = i.history.state ∙ sym (ap (λ (v : NodeView). v.state) d.same);
    clock = omega (arith, i.history.clock, ap (λ (v : NodeView). v.clock) d.same);
    entries = ap (λ (v : NodeView). v.entries) d.same ∙ i.history.entries;
    wide = d.links.wide ∙ i.history.wide;
    received = λ k. d.links.received k ∙ i.history.received k;
    sent = λ k l. d.links.sent k ∙ i.history.sent k l;
  };
  clock = ap (λ (v : NodeView). v.clock) d.same ∙ i.clock;
  later = omega (arith, i.later, ap (λ (v : NodeView). v.clock) d.same);
  round = ap (λ (v : NodeView). v.round) d.same ∙ i.round;
  one_round = i.one_round;
  console = ap (λ (v : NodeView). v.console) d.same ∙ i.console;
  booted = b;
  wired = stays_trans start.ends old.ends new.ends i.wired d.links.wired;
}

pub does_none : (old : NodeView) (act : Act) (new : NodeView) → Idles old act new → new.state.booted ≡ true → DoesMore [] old new
does_none old act new d b = record {
  further = λ start turns i. ([], idle_done start turns old i act new d b, refl);
  entries = ap (λ (v : NodeView). length v.entries) d.same ∙ omega arith;
  program = ap (λ (v : NodeView). v.program) d.same;
  me = ap (λ (v : NodeView). v.me) d.same;
  booted = b;
  ready = sym (ap (λ (v : NodeView). can_run v.program v.me v.state) d.same);
}

pub does_nothing : (v : NodeView) → v.state.booted ≡ true → DoesMore [] v v
does_nothing v b = record { further = λ start turns i. ([], i, refl); entries = omega arith; program = refl; me = refl; booted = b; ready = refl }

ready_later : (r : ℕ → Bool) (xs ys : List Moment) → ready_after r (ys ++ xs) ≡ ready_after (ready_after r xs) ys
ready_later r xs [] = refl
ready_later r xs (y ∷ ys) = refl

pub does_both : (xs ys : List Moment) (old mid new : NodeView) → DoesMore xs old mid → DoesMore ys mid new → DoesMore (ys ++ xs) old new
does_both xs ys old mid new h g = record {
  further = λ start turns i.
      let a = h.further start turns i in
      let b = g.further start (a.0 ++ turns) a.1 in
      let joined : (b.0 ++ a.0) ++ turns ≡ b.0 ++ (a.0 ++ turns) = append_assoc b.0 a.0 turns in (
        b.0 ++ a.0,
        subst (λ ts. HasDone start ts new) (sym joined) b.1,
        ap (moments_of_node start) joined ∙ b.2 ∙ ap (λ ms. ys ++ ms) a.2 ∙ sym (append_assoc ys xs (moments_of_node start turns)),
      );
  entries = omega (arith, h.entries, g.entries, length-append ys xs);
  program = g.program ∙ h.program;
  me = g.me ∙ h.me;
  booted = g.booted;
  ready = ready_later (can_run old.program old.me old.state) xs ys ∙ ap (λ r. ready_after r ys) h.ready ∙ g.ready;
}

pub fails_after : (xs : List Moment) (old mid new : NodeView) → DoesMore xs old mid → FailsLater mid new → FailsLater old new
fails_after xs old mid new h f = record { acts = f.acts ++ xs; last = f.last; more = does_both xs f.acts old mid f.last h f.more; lost = f.lost }

pub fails_now : (xs : List Moment) (old mid new : NodeView) → DoesMore xs old mid → IsLost mid new → FailsLater old new
fails_now xs old mid new h l = record { acts = xs; last = mid; more = h; lost = l }

-- ## Takes

takes_within : (a b : ℕ) → a ≤ b → (acts : List Moment) → AreTakes a acts → AreTakes b acts
takes_within a b l [] h = tt
takes_within a b l (x ∷ xs) h = (h.0, h.1, omega (arith, l, h.2), h.3)

-- the takes from the senders below this number are done; what was known of the others is known still
pub record TakesSoFar (room sender count : ℕ) (old now : NodeView) : Type 0 where
  pub acts : List Moment
  pub does : DoesMore acts old now
  pub many : length acts ≡ count
  pub few : count ≤ room
  pub takes : AreTakes sender acts
  pub known : (s : ℕ) → s < sender → can old (Take s) ≡ true → HasTake s acts
  pub still : (s : ℕ) → sender ≤ s → StaysKnown s old.ends now.ends

pub no_takes : (room : ℕ) (v : NodeView) → v.state.booted ≡ true → TakesSoFar room 0 0 v v
no_takes room v b = record {
  acts = [];
  does = does_nothing v b;
  many = refl;
  few = omega arith;
  takes = tt;
  known = λ s l k. absurd (omega (arith, l));
  still = λ s l p ps e. e;
}

known_some : (ps : List Packet) → nat_lt 0 (length ps) ≡ true → (p : Packet) × (qs : List Packet) × (ps ≡ p ∷ qs)
known_some [] e = absurd (cc e)
known_some (p ∷ ps) e = (p, ps, refl)

pub take_did : (room sender count : ℕ) (old now new : NodeView) → TakesSoFar room sender count old now → count < room → IsInRange now (Take sender) → Turns now (Take sender) new Did → new.state.booted ≡ true
    → TakesSoFar room (sender + 1) (count + 1) old new
take_did room sender count old now new h l range d b =
    let one = does_one now (Take sender) range new d b in
    record {
      acts = (record { act = Take sender; ready = can_run new.program new.me new.state }) ∷ h.acts;
      does = does_both h.acts _ old now new h.does one;
      many = omega (arith, h.many);
      few = omega (arith, l);
      takes = (sender, refl, omega arith, h.takes);
      known = λ s m k. by_eq s sender (λ e. inl (ap Take (sym e))) (λ ne. inr (h.known s (omega (arith, m, ne)) k));
      still = λ s m p ps e. d.links.known s (λ same. (let is : sender ≡ s = cc same in absurd (omega (arith, is, m)))) p ps (h.still s (omega (arith, m)) p ps e);
    }

pub take_idle : (room sender count : ℕ) (old now new : NodeView) → TakesSoFar room sender count old now → Turns now (Take sender) new Idle → new.state.booted ≡ true
    → TakesSoFar room (sender + 1) count old new
take_idle room sender count old now new h d b = record {
  acts = h.acts;
  does = does_both h.acts [] old now new h.does (does_none now (Take sender) new d b);
  many = h.many;
  few = h.few;
  takes = takes_within sender (sender + 1) (omega arith) h.acts h.takes;
  known = λ s m k. by_eq s sender
      (λ e.
      let some = known_some (known_from old.ends s) k in
      let here : known_from now.ends sender ≡ some.0 ∷ some.1 = subst (λ j. known_from now.ends j ≡ some.0 ∷ some.1) e (h.still s (omega (arith, e)) some.0 some.1 some.2) in
      absurd (cc (here, d.impossible)))
      (λ ne. h.known s (omega (arith, m, ne)) k);
  still = λ s m p ps e. d.links.known s p ps (h.still s (omega (arith, m)) p ps e);
}

-- all senders have been asked
pub takes_done : (room sender count : ℕ) (old now : NodeView) → nodes_of old.program ≤ sender → sender ≤ nodes_of old.program → TakesSoFar room sender count old now → DoesTakes room count old now
takes_done room sender count old now all most h = record {
  acts = h.acts;
  does = h.does;
  many = h.many;
  few = h.few;
  takes = takes_within sender (nodes_of old.program) most h.acts h.takes;
  known = λ s l k. inl (h.known s (omega (arith, l, all)) k);
}

-- or as many are taken as there is room for
pub takes_full : (room sender count : ℕ) (old now : NodeView) → sender ≤ nodes_of old.program → count ≡ room → TakesSoFar room sender count old now → DoesTakes room count old now
takes_full room sender count old now most full h = record {
  acts = h.acts;
  does = h.does;
  many = h.many;
  few = h.few;
  takes = takes_within sender (nodes_of old.program) most h.acts h.takes;
  known = λ s l k. inr full;
}

-- ## Runs

-- the processors below this number have been asked
pub record RunsSoFar (room vp count : ℕ) (old now : NodeView) : Type 0 where
  pub acts : List Moment
  pub does : DoesMore acts old now
  pub many : length acts ≡ count
  pub few : count ≤ room
  pub runs : AreRuns old.program.setup.quantum vp (can_run old.program old.me old.state) acts

pub no_runs : (room : ℕ) (v : NodeView) → v.state.booted ≡ true → RunsSoFar room 0 0 v v
no_runs room v b = record { acts = []; does = does_nothing v b; many = refl; few = omega arith; runs = refl }

some_is : {A : Type 0} (o : Option A) (a : A) → o ≡ Some a → is_some o ≡ true
some_is o a e = ap is_some e

module _ (room vp count quantum : ℕ) (old now new : NodeView) (h : RunsSoFar room vp count old now) (q : quantum ≡ old.program.setup.quantum) (b : new.state.booted ≡ true) where
  abbrev could : ℕ → Bool
  could = can_run old.program old.me old.state

  next : suc vp ≡ vp + 1
  next = omega arith

  -- whether it has a pick is whether the node can run it
  asked : ready_after could h.acts vp ≡ is_some (turn_event now.program now.me now.state (Run vp quantum) None)
  asked =
      ap (λ (f : ℕ → Bool). f vp) h.does.ready
      ∙ ap (λ k. is_some (turn_event now.program now.me now.state (Run vp k) None)) (sym (q ∙ sym (ap (λ (z : Program). z.setup.quantum) h.does.program)))

  pub run_did : count < room → IsInRange now (Run vp quantum) → Turns now (Run vp quantum) new Did → RunsSoFar room (vp + 1) (count + 1) old new
  run_did l range d = record {
    acts = run ∷ h.acts;
    does = does_both h.acts (run ∷ []) old now new h.does (does_one now (Run vp quantum) range new d b);
    many = omega (arith, h.many);
    few = omega (arith, l);
    runs = subst (λ n. AreRuns old.program.setup.quantum n could (run ∷ h.acts)) next (h.acts, h.runs, ran);
  }
    where
      run : Moment
      run = record { act = Run vp quantum; ready = can_run new.program new.me new.state }

      ready : ready_after could h.acts vp ≡ true
      ready = asked ∙ some_is _ d.done (ap (λ o. turn_event now.program now.me now.state (Run vp quantum) o) (sym d.shape) ∙ d.is)

      ran : RunsNext old.program.setup.quantum vp (ready_after could h.acts vp) h.acts (run ∷ h.acts)
      ran = subst (λ r. RunsNext old.program.setup.quantum vp r h.acts (run ∷ h.acts)) (sym ready) (run, refl, ap (λ k. Run vp k) q)

  pub run_idle : Turns now (Run vp quantum) new Idle → RunsSoFar room (vp + 1) count old new
  run_idle d = record {
    acts = h.acts;
    does = does_both h.acts [] old now new h.does (does_none now (Run vp quantum) new d b);
    many = h.many;
    few = h.few;
    runs = subst (λ n. AreRuns old.program.setup.quantum n could h.acts) next (h.acts, h.runs, subst (λ r. RunsNext old.program.setup.quantum vp r h.acts h.acts) (sym (asked ∙ ap is_some d.impossible)) refl);
  }

-- all processors have been asked
pub runs_done : (room vp count : ℕ) (old now : NodeView) → processors_of old.program ≤ vp → vp ≤ processors_of old.program → RunsSoFar room vp count old now → DoesRuns room count old now
runs_done room vp count old now all most h =
    record { acts = h.acts; does = h.does; many = h.many; few = h.few; reach = vp; within = most; runs = h.runs; cut = inl (omega (arith, all, most)) }

-- or as many have run as there is room for
pub runs_full : (room vp count : ℕ) (old now : NodeView) → vp ≤ processors_of old.program → count ≡ room → RunsSoFar room vp count old now → DoesRuns room count old now
runs_full room vp count old now most full h = record { acts = h.acts; does = h.does; many = h.many; few = h.few; reach = vp; within = most; runs = h.runs; cut = inr full }

-- ## A pass

taken_before : (s : ℕ) (xs ys : List Moment) → HasTake s ys → HasTake s (xs ++ ys)
taken_before s [] ys h = h
taken_before s (x ∷ xs) ys h = inr (taken_before s xs ys h)

pub pass_done : (room taken ran : ℕ) (old mid new : NodeView) → DoesTakes room taken old mid → DoesRuns (room - taken) ran mid new → DoesPass room (taken + ran) old new
pass_done room taken ran old mid new t r = record {
  acts = r.acts ++ t.acts;
  does = does_both t.acts r.acts old mid new t.does r.does;
  many = omega (arith, length-append r.acts t.acts, t.many, r.many);
  few = omega (arith, t.few, r.few);
  reach = r.reach;
  within = subst (λ (z : Program). r.reach ≤ processors_of z) t.does.program r.within;
  pass = record { takes = t.acts; runs = r.acts; whole = refl; ascending = t.takes; run = runs };
  cut = elim r.cut as (λ z. (r.reach ≡ processors_of old.program) ⊎ (taken + ran ≡ room)) [
    | inl e ↦ inl (e ∙ ap (λ (z : Program). processors_of z) t.does.program)
    | inr full ↦ inr (omega (arith, full, t.few))
  ];
  known = λ s m k. elim (t.known s m k) as (λ z. HasTake s (r.acts ++ t.acts) ⊎ (taken + ran ≡ room)) [
    | inl h ↦ inl (taken_before s r.acts t.acts h)
    | inr full ↦ inr (omega (arith, full, r.few))
  ];
}
  where
    runs : AreRuns old.program.setup.quantum r.reach (ready_after (can_run old.program old.me old.state) t.acts) r.acts
    runs =
        subst (λ f. AreRuns old.program.setup.quantum r.reach f r.acts) (sym t.does.ready)
        (subst (λ (z : Program). AreRuns z.setup.quantum r.reach (can_run mid.program mid.me mid.state) r.acts) t.does.program r.runs)

-- ## Passes

-- what is known at the start is taken in the first pass
abbrev Firsts : ℕ → NodeView → List (List Moment) → NodeView → Type 0
Firsts events old [] now = now ≡ old
Firsts events old (p ∷ ps) now = (s : ℕ) → s < nodes_of old.program → can old (Take s) ≡ true → HasTake s (first_pass p ps) ⊎ (length (first_pass p ps) ≡ events)

-- so many passes are done, each with an event at least; there is room for so many events more
pub record PassesSoFar (events passed left : ℕ) (old now : NodeView) : Type 0 where
  pub passes : List (List Moment)
  pub does : DoesMore (acts_in passes) old now
  pub each : ArePasses (nodes_of old.program) (processors_of old.program) old.program.setup.quantum (can_run old.program old.me old.state) passes
  pub many : length (acts_in passes) + left ≡ events
  pub turns : passed + left ≤ events
  pub firsts : Firsts events old passes now

pub no_passes : (events : ℕ) (v : NodeView) → v.state.booted ≡ true → PassesSoFar events 0 events v v
no_passes events v b = record { passes = []; does = does_nothing v b; each = tt; many = omega arith; turns = omega arith; firsts = refl }

no_takes_none : (s : ℕ) (xs : List Moment) → length xs ≡ 0 → HasTake s xs → ⊥
no_takes_none s [] e h = h
no_takes_none s (x ∷ xs) e h = absurd (omega (arith, e))

-- where no processor was run, none of those that were asked has a pick
none_run : (quantum below : ℕ) (could : ℕ → Bool) (runs : List Moment) → AreRuns quantum below could runs → runs ≡ [] → (vp : ℕ) → vp < below → could vp ≡ false
none_run quantum zero could runs h e vp l = absurd (omega (arith, l))
none_run quantum (suc below) could runs h e vp l = by (ready_after could h.0 below) refl h.2 (λ none under. none_run quantum below could h.0 h.1 none vp under)
  where
    by : (b : Bool) → ready_after could h.0 below ≡ b → RunsNext quantum below b h.0 runs → (h.0 ≡ [] → vp < below → could vp ≡ false) → could vp ≡ false
    by true k r more = absurd (cc (r.1, e))
    by false k r more =
        let none : h.0 ≡ [] = sym r ∙ e in
        by_eq vp below (λ s. ap could s ∙ sym (ap (λ xs. ready_after could xs below) none) ∙ k) (λ ne. more none (omega (arith, l, ne)))

-- a round whose last pass isn't cut off
only_whole : (events : ℕ) (old new : NodeView) (passes : List (List Moment)) → DoesMore (acts_in passes) old new
    → ArePasses (nodes_of old.program) (processors_of old.program) old.program.setup.quantum (can_run old.program old.me old.state) passes → length (acts_in passes) ≤ events
    → (length (acts_in passes) ≡ events) ⊎ ((no_acts ≡ no_acts) × NoneReady (processors_of old.program) (ready_after (can_run old.program old.me old.state) (acts_in passes)))
    → ((s : ℕ) → s < nodes_of old.program → can old (Take s) ≡ true → HasTake s (first_pass [] passes) ⊎ (length (first_pass [] passes) ≡ events))
    → DoesPasses events old new
only_whole events old new passes does each few ends first = record {
  acts = acts_in passes;
  does = does;
  passes = record {
    passes = passes;
    last = [];
    reach = 0;
    whole = refl;
    each = each;
    within = omega arith;
    cut = record { takes = []; runs = []; whole = refl; ascending = tt; run = refl };
    few = few;
    ends = ends;
    first = first;
  };
}

module _ (events passed left count : ℕ) (old now new : NodeView) (h : PassesSoFar events passed left old now) (p : DoesPass left count now new) where
  abbrev q : Program
  q = old.program

  abbrev ready : ℕ → Bool
  ready = can_run old.program old.me old.state

  program : now.program ≡ old.program
  program = h.does.program

  acts_are : DoesMore (p.acts ++ acts_in h.passes) old new
  acts_are = does_both (acts_in h.passes) p.acts old now new h.does p.does

  -- the pass, in the words of the beginning
  pass_here : IsPass (nodes_of q) p.reach q.setup.quantum (ready_after ready (acts_in h.passes)) p.acts
  pass_here =
      subst (λ r. IsPass (nodes_of q) p.reach q.setup.quantum r p.acts) (sym h.does.ready)
      (subst (λ (z : Program). IsPass (nodes_of z) p.reach z.setup.quantum (can_run now.program now.me now.state) p.acts) program p.pass)

  whole_pass : p.reach ≡ processors_of now.program → IsPass (nodes_of q) (processors_of q) q.setup.quantum (ready_after ready (acts_in h.passes)) p.acts
  whole_pass e = subst (λ k. IsPass (nodes_of q) k q.setup.quantum (ready_after ready (acts_in h.passes)) p.acts) (e ∙ ap (λ (z : Program). processors_of z) program) pass_here

  first_here : h.passes ≡ [] → (s : ℕ) → s < nodes_of q → can old (Take s) ≡ true → HasTake s p.acts ⊎ (length p.acts ≡ events)
  first_here none s l k =
      let at : now ≡ old = subst (λ ps. Firsts events old ps now) none h.firsts in
      let full : left ≡ events = let e : length (acts_in h.passes) ≡ 0 = ap (λ ps. length (acts_in ps)) none in omega (arith, h.many, e) in
      elim (p.known s (omega (arith, l, ap (λ (z : Program). nodes_of z) program)) (ap (λ (z : NodeView). can z (Take s)) at ∙ k)) as (λ z. HasTake s p.acts ⊎ (length p.acts ≡ events))
      [ inl t ↦ inl t | inr c ↦ inr (omega (arith, p.many, c, full)) ]

  firsts_later : (ps : List (List Moment)) → ps ≡ h.passes → (s : ℕ) → s < nodes_of q → can old (Take s) ≡ true → HasTake s (first_pass p.acts ps) ⊎ (length (first_pass p.acts ps) ≡ events)
  firsts_later [] e s l k = first_here (sym e) s l k
  firsts_later (x ∷ xs) e s l k = (subst (λ ps. Firsts events old ps now) (sym e) h.firsts) s l k

  all_many : length (p.acts ++ acts_in h.passes) + left ≡ events + count
  all_many = omega (arith, length-append p.acts (acts_in h.passes), p.many, h.many)

  -- nothing was to be done in it
  pub passes_idle : count ≡ 0 → DoesPasses events old new
  passes_idle none =
      only_whole events old new h.passes (subst (λ xs. DoesMore (xs ++ acts_in h.passes) old new) (empty p.acts (p.many ∙ none)) acts_are)
      h.each (omega (arith, h.many)) ends (first h.passes refl)
    where
      empty : (xs : List Moment) → length xs ≡ 0 → xs ≡ []
      empty [] e = refl
      empty (x ∷ xs) e = absurd (omega (arith, e))

      split : (xs ys : List Moment) → [] ≡ xs ++ ys → (xs ≡ []) × (ys ≡ [])
      split [] ys e = (refl, sym e)
      split (x ∷ xs) ys e = absurd (cc e)

      -- no processor has a pick where none was run
      none_ready : p.reach ≡ processors_of now.program → NoneReady (processors_of q) (ready_after ready (acts_in h.passes))
      none_ready e vp l =
          let parts = split p.pass.runs p.pass.takes (sym (empty p.acts (p.many ∙ none)) ∙ p.pass.whole) in
          let below : vp < p.reach = omega (arith, l, e, ap (λ (z : Program). processors_of z) program) in
          let could : ℕ → Bool = can_run now.program now.me now.state in
          let runs : AreRuns now.program.setup.quantum p.reach could p.pass.runs = subst (λ xs. AreRuns now.program.setup.quantum p.reach (ready_after could xs) p.pass.runs) parts.1 p.pass.run in
          ap (λ (f : ℕ → Bool). f vp) h.does.ready ∙ none_run now.program.setup.quantum p.reach could p.pass.runs runs parts.0 vp below

      ends : (length (acts_in h.passes) ≡ events) ⊎ ((no_acts ≡ no_acts) × NoneReady (processors_of q) (ready_after ready (acts_in h.passes)))
      ends = elim p.cut as (λ z. (length (acts_in h.passes) ≡ events) ⊎ ((no_acts ≡ no_acts) × NoneReady (processors_of q) (ready_after ready (acts_in h.passes)))) [
        | inl e ↦ inr (refl, none_ready e)
        | inr full ↦ inl (omega (arith, full, none, h.many))
      ]

      first : (ps : List (List Moment)) → ps ≡ h.passes → (s : ℕ) → s < nodes_of q → can old (Take s) ≡ true → HasTake s (first_pass [] ps) ⊎ (length (first_pass [] ps) ≡ events)
      first [] e s l k = elim (first_here (sym e) s l k) as (λ z. HasTake s [] ⊎ (0 ≡ events)) [
        | inl t ↦ absurd (no_takes_none s p.acts (p.many ∙ none) t)
        | inr c ↦ inr (omega (arith, c, p.many, none))
      ]
      first (x ∷ xs) e s l k = (subst (λ ps. Firsts events old ps now) (sym e) h.firsts) s l k

  -- as many are done as may be
  pub passes_full : count ≡ left → DoesPasses events old new
  passes_full full = record {
    acts = p.acts ++ acts_in h.passes;
    does = acts_are;
    passes = record {
      passes = h.passes;
      last = p.acts;
      reach = p.reach;
      whole = refl;
      each = h.each;
      within = subst (λ (z : Program). p.reach ≤ processors_of z) program p.within;
      cut = pass_here;
      few = omega (arith, all_many, full);
      ends = inl (omega (arith, all_many, full));
      first = firsts_later h.passes refl;
    };
  }

  -- there is more to do, and room for it
  pub passes_more : 0 < count → count < left → PassesSoFar events (passed + 1) (left - count) old new
  passes_more some l = elim p.cut as (λ z. PassesSoFar events (passed + 1) (left - count) old new) [
    | inl w ↦ record {
      passes = p.acts ∷ h.passes;
      does = acts_are;
      each = (whole_pass w, h.each);
      many = omega (arith, all_many, l);
      turns = omega (arith, h.turns, some, l);
      firsts = firsts_later h.passes refl;
    }
    | inr full ↦ absurd (omega (arith, full, l))
  ]

pub passes_over : (events passed left : ℕ) (old now : NodeView) → events ≤ passed → PassesSoFar events passed left old now → DoesPasses events old now
passes_over events passed left old now l h =
    only_whole events old now h.passes h.does h.each (omega (arith, h.many)) (inl (omega (arith, h.many, h.turns, l))) (first h.passes refl)
  where
    first : (ps : List (List Moment)) → ps ≡ h.passes → (s : ℕ) → s < nodes_of old.program → can old (Take s) ≡ true → HasTake s (first_pass [] ps) ⊎ (length (first_pass [] ps) ≡ events)
    first [] e s m k = inr (omega (arith, h.many, h.turns, l, ap (λ ps. length (acts_in ps)) e))
    first (x ∷ xs) e s m k = (subst (λ ps. Firsts events old ps now) (sym e) h.firsts) s m k

-- ## The round

pub rounded : (events : ℕ) (old new : NodeView) → old.state.booted ≡ true → DoesPasses events old new → HasRounded old events new
rounded events old new b h =
    let f = h.does.further old [] (nothing_done old b) in
    record {
      turns = f.0 ++ [];
      done = f.1;
      passes = subst (λ ms. IsRound (nodes_of old.program) (processors_of old.program) old.program.setup.quantum events (can_run old.program old.me old.state) (λ i. can old (Take i)) ms) (sym (f.2 ∙ append-nil h.acts)) h.passes;
    }

-- it is lost, whatever becomes of its state then
pub stopped : (events : ℕ) (old mid new : NodeView) (state : Local) → old.state.booted ≡ true → FailsLater old mid → new ≡ record mid { state = state } → state.booted ≡ false → HasStopped old events new
stopped events old mid new state b h e gone =
    let f = h.more.further old [] (nothing_done old b) in
    record {
      turns = f.0 ++ [];
      last = h.last;
      done = f.1;
      lost = subst (λ v. IsLost h.last v) (sym e) (record {
        program = h.lost.program;
        me = h.lost.me;
        clock = h.lost.clock;
        round = h.lost.round;
        entries = h.lost.entries;
        console = h.lost.console;
        node = h.lost.node;
        wide = h.lost.wide;
        sent = h.lost.sent;
        received = h.lost.received;
        wired = h.lost.wired;
      });
      gone = ap (λ (v : NodeView). v.state.booted) e ∙ gone;
    }
