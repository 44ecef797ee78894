-- The whole run: how nodes and links begin, that nothing is left open at an entry's end, and what holds after each run.
use Rattle.std.proofs.Common.{◌≡◌, ℕ, ◌%◌, List, [], ◌∷◌, ◌++◌, Some, None, true, false, eqb, ltb, cond, refl, ap, ◌∙◌, subst, arith}
use Rattle.std.proofs.lemmas.Bool.{ltb-true}
use Rattle.std.proofs.lemmas.List.Elements.{All-nil}
use Rattle.marcel_sync.specs.Semaphores.{IsSemaphore}
use Rattle.slot_space.specs.Sets.{has, run}
use Rattle.slot_space.specs.Addresses.{starting_slots}
use Rattle.slot_space.specs.declared.names.Tid.{Tid}
use Rattle.slot_space.proofs.Lemmas.{has-filter, has-run}
use Rattle.run_trace.specs.declared.entry.Entry.{Entry}
use Rattle.bubbles.proofs.Lemmas.{covered_empty}
use Rattle.run_trace.specs.Program.{Program, nodes_of, slots_in, tree_of}
use Rattle.run_trace.specs.Local.{EventSoFar}
use Rattle.run_trace.specs.Cluster.{Event, Net, net_after, fresh_net, next_packet}
use Rattle.run_trace.specs.Trace.{IsRun, event_of, events_of, net_after_trace}
use Rattle.run_trace.specs.Spots.{Spots, Of_node, Nobody, at_first, first_holder, is_free}
use Rattle.run_trace.specs.Rules.{spots_of}
use Rattle.run_trace.specs.Console.{console_of, printed}
use Rattle.run_trace.specs.Stands.{Stands, AreInTurn, busy, is_thread}
use Rattle.run_trace.specs.Talks.{silent}
use Rattle.run_trace.specs.Holding.{EachHeldOnce}
use Rattle.run_trace.specs.Alone.{EachRunsAlone}
use Rattle.run_trace.specs.Legality.{AfterEach}
use Rattle.trace_laws.proofs.Lists.SeatedLabels.{seated_first}
use Rattle.trace_laws.proofs.Outcomes.Consequences.{one_holder, runs_alone}
use Rattle.trace_laws.proofs.Underway.Simulate.{Simulates, simulates, event, event_made}
use Rattle.trace_laws.specs.Obeys.{IsSettled, Obey, AgreesRule, ObeysFrom}
use Rattle.run_trace.specs.Items.{is_busy}

-- ## Before the first event

pub own_slots : (p : Program) (n x : ℕ) → has x (starting_slots (nodes_of p) (slots_in p) n) ≡ is_free n (first_holder p x)
unfolding starting_slots
own_slots p n x = has-filter (λ s. eqb (s % nodes_of p) n) x (run 0 (slots_in p))
    ∙ ap (λ v. cond (eqb (x % nodes_of p) n) v false) (has-run x 0 (slots_in p) ∙ grind (arith, ltb-true x 0))
    ∙ elim (ltb x (slots_in p)) as (λ v. cond (eqb (x % nodes_of p) n) v false ≡ is_free n (cond v (Of_node (x % nodes_of p)) Nobody)) [
      | true ↦ elim (eqb (x % nodes_of p) n) as (λ v. cond v true false ≡ v) [ true ↦ refl | false ↦ refl ]
      | false ↦ elim (eqb (x % nodes_of p) n) as (λ v. cond v false false ≡ false) [ true ↦ refl | false ↦ refl ]
    ]

-- nothing is claimed, and no node wants a turn
in_turn : AreInTurn (λ n. silent) (λ i j. []) (λ n. [])
in_turn = record {
  turn = λ i. refl;
  want = λ i. refl;
  once = λ i. omega arith;
  order = λ i. refl;
  claims = λ i. omega arith;
  to_zero = λ i j other. refl;
  from_zero = λ i j other. refl;
}

pub starts : (p : Program) → Stands p (at_first p) (fresh_net p)
starts p = record {
  nodes = λ n. record {
    threads = record { apart = tt; shows = λ u. refl };
    forest = refl;
    busy = record { apart = tt; shows = λ u. refl };
    seekers = record { apart = tt; shows = λ u. refl };
    births = refl;
    sems = refl;
    free = λ x. own_slots p n x;
    halted = refl;
  };
  links = λ i j t. refl;
  turns = in_turn;
  agrees = record {
    homes = λ t out. refl;
    named = λ t. refl;
    awaits = λ t by at e. absurd (cc e);
    waits = λ t by at e. absurd (cc e);
    sems = λ n. All-nil IsSemaphore;
    queues = λ h k. record { apart = tt; shows = λ u. refl };
    signals = λ t n id up e. absurd (cc e);
    stays = λ t n e. absurd (cc e);
    seeks = λ t n e. absurd (cc e);
    slots = λ t x. elim (ltb x (slots_in p)) as (λ v. false ≡ is_thread t (cond v (Of_node (x % nodes_of p)) Nobody)) [ true ↦ refl | false ↦ refl ];
    blocks = λ t. tt;
  };
  seated = seated_first p;
  covered = λ n. covered_empty (tree_of p);
}

-- ## At the end of an entry no thread is in the midst of anything

pub settled_at : (p : Program) (w : Spots) (net : Net) → Stands p w net → (t : Tid) → IsSettled (w.threads t).life
settled_at p w net s t n = elim (is_busy n (w.threads t).life) as (λ v. None ≡ cond v (Some (busy t (w.threads t).life)) None → v ≡ false) [ true ↦ λ e. absurd (cc e) | false ↦ λ e. refl ] ((s.nodes n).busy.shows t)

-- ## The whole run

-- the rules, the console, what nodes and links stand for, and that before each label the spots agree
pub record Whole (p : Program) (old : Spots) (base : Net) (trace : List Entry) : Type 0 where
  pub obeys : ObeysFrom p old base trace
  pub console : printed (events_of p base trace) ≡ console_of p old trace
  pub stands : Stands p (spots_of p old trace) (net_after_trace p base trace)
  pub agrees : Obey AgreesRule p old base trace

pub run_whole : (p : Program) (old : Spots) (base : Net) → Stands p old base → (trace : List Entry) → IsRun p base trace → Whole p old base trace
run_whole p old base s [] r = record {
  obeys = record { solo = tt; holders = tt; life = tt; replies = tt; grants = tt; carried = tt; settled = tt };
  console = refl;
  stands = s;
  agrees = tt;
}
run_whole p old base s (x ∷ xs) r =
    let was : Whole p old base xs = run_whole p old base s xs r.0 in
    let net : Net = net_after_trace p base xs in
    let w : Spots = spots_of p old xs in
    let e : Event = event_of p net x in
    let d : EventSoFar = r.1.step.done in
    let one : Simulates p w net (event x.stamp x.node x.round x.act (next_packet net x.node x.act) d) = simulates p w net x.stamp x.node x.round x.act (next_packet net x.node x.act) d was.stands r.1.step.is refl in
    let now : Simulates p w net e = subst (λ z. Simulates p w net z) (event_made p net x r.1) one in
    record {
      obeys = record {
        solo = (was.obeys.solo, now.allowed.solo);
        holders = (was.obeys.holders, now.allowed.holders);
        life = (was.obeys.life, now.allowed.life);
        replies = (was.obeys.replies, now.allowed.replies);
        grants = (was.obeys.grants, now.allowed.grants);
        carried = (was.obeys.carried, now.sends);
        settled = (was.obeys.settled, settled_at p (spots_of p old (x ∷ xs)) (net_after p net e) now.stands);
      };
      console = ap (λ bs. bs ++ e.prints) was.console ∙ ap (λ bs. console_of p old xs ++ bs) now.prints;
      stands = now.stands;
      agrees = (was.agrees, now.allowed.agrees);
    }

-- from the beginning: what nodes and links stand for
pub stands_after : (p : Program) (trace : List Entry) → IsRun p (fresh_net p) trace → Stands p (spots_of p (at_first p) trace) (net_after_trace p (fresh_net p) trace)
stands_after p trace r = (run_whole p (at_first p) (fresh_net p) (starts p) trace r).stands

-- and the console
pub console_after : (p : Program) (trace : List Entry) → IsRun p (fresh_net p) trace → printed (events_of p (fresh_net p) trace) ≡ console_of p (at_first p) trace
console_after p trace r = (run_whole p (at_first p) (fresh_net p) (starts p) trace r).console

-- what holds after each run holds after each entry of a run
pub after_each : (P : Net → List Entry → Type 0) (p : Program) → ((trace : List Entry) → IsRun p (fresh_net p) trace → P (net_after_trace p (fresh_net p) trace) trace) → (trace : List Entry) → IsRun p (fresh_net p) trace → AfterEach P p trace
after_each P p f [] r = tt
after_each P p f (x ∷ xs) r = (after_each P p f xs r.0, f (x ∷ xs) r)

pub alone_after_run : (p : Program) (trace : List Entry) → IsRun p (fresh_net p) trace → EachRunsAlone p (net_after_trace p (fresh_net p) trace) trace
alone_after_run p trace r =
    let all : Whole p (at_first p) (fresh_net p) trace = run_whole p (at_first p) (fresh_net p) (starts p) trace r in
    runs_alone p (fresh_net p) trace (net_after_trace p (fresh_net p) trace) all.obeys.solo all.obeys.life all.agrees all.stands

pub held_once_after_run : (p : Program) (trace : List Entry) → IsRun p (fresh_net p) trace → EachHeldOnce (net_after_trace p (fresh_net p) trace)
held_once_after_run p trace r = one_holder p (spots_of p (at_first p) trace) (net_after_trace p (fresh_net p) trace) (stands_after p trace r)
