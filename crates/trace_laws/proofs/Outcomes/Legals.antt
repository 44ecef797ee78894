-- A legal trace, from a run or from its labels alone.
use Rattle.std.proofs.Common.{ℕ, List, ap, cond, false, subst, ◌≡◌, ◌∷◌, ◌∙◌, true, sym}
use Rattle.std.specs.Prelude.{◌↔◌}
use Rattle.slot_space.specs.declared.names.Tid.{Tid}
use Rattle.bubbles.specs.Standing.{IsForest, seats}
use Rattle.run_trace.specs.Bubbles.{is_listed}
use Rattle.run_trace.specs.Guests.{Thread, is_unwaiting}
use Rattle.run_trace.specs.Holding.{IsOn}
use Rattle.run_trace.specs.declared.entry.Act.{Act}
use Rattle.run_trace.specs.declared.entry.Entry.{Entry}
use Rattle.run_trace.specs.declared.label.Label.{Label}
use Rattle.run_trace.specs.Program.{Program}
use Rattle.run_trace.specs.Cluster.{Event, Net, fresh_net}
use Rattle.run_trace.specs.Trace.{Fits, IsRun, net_after_trace}
use Rattle.run_trace.specs.Histories.{IsInOrder, Joins}
use Rattle.run_trace.specs.Spots.{Ready, On, Spots, at_first}
use Rattle.run_trace.specs.Rules.{spots_of}
use Rattle.run_trace.specs.Stands.{AreSeated, Stands}
use Rattle.run_trace.specs.World.{World}
use Rattle.run_trace.specs.Items.{Progress}
use Rattle.run_trace.specs.Obeying.{may_act, Starts, IsEntry, KeepsRules}
use Rattle.run_trace.specs.Holding.{EachHeldOnce}
use Rattle.run_trace.specs.Alone.{EachRunsAlone}
use Rattle.run_trace.specs.Legality.{Begins, AreRising, IsTold, Legal}
use Rattle.trace_laws.specs.Obeys.{world_at}
use Rattle.trace_laws.proofs.Merging.Determined.{fits_exactly}
use Rattle.trace_laws.proofs.Merging.Weave.{joined}
use Rattle.trace_laws.proofs.Outcomes.Wholes.{starts, run_whole, after_each, stands_after, alone_after_run, held_once_after_run}
use Rattle.trace_laws.proofs.Outcomes.RunLists.{seat_told, listed_ready, seats_are, no_seats}
use Rattle.trace_laws.proofs.Rules.Entries.{has_entry, Tells, run_keeps, rules_run}
use Rattle.run_trace.specs.Telling.{world_of, first_world}

pub rules_are_runs : (p : Program) (old : Spots) (base : Net) → Stands p old base → (trace : List Entry) → KeepsRules p (world_at old base) trace ↔ IsRun p base trace
rules_are_runs p old base s trace = (λ t. rules_run p old base s trace t, λ r. (run_keeps p old base s trace r).tale)

-- and so with one entry after a run
pub entry_fits : (p : Program) (old : Spots) (base : Net) → Stands p old base → (x : Entry) (xs : List Entry) → IsRun p base xs → IsEntry p (world_of p (world_at old base) xs) x ↔ Fits p (net_after_trace p base xs) x
entry_fits p old base s x xs r = (
  λ e. ((fits_exactly p base x xs).0 (rules_run p old base s (x ∷ xs) ((run_keeps p old base s xs r).tale, e))).1,
  λ f. (run_keeps p old base s (x ∷ xs) ((fits_exactly p base x xs).1 (r, f))).tale.1,
)

-- a trace goes on with each act that may be
pub rules_go_on : (p : Program) (old : Spots) (base : Net) → Stands p old base → (trace : List Entry) → KeepsRules p (world_at old base) trace → (stamp n round : ℕ) (a : Act) (first : Progress)
    → may_act p n ((world_of p (world_at old base) trace).begun n) a ≡ true → Starts p stamp n a (world_of p (world_at old base) trace) first
    → (ls : List Label) × KeepsRules p (world_at old base) ((record { stamp = stamp; node = n; round = round; act = a; labels = ls }) ∷ trace)
rules_go_on p old base s trace t stamp n round a first may o =
    let r : IsRun p base trace = rules_run p old base s trace t in
    let told : Tells p old base trace = run_keeps p old base s trace r in
    let one = has_entry p (spots_of p old trace) (net_after_trace p base trace) (run_whole p old base s trace r).stands stamp n round a first
    (subst (λ (z : World). may_act p n (z.begun n) a ≡ true) (sym told.same) may) (subst (λ z. Starts p stamp n a z first) (sym told.same) o) in
    (one.0, (t, subst (λ z. IsEntry p z (record { stamp = stamp; node = n; round = round; act = a; labels = one.0 })) told.same one.1))

-- nodes and links are what the labels tell
pub told_after : (p : Program) (old : Spots) (base : Net) → Stands p old base → (trace : List Entry) → IsRun p base trace → IsTold p (world_of p (world_at old base) trace) (net_after_trace p base trace)
told_after p old base s trace r =
    let t : Tells p old base trace = run_keeps p old base s trace r in
    record {
      stands = subst (λ (z : World). Stands p z.spots (net_after_trace p base trace)) t.same (run_whole p old base s trace r).stands;
      links = λ i j. ap (λ (z : World). z.links i j) t.same;
      begun = λ n. ap (λ (z : World). z.begun n) t.same;
      talks = λ n. ap (λ (z : World). z.talks n) t.same;
    }

pub whole : (p : Program) (trace : List Entry) → IsInOrder trace → Begins p trace → AreRising trace → IsRun p (fresh_net p) trace → Legal p trace
whole p trace order begins rounds runs = record {
  order = order;
  begins = begins;
  rounds = rounds;
  rules = (rules_are_runs p (at_first p) (fresh_net p) (starts p) trace).1 runs;
  runs = runs;
  stands = after_each (λ net xs. IsTold p (world_of p (first_world p) xs) net) p (λ xs r. told_after p (at_first p) (fresh_net p) (starts p) xs r) trace runs;
  alone = after_each (EachRunsAlone p) p (alone_after_run p) trace runs;
  one_holder = after_each (λ net xs. EachHeldOnce net) p (held_once_after_run p) trace runs;
}

-- by the labels alone
pub whole_by_rules : (p : Program) (trace : List Entry) → IsInOrder trace → Begins p trace → AreRising trace → KeepsRules p (first_world p) trace → Legal p trace
whole_by_rules p trace order begins rounds tale = whole p trace order begins rounds ((rules_are_runs p (at_first p) (fresh_net p) (starts p) trace).0 tale)

pub joined_whole : (p : Program) (trace : List Entry) (h : ℕ → List Event) → Begins p trace → AreRising trace → Joins p (fresh_net p) trace h → Legal p trace
joined_whole p trace h begins rounds j = whole p trace j.order begins rounds (joined p (fresh_net p) trace h j).legal

-- ## Places, by what is told

module _ (p : Program) (old : Spots) (base : Net) (s : Stands p old base) (trace : List Entry) (rules : KeepsRules p (world_at old base) trace) where
  told : IsTold p (world_of p (world_at old base) trace) (net_after_trace p base trace)
  told = told_after p old base s trace ((rules_are_runs p old base s trace).0 rules)

  pub place_told : (n : ℕ) (t : Tid) → (seats t ((world_of p (world_at old base) trace).spots.forests n) ≡ 1) ↔ (((world_of p (world_at old base) trace).spots.threads t).life ≡ On n Ready)
  place_told n t = seat_told p (world_of p (world_at old base) trace).spots (net_after_trace p base trace) told.stands n t

  pub listed_told : (n : ℕ) (t : Tid) → is_listed t ((world_of p (world_at old base) trace).spots.forests n) ≡ true → ((world_of p (world_at old base) trace).spots.threads t).life ≡ On n Ready
  listed_told n t h = listed_ready p (world_of p (world_at old base) trace).spots (net_after_trace p base trace) told.stands n t h

-- ## Places after a legal trace

module _ (p : Program) (trace : List Entry) (l : Legal p trace) where
  abbrev net : Net
  net = net_after_trace p (fresh_net p) trace

  abbrev spots : Spots
  spots = spots_of p (at_first p) trace

  stands : Stands p spots net
  stands = stands_after p trace l.runs

  pub forest_after : (n : ℕ) → IsForest (net.nodes n).forest
  forest_after n = subst (λ f. IsForest f) (sym (stands.nodes n).forest) (stands.seated n).forest

  pub once_after : (n : ℕ) (t : Tid) (x : Thread) → IsOn net n t x → is_unwaiting x ≡ true → seats t (net.nodes n).forest ≡ 1
  once_after n t x on waits = seats_are p spots net stands n t x on ∙ ap (λ v. cond v 1 0) waits

  pub none_after : (n : ℕ) (t : Tid) → ((x : Thread) → IsOn net n t x → is_unwaiting x ≡ false) → seats t (net.nodes n).forest ≡ 0
  none_after n t none = no_seats p spots net stands n t none

  pub seated_after : (n : ℕ) → AreSeated p n spots
  seated_after n = stands.seated n
