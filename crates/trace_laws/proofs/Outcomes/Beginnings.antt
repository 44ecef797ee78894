-- The beginnings of all nodes are a legal trace.
use Rattle.std.proofs.Common.{◌≡◌, ℕ, zero, suc, ◌+◌, ◌<◌, ◌≤◌, ◌%◌, List, [], ◌++◌, Option, Some, None, Bool, true, false, eqb, ltb, cond, refl, sym, ap, ◌∙◌, subst, arith, inr}
use Rattle.std.specs.Prelude.{nat_lt}
use Rattle.std.proofs.lemmas.Bool.{eq-eqb, ne_eqb, eqb-true, lt-ltb}
use Rattle.slot_space.specs.Sets.{has}
use Rattle.slot_space.specs.Addresses.{starting_slots}
use Rattle.slot_space.proofs.Lemmas.{lowest_run-some, has_run-all}
use Rattle.run_trace.specs.declared.entry.Act.TheVariants.{Boot}
use Rattle.run_trace.specs.declared.packet.Packet.{Packet}
use Rattle.run_trace.specs.declared.packet.Send.{Send}
use Rattle.run_trace.specs.Program.{Program, nodes_of, slots_in}
use Rattle.run_trace.specs.Local.{nothing, fresh, with_booted}
use Rattle.run_trace.specs.Steps.{birth, enter, thread_in, birth_in, slots_out, say}
use Rattle.run_trace.specs.Machine.{local_event, is_range, boots, boots_in, free_slot}
use Rattle.run_trace.specs.Cluster.{Net, fresh_net}
use Rattle.run_trace.specs.Trace.{IsRun, net_after_trace, sends_or, prints_or}
use Rattle.run_trace.specs.Histories.{IsInOrder, IsEntryAbove}
use Rattle.run_trace.specs.Spots.{Of_node, Nobody, is_free}
use Rattle.run_trace.specs.Legality.{first_labels, boot_entry, boot_entries, AreRising, NoneAbove, Legal}
use Rattle.trace_laws.specs.Beginnings.{BeginsSo}
use Rattle.trace_laws.proofs.Outcomes.Wholes.{own_slots}
use Rattle.trace_laws.proofs.Outcomes.Legals.{whole}
use Rattle.run_trace.specs.Links.{packets_to}

-- ## The first slot of node 0

has_zero : (p : Program) → has 0 (starting_slots (nodes_of p) (slots_in p) 0) ≡ true
has_zero p = own_slots p 0 0 ∙ some (ltb 0 (slots_in p)) (lt-ltb 0 (slots_in p) p.setup.geometry.some_slot)
  where
    some : (v : Bool) → v ≡ true → is_free 0 (cond v (Of_node (0 % nodes_of p)) Nobody) ≡ true
    some true e = let none : 0 % nodes_of p ≡ 0 = omega (arith, p.setup.geometry.some_node) in eq-eqb (0 % nodes_of p) 0 none
    some false e = absurd (cc e)

slot_zero : (p : Program) → free_slot (fresh p 0).slots.free ≡ Some 0
slot_zero p =
    let own : List ℕ = starting_slots (nodes_of p) (slots_in p) 0 in
    lowest_run-some (λ s. has s own) 1 4096 0 (omega arith)
    (has_run-all (λ s. has s own) 0 1 (λ u l. let z : 0 + u ≡ 0 = omega arith in subst (λ k. has k own ≡ true) (sym z) (has_zero p)))
    (λ k l. absurd (omega arith))

-- ## One node

boots_at : (p : Program) (n : ℕ) → nat_lt n (nodes_of p) ≡ true → local_event p n (fresh p n) Boot None ≡ Some (boots p n (nothing (fresh p n)))
unfolding local_event is_range
boots_at p n e = rw e refl

record Boots (p : Program) (n : ℕ) : Type 0 where
  labels : first_labels p n ≡ (boots p n (nothing (fresh p n))).labels
  sends : (boots p n (nothing (fresh p n))).sends ≡ []
  prints : (boots p n (nothing (fresh p n))).prints ≡ []

main_boots : (p : Program) → Boots p 0
unfolding birth enter thread_in birth_in slots_out say
main_boots p = record {
  labels = ap (λ (o : Option ℕ). (boots_in p 0 o (with_booted (nothing (fresh p 0)))).labels) (sym (slot_zero p));
  sends = ap (λ (o : Option ℕ). (boots_in p 0 o (with_booted (nothing (fresh p 0)))).sends) (slot_zero p);
  prints = ap (λ (o : Option ℕ). (boots_in p 0 o (with_booted (nothing (fresh p 0)))).prints) (slot_zero p);
}

other_boots : (p : Program) (n : ℕ) → eqb n 0 ≡ false → Boots p n
other_boots p n e = record { labels = rw e refl; sends = rw e refl; prints = rw e refl }

boots_so : (p : Program) (n : ℕ) → Boots p n
boots_so p n = elim (eqb n 0) as (λ v. eqb n 0 ≡ v → Boots p n) [ true ↦ λ e. subst (λ k. Boots p k) (sym (eqb-true n 0 e)) (main_boots p) | false ↦ λ e. other_boots p n e ] refl

pub begins_so : (p : Program) (n : ℕ) → n < nodes_of p → BeginsSo p n
begins_so p n l =
    let b : Boots p n = boots_so p n in
    record { done = boots p n (nothing (fresh p n)); is = boots_at p n (lt-ltb n (nodes_of p) l); labels = b.labels; sends = b.sends; prints = b.prints }

-- ## All nodes

record Begun (p : Program) (k : ℕ) : Type 0 where
  run : IsRun p (fresh_net p) (boot_entries p k)
  later : (m : ℕ) → k ≤ m → (net_after_trace p (fresh_net p) (boot_entries p k)).nodes m ≡ fresh p m
  links : (i j : ℕ) → (net_after_trace p (fresh_net p) (boot_entries p k)).links i j ≡ []

no_packets : (i j k : ℕ) (ls : List Send) → ls ≡ [] → cond (eqb k i) (packets_to j 1 ls) [] ≡ []
no_packets i j k ls e = elim (eqb k i) as (λ v. cond v (packets_to j 1 ls) [] ≡ []) [ true ↦ ap (packets_to j 1) e | false ↦ refl ]

still : (b : Bool) (ps qs : List Packet) → ps ≡ [] → qs ≡ [] → cond b ps ps ++ qs ≡ []
still true ps qs e f = rw (e, f) refl
still false ps qs e f = rw (e, f) refl

begun : (p : Program) (k : ℕ) → k ≤ nodes_of p → Begun p k
begun p zero l = record { run = tt; later = λ m h. refl; links = λ i j. refl }
begun p (suc k) l =
    let old : Begun p k = begun p k (omega arith) in
    let net : Net = net_after_trace p (fresh_net p) (boot_entries p k) in
    let b : BeginsSo p k = begins_so p k (omega arith) in
    let is : local_event p k (net.nodes k) Boot None ≡ Some b.done = ap (λ s. local_event p k s Boot None) (old.later k (omega arith)) ∙ b.is in
    record {
      run = (old.run, record { first = refl; step = record { done = b.done; is = is; labels = b.labels; sends = ap sends_or is; prints = ap prints_or is; takes = refl } });
      later = λ m h.
          let apart : eqb k m ≡ false = ne_eqb k m (λ e. absurd (omega (arith, e, h))) in
          rw apart (old.later m (omega arith));
      links = λ i j. still (eqb k j) (net.links i j) (cond (eqb k i) (packets_to j 1 (sends_or (local_event p k (net.nodes k) Boot None))) []) (old.links i j) (no_packets i j k _ (ap sends_or is ∙ b.sends));
    }

above_all : (p : Program) (k n : ℕ) → n ≤ k → IsEntryAbove (boot_entry p k) (boot_entries p n)
above_all p k zero l = tt
above_all p k (suc n) l = (inr (refl, omega arith), above_all p k n (omega arith))

in_order : (p : Program) (n : ℕ) → IsInOrder (boot_entries p n)
in_order p zero = tt
in_order p (suc n) = (above_all p n n (omega arith), in_order p n)

none_above : (p : Program) (n : ℕ) → NoneAbove 0 (boot_entries p n)
none_above p zero = tt
none_above p (suc n) = (omega arith, none_above p n)

rising : (p : Program) (n : ℕ) → AreRising (boot_entries p n)
rising p zero = tt
rising p (suc n) = (none_above p n, rising p n)

pub beginnings_legal : (p : Program) → Legal p (boot_entries p (nodes_of p))
beginnings_legal p = whole p (boot_entries p (nodes_of p)) (in_order p (nodes_of p)) (inr ([], refl)) (rising p (nodes_of p)) (begun p (nodes_of p) (omega arith)).run
