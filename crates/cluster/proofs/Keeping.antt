-- A turn of one node, after which the nodes stand for the trace with its entry.
use Rattle.std.proofs.Common.{◌≡◌, ◌≢◌, ℕ, suc, ◌-◌, ◌^◌, ◌<◌, ◌≤◌, List, [], ◌∷◌, ◌++◌, length, max, Option, Some, None, Bool, true, false, cond, refl, sym, ap, ◌∙◌, subst, arith, inl, inr}
use Rattle.std.specs.Prelude.{⊤, nat_lt, slice_get}
use Rattle.std.proofs.lemmas.Bool.{lt-ltb, eq-eqb, ne_eqb}
use Rattle.std.proofs.Math.Nat.{le-max_left, max-le, max-eq_right}
use Rattle.run_trace.specs.declared.entry.Act.{Act}
use Rattle.run_trace.specs.declared.entry.Act.TheVariants.{Boot, Run, Take, Move}
use Rattle.run_trace.specs.declared.entry.Entry.{Entry}
use Rattle.run_trace.specs.declared.packet.Packet.{Packet}
use Rattle.run_trace.specs.Program.{Program, nodes_of}
use Rattle.run_trace.specs.Local.{Local}
use Rattle.run_trace.specs.Machine.{local_event, turn_event, is_beyond, stamp_limit}
use Rattle.run_trace.specs.Cluster.{Net, fresh_net, after_or, next_packet, IsTaken}
use Rattle.run_trace.specs.Console.{console_of, printed}
use Rattle.run_trace.specs.Histories.{seen, IsShape, IsInOrder}
use Rattle.run_trace.specs.Legality.{Legal, Begins}
use Rattle.run_trace.specs.Spots.{at_first}
use Rattle.run_trace.specs.Trace.{IsRun, done_for, events_of, prints_or}
use Rattle.trace_laws.specs.Gathers.{AllWithin}
use Rattle.trace_laws.proofs.Lemmas.{fits_exactly, whole, console_after}
use Rattle.wires.specs.Ends.{known_from}
use Rattle.node_loop.proofs.Lemmas.{takes_nothing}
use Rattle.node_loop.specs.View.{NodeView, next_round, raised}
use Rattle.node_loop.specs.Turns.{IsActInRange, TakesKnown, Does, can}
use Rattle.cluster.specs.Standing.{StandsFor, IsNodeOf, NoneLater, net_after}
use Rattle.cluster.specs.View.{ClusterView, greatest_clock, round_in}
use Rattle.cluster.proofs.Clocks.{clock_within, clocks_low, next_not_below}
use Rattle.cluster.proofs.Linking.{known_first}
use Rattle.cluster.proofs.Runs.{above, later_front, links_within, higher}
use Rattle.run_trace.specs.Links.{first_of}

-- a packet that comes in time
abbrev IsTimely : ℕ → Option Packet → Type 0
IsTimely c None = ⊤
IsTimely c (Some packet) = packet.stamp ≤ c

timely : (c : ℕ) (ps : List Packet) → AllWithin c ps → IsTimely c (first_of ps)
timely c [] h = tt
timely c (p ∷ ps) h = h.0

seen_within : (c : ℕ) (o : Option Packet) → IsTimely c o → seen o ≤ c
seen_within c None h = omega arith
seen_within c (Some packet) h = by (nat_lt packet.stamp stamp_limit)
  where
    by : (b : Bool) → cond b packet.stamp 0 ≤ c
    by true = h
    by false = omega arith

not_beyond : (c : ℕ) (o : Option Packet) → IsTimely c o → c < 2 ^ 62 → is_beyond o ≡ false
unfolding stamp_limit
not_beyond c None h l = refl
not_beyond c (Some packet) h l = rw (lt-ltb packet.stamp (2 ^ 62) (omega (arith, h, l))) refl

-- where a packet is known, its first is taken
known_taken : (ps : List Packet) (o o' : Option Packet) → nat_lt 0 (length ps) ≡ true → ((q : Packet) (qs : List Packet) → ps ≡ q ∷ qs → o ≡ Some q) → first_of ps ≡ o' → o ≡ o'
known_taken [] o o' l h e = absurd (cc l)
known_taken (q ∷ qs) o o' l h e = h q qs refl ∙ e

module _ (c : ClusterView) (before kept : List Entry) (s : StandsFor c before kept) (n : ℕ) (inside : n < nodes_of c.program)
    (v : NodeView) (at : slice_get c.nodes n ≡ Some v) (act : Act) (range : IsActInRange c.program n act) (able : can v act ≡ true)
    (new : NodeView) (d : Does (raised (greatest_clock c.nodes) v) act new) where
  abbrev trace : List Entry
  trace = kept ++ before

  -- the greatest clock
  abbrev g : ℕ
  g = greatest_clock c.nodes

  abbrev p : Program
  p = c.program

  abbrev net : Net
  net = net_after p trace

  abbrev w : NodeView
  w = raised g v

  is_node : IsNodeOf c trace n v
  is_node = s.agrees.node n v at

  pub took_is : d.took ≡ next_packet net n act
  took_is = by act range able d.shape d.known
    where
      by : (a : Act) → IsActInRange p n a → can v a ≡ true → IsShape a d.took → TakesKnown v.ends a d.took → d.took ≡ next_packet net n a
      by Boot r b h k = h
      by (Run vp quantum) r b h k = h
      by (Move t to) r b h k = h
      by (Take from) r b h k = known_taken (known_from v.ends from) d.took (first_of (net.links from n)) b k (known_first c before kept s n v at inside from r)

  stamps : NoneLater g trace
  stamps = s.agrees.stamps

  low : g < 2 ^ 62 - 1
  low = clocks_low c before kept s.agrees

  next_timely : IsTimely g (next_packet net n act)
  next_timely = by act
    where
      by : (a : Act) → IsTimely g (next_packet net n a)
      by Boot = tt
      by (Run vp quantum) = tt
      by (Move t to) = tt
      by (Take from) = timely g (net.links from n) (links_within p g trace stamps from n)

  took_timely : IsTimely g d.took
  took_timely = subst (λ o. IsTimely g o) (sym took_is) next_timely

  abbrev pub stamp : ℕ
  stamp = suc g

  clock_is : w.clock ≡ g
  clock_is = max-eq_right {n = v.clock} {m = g} (clock_within c.nodes n v at)

  pub stamp_is : suc (max w.clock (seen d.took)) ≡ stamp
  stamp_is =
      let low : w.clock ≤ max w.clock (seen d.took) = le-max_left w.clock (seen d.took) in
      let high : max w.clock (seen d.took) ≤ g = max-le {a = w.clock} {b = seen d.took} {k = g} (omega (arith, clock_is)) (seen_within g d.took took_timely) in
      omega (arith, low, high, clock_is)

  abbrev pub round : ℕ
  round = next_round (round_in c)

  round_is : w.round ≡ round
  round_is = ap next_round (s.agrees.one_round n v at)

  abbrev pub x : Entry
  x = record { stamp = stamp; node = n; round = round; act = act; labels = d.done.labels }

  event_is : turn_event p n v.state act d.took ≡ local_event p n v.state act d.took
  event_is = rw (not_beyond g d.took took_timely (omega (arith, low))) refl

  did : turn_event p n v.state act d.took ≡ Some d.done
  did = subst (λ (q : Program). turn_event q n v.state act d.took ≡ Some d.done) is_node.program (subst (λ m. turn_event v.program m v.state act d.took ≡ Some d.done) is_node.me d.is)

  pub done_is : done_for p net x ≡ Some d.done
  done_is = ap (λ (l : Local). local_event p n l act (next_packet net n act)) is_node.state ∙ ap (local_event p n v.state act) (sym took_is) ∙ sym event_is ∙ did

  taken_in_time : IsTaken stamp act (next_packet net n act)
  taken_in_time = by act (next_packet net n act) next_timely refl (sym done_is)
    where
      by : (a : Act) (o : Option Packet) → IsTimely g o → o ≡ next_packet net n a → Some d.done ≡ local_event p n (net.nodes n) a (next_packet net n a) → IsTaken stamp a o
      by Boot o h i e = i
      by (Run vp quantum) o h i e = i
      by (Move t to) o h i e = i
      by (Take from) (Some packet) h i e = omega (arith, h)
      by (Take from) None h i e = absurd (cc (e ∙ ap (local_event p n (net.nodes n) (Take from)) (sym i) ∙ takes_nothing p n (net.nodes n) from))

  -- ## The trace with the entry

  pub runs : IsRun p (fresh_net p) (x ∷ trace)
  runs = (fits_exactly p (fresh_net p) x trace).1 (s.agrees.legal.runs, record { done = d.done; is = done_is; labels = refl; takes = taken_in_time })

  pub order : IsInOrder (x ∷ trace)
  order = (above g x (omega arith) trace stamps, s.agrees.legal.order)

  -- it is above the kept ones too
  pub order_kept : IsInOrder (x ∷ kept)
  order_kept = (above g x (omega arith) kept (later_front g kept before stamps), s.agrees.trace.order)

  begins : Begins p (x ∷ trace)
  begins = elim s.agrees.legal.begins as (λ z. Begins p (x ∷ trace)) [ inl none ↦ absurd (nothing none) | inr h ↦ inr (x ∷ h.0, ap (λ (xs : List Entry). x ∷ xs) h.1) ]
    where
      nothing : trace ≡ [] → ⊥
      nothing none =
          let unbooted : v.state.booted ≡ false = ap (λ (z : Local). z.booted) (sym is_node.state) ∙ ap (λ xs. ((net_after p xs).nodes n).booted) none in
          cc (unbooted, is_node.booted)

  pub legal : Legal p (x ∷ trace)
  legal = whole p (x ∷ trace) order begins (higher (round_in c) round (next_not_below (round_in c)) trace s.agrees.rounds, s.agrees.legal.rounds) runs

  -- ## What it leaves

  pub entry_is : new.entries ≡ v.entries ++ x ∷ []
  entry_is =
      ap (λ (z : NodeView). z.entries) d.after
      ∙ ap (λ k. v.entries ++ (record { stamp = k; node = v.me; round = w.round; act = act; labels = d.done.labels }) ∷ []) stamp_is
      ∙ ap (λ k. v.entries ++ (record { stamp = stamp; node = k; round = w.round; act = act; labels = d.done.labels }) ∷ []) is_node.me
      ∙ ap (λ k. v.entries ++ (record { stamp = stamp; node = n; round = k; act = act; labels = d.done.labels }) ∷ []) round_is

  pub node_is : (net_after p (x ∷ trace)).nodes n ≡ new.state
  node_is =
      ap (λ b. cond b (after_or (done_for p net x) (net.nodes n)) (net.nodes n)) (eq-eqb n n refl) ∙ ap (λ o. after_or o (net.nodes n)) done_is ∙ sym (ap (λ (z : NodeView). z.state) d.after)

  pub other_is : (m : ℕ) → n ≢ m → (net_after p (x ∷ trace)).nodes m ≡ net.nodes m
  other_is m ne = ap (λ b. cond b (after_or (local_event p m (net.nodes m) act (next_packet net n act)) (net.nodes m)) (net.nodes m)) (ne_eqb n m ne)

  pub console_is : console_of p (at_first p) (x ∷ trace) ≡ console_of p (at_first p) trace ++ d.done.prints
  console_is =
      let old : printed (events_of p (fresh_net p) trace) ≡ console_of p (at_first p) trace = console_after p trace s.agrees.legal.runs in
      let more : printed (events_of p (fresh_net p) (x ∷ trace)) ≡ console_of p (at_first p) (x ∷ trace) = console_after p (x ∷ trace) runs in
      sym more ∙ ap (λ o. printed (events_of p (fresh_net p) trace) ++ prints_or o) done_is ∙ ap (λ bs. bs ++ d.done.prints) old
