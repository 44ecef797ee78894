-- No stamp of nodes put together reaches the limit, so none of their packets is a stray by its stamp.
use Rattle.std.proofs.Common.{◌≡◌, ℕ, ◌+◌, ◌<◌, ◌≤◌, List, [], ◌∷◌, ◌++◌, Option, Some, None, Bool, true, false, eqb, ltb, cond, refl, sym, ap, ◌∙◌, subst, arith, ◌⊎◌, inl, inr}
use Rattle.std.specs.Prelude.{⊤, max, length, not}
use Rattle.std.proofs.lemmas.Bool.{eq-eqb, lt-ltb}
use Rattle.run_trace.specs.declared.entry.Act.{Act}
use Rattle.run_trace.specs.declared.entry.Act.TheVariants.{Boot, Run, Take, Move}
use Rattle.run_trace.specs.declared.packet.Packet.{Packet}
use Rattle.run_trace.specs.declared.packet.Send.{Send}
use Rattle.run_trace.specs.Program.{Program}
use Rattle.run_trace.specs.Local.{Local, nothing}
use Rattle.run_trace.specs.Machine.{local_event, is_beyond, stamp_limit}
use Rattle.run_trace.specs.Cluster.{Net, state, IsTaken, IsStep, IsLocalRun, own, taken_of, received, sent, IsAbove, IsDescending, Merges, after_or, Runs}
use Rattle.run_trace.specs.Histories.{Turn, seen, IsShape, IsStamped, turn_state, clock, IsTurn, IsHistory}
use Rattle.trace_laws.specs.Gathers.{events_in, own_turns, AllWithin, IsReached, RoundsReached, Gathers}
use Rattle.trace_laws.proofs.Merging.Merge.{merges_runs}
use Rattle.run_trace.specs.Links.{packets_to}

abbrev HasStamp : ℕ → List Turn → Type 0
HasStamp s [] = ⊥
HasStamp s (x ∷ xs) = (s ≡ x.event.stamp) ⊎ HasStamp s xs

-- a stamp that is known: of the base, or of one of these
abbrev Known : ℕ → List Turn → ℕ → Type 0
Known c all s = (s ≤ c) ⊎ HasStamp s all

abbrev AllKnown : ℕ → List Turn → List Packet → Type 0
AllKnown c all [] = ⊤
AllKnown c all (p ∷ ps) = Known c all p.stamp × AllKnown c all ps

abbrev pub IsAtMost : ℕ → List Turn → Type 0
IsAtMost s [] = ⊤
IsAtMost s (e ∷ before) = (e.event.stamp ≤ s) × IsAtMost s before

module _ (prog : Program) (c : ℕ) (all : List Turn) where
  known_append : (ps qs : List Packet) → AllKnown c all ps → AllKnown c all qs → AllKnown c all (ps ++ qs)
  known_append [] qs a b = b
  known_append (p ∷ ps) qs a b = (a.0, known_append ps qs a.1 b)

  known_left : (ps qs : List Packet) → AllKnown c all (ps ++ qs) → AllKnown c all ps
  known_left [] qs a = tt
  known_left (p ∷ ps) qs a = (a.0, known_left ps qs a.1)

  known_right : (ps qs : List Packet) → AllKnown c all (ps ++ qs) → AllKnown c all qs
  known_right [] qs a = a
  known_right (p ∷ ps) qs a = known_right ps qs a.1

  known_within : (ps : List Packet) → AllWithin c ps → AllKnown c all ps
  known_within [] a = tt
  known_within (p ∷ ps) a = (inl a.0, known_within ps a.1)

  known_packets : (b : Bool) (j s : ℕ) (xs : List Send) → Known c all s → AllKnown c all (cond b (packets_to j s xs) [])
  known_packets false j s xs k = tt
  known_packets true j s [] k = tt
  known_packets true j s (x ∷ xs) k = elim (eqb x.to j) as (λ v. AllKnown c all (cond v ((record { stamp = s; body = x.body }) ∷ packets_to j s xs) (packets_to j s xs))) [ true ↦ (k, known_packets true j s xs k) | false ↦ known_packets true j s xs k ]

  known_sent : (i j : ℕ) (es : List Turn) → ((s : ℕ) → HasStamp s es → HasStamp s all) → AllKnown c all (sent i j (events_in es))
  known_sent i j [] f = tt
  known_sent i j (e ∷ before) f = known_append _ _ (known_sent i j before (λ s h. f s (inr h))) (known_packets (eqb e.event.node i) j e.event.stamp e.event.sends (inr (f e.event.stamp (inl refl))))

  -- each packet taken has a known stamp
  abbrev Took : Act → Option Packet → Type 0
  Took (Take i) (Some p) = Known c all p.stamp
  Took (Take i) None = ⊤
  Took Boot o = ⊤
  Took (Run vp quantum) o = ⊤
  Took (Move t to) o = ⊤

  abbrev EachTook : List Turn → Type 0
  EachTook [] = ⊤
  EachTook (e ∷ before) = Took e.event.act e.event.took × EachTook before

  took_known : (n : ℕ) (a : Act) (o : Option Packet) → ((i j : ℕ) → AllKnown c all (cond (eqb n j) (taken_of i a o) [])) → Took a o
  took_known n (Take i) (Some p) h =
      let g : AllKnown c all (cond (eqb i i) (p ∷ []) []) = subst (λ v. AllKnown c all (cond v (cond (eqb i i) (p ∷ []) []) [])) (eq-eqb n n refl) (h i n) in
      (subst (λ v. AllKnown c all (cond v (p ∷ []) [])) (eq-eqb i i refl) g).0
  took_known n (Take i) None h = tt
  took_known n Boot o h = tt
  took_known n (Run vp q) o h = tt
  took_known n (Move t to) o h = tt

  took_each : (es : List Turn) → ((i j : ℕ) → AllKnown c all (received i j (events_in es))) → EachTook es
  took_each [] h = tt
  took_each (e ∷ before) h = (took_known e.event.node e.event.act e.event.took (λ i j. known_right (received i j (events_in before)) _ (h i j)), took_each before (λ i j. known_left (received i j (events_in before)) _ (h i j)))

  -- ## The bound

  reached_within : (k b : ℕ) (es : List Turn) → c ≤ k → IsAtMost k es → IsReached c b es → b ≤ k
  reached_within k b [] l a r = omega arith
  reached_within k b (x ∷ xs) l a r = elim r as (λ v. b ≤ k) [ inl h ↦ omega (arith, a.0) | inr h ↦ reached_within k b xs l a.1 h ]

  has_within : (k s : ℕ) (es : List Turn) → IsAtMost k es → HasStamp s es → s ≤ k
  has_within k s [] a h = absurd h
  has_within k s (x ∷ xs) a h = elim h as (λ v. s ≤ k) [ inl e ↦ omega (arith, a.0) | inr g ↦ has_within k s xs a.1 g ]

  at_most_own : (k n : ℕ) (es : List Turn) → IsAtMost k es → IsAtMost k (own_turns n es)
  at_most_own k n [] a = tt
  at_most_own k n (e ∷ es) a = elim (eqb e.event.node n) as (λ v. IsAtMost k (cond v (e ∷ own_turns n es) (own_turns n es))) [ true ↦ (a.0, at_most_own k n es a.1) | false ↦ at_most_own k n es a.1 ]

  at_most_more : (k l : ℕ) (es : List Turn) → k ≤ l → IsAtMost k es → IsAtMost l es
  at_most_more k l [] h a = tt
  at_most_more k l (e ∷ es) h a = (omega (arith, a.0), at_most_more k l es h a.1)

  clock_within : (k d : ℕ) (es : List Turn) → d ≤ k → IsAtMost k es → clock d es ≤ k
  clock_within k d [] h a = h
  clock_within k d (e ∷ es) h a = a.0

  above_at_most : (e : Turn) (before : List Turn) → IsAbove e.event (events_in before) → IsAtMost e.event.stamp before
  above_at_most e [] h = tt
  above_at_most e (x ∷ xs) h = (elim h.0 as (λ v. x.event.stamp ≤ e.event.stamp) [ inl l ↦ omega arith | inr r ↦ omega (arith, r.0) ], above_at_most e xs h.1)

  -- a stamp is at most one above the clock, the last stamp and the packet's, and above the packet's
  stamped : (e : Turn) (last : ℕ) (a : Act) → IsShape a e.event.took → IsStamped last e a → (e.event.stamp ≤ 1 + max e.began (max last (seen e.event.took))) × (seen e.event.took < e.event.stamp)
  stamped e last Boot s h = (omega (arith, h), subst (λ o. seen o < e.event.stamp) (sym s) (omega (arith, h)))
  stamped e last (Run vp q) s h = (omega (arith, h), omega (arith, h))
  stamped e last (Take i) s h = (omega (arith, h), omega (arith, h))
  stamped e last (Move t to) s h = (omega (arith, h), omega (arith, h))

  -- of all events, those that are not among these are not below these
  abbrev Rest : List Turn → Type 0
  Rest es = (s : ℕ) → HasStamp s all → HasStamp s es ⊎ IsAtMost s es

  rest_before : (e : Turn) (before : List Turn) → IsAbove e.event (events_in before) → Rest (e ∷ before) → Rest before
  rest_before e before a r s h = elim (r s h) as (λ v. HasStamp s before ⊎ IsAtMost s before) [
    | inl g ↦ elim g as (λ v. HasStamp s before ⊎ IsAtMost s before) [ inl same ↦ inr (subst (λ v. IsAtMost v before) (sym same) (above_at_most e before a)) | inr b ↦ inl b ]
    | inr g ↦ inr g.1
  ]

  seen_within : (k : ℕ) (e : Turn) (before : List Turn) → c ≤ k → IsAtMost k before → Rest (e ∷ before) → (a : Act) (o : Option Packet) → IsShape a o → Took a o → seen o < e.event.stamp → seen o ≤ k
  seen_within k e before l b r Boot o s t h = subst (λ v. seen v ≤ k) (sym s) (omega arith)
  seen_within k e before l b r (Run vp q) o s t h = subst (λ v. seen v ≤ k) (sym s) (omega arith)
  seen_within k e before l b r (Move x to) o s t h = subst (λ v. seen v ≤ k) (sym s) (omega arith)
  seen_within k e before l b r (Take i) None s t h = omega arith
  seen_within k e before l b r (Take i) (Some p) s t h = by_test (ltb p.stamp stamp_limit) h
    where
      older : p.stamp < e.event.stamp → p.stamp ≤ k
      older g = elim t as (λ v. p.stamp ≤ k) [
        | inl base ↦ omega arith
        | inr has ↦ elim (r p.stamp has) as (λ v. p.stamp ≤ k) [
          | inl here ↦ elim here as (λ v. p.stamp ≤ k) [ inl same ↦ absurd (omega arith) | inr old ↦ has_within k p.stamp before b old ]
          | inr not_below ↦ absurd (omega (arith, not_below.0))
        ]
      ]

      by_test : (v : Bool) → cond v p.stamp 0 < e.event.stamp → cond v p.stamp 0 ≤ k
      by_test true g = older g
      by_test false g = omega arith

  module _ (base : Net) (clocks : ℕ → ℕ) (within : (n : ℕ) → clocks n ≤ c) where
    history_before : (n : ℕ) (e : Turn) (before : List Turn) → IsHistory prog n (clocks n) (base.nodes n) (own_turns n (e ∷ before)) → IsHistory prog n (clocks n) (base.nodes n) (own_turns n before)
    history_before n e before = elim (eqb e.event.node n) as (λ v. IsHistory prog n (clocks n) (base.nodes n) (cond v (e ∷ own_turns n before) (own_turns n before)) → IsHistory prog n (clocks n) (base.nodes n) (own_turns n before)) [ true ↦ λ h. h.0 | false ↦ λ h. h ]

    newest : (e : Turn) (before : List Turn) → IsHistory prog e.event.node (clocks e.event.node) (base.nodes e.event.node) (own_turns e.event.node (e ∷ before)) → IsTurn prog e.event.node (clock (clocks e.event.node) (own_turns e.event.node before)) (turn_state prog e.event.node (base.nodes e.event.node) (own_turns e.event.node before)) e
    newest e before h = let P : Bool → Type 0 = λ v. IsHistory prog e.event.node (clocks e.event.node) (base.nodes e.event.node) (cond v (e ∷ own_turns e.event.node before) (own_turns e.event.node before)) in (subst P (eq-eqb e.event.node e.event.node refl) h).1

    bounded : (es : List Turn) → IsDescending (events_in es) → ((n : ℕ) → IsHistory prog n (clocks n) (base.nodes n) (own_turns n es)) → EachTook es → RoundsReached c es → Rest es → IsAtMost (c + length es) es
    bounded [] o l t g r = tt
    bounded (e ∷ before) o l t g r =
        let k : ℕ = c + length before in
        let b : IsAtMost k before = bounded before o.1 (λ n. history_before n e before (l n)) t.1 g.1 (rest_before e before o.0 r) in
        let s = newest e before (l e.event.node) in
        let last : ℕ = clock (clocks e.event.node) (own_turns e.event.node before) in
        let stamp : (e.event.stamp ≤ 1 + max e.began (max last (seen e.event.took))) × (seen e.event.took < e.event.stamp) = stamped e last e.event.act s.shape s.stamp in
        let began : e.began ≤ k = reached_within k e.began before (omega arith) b g.0 in
        let own_last : last ≤ k = clock_within k (clocks e.event.node) (own_turns e.event.node before) (omega (arith, within e.event.node)) (at_most_own k e.event.node before b) in
        let packet : seen e.event.took ≤ k = seen_within k e before (omega arith) b r e.event.act e.event.took s.shape t.0 stamp.1 in
        let here : e.event.stamp ≤ k + 1 = omega (arith, stamp.0, began, own_last, packet) in
        (omega (arith, here), at_most_more k (c + length (e ∷ before)) before (omega arith) b)

  -- ## No packet is a stray by its stamp, so a history is a run of the cluster's machine

  abbrev Fits_all : List Turn → Type 0
  Fits_all [] = ⊤
  Fits_all (e ∷ before) = (is_beyond e.event.took ≡ false) × Fits_all before

  known_below : (k s : ℕ) → c ≤ k → IsAtMost k all → k < stamp_limit → Known c all s → ltb s stamp_limit ≡ true
  known_below k s l a f h = lt-ltb s stamp_limit (elim h as (λ v. s < stamp_limit) [ inl g ↦ omega arith | inr g ↦ (let m : s ≤ k = has_within k s all a g in omega arith) ])

  not_beyond : (k : ℕ) → c ≤ k → IsAtMost k all → k < stamp_limit → (a : Act) (o : Option Packet) → IsShape a o → Took a o → is_beyond o ≡ false
  not_beyond k l b f (Take i) (Some p) s t = rw (known_below k p.stamp l b f t)
  not_beyond k l b f (Take i) None s t = refl
  not_beyond k l b f Boot o s t = rw s
  not_beyond k l b f (Run vp q) o s t = rw s
  not_beyond k l b f (Move x to) o s t = rw s

  taken : (e : Turn) (last : ℕ) (a : Act) (o : Option Packet) → IsShape a o → is_beyond o ≡ false → seen o < e.event.stamp → IsTaken e.event.stamp a o
  taken e last (Take i) (Some p) s n h = by_test (ltb p.stamp stamp_limit) n h
    where
      by_test : (v : Bool) → not v ≡ false → cond v p.stamp 0 < e.event.stamp → p.stamp < e.event.stamp
      by_test true m g = g
      by_test false m g = absurd (cc m)
  taken e last (Take i) None s n h = s
  taken e last Boot o s n h = s
  taken e last (Run vp q) o s n h = s
  taken e last (Move x to) o s n h = s

  step_of : (me last : ℕ) (s r : Local) (e : Turn) → r ≡ s → is_beyond e.event.took ≡ false → IsTurn prog me last r e → IsStep prog me s e.event
  step_of me last s r e same n t = record {
    done = t.done;
    is = subst (λ q. local_event prog me q e.event.act e.event.took ≡ Some t.done) same (rw n at t.is);
    labels = t.labels;
    sends = t.sends;
    prints = t.prints;
    takes = taken e last e.event.act e.event.took t.shape n (stamped e last e.event.act t.shape t.stamp).1;
  }

  run_of : (me d : ℕ) (base : Local) (h : List Turn) → Fits_all h → IsHistory prog me d base h → IsLocalRun prog me base (events_in h) × (turn_state prog me base h ≡ state prog me base (events_in h))
  run_of me d base [] f l = (tt, refl)
  run_of me d base (e ∷ h) f l =
      let old : IsLocalRun prog me base (events_in h) × (turn_state prog me base h ≡ state prog me base (events_in h)) = run_of me d base h f.1 l.0 in (
        (old.0, step_of me _ (state prog me base (events_in h)) (turn_state prog me base h) e old.1 f.0 l.1),
        (ap (λ b. after_or (cond b (Some (nothing (turn_state prog me base h))) (local_event prog me (turn_state prog me base h) e.event.act e.event.took)) (turn_state prog me base h)) f.0 ∙ ap (λ s. after_or (local_event prog me s e.event.act e.event.took) s) old.1),
      )

fits_own : (prog : Program) (n : ℕ) (c : ℕ) (all es : List Turn) → Fits_all prog c all es → Fits_all prog c all (own_turns n es)
fits_own prog n c all [] f = tt
fits_own prog n c all (e ∷ es) f = elim (eqb e.event.node n) as (λ v. Fits_all prog c all (cond v (e ∷ own_turns n es) (own_turns n es))) [ true ↦ (f.0, fits_own prog n c all es f.1) | false ↦ fits_own prog n c all es f.1 ]

pub own_events : (n : ℕ) (es : List Turn) → own n (events_in es) ≡ events_in (own_turns n es)
own_events n [] = refl
own_events n (e ∷ es) = elim (eqb e.event.node n) as (λ v. cond v (e.event ∷ own n (events_in es)) (own n (events_in es)) ≡ events_in (cond v (e ∷ own_turns n es) (own_turns n es)))
    [ true ↦ ap (λ xs. e.event ∷ xs) (own_events n es) | false ↦ own_events n es ]

-- no stamp is further above the clock than there are turns, and no packet is a stray by its stamp
record AreInBounds (prog : Program) (c : ℕ) (turns : List Turn) : Type 0 where
  stamps : IsAtMost (c + length turns) turns
  fits : Fits_all prog c turns turns

in_bounds : (prog : Program) (base : Net) (c : ℕ) (clocks : ℕ → ℕ) (turns : List Turn) → Gathers prog base c clocks turns → AreInBounds prog c turns
in_bounds prog base c clocks turns g =
    let sent_known : (i j : ℕ) → AllKnown c turns (base.links i j ++ sent i j (events_in turns)) = λ i j. known_append prog c turns _ _ (known_within prog c turns _ (g.packets_within i j)) (known_sent prog c turns i j turns (λ s h. h)) in
    let took : EachTook prog c turns turns = took_each prog c turns turns (λ i j. known_left prog c turns (received i j (events_in turns)) (g.links i j).0 (subst (λ ps. AllKnown c turns ps) (sym (g.links i j).1) (sent_known i j))) in
    let k : ℕ = c + length turns in
    let b : IsAtMost k turns = bounded prog c turns base clocks g.clocks_within turns g.order g.local took g.rounds (λ s h. inl h) in
    record { stamps = b; fits = fits_each k (omega arith) g.few b turns took g.local }
  where
    fits_each : (k : ℕ) → c ≤ k → k < stamp_limit → IsAtMost k turns → (es : List Turn) → EachTook prog c turns es → ((n : ℕ) → IsHistory prog n (clocks n) (base.nodes n) (own_turns n es)) → Fits_all prog c turns es
    fits_each k w f b [] t l = tt
    fits_each k w f b (e ∷ before) t l = (not_beyond prog c turns k w b f e.event.act e.event.took (newest prog c turns base clocks g.clocks_within e before (l e.event.node)).shape t.0, fits_each k w f b before t.1 (λ n. history_before prog c turns base clocks g.clocks_within n e before (l n)))

pub gathers_merges : (prog : Program) (base : Net) (c : ℕ) (clocks : ℕ → ℕ) (turns : List Turn) → Gathers prog base c clocks turns → Merges prog base (events_in turns)
gathers_merges prog base c clocks turns g =
    let b : AreInBounds prog c turns = in_bounds prog base c clocks turns g in
    record {
      order = g.order;
      links = g.links;
      local = λ n. subst (λ es. IsLocalRun prog n (base.nodes n) es) (sym (own_events n turns)) (run_of prog c turns n (clocks n) (base.nodes n) (own_turns n turns) (fits_own prog n c turns turns b.fits) (g.local n)).0;
    }

-- no stamp is further above the clock than there are turns
pub gathers_bounded : (prog : Program) (base : Net) (c : ℕ) (clocks : ℕ → ℕ) (turns : List Turn) → Gathers prog base c clocks turns → IsAtMost (c + length turns) turns
gathers_bounded prog base c clocks turns g = (in_bounds prog base c clocks turns g).stamps

-- what a node's turns leave of it is what their events leave, after each of them
pub gathers_state : (prog : Program) (base : Net) (c : ℕ) (clocks : ℕ → ℕ) (turns : List Turn) → Gathers prog base c clocks turns → (later es : List Turn) → turns ≡ later ++ es → (n : ℕ)
    → turn_state prog n (base.nodes n) (own_turns n es) ≡ state prog n (base.nodes n) (events_in (own_turns n es))
gathers_state prog base c clocks turns g later es same n =
    (run_of prog c turns n (clocks n) (base.nodes n) (own_turns n es) (fits_own prog n c turns es (fits_front later (subst (λ ts. Fits_all prog c turns ts) same (in_bounds prog base c clocks turns g).fits))) (history_front later (subst (λ ts. IsHistory prog n (clocks n) (base.nodes n) (own_turns n ts)) same (g.local n)))).1
  where
    fits_front : (xs : List Turn) → Fits_all prog c turns (xs ++ es) → Fits_all prog c turns es
    fits_front [] f = f
    fits_front (x ∷ xs) f = fits_front xs f.1

    history_front : (xs : List Turn) → IsHistory prog n (clocks n) (base.nodes n) (own_turns n (xs ++ es)) → IsHistory prog n (clocks n) (base.nodes n) (own_turns n es)
    history_front [] h = h
    history_front (x ∷ xs) h = history_front xs (history_before prog c turns base clocks g.clocks_within n x (xs ++ es) h)

pub gathered : (prog : Program) (base : Net) (c : ℕ) (clocks : ℕ → ℕ) (turns : List Turn) → Gathers prog base c clocks turns → Runs prog base (events_in turns)
gathered prog base c clocks turns g = merges_runs prog base (events_in turns) (gathers_merges prog base c clocks turns g)
