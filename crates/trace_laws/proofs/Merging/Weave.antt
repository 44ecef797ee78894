-- The histories of the nodes, woven into one by the merged entries.
use Rattle.std.proofs.Common.{◌≡◌, ℕ, List, [], ◌∷◌, ◌++◌, Bool, true, false, eqb, cond, refl, sym, ap, ◌∙◌, subst}
use Rattle.std.specs.Prelude.{map}
use Rattle.std.proofs.lemmas.Bool.{eq-eqb, eqb-true}
use Rattle.std.proofs.lemmas.List.{append-nil}
use Rattle.run_trace.specs.Program.{Program}
use Rattle.run_trace.specs.declared.entry.Entry.{Entry}
use Rattle.run_trace.specs.Cluster.{Event, own, received, sent, taken_of, IsAbove, IsDescending, IsLocalRun, Merges, Runs, Net, net_of, state}
use Rattle.run_trace.specs.Trace.{entry_of, events_of, IsRun}
use Rattle.run_trace.specs.Histories.{taken_from, sent_to, own_entries, IsEntryAbove, IsInOrder, Joins}
use Rattle.trace_laws.proofs.Merging.Merge.{merges_runs, node_is, link_is}
use Rattle.trace_laws.proofs.Merging.Determined.{determined}
use Rattle.run_trace.specs.Links.{packets_to}

no_lines : (es : List Event) → map entry_of es ≡ [] → es ≡ []
no_lines [] h = refl
no_lines (e ∷ es) h = absurd (cc h)

split : (es : List Event) (x : Entry) (xs : List Entry) → map entry_of es ≡ x ∷ xs → (e : Event) × (rest : List Event) × (es ≡ e ∷ rest) × (entry_of e ≡ x) × (map entry_of rest ≡ xs)
split [] x xs h = absurd (cc h)
split (e ∷ es) x xs h = (e, es, refl, cc h, cc h)

abbrev Woven : List Entry → (ℕ → List Event) → Type 0
Woven trace h = (events : List Event) × (map entry_of events ≡ trace) × ((n : ℕ) → own n events ≡ h n)

weave : (trace : List Entry) (h : ℕ → List Event) → ((n : ℕ) → map entry_of (h n) ≡ own_entries n trace) → Woven trace h
weave [] h l = ([], refl, λ n. sym (no_lines (h n) (l n)))
weave (x ∷ xs) h l =
    let P : Bool → Type 0 = λ v. map entry_of (h x.node) ≡ cond v (x ∷ own_entries x.node xs) (own_entries x.node xs) in
    let here : map entry_of (h x.node) ≡ x ∷ own_entries x.node xs = subst P (eq-eqb x.node x.node refl) (l x.node) in
    let s = split (h x.node) x (own_entries x.node xs) here in
    let e : Event = s.0 in
    let rest : List Event = s.1 in
    let left : ℕ → List Event = λ n. cond (eqb x.node n) rest (h n) in
    let left_lines : (n : ℕ) → map entry_of (left n) ≡ own_entries n xs = λ n.
    elim (eqb x.node n) as (λ v. eqb x.node n ≡ v → map entry_of (h n) ≡ cond v (x ∷ own_entries n xs) (own_entries n xs) → map entry_of (cond v rest (h n)) ≡ own_entries n xs) [
      | true ↦ λ t k. subst (λ m. map entry_of rest ≡ own_entries m xs) (eqb-true x.node n t) s.4
      | false ↦ λ t k. k
    ] refl (l n) in
    let w : Woven xs left = weave xs left left_lines in
    let node : e.node ≡ x.node = ap (λ (y : Entry). y.node) s.3 in
    let owns : (n : ℕ) → own n (e ∷ w.0) ≡ h n = λ n.
    subst (λ m. cond (eqb m n) (e ∷ own n w.0) (own n w.0) ≡ h n) (sym node)
    (elim (eqb x.node n) as (λ v. eqb x.node n ≡ v → own n w.0 ≡ cond v rest (h n) → cond v (e ∷ own n w.0) (own n w.0) ≡ h n) [
      | true ↦ λ t k. ap (λ es. e ∷ es) k ∙ sym s.2 ∙ ap h (eqb-true x.node n t)
      | false ↦ λ t k. k
    ] refl (w.2 n)) in
    (e ∷ w.0, cc (s.3, w.1), owns)

pub received_own : (i j : ℕ) (events : List Event) → received i j events ≡ taken_from i (own j events)
received_own i j [] = refl
received_own i j (e ∷ before) = elim (eqb e.node j) as (λ v. received i j before ++ cond v (taken_of i e.act e.took) [] ≡ taken_from i (cond v (e ∷ own j before) (own j before)))
    [ true ↦ ap (λ ps. ps ++ taken_of i e.act e.took) (received_own i j before) | false ↦ append-nil (received i j before) ∙ received_own i j before ]

pub sent_own : (i j : ℕ) (events : List Event) → sent i j events ≡ sent_to j (own i events)
sent_own i j [] = refl
sent_own i j (e ∷ before) = elim (eqb e.node i) as (λ v. sent i j before ++ cond v (packets_to j e.stamp e.sends) [] ≡ sent_to j (cond v (e ∷ own i before) (own i before)))
    [ true ↦ ap (λ ps. ps ++ packets_to j e.stamp e.sends) (sent_own i j before) | false ↦ append-nil (sent i j before) ∙ sent_own i j before ]

above : (e : Event) (events : List Event) → IsEntryAbove (entry_of e) (map entry_of events) → IsAbove e events
above e [] h = tt
above e (x ∷ xs) h = (h.0, above e xs h.1)

descending : (events : List Event) → IsInOrder (map entry_of events) → IsDescending events
descending [] h = tt
descending (e ∷ before) h = (above e before h.0, descending before h.1)

merges : (prog : Program) (base : Net) (trace : List Entry) (h : ℕ → List Event) → Joins prog base trace h → (w : Woven trace h) → Merges prog base w.0
merges prog base trace h j w = record {
  order = descending w.0 (subst (λ xs. IsInOrder xs) (sym w.1) j.order);
  local = λ n. subst (λ es. IsLocalRun prog n (base.nodes n) es) (sym (w.2 n)) (j.local n);
  links = λ a b. rw (received_own a b w.0, sent_own a b w.0, w.2 b, w.2 a) (j.links a b);
}

pub record Joined (prog : Program) (base : Net) (trace : List Entry) (h : ℕ → List Event) : Type 0 where
  pub legal : IsRun prog base trace
  pub nodes : (n : ℕ) → (net_of prog base (events_of prog base trace)).nodes n ≡ state prog n (base.nodes n) (h n)
  pub links : (i j : ℕ) → taken_from i (h j) ++ (net_of prog base (events_of prog base trace)).links i j ≡ base.links i j ++ sent_to j (h i)

pub joined : (prog : Program) (base : Net) (trace : List Entry) (h : ℕ → List Event) → Joins prog base trace h → Joined prog base trace h
joined prog base trace h j =
    let w : Woven trace h = weave trace h j.entries in
    let runs : Runs prog base w.0 = merges_runs prog base w.0 (merges prog base trace h j w) in
    let same : events_of prog base trace ≡ w.0 = ap (events_of prog base) (sym w.1) ∙ determined prog base w.0 runs in
    record {
      legal = subst (λ es. Runs prog base es) (sym same) runs;
      nodes = λ n. ap (λ es. (net_of prog base es).nodes n) same ∙ node_is prog base w.0 n ∙ ap (state prog n (base.nodes n)) (w.2 n);
      links = λ a b. ap (λ es. taken_from a (h b) ++ (net_of prog base es).links a b) same ∙ subst (λ es. taken_from a es ++ (net_of prog base w.0).links a b ≡ base.links a b ++ sent_to b (h a)) (w.2 b) (ap (λ ps. ps ++ (net_of prog base w.0).links a b) (sym (received_own a b w.0)) ∙ link_is prog base w.0 runs a b ∙ ap (λ ps. base.links a b ++ ps) (sent_own a b w.0 ∙ ap (sent_to b) (w.2 a)));
    }
