-- No entry is of a node that isn't there, and what was received on a link and is on it is what was on it and was sent.
use Rattle.std.proofs.Common.{◌≡◌, ℕ, ◌<◌, ◌≤◌, inr, List, [], ◌∷◌, ◌++◌, length, true, cond, eqb, refl, sym, ap, ◌∙◌, subst, arith}
use Rattle.std.specs.Prelude.{⊤, nat_lt}
use Rattle.std.proofs.lemmas.Bool.{ltb-true, ne_eqb}
use Rattle.std.proofs.lemmas.List.{length-append}
use Rattle.run_trace.specs.declared.entry.Act.{Act}
use Rattle.run_trace.specs.declared.entry.Act.TheVariants.{Boot, Run, Take, Move}
use Rattle.run_trace.specs.declared.entry.Entry.{Entry}
use Rattle.run_trace.specs.declared.packet.Packet.{Packet}
use Rattle.run_trace.specs.Cluster.{Event, Happens, Net, fresh_net, received, sent, taken_of}
use Rattle.run_trace.specs.Histories.{own_entries}
use Rattle.run_trace.specs.Links.{packets_to}
use Rattle.run_trace.specs.Local.{Local}
use Rattle.run_trace.specs.Machine.{is_range}
use Rattle.run_trace.specs.Program.{Program, nodes_of}
use Rattle.run_trace.specs.Trace.{IsRun, event_of, events_of, net_after_trace}
use Rattle.trace_laws.proofs.Lemmas.{link_is, run_inside}
use Rattle.cluster.specs.Standing.{net_after}
use Rattle.cluster.proofs.NodeTurns.{and_first, in_range}
use Rattle.cluster.proofs.Runs.{net_joined}

-- ## Entries

below : (p : Program) (n : ℕ) (s : Local) (a : Act) → is_range p n s a ≡ true → n < nodes_of p
unfolding is_range
below p n s Boot e = ltb-true n (nodes_of p) (and_first (nat_lt n (nodes_of p)) _ e)
below p n s (Run vp quantum) e = ltb-true n (nodes_of p) (and_first (nat_lt n (nodes_of p)) _ e)
below p n s (Take from) e = ltb-true n (nodes_of p) (and_first (nat_lt n (nodes_of p)) _ e)
below p n s (Move t to) e = ltb-true n (nodes_of p) (and_first (nat_lt n (nodes_of p)) _ e)

-- each is of one of so many nodes
abbrev AreOf : ℕ → List Event → Type 0
AreOf many [] = ⊤
AreOf many (e ∷ es) = (e.node < many) × AreOf many es

pub run_below : (p : Program) (base : Net) (xs : List Entry) → IsRun p base xs → AreOf (nodes_of p) (events_of p base xs)
run_below p base [] r = tt
run_below p base (x ∷ xs) r =
    let net : Net = net_after_trace p base xs in
    let h : Happens p net (event_of p net x) = r.1 in
    (below p x.node (net.nodes x.node) x.act (in_range p x.node (net.nodes x.node) x.act (event_of p net x).took h.step.done h.step.is), run_below p base xs r.0)

pub own_out : (p : Program) (base : Net) (n : ℕ) → nodes_of p ≤ n → (xs : List Entry) → IsRun p base xs → own_entries n xs ≡ []
own_out p base n l [] r = refl
own_out p base n l (x ∷ xs) r =
    let here : x.node < nodes_of p = (run_below p base (x ∷ xs) r).0 in
    ap (λ b. cond b (x ∷ own_entries n xs) (own_entries n xs)) (ne_eqb x.node n (λ e. absurd (omega (arith, e, here, l)))) ∙ own_out p base n l xs r.0

none_sent : (many i j : ℕ) → many ≤ i → (es : List Event) → AreOf many es → sent i j es ≡ []
none_sent many i j l [] h = refl
none_sent many i j l (e ∷ es) h =
    ap (λ ps. ps ++ cond (eqb e.node i) (packets_to j e.stamp e.sends) []) (none_sent many i j l es h.1)
    ∙ ap (λ b. cond b (packets_to j e.stamp e.sends) []) (ne_eqb e.node i (λ k. absurd (omega (arith, k, l, h.0))))

none_received : (many i j : ℕ) → many ≤ j → (es : List Event) → AreOf many es → received i j es ≡ []
none_received many i j l [] h = refl
none_received many i j l (e ∷ es) h =
    ap (λ ps. ps ++ cond (eqb e.node j) (taken_of i e.act e.took) []) (none_received many i j l es h.1)
    ∙ ap (λ b. cond b (taken_of i e.act e.took) []) (ne_eqb e.node j (λ k. absurd (omega (arith, k, l, h.0))))

-- ## Two parts of a run

pub run_since : (p : Program) (base : Net) (old new : List Entry) → IsRun p base (new ++ old) → IsRun p (net_after_trace p base old) new
run_since p base old [] r = tt
run_since p base old (x ∷ new) r = (run_since p base old new r.0, subst (λ net. Happens p net (event_of p net x)) (sym (net_joined p base old new)) r.1)

end_none : (xs ys : List Packet) → xs ++ ys ≡ [] → ys ≡ []
end_none [] ys e = e
end_none (x ∷ xs) ys e = absurd (cc e)

front_none : (xs ys : List Packet) → xs ++ ys ≡ ys → xs ≡ []
front_none [] ys e = refl
front_none (x ∷ xs) ys e = absurd (omega (arith, ap length e, length-append (x ∷ xs) ys))

module _ (p : Program) (before kept : List Entry) (run : IsRun p (fresh_net p) (kept ++ before)) where
  -- the events of the kept part
  abbrev pub since : List Event
  since = events_of p (net_after p before) kept

  run_kept : IsRun p (net_after p before) kept
  run_kept = run_since p (fresh_net p) before kept run

  pub own_past : (n : ℕ) → nodes_of p ≤ n → own_entries n kept ≡ []
  own_past n l = own_out p (net_after p before) n l kept run_kept

  pub held : (i j : ℕ) → received i j since ++ (net_after p (kept ++ before)).links i j ≡ (net_after p before).links i j ++ sent i j since
  held i j = ap (λ (net : Net). received i j since ++ net.links i j) (sym (net_joined p (fresh_net p) before kept)) ∙ link_is p (net_after p before) since run_kept i j

  pub sent_past : (i j : ℕ) → nodes_of p ≤ i → sent i j since ≡ []
  sent_past i j l = none_sent (nodes_of p) i j l since (run_below p (net_after p before) kept run_kept)

  pub received_past : (i j : ℕ) → nodes_of p ≤ j → received i j since ≡ []
  received_past i j l = none_received (nodes_of p) i j l since (run_below p (net_after p before) kept run_kept)

  -- nothing is sent to a node that isn't there
  pub sent_out : (i j : ℕ) → nodes_of p ≤ j → sent i j since ≡ []
  sent_out i j l =
      end_none ((net_after p before).links i j) (sent i j since)
      (sym (held i j) ∙ ap (λ ps. ps ++ (net_after p (kept ++ before)).links i j) (received_past i j l) ∙ (run_inside p (kept ++ before) run).links i j (inr l))

  -- where what was received and is on the link is what was sent, nothing was on it before
  pub nothing_before : (i j : ℕ) → received i j since ++ (net_after p (kept ++ before)).links i j ≡ sent i j since → (net_after p before).links i j ≡ []
  nothing_before i j e = front_none ((net_after p before).links i j) (sent i j since) (sym (held i j) ∙ e)
