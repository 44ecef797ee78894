-- What an entry makes of the nodes and of the links, in code and in the definition.
use Rattle.std.proofs.Common.{◌≡◌, ℕ, zero, suc, ◌<◌, ◌≤◌, ◌≢◌, inl, inr, List, [], ◌∷◌, ◌++◌, Option, Some, None, false, cond, eqb, ltb, refl, sym, ap, ◌∙◌, subst, arith, length, get_or, set, get_or-set_same, get_or-set_other}
use Rattle.std.proofs.lemmas.Bool.{le-ltb, eqb-true, eqb-false, cases_Bool, cases_lt}
use mathlib.Core.Path.{fun_ext}
use Rattle.run_trace.specs.declared.entry.Act.{Act}
use Rattle.run_trace.specs.declared.entry.Act.TheVariants.{Boot, Run, Take, Move}
use Rattle.run_trace.specs.declared.entry.Entry.{Entry}
use Rattle.run_trace.specs.declared.packet.Packet.{Packet}
use Rattle.run_trace.specs.declared.packet.Send.{Send}
use Rattle.run_trace.specs.Program.{Program, nodes_of}
use Rattle.run_trace.specs.Local.{Local, EventSoFar, fresh}
use Rattle.run_trace.specs.Machine.{local_event, is_range}
use Rattle.run_trace.specs.Cluster.{Net, next_packet, IsTaken, net_after, after_or, fresh_net}
use Rattle.run_trace.specs.Trace.{Fits, event_of, done_for, sends_or}
use Rattle.node_state.specs.declared.output.EventOutput.{EventOutput}
use Rattle.node_state.specs.Events.{event_of as doing_of}
use Rattle.run_judge.specs.declared.flights.Flight.{Flight}
use Rattle.run_judge.specs.Links.{link_of, next_on, flights_of}
use Rattle.run_judge.specs.Nets.{net_in, LeftBy}
use Rattle.run_judge.proofs.LinkLemmas.{link_append, link_sent}
use Rattle.run_trace.specs.Links.{left_after, packets_to}

-- no node stands at this number
pub outside : (p : Program) (me : ℕ) (s : Local) (act : Act) (took : Option Packet) → nodes_of p ≤ me → local_event p me s act took ≡ None
unfolding local_event is_range
outside p me s Boot took h = let f : ltb me (nodes_of p) ≡ false = le-ltb me (nodes_of p) h in rw f refl
outside p me s (Run vp quantum) took h = let f : ltb me (nodes_of p) ≡ false = le-ltb me (nodes_of p) h in rw f refl
outside p me s (Take from) took h = let f : ltb me (nodes_of p) ≡ false = le-ltb me (nodes_of p) h in rw f refl
outside p me s (Move t to) took h = let f : ltb me (nodes_of p) ≡ false = le-ltb me (nodes_of p) h in rw f refl

pub fresh_more : (f : ℕ → Local) (xs : List Local) → ((n : ℕ) → get_or xs n (f n) ≡ f n) → (n : ℕ) → get_or (xs ++ f (length xs) ∷ []) n (f n) ≡ f n
fresh_more f [] h zero = refl
fresh_more f [] h (suc n) = refl
fresh_more f (x ∷ xs) h zero = h zero
fresh_more f (x ∷ xs) h (suc n) = fresh_more (λ k. f (suc k)) xs (λ k. h (suc k)) n

same_net : (a b : Net) → ((n : ℕ) → a.nodes n ≡ b.nodes n) → ((i j : ℕ) → a.links i j ≡ b.links i j) → a ≡ b
same_net a b f g =
    let ns : a.nodes ≡ b.nodes = fun_ext f in
    let ls : a.links ≡ b.links = fun_ext (λ i. fun_ext (g i)) in
    let one : a ≡ record { nodes = b.nodes; links = a.links } = ap (λ (h : ℕ → Local). record { nodes = h; links = a.links }) ns in
    one ∙ ap (λ (h : ℕ → ℕ → List Packet). record { nodes = b.nodes; links = h }) ls

pub fresh_is : (p : Program) (nodes : List Local) → ((n : ℕ) → get_or nodes n (fresh p n) ≡ fresh p n) → net_in p nodes [] ≡ fresh_net p
fresh_is p nodes h = same_net (net_in p nodes []) (fresh_net p) h (λ i j. refl)

module _ (p : Program) (nodes : List Local) (old : List Flight) (x : Entry) where
  abbrev net : Net
  net = net_in p nodes old

  abbrev here : Local
  here = get_or nodes x.node (fresh p x.node)

  next_at : (act : Act) (j : ℕ) → next_on old j act ≡ next_packet net j act
  next_at Boot j = refl
  next_at (Run vp quantum) j = refl
  next_at (Take from) j = refl
  next_at (Move t to) j = refl

  next_same : (took : Option Packet) → took ≡ next_on old x.node x.act → took ≡ next_packet net x.node x.act
  next_same took h = h ∙ next_at x.act x.node

  done_is : (took : Option Packet) → took ≡ next_on old x.node x.act → done_for p net x ≡ local_event p x.node here x.act took
  done_is took h = ap (λ (o : Option Packet). local_event p x.node here x.act o) (sym (next_same took h))

  pub in_time : (took : Option Packet) → took ≡ next_on old x.node x.act → Fits p net x → IsTaken x.stamp x.act took
  in_time took h f = subst (λ (o : Option Packet). IsTaken x.stamp x.act o) (sym (next_same took h)) f.takes

  pub no_event : (took : Option Packet) → took ≡ next_on old x.node x.act → local_event p x.node here x.act took ≡ None → Fits p net x → ⊥
  no_event took h none f = let e : Some f.done ≡ None = sym f.is ∙ done_is took h ∙ none in absurd (cc e)

  pub its_labels : (took : Option Packet) (node : Local) (done : EventOutput) → took ≡ next_on old x.node x.act → local_event p x.node here x.act took ≡ Some (doing_of node done)
      → Fits p net x → x.labels ≡ done.labels
  its_labels took node done h is f =
      let e : Some f.done ≡ Some (doing_of node done) = sym f.is ∙ done_is took h ∙ is in
      let g : f.done ≡ doing_of node done = cc e in
      f.labels ∙ ap (λ (d : EventSoFar). d.labels) g

  pub fits : (took : Option Packet) (node : Local) (done : EventOutput) → took ≡ next_on old x.node x.act → local_event p x.node here x.act took ≡ Some (doing_of node done)
      → IsTaken x.stamp x.act took → x.labels ≡ done.labels → Fits p net x
  fits took node done h is t l = record {
    done = doing_of node done;
    is = done_is took h ∙ is;
    labels = l;
    takes = subst (λ (o : Option Packet). IsTaken x.stamp x.act o) (next_same took h) t;
  }

  within : (took : Option Packet) (d : EventSoFar) → length nodes ≡ nodes_of p → local_event p x.node here x.act took ≡ Some d → x.node < length nodes
  within took d count is = elim (cases_lt x.node (length nodes)) as (λ _. x.node < length nodes) [
    | inl l ↦ l
    | inr g ↦ let e : None ≡ Some d = sym (outside p x.node here x.act took (omega arith)) ∙ is in absurd (cc e)
  ]

  nodes_after : (took : Option Packet) (node : Local) (done : EventOutput) → length nodes ≡ nodes_of p → took ≡ next_on old x.node x.act
      → local_event p x.node here x.act took ≡ Some (doing_of node done)
      → (n : ℕ) → get_or (set nodes x.node node) n (fresh p n) ≡ (net_after p net (event_of p net x)).nodes n
  nodes_after took node done count h is n =
      elim (cases_Bool (eqb x.node n)) as (λ _. get_or (set nodes x.node node) n (fresh p n) ≡ (net_after p net (event_of p net x)).nodes n) [
        | inl t ↦ let lt : x.node < length nodes = within took (doing_of node done) count is in
            let same : x.node ≡ n = eqb-true x.node n t in
            let left : get_or (set nodes x.node node) x.node (fresh p x.node) ≡ node = get_or-set_same nodes x.node node (fresh p x.node) lt in
            let right : after_or (done_for p net x) here ≡ node = ap (λ (o : Option EventSoFar). after_or o here) (done_is took h ∙ is) in
            rw t (subst (λ m. get_or (set nodes x.node node) m (fresh p m) ≡ after_or (local_event p m (get_or nodes m (fresh p m)) x.act (next_packet net x.node x.act)) (get_or nodes m (fresh p m))) same (left ∙ sym right))
        | inr f ↦ let ne : n ≢ x.node = λ e. eqb-false x.node n f (sym e) in
            rw f (get_or-set_other nodes x.node n node (fresh p n) ne)
      ]

  links_after : (took : Option Packet) (node : Local) (done : EventOutput) (mid new : List Flight) → took ≡ next_on old x.node x.act
      → local_event p x.node here x.act took ≡ Some (doing_of node done) → LeftBy x.node x.act old mid → new ≡ mid ++ flights_of x.node x.stamp done.sends
      → (i j : ℕ) → link_of new i j ≡ (net_after p net (event_of p net x)).links i j
  links_after took node done mid new h is left sent i j =
      let sends : sends_or (done_for p net x) ≡ done.sends = ap sends_or (done_is took h ∙ is) in
      ap (λ fs. link_of fs i j) sent ∙ link_append mid (flights_of x.node x.stamp done.sends) i j
      ∙ ap (λ ps. ps ++ link_of (flights_of x.node x.stamp done.sends) i j) (left i j)
      ∙ ap (λ ps. cond (eqb x.node j) (left_after i x.act (link_of old i j)) (link_of old i j) ++ ps)
      (link_sent x.node x.stamp done.sends i j ∙ ap (λ (ss : List Send). cond (eqb x.node i) (packets_to j x.stamp ss) []) (sym sends))

  pub advances : (took : Option Packet) (node : Local) (done : EventOutput) (after : List Local) (mid new : List Flight) → length nodes ≡ nodes_of p → took ≡ next_on old x.node x.act
      → local_event p x.node here x.act took ≡ Some (doing_of node done) → after ≡ set nodes x.node node → LeftBy x.node x.act old mid
      → new ≡ mid ++ flights_of x.node x.stamp done.sends → net_in p after new ≡ net_after p net (event_of p net x)
  advances took node done after mid new count h is set_ left sent =
      same_net (net_in p after new) (net_after p net (event_of p net x))
      (λ n. ap (λ ns. get_or ns n (fresh p n)) set_ ∙ nodes_after took node done count h is n)
      (links_after took node done mid new h is left sent)
