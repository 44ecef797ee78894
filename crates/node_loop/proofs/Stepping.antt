-- What a step in code comes to, in the words of a turn.
use Rattle.std.proofs.Common.{◌≡◌, ◌≢◌, ℕ, suc, ◌+◌, ◌<◌, ◌≤◌, List, [], ◌∷◌, ◌++◌, max, Option, Some, None, Bool, true, false, Ok, Err, cond, ltb, refl, sym, ap, ◌∙◌, subst, arith}
use Rattle.std.specs.Prelude.{nat_lt, ◌&&◌, Result, OnErr}
use Rattle.std.proofs.lemmas.Bool.{lt-ltb}
use Rattle.std.proofs.lemmas.Bool.Decides.{nat_tests}
use Rattle.std.proofs.lemmas.List.{append-nil}
use Rattle.std.proofs.Math.Nat.{max-le}
use Rattle.run_trace.specs.declared.entry.Act.{Act}
use Rattle.run_trace.specs.declared.entry.Act.TheVariants.{Boot, Run, Take, Move}
use Rattle.run_trace.specs.declared.entry.Entry.{Entry}
use Rattle.run_trace.specs.declared.packet.Packet.{Packet}
use Rattle.run_trace.specs.declared.packet.Send.{Send}
use Rattle.run_trace.specs.Program.{Program, nodes_of}
use Rattle.run_trace.specs.Local.{Local, EventSoFar, fresh, nothing}
use Rattle.run_trace.specs.Machine.{local_event, turn_event, is_beyond, is_range, acts, boots, stamp_limit}
use Rattle.run_trace.specs.Cluster.{taken_of}
use Rattle.run_trace.specs.Histories.{IsShape, seen}
use Rattle.wires.specs.declared.ends.Ends.{Ends}
use Rattle.wires.specs.Ends.{received_from, known_from}
use Rattle.basics.proofs.Lemmas.{by_eq}
use Rattle.wires.proofs.Lemmas.{stays_trans}
use Rattle.node_state.specs.declared.output.EventOutput.{EventOutput}
use Rattle.node_state.specs.Events.{Answers, event_of}
use Rattle.node_loop.specs.View.{NodeView, clock_limit, unbooted}
use Rattle.node_loop.specs.Turns.{StaysKnown, TakesKnown, Carries, CarriesNothing, IsImpossible, IsInRange, IsLost, Turns}
use Rattle.node_loop.specs.Links.{TakesFirst, Took, Reserved, Sent, Rests, Records}
use Rattle.node_loop.specs.declared.node.Turned.{Turned}
use Rattle.node_loop.specs.declared.node.Turned.TheVariants.{Did, Idle}
use Rattle.node_loop.proofs.Booted.{turn_booted, boot_booted, StaysBooted}
use Rattle.node_loop.proofs.Wiring.{boot_takes, nothing_carried}
use Rattle.run_trace.specs.Links.{packets_to}

-- a packet counts for less than the limit
seen_small : (o : Option Packet) → seen o < clock_limit
unfolding stamp_limit
seen_small None = omega arith
seen_small (Some packet) = by (ltb packet.stamp clock_limit) refl
  where
    by : (b : Bool) → ltb packet.stamp clock_limit ≡ b → cond b packet.stamp 0 < clock_limit
    by true e = grind (arith, nat_tests)
    by false e = omega arith

-- the next stamp stays within what a node may count to
pub stamp_within : (clock k : ℕ) (o : Option Packet) → clock ≤ clock_limit + k → suc (max clock (seen o)) ≤ clock_limit + k + 1
stamp_within clock k o h =
    let most : max clock (seen o) ≤ clock_limit + k = max-le {a = clock} {b = seen o} {k = clock_limit + k} h (omega (arith, seen_small o)) in omega (arith, most)

-- a Take without a packet has no event
pub takes_nothing : (p : Program) (me : ℕ) (s : Local) (from : ℕ) → local_event p me s (Take from) None ≡ None
unfolding local_event
takes_nothing p me s from = by (is_range p me s (Take from))
  where
    by : (b : Bool) → cond {A = Option EventSoFar} b None None ≡ None
    by true = refl
    by false = refl

-- a node that takes a packet has an event for it
takes_some : (p : Program) (me : ℕ) (s : Local) (from : ℕ) (packet : Packet) → me < nodes_of p → s.booted ≡ true → from < nodes_of p
    → turn_event p me s (Take from) (Some packet) ≡ None → ⊥
unfolding local_event is_range
takes_some p me s from packet m b f e = by (is_beyond (Some packet)) e
  where
    range : (nat_lt me (nodes_of p) && (s.booted && nat_lt from (nodes_of p))) ≡ true
    range = rw (lt-ltb me (nodes_of p) m, b, lt-ltb from (nodes_of p) f) refl

    by : (c : Bool) → cond c (Some (nothing s)) (cond (is_range p me s (Take from)) (acts p me s (Take from) (Some packet)) None) ≡ None → ⊥
    by true h = cc h
    by false h = let some : cond (is_range p me s (Take from)) (acts p me s (Take from) (Some packet)) None ≡ acts p me s (Take from) (Some packet) = ap (λ z. cond z (acts p me s (Take from) (Some packet)) None) range in cc (h, some)

-- where there is an event, the act has taken what it takes
shape_of : (p : Program) (me : ℕ) (s : Local) (act : Act) (o : Option Packet) (d : EventSoFar) (ends : Ends Packet) → TakesFirst ends act o → turn_event p me s act o ≡ Some d → IsShape act o
shape_of p me s Boot o d ends f e = f
shape_of p me s (Run vp quantum) o d ends f e = f
shape_of p me s (Move t to) o d ends f e = f
shape_of p me s (Take from) (Some packet) d ends f e = tt
shape_of p me s (Take from) None d ends f e = absurd (cc (e, takes_nothing p me s from))

known_of : (act : Act) (o : Option Packet) (ends : Ends Packet) → TakesFirst ends act o → TakesKnown ends act o
known_of Boot o ends f = tt
known_of (Run vp quantum) o ends f = tt
known_of (Move t to) o ends f = tt
known_of (Take from) (Some packet) ends f = f
known_of (Take from) None ends f = λ p ps e. absurd (cc (e, f))

-- what the links carry where there is no event
record IsStill (v : NodeView) (act : Act) (new : Ends Packet) : Type 0 where
  impossible : IsImpossible v act
  links : CarriesNothing v.ends new

still : (v : NodeView) (act : Act) (o : Option Packet) (new : Ends Packet) → v.me < nodes_of v.program → v.state.booted ≡ true → IsInRange v act → Took act o v.ends new
    → turn_event v.program v.me v.state act o ≡ None → IsStill v act new
still v act o new m b r t e = record { impossible = impossible act o r t.first e; links = record { node = t.node; wide = t.wide; received = λ k. t.received k ∙ (ap (λ zs. received_from v.ends k ++ zs) (none act o k r t.first e) ∙ append-nil (received_from v.ends k)); sent = t.sent; known = known act o r t.first t.known e; wired = t.wired } }
  where
    impossible : (a : Act) (o : Option Packet) → IsInRange v a → TakesFirst v.ends a o → turn_event v.program v.me v.state a o ≡ None → IsImpossible v a
    impossible Boot o r f e = absurd r
    impossible (Run vp quantum) o r f e = subst (λ z. turn_event v.program v.me v.state (Run vp quantum) z ≡ None) f e
    impossible (Move u to) o r f e = subst (λ z. turn_event v.program v.me v.state (Move u to) z ≡ None) f e
    impossible (Take from) None r f e = f
    impossible (Take from) (Some packet) r f e = absurd (takes_some v.program v.me v.state from packet m b r e)

    known : (a : Act) (o : Option Packet) → IsInRange v a → TakesFirst v.ends a o → ((k : ℕ) → a ≢ Take k → StaysKnown k v.ends new) → turn_event v.program v.me v.state a o ≡ None → (k : ℕ) → StaysKnown k v.ends new
    known Boot o r f t e k = absurd r
    known (Run vp quantum) o r f t e k = t k (λ h. absurd (cc h))
    known (Move u to) o r f t e k = t k (λ h. absurd (cc h))
    known (Take from) (Some packet) r f t e k = absurd (takes_some v.program v.me v.state from packet m b r e)
    known (Take from) None r f t e k = λ p ps h. by_eq k from
        (λ same. let some : known_from v.ends from ≡ p ∷ ps = subst (λ i. known_from v.ends i ≡ p ∷ ps) same h in absurd (cc (some, f)))
        (λ ne. t k (λ same. (let is : from ≡ k = cc same in absurd (ne (sym is)))) p ps h)

    none : (a : Act) (o : Option Packet) (k : ℕ) → IsInRange v a → TakesFirst v.ends a o → turn_event v.program v.me v.state a o ≡ None → taken_of k a o ≡ []
    none Boot o k r f e = refl
    none (Run vp quantum) o k r f e = refl
    none (Move u to) o k r f e = refl
    none (Take from) None k r f e = refl
    none (Take from) (Some packet) k r f e = absurd (takes_some v.program v.me v.state from packet m b r e)

-- ## A step: v is the node before it, in code, and w as it is seen; it has taken, and `new` is what is left then

-- what was taken is lost, with the state
pub lost : (v w new : NodeView) (act : Act) (o : Option Packet) (state : Local) (ends : Ends Packet) → v ≡ w → Took act o v.ends ends → Rests (record v { state = state; ends = ends }) new → IsLost w new
lost v w new act o state ends e t h = subst (λ x. IsLost x new) e (record {
  program = ap (λ (x : NodeView). x.program) h.same;
  me = ap (λ (x : NodeView). x.me) h.same;
  clock = ap (λ (x : NodeView). x.clock) h.same;
  round = ap (λ (x : NodeView). x.round) h.same;
  entries = ap (λ (x : NodeView). x.entries) h.same;
  console = ap (λ (x : NodeView). x.console) h.same;
  node = h.links.node ∙ t.node;
  wide = h.links.wide ∙ t.wide;
  sent = λ k. h.links.sent k ∙ t.sent k;
  received = λ k. (taken_of k act o, h.links.received k ∙ t.received k);
  wired = stays_trans v.ends ends new.ends t.wired h.links.wired;
})

pub rests : (v : NodeView) → Rests v v
rests v = record { same = refl; links = nothing_carried v.ends }

-- there was room for all, and then the entry was written and its packets sent
pub records : (v w new : NodeView) (stamp : ℕ) (act : Act) (done : EventOutput) (b c : Ends Packet) (sends : List Send) (entries : List Entry) (console : List ℕ) → v ≡ w
    → new ≡ record v { clock = stamp; entries = entries; console = console; ends = c }
    → entries ≡ v.entries ++ (record { stamp = stamp; node = v.me; round = v.round; act = act; labels = done.labels }) ∷ []
    → console ≡ v.console ++ done.prints → sends ≡ done.sends → Reserved v.ends b → Sent stamp sends b c → Records stamp act done w new
records v w new stamp act done b c sends entries console e n xs bytes same r s =
    let all : Sent stamp done.sends b c = subst (λ ys. Sent stamp ys b c) same s in
    subst (λ x. Records stamp act done x new) e
    (subst (λ (x : NodeView). Records stamp act done v x)
    (sym (n ∙ (ap (λ (ys : List Entry). record v { clock = stamp; entries = ys; console = console; ends = c }) xs ∙ ap (λ ys. recorded_with ys) bytes)))
    (record {
      after = refl;
      links = record {
        node = all.node ∙ r.nothing.node;
        wide = all.wide ∙ r.nothing.wide;
        received = λ k. all.received k ∙ r.nothing.received k;
        sent = λ k l. all.sent k (omega (arith, l, r.nothing.wide)) ∙ ap (λ zs. zs ++ packets_to k stamp done.sends) (r.nothing.sent k);
        spare = λ k. omega (arith, r.spare k, all.spare k);
        known = λ k p ps e. all.known k p ps (r.nothing.known k p ps e);
        wired = stays_trans v.ends b c r.nothing.wired all.wired;
      };
    }))
  where
    recorded_with : List ℕ → NodeView
    recorded_with ys = record v {
      clock = stamp;
      entries = v.entries ++ (record { stamp = stamp; node = v.me; round = v.round; act = act; labels = done.labels }) ∷ [];
      console = ys;
      ends = c;
    }

-- no event, and nothing has changed
pub idles : (v w new : NodeView) (act : Act) (state : Local) (ends : Ends Packet) (packet : Option Packet) (o : Option EventOutput) → v ≡ w → new ≡ record v { state = state; ends = ends }
    → v.me < nodes_of v.program → w.state.booted ≡ true → IsInRange w act → Took act packet v.ends ends
    → Answers (turn_event v.program v.me v.state act packet) v.state state o → o ≡ None → Turns w act new Idle
idles v w new act state ends packet o e n m b r t h none =
    let same = subst (λ z. Answers (turn_event v.program v.me v.state act packet) v.state state z) none h in
    let booted : v.state.booted ≡ true = subst (λ (x : NodeView). x.state.booted ≡ true) (sym e) b in
    let range : IsInRange v act = subst (λ x. IsInRange x act) (sym e) r in
    let s = still v act packet ends m booted range t same.0 in
    subst (λ x. Turns x act new Idle) e
    (subst (λ (x : NodeView). Turns v act x Idle) (sym (n ∙ ap (λ (z : Local). record v { state = z; ends = ends }) same.1))
    (record { impossible = s.impossible; same = refl; links = s.links }))

carries : (act : Act) (o : Option Packet) (stamp : ℕ) (done : EventOutput) (a b c : Ends Packet) → Took act o a b → Sent stamp done.sends b c → Carries act o stamp done.sends a c
carries act o stamp done a b c t s = record {
  node = s.node ∙ t.node;
  wide = s.wide ∙ t.wide;
  received = λ k. s.received k ∙ t.received k;
  sent = λ k l. s.sent k (omega (arith, l, t.wide)) ∙ ap (λ zs. zs ++ packets_to k stamp done.sends) (t.sent k);
  known = λ k ne p ps e. s.known k p ps (t.known k ne p ps e);
  wired = stays_trans a b c t.wired s.wired;
}

-- an event, and its entry is written
pub does : (v w new : NodeView) (act : Act) (state : Local) (ends : Ends Packet) (packet : Option Packet) (o : Option EventOutput) (done : EventOutput) (stamp : ℕ) → v ≡ w
    → Records stamp act done (record v { state = state; ends = ends }) new
    → Took act packet v.ends ends → stamp ≡ suc (max v.clock (seen packet))
    → Answers (turn_event v.program v.me v.state act packet) v.state state o → o ≡ Some done → Turns w act new Did
does v w new act state ends packet o done stamp e n t k h some =
    let did : turn_event v.program v.me v.state act packet ≡ Some (event_of state done) = subst (λ z. Answers (turn_event v.program v.me v.state act packet) v.state state z) some h in
    let written : Records (suc (max v.clock (seen packet))) act done (record v { state = state; ends = ends }) new = subst (λ i. Records i act done (record v { state = state; ends = ends }) new) k n in
    subst (λ x. Turns x act new Did) e (record {
      took = packet;
      done = event_of state done;
      shape = shape_of v.program v.me v.state act packet (event_of state done) v.ends t.first did;
      known = known_of act packet v.ends t.first;
      is = did;
      after = written.after;
      links = carries act packet (suc (max v.clock (seen packet))) done v.ends ends new.ends t written.links;
    })

-- it has begun, still
pub still_booted : (old new : NodeView) (act : Act) → old.state.booted ≡ true → (t : Turned) → Turns old act new t → new.state.booted ≡ true
still_booted old new act b Idle h = ap (λ (v : NodeView). v.state.booted) h.same ∙ b
still_booted old new act b Did h = ap (λ (v : NodeView). v.state.booted) h.after
    ∙ subst (λ o. StaysBooted true o) h.is (turn_booted old.program old.me old.state act h.took b)

-- ## The beginning

-- what has come of beginning, from a fresh node
abbrev pub Boots : Program → ℕ → Local → Local → Option EventOutput → Type 0
Boots p n old new o = Answers (local_event p n old Boot None) old new o

-- a node that is to begin can
pub begins_somehow : (p : Program) (n : ℕ) → n < nodes_of p → (old new : Local) (o : Option EventOutput) → old ≡ fresh p n → Boots p n old new o → o ≡ None → ⊥
unfolding local_event is_range
begins_somehow p n l old new o f h none =
    let nothing_done = subst (λ z. Boots p n (fresh p n) new z) none (subst (λ s. Boots p n s new o) f h) in
    let some : local_event p n (fresh p n) Boot None ≡ Some (boots p n (nothing (fresh p n))) = ap (λ b. cond (b && true) (Some (boots p n (nothing (fresh p n)))) None) (lt-ltb n (nodes_of p) l) in
    cc (nothing_done.0, some)

-- what it has done is a turn
pub has_begun : (p : Program) (n : ℕ) (ends : Ends Packet) (old node : Local) (o : Option EventOutput) (done : EventOutput) (before new : NodeView) → old ≡ fresh p n → Boots p n old node o → o ≡ Some done
    → before ≡ record (unbooted p n ends) { state = node } → Records 1 Boot done before new → Turns (unbooted p n ends) Boot new Did
has_begun p n ends old node o done before new f h some b r =
    let did = subst (λ s. Boots p n s node o) f h in
    let written : Records 1 Boot done (record (unbooted p n ends) { state = node }) new = subst (λ x. Records 1 Boot done x new) b r in
    does (unbooted p n ends) (unbooted p n ends) new Boot node ends None o done 1 refl written (boot_takes ends) refl did some

pub begun_booted : (p : Program) (n : ℕ) (ends : Ends Packet) (new : NodeView) → Turns (unbooted p n ends) Boot new Did → new.state.booted ≡ true
begun_booted p n ends new h = ap (λ (v : NodeView). v.state.booted) h.after ∙ booted h.took h.shape h.is
  where
    booted : (o : Option Packet) → o ≡ None → turn_event p n (fresh p n) Boot o ≡ Some h.done → h.done.node.booted ≡ true
    booted o none e = subst (λ z. StaysBooted true z) (subst (λ z. turn_event p n (fresh p n) Boot z ≡ Some h.done) none e) (boot_booted p n (fresh p n))

-- whatever has come of a call, this holds where it has failed
pub if_err : {T E P : Type 0} (r : Result T E) → P → OnErr r P
if_err (Ok x) p = tt
if_err (Err e) p = p
