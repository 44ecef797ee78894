-- What a run leaves on the links, how great its stamps are, and how many entries a node has.
use Rattle.std.proofs.Common.{◌≡◌, ◌≢◌, ℕ, zero, suc, ◌+◌, ◌*◌, ◌<◌, ◌≤◌, inl, inr, List, [], ◌∷◌, ◌++◌, length, Bool, true, false, cond, eqb, refl, sym, ap, ◌∙◌, subst, arith, append_assoc}
use Rattle.std.specs.Prelude.{⊤, filter, not, ◌==◌}
use Rattle.std.proofs.lemmas.Bool.{eqb-true, eq-eqb, ne_eqb}
use Rattle.std.proofs.lemmas.List.Filters.{length-filter_both}
use Rattle.run_trace.specs.declared.entry.Act.{Act}
use Rattle.run_trace.specs.declared.entry.Act.TheVariants.{Boot, Run, Take, Move}
use Rattle.run_trace.specs.declared.entry.Entry.{Entry}
use Rattle.run_trace.specs.declared.packet.Packet.{Packet}
use Rattle.run_trace.specs.declared.packet.Send.{Send}
use Rattle.run_trace.specs.Program.{Program}
use Rattle.run_trace.specs.Cluster as cluster
use Rattle.run_trace.specs.Cluster.{Net, fresh_net, taken_of, next_packet, received, sent}
use Rattle.run_trace.specs.Histories.{IsInOrder, IsEntryAbove, own_entries}
use Rattle.run_trace.specs.Legality.{NoneAbove}
use Rattle.run_trace.specs.Trace.{done_for, event_of, events_of, net_after_trace, sends_or}
use Rattle.trace_laws.specs.Gathers.{AllWithin}
use Rattle.basics.proofs.Lemmas.{by_eq}
use Rattle.cluster.specs.Standing.{NoneLater, net_after, turn_in, turns_in}
use Rattle.run_trace.specs.Links.{first_of, rest_of, left_after, packets_to}

-- ## What was received, and what the link holds, is what was sent

taken_left : (net : Net) (i j : ℕ) (a : Act) → taken_of i a (next_packet net j a) ++ left_after i a (net.links i j) ≡ net.links i j
taken_left net i j Boot = refl
taken_left net i j (Run vp quantum) = refl
taken_left net i j (Move t to) = refl
taken_left net i j (Take from) = by (eqb from i) refl (net.links from j) refl
  where
    here : eqb from i ≡ true → net.links from j ≡ net.links i j
    here e = ap (λ k. net.links k j) (eqb-true from i e)

    by : (b : Bool) → eqb from i ≡ b → (ps : List Packet) → net.links from j ≡ ps → taken_of i (Take from) (first_of ps) ++ cond b (rest_of (net.links i j)) (net.links i j) ≡ net.links i j
    by true e [] h = let none : net.links i j ≡ [] = sym (here e) ∙ h in ap rest_of none ∙ sym none
    by true e (q ∷ qs) h =
        let some : net.links i j ≡ q ∷ qs = sym (here e) ∙ h in
        ap (λ b. cond b (q ∷ []) [] ++ rest_of (net.links i j)) e ∙ ap (λ ps. q ∷ rest_of ps) some ∙ sym some
    by false e [] h = refl
    by false e (q ∷ qs) h = ap (λ b. cond b (q ∷ []) [] ++ net.links i j) e

regroup : (a b c d : List Packet) → (a ++ b) ++ (c ++ d) ≡ (a ++ (b ++ c)) ++ d
regroup a b c d = append_assoc a b (c ++ d) ∙ ap (λ z. a ++ z) (sym (append_assoc b c d)) ∙ sym (append_assoc a (b ++ c) d)

-- an entry takes off the link what it takes, and puts onto it what it sends
pub carried_one : (p : Program) (net : Net) (x : Entry) (i j : ℕ) (got gave : List Packet) → got ++ net.links i j ≡ gave
    → (got ++ cond (eqb x.node j) (taken_of i x.act (next_packet net x.node x.act)) []) ++ (cluster.net_after p net (event_of p net x)).links i j
    ≡ gave ++ cond (eqb x.node i) (packets_to j x.stamp (sends_or (done_for p net x))) []
carried_one p net x i j got gave h = regroup got t l s ∙ ap (λ z. (got ++ z) ++ s) same ∙ ap (λ z. z ++ s) h
  where
    t : List Packet
    t = cond (eqb x.node j) (taken_of i x.act (next_packet net x.node x.act)) []

    l : List Packet
    l = cond (eqb x.node j) (left_after i x.act (net.links i j)) (net.links i j)

    s : List Packet
    s = cond (eqb x.node i) (packets_to j x.stamp (sends_or (done_for p net x))) []

    by : (b : Bool) → eqb x.node j ≡ b → cond b (taken_of i x.act (next_packet net x.node x.act)) [] ++ cond b (left_after i x.act (net.links i j)) (net.links i j) ≡ net.links i j
    by true e = ap (λ k. taken_of i x.act (next_packet net k x.act) ++ left_after i x.act (net.links i j)) (eqb-true x.node j e) ∙ taken_left net i j x.act
    by false e = refl

    same : t ++ l ≡ net.links i j
    same = by (eqb x.node j) refl

pub carried_run : (p : Program) (trace : List Entry) (i j : ℕ) → received i j (events_of p (fresh_net p) trace) ++ (net_after p trace).links i j ≡ sent i j (events_of p (fresh_net p) trace)
carried_run p [] i j = refl
carried_run p (x ∷ xs) i j = carried_one p (net_after p xs) x i j (received i j (events_of p (fresh_net p) xs)) (sent i j (events_of p (fresh_net p) xs)) (carried_run p xs i j)

-- a trace in two parts leaves what the second leaves after the first
pub net_joined : (p : Program) (base : Net) (before kept : List Entry) → net_after_trace p (net_after_trace p base before) kept ≡ net_after_trace p base (kept ++ before)
net_joined p base before [] = refl
net_joined p base before (x ∷ kept) = ap (λ net. cluster.net_after p net (event_of p net x)) (net_joined p base before kept)

-- ## Stamps

pub later_all : (c d : ℕ) → c ≤ d → (trace : List Entry) → NoneLater c trace → NoneLater d trace
later_all c d l [] h = tt
later_all c d l (x ∷ xs) h = (omega (arith, l, h.0), later_all c d l xs h.1)

pub later_front : (c : ℕ) (xs ys : List Entry) → NoneLater c (xs ++ ys) → NoneLater c xs
later_front c [] ys h = tt
later_front c (x ∷ xs) ys h = (h.0, later_front c xs ys h.1)

pub above : (c : ℕ) (e : Entry) → c < e.stamp → (trace : List Entry) → NoneLater c trace → IsEntryAbove e trace
above c e l [] h = tt
above c e l (x ∷ xs) h = (inl (omega (arith, l, h.0)), above c e l xs h.1)

within_all : (c : ℕ) (xs ys : List Packet) → AllWithin c xs → AllWithin c ys → AllWithin c (xs ++ ys)
within_all c [] ys h k = k
within_all c (x ∷ xs) ys h k = (h.0, within_all c xs ys h.1 k)

sent_within : (c j stamp : ℕ) (sends : List Send) → stamp ≤ c → AllWithin c (packets_to j stamp sends)
sent_within c j stamp [] l = tt
sent_within c j stamp (x ∷ xs) l = by (eqb x.to j) (sent_within c j stamp xs l)
  where
    by : (b : Bool) → AllWithin c (packets_to j stamp xs) → AllWithin c (cond b ((record { stamp = stamp; body = x.body }) ∷ packets_to j stamp xs) (packets_to j stamp xs))
    by true h = (l, h)
    by false h = h

rest_within : (c : ℕ) (ps : List Packet) → AllWithin c ps → AllWithin c (rest_of ps)
rest_within c [] h = tt
rest_within c (p ∷ ps) h = h.1

left_within : (c i : ℕ) (act : Act) (ps : List Packet) → AllWithin c ps → AllWithin c (left_after i act ps)
left_within c i Boot ps h = h
left_within c i (Run vp quantum) ps h = h
left_within c i (Move t to) ps h = h
left_within c i (Take from) ps h = by (eqb from i)
  where
    by : (b : Bool) → AllWithin c (cond b (rest_of ps) ps)
    by true = rest_within c ps h
    by false = h

either : (c : ℕ) (b : Bool) (xs ys : List Packet) → AllWithin c xs → AllWithin c ys → AllWithin c (cond b xs ys)
either c true xs ys h k = h
either c false xs ys h k = k

-- what is under way has a stamp of the trace
pub links_within : (p : Program) (c : ℕ) (trace : List Entry) → NoneLater c trace → (i j : ℕ) → AllWithin c ((net_after p trace).links i j)
links_within p c [] h i j = tt
links_within p c (x ∷ xs) h i j =
    let net : Net = net_after p xs in
    let old : AllWithin c (net.links i j) = links_within p c xs h.1 i j in
    within_all c (cond (eqb x.node j) (left_after i x.act (net.links i j)) (net.links i j)) (cond (eqb x.node i) (packets_to j x.stamp (sends_or (done_for p net x))) [])
    (either c (eqb x.node j) (left_after i x.act (net.links i j)) (net.links i j) (left_within c i x.act (net.links i j) old) old)
    (either c (eqb x.node i) (packets_to j x.stamp (sends_or (done_for p net x))) [] (sent_within c j x.stamp (sends_or (done_for p net x)) h.0) tt)

-- ## A node has at most one entry for each stamp

abbrev OwnBelow : ℕ → ℕ → List Entry → Type 0
OwnBelow k n [] = ⊤
OwnBelow k n (x ∷ xs) = (x.node ≡ n → x.stamp < k) × OwnBelow k n xs

own_below : (e : Entry) (n : ℕ) → e.node ≡ n → (xs : List Entry) → IsEntryAbove e xs → OwnBelow e.stamp n xs
own_below e n s [] h = tt
own_below e n s (x ∷ xs) h = (λ f. elim h.0 as (λ z. x.stamp < e.stamp) [ inl l ↦ l | inr k ↦ absurd (omega (arith, k.1, f, s)) ], own_below e n s xs h.1)

own_few : (n k : ℕ) (trace : List Entry) → IsInOrder trace → OwnBelow k n trace → length (own_entries n trace) ≤ k
own_few n k [] o b = omega arith
own_few n k (x ∷ xs) o b = by (eqb x.node n) refl (λ m h. own_few n m xs o.1 h)
  where
    by : (c : Bool) → eqb x.node n ≡ c → ((m : ℕ) → OwnBelow m n xs → length (own_entries n xs) ≤ m) → length (cond c (x ∷ own_entries n xs) (own_entries n xs)) ≤ k
    by true e few =
        let here : x.node ≡ n = eqb-true x.node n e in
        let less : x.stamp < k = b.0 here in
        let fewer : length (own_entries n xs) ≤ x.stamp = few x.stamp (own_below x n here xs o.0) in
        omega (arith, less, fewer)
    by false e few = few k b.1

all_below : (k n : ℕ) (trace : List Entry) → NoneLater k trace → OwnBelow (suc k) n trace
all_below k n [] h = tt
all_below k n (x ∷ xs) h = (λ e. omega (arith, h.0), all_below k n xs h.1)

pub few_own : (n clock : ℕ) (trace : List Entry) → IsInOrder trace → NoneLater clock trace → length (own_entries n trace) ≤ suc clock
few_own n clock trace o h = own_few n (suc clock) trace o (all_below clock n trace h)

-- ## All entries of the nodes together

abbrev pub others : ℕ → List Entry → List Entry
others n xs = filter (λ x. not (x.node == n)) xs

pub own_gone : (n : ℕ) (xs : List Entry) → own_entries n (others n xs) ≡ []
own_gone n [] = refl
own_gone n (x ∷ xs) = by (eqb x.node n) refl (own_gone n xs)
  where
    by : (b : Bool) → eqb x.node n ≡ b → own_entries n (others n xs) ≡ [] → own_entries n (cond (not b) (x ∷ others n xs) (others n xs)) ≡ []
    by true e rest = rest
    by false e rest = ap (λ b. cond b (x ∷ own_entries n (others n xs)) (own_entries n (others n xs))) e ∙ rest

pub own_others : (n m : ℕ) → m ≢ n → (xs : List Entry) → own_entries m (others n xs) ≡ own_entries m xs
own_others n m ne [] = refl
own_others n m ne (x ∷ xs) = by (eqb x.node n) refl (own_others n m ne xs)
  where
    by : (b : Bool) → eqb x.node n ≡ b → own_entries m (others n xs) ≡ own_entries m xs → own_entries m (cond (not b) (x ∷ others n xs) (others n xs)) ≡ own_entries m (x ∷ xs)
    by true e rest =
        let apart : eqb x.node m ≡ false = ne_eqb x.node m (λ k. ne (sym k ∙ eqb-true x.node n e)) in
        rest ∙ sym (ap (λ b. cond b (x ∷ own_entries m xs) (own_entries m xs)) apart)
    by false e rest = ap (λ ys. cond (eqb x.node m) (x ∷ ys) ys) rest

pub none_own : (xs : List Entry) → ((n : ℕ) → own_entries n xs ≡ []) → xs ≡ []
none_own [] h = refl
none_own (x ∷ xs) h =
    let one : own_entries x.node (x ∷ xs) ≡ x ∷ own_entries x.node xs = ap (λ b. cond b (x ∷ own_entries x.node xs) (own_entries x.node xs)) (eq-eqb x.node x.node refl) in
    absurd (cc (one, h x.node))

-- so many nodes with at most so many entries each
pub few_all : (count most : ℕ) (xs : List Entry) → ((n : ℕ) → count ≤ n → own_entries n xs ≡ []) → ((n : ℕ) → n < count → length (own_entries n xs) ≤ most) → length xs ≤ count * most
few_all zero most xs none few = let empty : length xs ≡ 0 = ap length (none_own xs (λ n. none n (omega arith))) in omega (arith, empty)
few_all (suc count) most xs none few =
    let all : length (own_entries count xs) + length (others count xs) ≡ length xs = length-filter_both (λ x. x.node == count) (λ x. not (x.node == count)) (λ x. refl) xs in
    let rest : length (others count xs) ≤ count * most = few_all count most (others count xs)
    (λ n l. by_eq n count (λ e. subst (λ k. own_entries k (others count xs) ≡ []) (sym e) (own_gone count xs)) (λ ne. own_others count n ne xs ∙ none n (omega (arith, l, ne))))
    (λ n l. subst (λ k. k ≤ most) (sym (ap length (own_others count n (λ e. omega (arith, e, l)) xs))) (few n (omega (arith, l)))) in
    omega (arith, all, rest, few count (omega arith))

pub few_turns : (xs : List Entry) → turns_in xs ≤ length xs
few_turns [] = omega arith
few_turns (x ∷ xs) = omega (arith, few_turns xs, at_most_one x.act)
  where
    at_most_one : (a : Act) → turn_in a ≤ 1
    at_most_one Boot = omega arith
    at_most_one (Run vp quantum) = omega arith
    at_most_one (Take from) = omega arith
    at_most_one (Move t to) = omega arith

-- ## Rounds

pub higher : (round more : ℕ) → round ≤ more → (trace : List Entry) → NoneAbove round trace → NoneAbove more trace
higher round more l [] h = tt
higher round more l (x ∷ xs) h = (omega (arith, l, h.0), higher round more l xs h.1)
