-- Lemmas of links between nodes. Other crates cite these alone.
use Rattle.std.proofs.Common.{List, Some, length, set, ℕ, ◌<◌, ◌≡◌, ◌≢◌}
use Rattle.std.specs.Prelude.{slice_get}
use Rattle.wires.specs.Ends.{ArePaired, BothChanged, LinkChanged, known_from, link_of, node_of, of_link, received_from, sent_to}
use Rattle.wires.specs.Link.{BothBecome, OwnBecomes}
use Rattle.wires.specs.Pairs.{PairChanged, SelfChanged}
use Rattle.wires.specs.Wires.{AreWired, CarriedNoMore, StaysWired, known_on, link_at, received_on, sent_on}
use Rattle.wires.specs.declared.ends.Ends.{Ends}
use Rattle.wires.specs.declared.link.Link.{Link}
use Rattle.wires.proofs.Above
use Rattle.wires.proofs.Pairs
use Rattle.wires.proofs.Rings
use Rattle.wires.proofs.Walk
pub use Rattle.wires.proofs.Walk.{Going}

-- ## Words of a node's ends and of all links

-- a word on the link that changed, before
pub of_before : {P : Type 0} → (f : Link P → List P) (k : ℕ) (R : Link P → Link P → Type 0) (a b : Ends P) (l : LinkChanged k R a b) → of_link f (link_of a k) ≡ f l.before
of_before = Above.of_before

-- a word on the link that changed, after
pub of_after : {P : Type 0} → (f : Link P → List P) (k : ℕ) (R : Link P → Link P → Type 0) (a b : Ends P) (l : LinkChanged k R a b) → of_link f (link_of b k) ≡ f l.after
of_after = Above.of_after

-- a word on another link is as it was
pub of_other : {P : Type 0} → (f : Link P → List P) (k i : ℕ) (R : Link P → Link P → Type 0) (a b : Ends P) (l : LinkChanged k R a b) → i ≢ k → of_link f (link_of b i) ≡ of_link f (link_of a i)
of_other = Above.of_other

-- what was sent over a link is what its sender has sent
pub sent_on-node : {P : Type 0} → (es : List (Ends P)) (i j : ℕ) (a : Ends P) → slice_get es i ≡ Some a → sent_on es i j ≡ sent_to a j
sent_on-node = Above.sent_on-node

-- what was received over a link is what its receiver has received
pub received_on-node : {P : Type 0} → (es : List (Ends P)) (i j : ℕ) (b : Ends P) → slice_get es j ≡ Some b → received_on es i j ≡ received_from b i
received_on-node = Above.received_on-node

-- what is known of a link is what its receiver knows
pub known_on-node : {P : Type 0} → (es : List (Ends P)) (i j : ℕ) (b : Ends P) → slice_get es j ≡ Some b → known_on es i j ≡ known_from b i
known_on-node = Above.known_on-node

-- where each node's ends stay wired, all stay wired
pub all_stay_wired : {P : Type 0} → (xs ys : List (Ends P)) → length ys ≡ length xs → ((i : ℕ) (a b : Ends P) → slice_get xs i ≡ Some a → slice_get ys i ≡ Some b → StaysWired a b)
    → AreWired xs → AreWired ys
all_stay_wired = Above.all_stay_wired

-- the links of a node whose ends became others are those of the new ends
pub link_at-set_same : {P : Type 0} → (es : List (Ends P)) (i k : ℕ) (b : Ends P) → i < length es → link_at (set es i b) i k ≡ link_of b k
link_at-set_same = Above.link_at-set_same

-- the links of another node are as they were
pub link_at-set_other : {P : Type 0} → (es : List (Ends P)) (i p k : ℕ) (b : Ends P) → p ≢ i → link_at (set es i b) p k ≡ link_at es p k
link_at-set_other = Above.link_at-set_other

-- ## Two nodes of a list

-- a change of both ends between two nodes is a change of that pair alone
pub pair_changed : {P : Type 0} → (i j : ℕ) (R : Link P → Link P → Link P → Link P → Type 0) (es : List (Ends P)) (a b a' b' : Ends P)
    → i < j → slice_get es i ≡ Some a → slice_get es j ≡ Some b → AreWired es
    → BothChanged R a b a' b' → StaysWired a a' → StaysWired b b' → PairChanged i j R es (set (set es i a') j b')
pair_changed = Pairs.pair_changed

-- a change of a node's link to itself is a change of that link alone
pub self_changed : {P : Type 0} → (i : ℕ) (R : Link P → Link P → Type 0) (es : List (Ends P)) (a a' : Ends P) → slice_get es i ≡ Some a → AreWired es
    → LinkChanged (node_of a) R a a' → StaysWired a a' → SelfChanged i R es (set es i a')
self_changed = Pairs.self_changed

-- two nodes of wired ones are paired; they may be one
pub paired_at : {P : Type 0} → (es : List (Ends P)) (i j : ℕ) (a b : Ends P) → AreWired es → slice_get es i ≡ Some a → slice_get es j ≡ Some b → ArePaired a b
paired_at = Pairs.paired_at

-- ## Nodes that stay wired

-- a node as it was stays wired
pub stays_refl : {P : Type 0} → (a : Ends P) → StaysWired a a
stays_refl = Rings.stays_refl

-- a node that stays wired twice stays wired
pub stays_trans : {P : Type 0} → (a b c : Ends P) → StaysWired a b → StaysWired b c → StaysWired a c
stays_trans = Rings.stays_trans

-- ## A walk over all links

-- a walk begins
pub going_on : {P : Type 0} → (es : List (Ends P)) → AreWired es → Going es es
going_on = Walk.going_on

-- a walk goes on over a pair of nodes
pub pair_going : {P : Type 0} (Q : Link P → Link P → Type 0) → (i j : ℕ) (es fs gs : List (Ends P)) → Going es fs → PairChanged i j (BothBecome Q) fs gs → Going es gs
pair_going = Walk.pair_going

-- a walk goes on over a node and itself
pub self_going : {P : Type 0} (Q : Link P → Link P → Type 0) → (i : ℕ) (es fs gs : List (Ends P)) → Going es fs → SelfChanged i (OwnBecomes Q) fs gs → Going es gs
self_going = Walk.self_going

-- after a walk no link has carried more
pub carried_no_more : {P : Type 0} → (es fs : List (Ends P)) → AreWired es → Going es fs → CarriedNoMore es fs
carried_no_more = Walk.carried_no_more
