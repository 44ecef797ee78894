-- Turns to come to slots of other nodes: what each move of nodes and packets keeps true, and what a packet of turns finds.
use Rattle.std.proofs.Common.{arith, ◌≡◌, ◌≢◌, ◌≤◌, ◌<◌, ◌+◌, ◌*◌, ◌⊎◌, inl, inr, ℕ, zero, suc, List, [], ◌∷◌, ◌++◌, Bool, true, false, eqb, cond, ◌&&◌, refl, sym, ap, ◌∙◌, subst}
use Rattle.std.specs.Prelude.{nat_lt, ⊤}
use Rattle.std.proofs.lemmas.Bool.{eq-eqb, eqb-true}
use Rattle.std.proofs.lemmas.Bool.Decides.{nat_tests}
use Rattle.std.proofs.lemmas.List.{append-nil}
use Rattle.slot_space.specs.declared.names.Tid.{Tid}
use Rattle.run_trace.specs.declared.packet.Body.{Body}
use Rattle.run_trace.specs.declared.packet.Body.TheVariants.{Want, Turn, Over}
use Rattle.run_trace.specs.declared.packet.Send.{Send}
use Rattle.run_trace.specs.Talks.{Talk, one_send, want_sends, claiming, with_claims, after_turn, again_sends, again, turn_to, listing_sends, without_first, is_wanting, is_first}
use Rattle.run_trace.specs.Items.{Item}
use Rattle.run_trace.specs.Stands.{Word, A_want, A_turn, An_over, count_by, one_want, one_turn, one_over, late_overs, one_if, some_of, times_in, turns_among, wants_among, AreInTurn}

abbrev pub Talks : Type 0
Talks = ℕ → Talk

abbrev pub TurnLinks : Type 0
TurnLinks = ℕ → ℕ → List Word

abbrev pub Tasks : Type 0
Tasks = ℕ → List Item

-- ## Words of turns that are sent

abbrev pub sent_turn : Body → List Word
sent_turn Want = A_want ∷ []
sent_turn Turn = A_turn ∷ []
sent_turn Over = An_over ∷ []
sent_turn _ = []

abbrev pub sent_turns : ℕ → List Send → List Word
sent_turns j [] = []
sent_turns j (x ∷ xs) = cond (eqb x.to j) (sent_turn x.body ++ sent_turns j xs) (sent_turns j xs)

-- ## Counts

-- 1 where the link from i to j is the one from a to b
unfoldable at : (a b i j : ℕ) → ℕ
at a b i j = one_if (eqb a i && eqb b j)

at_tells : (a b i j : ℕ) → ((i ≡ a) × (j ≡ b) × (at a b i j ≡ 1)) ⊎ ((at a b i j ≡ 0) × ((i ≢ a) ⊎ (j ≢ b)))
unfolding at
at_tells a b i j = grind (arith, nat_tests)

at_zero : (n i : ℕ) → at 0 n 0 i ≡ one_if (eqb n i)
unfolding at
at_zero n i = refl

count-append : (f : Word → ℕ) (xs ys : List Word) → count_by f (xs ++ ys) ≡ count_by f xs + count_by f ys
count-append f [] ys = omega arith
count-append f (x ∷ xs) ys = omega (arith, count-append f xs ys)

-- a word more at the end of one link
count_sent : (f : Word → ℕ) (x : Word) (xs : List Word) (a b i j : ℕ) → count_by f (xs ++ cond (eqb a i) (cond (eqb b j) (x ∷ []) []) []) ≡ count_by f xs + at a b i j * f x
unfolding at
count_sent f x xs a b i j = by (eqb a i) (eqb b j)
  where
    by : (u v : Bool) → count_by f (xs ++ cond u (cond v (x ∷ []) []) []) ≡ count_by f xs + one_if (u && v) * f x
    by true true = count-append f xs (x ∷ []) ∙ omega arith
    by true false = count-append f xs [] ∙ omega arith
    by false v = count-append f xs [] ∙ omega arith

-- the first of one link is taken
count_taken : (f : Word → ℕ) (x : Word) (xs : List Word) (a b i j : ℕ) → count_by f (cond (eqb a i && eqb b j) (x ∷ xs) xs) ≡ at a b i j * f x + count_by f xs
unfolding at
count_taken f x xs a b i j = elim (eqb a i && eqb b j) as (λ v. count_by f (cond v (x ∷ xs) xs) ≡ one_if v * f x + count_by f xs) [ true ↦ omega arith | false ↦ omega arith ]

times-push : (xs : List ℕ) (m i : ℕ) → times_in i (xs ++ m ∷ []) ≡ times_in i xs + one_if (eqb m i)
times-push [] m i = omega arith
times-push (k ∷ ks) m i = omega (arith, times-push ks m i)

-- ## No end of a turn stands behind a wish for one

late-le : (xs : List Word) → late_overs xs ≤ count_by one_over xs
late-le [] = omega arith
late-le (A_want ∷ xs) = omega arith
late-le (An_over ∷ xs) = omega (arith, late-le xs)
late-le (x ∷ xs) = grind (arith, late-le xs)

late-rest : (x : Word) (xs : List Word) → late_overs (x ∷ xs) ≡ 0 → late_overs xs ≡ 0
late-rest A_want xs e = omega (arith, e, late-le xs)
late-rest x xs e = grind (arith, e)

-- an end goes behind no wish
late-push : (xs : List Word) (x : Word) → late_overs xs ≡ 0 → (one_over x ≡ 0) ⊎ (count_by one_want xs ≡ 0) → late_overs (xs ++ x ∷ []) ≡ 0
late-push [] A_want e h = refl
late-push [] x e h = grind arith
late-push (A_want ∷ xs) x e (inl h) = omega (arith, e, h, count-append one_over xs (x ∷ []))
late-push (A_want ∷ xs) x e (inr h) = absurd (omega (arith, h))
late-push (y ∷ xs) x e h = grind (arith, late-push xs x, e, h)

-- ## What the equations tell of one node

first_once : (i : ℕ) (ks : List ℕ) → one_if (is_first i ks) ≤ times_in i ks
first_once i [] = omega arith
first_once i (k ∷ ks) = omega arith

one_of : (b : Bool) → one_if b ≤ 1
one_of true = omega arith
one_of false = omega arith

is_one : (b : Bool) → 1 ≤ one_if b → b ≡ true
is_one true h = refl
is_one false h = absurd (omega (arith, h))

is_none : (b : Bool) → one_if b ≡ 0 → b ≡ false
is_none true h = absurd (omega (arith, h))
is_none false h = refl

is_zero : (j : ℕ) → ((j ≡ 0 → ⊥) → ⊥) → j ≡ 0
is_zero zero h = refl
is_zero (suc j) h = absurd (h (λ e. absurd (omega (arith, e))))

not_times : (m : ℕ) (ks : List ℕ) → times_in m ks ≡ 0 → is_wanting m ks ≡ false
not_times m [] h = refl
not_times m (k ∷ ks) h = by (eqb k m) h (not_times m ks)
  where
    by : (v : Bool) → one_if v + times_in m ks ≡ 0 → (times_in m ks ≡ 0 → is_wanting m ks ≡ false) → cond v true (is_wanting m ks) ≡ false
    by true e later = absurd (omega (arith, e))
    by false e later = later (omega (arith, e))

module _ {talks : Talks} {links : TurnLinks} {to_do : Tasks} (a : AreInTurn talks links to_do) where
  -- ## What a packet of turns finds

  -- the wish of a node that is not in the list
  want_new : (m : ℕ) (xs : List Word) → links m 0 ≡ A_want ∷ xs → times_in m (talks 0).wanting ≡ 0
  want_new m xs e =
      let late : count_by one_over xs ≡ 0 = sym (ap late_overs e) ∙ a.order m in
      let wants : count_by one_want (links m 0) ≡ 1 + count_by one_want xs = ap (count_by one_want) e in
      let overs : count_by one_over (links m 0) ≡ 0 + count_by one_over xs = ap (count_by one_over) e in
      omega (arith, late, wants, overs, a.want m, one_of (talks m).wants)

  pub want_found : (m : ℕ) (xs : List Word) → links m 0 ≡ A_want ∷ xs → is_wanting m (talks 0).wanting ≡ false
  want_found m xs e = not_times m (talks 0).wanting (want_new m xs e)

  -- the end of the turn of the first
  pub over_found : (m : ℕ) (xs : List Word) → links m 0 ≡ An_over ∷ xs → is_first m (talks 0).wanting ≡ true
  over_found m xs e =
      let overs : count_by one_over (links m 0) ≡ 1 + count_by one_over xs = ap (count_by one_over) e in
      is_one (is_first m (talks 0).wanting) (omega (arith, overs, a.turn m))

  -- the turn of a node that wants one
  pub turn_found : (n : ℕ) (xs : List Word) → links 0 n ≡ A_turn ∷ xs → (talks n).wants ≡ true
  turn_found n xs e =
      let turns : count_by one_turn (links 0 n) ≡ 1 + count_by one_turn xs = ap (count_by one_turn) e in
      is_one (talks n).wants (omega (arith, turns, a.turn n, a.want n, one_of (is_first n (talks 0).wanting), first_once n (talks 0).wanting))

  -- only node 0 has wishes and ends come to it, and only from it turns come
  pub want_to : (i j : ℕ) (xs : List Word) → links i j ≡ A_want ∷ xs → j ≡ 0
  want_to i j xs e =
      let wants : count_by one_want (links i j) ≡ 1 + count_by one_want xs = ap (count_by one_want) e in
      is_zero j (λ far. omega (arith, wants, a.to_zero i j far))

  pub over_to : (i j : ℕ) (xs : List Word) → links i j ≡ An_over ∷ xs → j ≡ 0
  over_to i j xs e =
      let overs : count_by one_over (links i j) ≡ 1 + count_by one_over xs = ap (count_by one_over) e in
      is_zero j (λ far. omega (arith, overs, a.to_zero i j far))

  pub turn_from : (i j : ℕ) (xs : List Word) → links i j ≡ A_turn ∷ xs → i ≡ 0
  turn_from i j xs e =
      let turns : count_by one_turn (links i j) ≡ 1 + count_by one_turn xs = ap (count_by one_turn) e in
      is_zero i (λ far. omega (arith, turns, a.from_zero i j far))

  -- a node that has its turn wants one, and has no other wish under way
  turn_there : (n : ℕ) → 1 ≤ turns_among (to_do n) → ((talks n).wants ≡ true) × (count_by one_want (links n 0) ≡ 0)
  turn_there n has =
      let first : 1 ≤ times_in n (talks 0).wanting = omega (arith, a.turn n, has, first_once n (talks 0).wanting) in
      let overs : count_by one_over (links n 0) ≡ 0 = omega (arith, a.turn n, has, one_of (is_first n (talks 0).wanting)) in
      (is_one (talks n).wants (omega (arith, first, overs, a.want n)), omega (arith, first, overs, a.want n, one_of (talks n).wants, a.once n))

  -- ## Where nothing is under way and nothing is to be done

  -- a node that wants no turn and from which nothing is under way is not in the list
  pub not_listed : (i : ℕ) → (talks i).wants ≡ false → links i 0 ≡ [] → times_in i (talks 0).wanting ≡ 0
  not_listed i none empty =
      let wants : count_by one_want (links i 0) ≡ 0 = ap (count_by one_want) empty in
      let overs : count_by one_over (links i 0) ≡ 0 = ap (count_by one_over) empty in
      let idle : one_if (talks i).wants ≡ 0 = ap one_if none in
      omega (arith, wants, overs, idle, a.want i)

  module _ (empty : (i j : ℕ) → links i j ≡ []) (idle : (i : ℕ) → to_do i ≡ []) where
    no_turn : (i : ℕ) → is_first i (talks 0).wanting ≡ false
    no_turn i =
        let turns : count_by one_turn (links 0 i) ≡ 0 = ap (count_by one_turn) (empty 0 i) in
        let ends : turns_among (to_do i) ≡ 0 = ap turns_among (idle i) in
        let overs : count_by one_over (links i 0) ≡ 0 = ap (count_by one_over) (empty i 0) in
        is_none (is_first i (talks 0).wanting) (sym (a.turn i) ∙ omega (arith, turns, ends, overs))

    pub none_listed : (talks 0).wanting ≡ []
    none_listed = by (talks 0).wanting no_turn
      where
        by : (ks : List ℕ) → ((i : ℕ) → is_first i ks ≡ false) → ks ≡ []
        by [] h = refl
        by (k ∷ ks) h = absurd (cc (h k, eq-eqb k k refl))

    pub none_wants : (i : ℕ) → (talks i).wants ≡ false
    none_wants i =
        let wants : count_by one_want (links i 0) ≡ 0 = ap (count_by one_want) (empty i 0) in
        let overs : count_by one_over (links i 0) ≡ 0 = ap (count_by one_over) (empty i 0) in
        let listed : times_in i (talks 0).wanting ≡ 0 = ap (times_in i) none_listed in
        is_none (talks i).wants (omega (arith, wants, overs, listed, a.want i))

    pub none_claims : (i : ℕ) → (talks i).claims ≡ []
    none_claims i =
        let wants : one_if (talks i).wants ≡ 0 = ap one_if (none_wants i) in
        let again : wants_among (to_do i) ≡ 0 = ap wants_among (idle i) in
        by (talks i).claims (omega (arith, wants, again, a.claims i))
      where
        by : (ts : List Tid) → some_of ts ≤ 0 → ts ≡ []
        by [] h = refl
        by (t ∷ ts) h = absurd (omega (arith, h))

-- ## Moves of one node

-- in one place, and in all others
at_each : (P : ℕ → Type 0) (n : ℕ) → P n → ((i : ℕ) → eqb n i ≡ false → P i) → (i : ℕ) → P i
at_each P n same others i = elim (eqb n i) as (λ v. eqb n i ≡ v → P i) [ true ↦ λ e. subst P (eqb-true n i e) same | false ↦ others i ] refl

not_zero : (j : ℕ) → (j ≡ 0 → ⊥) → eqb 0 j ≡ false
not_zero j far = by (eqb 0 j) refl
  where
    by : (v : Bool) → eqb 0 j ≡ v → v ≡ false
    by true e = absurd (far (sym (eqb-true 0 j e)))
    by false e = refl

-- node n, which kept that and had that to do, has sent these; it keeps this then, and has those still to do
pub record HasSpoken (n : ℕ) (sends : List Send) (was kept : Talk) (due items : List Item) (talks new_talks : Talks) (links new_links : TurnLinks) (to_do new_to_do : Tasks) : Type 0 where
  pub before : talks n ≡ was
  pub talk : new_talks n ≡ kept
  pub others : (i : ℕ) → eqb n i ≡ false → new_talks i ≡ talks i
  pub words : (i j : ℕ) → new_links i j ≡ links i j ++ cond (eqb n i) (sent_turns j sends) []
  pub ahead : to_do n ≡ due
  pub left : new_to_do n ≡ items
  pub rest : (i : ℕ) → eqb n i ≡ false → new_to_do i ≡ to_do i

-- as far as node n's own equations tell; it sends no turn, and nothing but to node 0
record IsFair (sends : List Send) (was kept : Talk) (line : List Word) (due items : List Item) : Type 0 where
  no_turn : (j : ℕ) → count_by one_turn (sent_turns j sends) ≡ 0
  near : (j : ℕ) → eqb 0 j ≡ false → sent_turns j sends ≡ []
  listed : kept.wanting ≡ was.wanting
  turn : turns_among items + count_by one_over (sent_turns 0 sends) ≡ turns_among due
  want : one_if was.wants + count_by one_want (sent_turns 0 sends) ≡ one_if kept.wants + count_by one_over (sent_turns 0 sends)
  claims : some_of kept.claims ≤ one_if kept.wants + wants_among items
  order : late_overs (line ++ sent_turns 0 sends) ≡ 0

module _ {n : ℕ} {sends : List Send} {was kept : Talk} {due items : List Item} {talks new_talks : Talks} {links new_links : TurnLinks} {to_do new_to_do : Tasks} (s : HasSpoken n sends was kept due items talks new_talks links new_links to_do new_to_do) where
  said_here : new_links n 0 ≡ links n 0 ++ sent_turns 0 sends
  said_here = s.words n 0 ∙ ap (λ v. links n 0 ++ cond v (sent_turns 0 sends) []) (eq-eqb n n refl)

  said_elsewhere : (i j : ℕ) → eqb n i ≡ false → new_links i j ≡ links i j
  said_elsewhere i j e = s.words i j ∙ ap (λ v. links i j ++ cond v (sent_turns j sends) []) e ∙ append-nil (links i j)

  said_far : (i j : ℕ) → sent_turns j sends ≡ [] → new_links i j ≡ links i j
  said_far i j e = s.words i j ∙ ap (λ ws. links i j ++ cond (eqb n i) ws []) e
      ∙ elim (eqb n i) as (λ v. links i j ++ cond v [] [] ≡ links i j) [ true ↦ append-nil (links i j) | false ↦ append-nil (links i j) ]

  said_turns : (i j : ℕ) → count_by one_turn (sent_turns j sends) ≡ 0 → count_by one_turn (new_links i j) ≡ count_by one_turn (links i j)
  said_turns i j none = ap (count_by one_turn) (s.words i j)
      ∙ elim (eqb n i) as (λ v. count_by one_turn (links i j ++ cond v (sent_turns j sends) []) ≡ count_by one_turn (links i j))
      [ true ↦ count-append one_turn (links i j) (sent_turns j sends) ∙ omega (arith, none) | false ↦ ap (count_by one_turn) (append-nil (links i j)) ]

  list_kept : kept.wanting ≡ was.wanting → (new_talks 0).wanting ≡ (talks 0).wanting
  list_kept same = at_each (λ i. (new_talks i).wanting ≡ (talks i).wanting) n (ap (λ (t : Talk). t.wanting) s.talk ∙ same ∙ sym (ap (λ (t : Talk). t.wanting) s.before)) (λ i e. ap (λ (t : Talk). t.wanting) (s.others i e)) 0

  speaks_kept : IsFair sends was kept (links n 0) due items → AreInTurn talks links to_do → AreInTurn new_talks new_links new_to_do
  speaks_kept f a =
      let listed : (new_talks 0).wanting ≡ (talks 0).wanting = list_kept f.listed in
      let overs : count_by one_over (new_links n 0) ≡ count_by one_over (links n 0) + count_by one_over (sent_turns 0 sends) = ap (count_by one_over) said_here ∙ count-append one_over (links n 0) (sent_turns 0 sends) in
      let wishes : count_by one_want (new_links n 0) ≡ count_by one_want (links n 0) + count_by one_want (sent_turns 0 sends) = ap (count_by one_want) said_here ∙ count-append one_want (links n 0) (sent_turns 0 sends) in
      let wanted : one_if (talks n).wants ≡ one_if was.wants = ap (λ (t : Talk). one_if t.wants) s.before in
      let wants : one_if (new_talks n).wants ≡ one_if kept.wants = ap (λ (t : Talk). one_if t.wants) s.talk in
      record {
        turn = at_each (λ i. count_by one_turn (new_links 0 i) + turns_among (new_to_do i) + count_by one_over (new_links i 0) ≡ one_if (is_first i (new_talks 0).wanting)) n
            (omega (arith, said_turns 0 n (f.no_turn n), ap turns_among s.left, ap turns_among s.ahead, f.turn, overs, a.turn n, ap (λ ks. one_if (is_first n ks)) listed))
            (λ i e. omega (arith, said_turns 0 i (f.no_turn i), ap turns_among (s.rest i e), ap (count_by one_over) (said_elsewhere i 0 e), a.turn i, ap (λ ks. one_if (is_first i ks)) listed));
        want = at_each (λ i. times_in i (new_talks 0).wanting + count_by one_want (new_links i 0) ≡ one_if (new_talks i).wants + count_by one_over (new_links i 0)) n
            (omega (arith, f.want, wanted, wants, overs, wishes, a.want n, ap (times_in n) listed))
            (λ i e. omega (arith, ap (λ (t : Talk). one_if t.wants) (s.others i e), ap (count_by one_over) (said_elsewhere i 0 e), ap (count_by one_want) (said_elsewhere i 0 e), a.want i, ap (times_in i) listed));
        once = λ i. omega (arith, a.once i, ap (times_in i) listed);
        order = at_each (λ i. late_overs (new_links i 0) ≡ 0) n (ap late_overs said_here ∙ f.order) (λ i e. ap late_overs (said_elsewhere i 0 e) ∙ a.order i);
        claims = at_each (λ i. some_of (new_talks i).claims ≤ one_if (new_talks i).wants + wants_among (new_to_do i)) n
            (omega (arith, ap (λ (t : Talk). some_of t.claims) s.talk, wants, ap wants_among s.left, f.claims))
            (λ i e. omega (arith, ap (λ (t : Talk). some_of t.claims) (s.others i e), ap (λ (t : Talk). one_if t.wants) (s.others i e), ap wants_among (s.rest i e), a.claims i));
        to_zero = λ i j far. let same : new_links i j ≡ links i j = said_far i j (f.near j (not_zero j far)) in
            omega (arith, ap (count_by one_want) same, ap (count_by one_over) same, a.to_zero i j far);
        from_zero = λ i j far. said_turns i j (f.no_turn j) ∙ a.from_zero i j far;
      }

-- ## What a node may say

silent_fair : (was kept : Talk) (line : List Word) (due items : List Item) → kept.wanting ≡ was.wanting → kept.wants ≡ was.wants → turns_among items ≡ turns_among due
    → some_of kept.claims ≤ one_if kept.wants + wants_among items → late_overs line ≡ 0 → IsFair [] was kept line due items
silent_fair was kept line due items listed wants turns claims order = record {
  no_turn = λ j. refl;
  near = λ j e. refl;
  listed = listed;
  turn = omega (arith, turns);
  want = omega (arith, ap one_if wants);
  claims = claims;
  order = ap late_overs (append-nil line) ∙ order;
}

-- a node that hasn't yet asked for a turn does
wish_fair : (was kept : Talk) (line : List Word) (due items : List Item) → was.wants ≡ false → kept.wanting ≡ was.wanting → kept.wants ≡ true → turns_among items ≡ turns_among due
    → late_overs line ≡ 0 → IsFair (one_send 0 Want) was kept line due items
wish_fair was kept line due items idle listed wants turns order = record {
  no_turn = λ j. elim (eqb 0 j) as (λ v. count_by one_turn (cond v (A_want ∷ []) []) ≡ 0) [ true ↦ refl | false ↦ refl ];
  near = λ j e. rw e refl;
  listed = listed;
  turn = omega (arith, turns);
  want = omega (arith, ap one_if idle, ap one_if wants);
  claims = omega (arith, ap one_if wants, some_at_most kept.claims);
  order = late-push line A_want order (inl refl);
}
  where
    some_at_most : (ts : List Tid) → some_of ts ≤ 1
    some_at_most [] = omega arith
    some_at_most (t ∷ ts) = omega arith

-- the turn of a node is over, behind no wish of it
end_fair : (was kept : Talk) (line : List Word) (due items : List Item) → was.wants ≡ true → kept.wanting ≡ was.wanting → kept.wants ≡ false → 1 + turns_among items ≡ turns_among due
    → some_of kept.claims ≤ wants_among items → late_overs line ≡ 0 → count_by one_want line ≡ 0 → IsFair (one_send 0 Over) was kept line due items
end_fair was kept line due items has listed wants turns claims order none = record {
  no_turn = λ j. elim (eqb 0 j) as (λ v. count_by one_turn (cond v (An_over ∷ []) []) ≡ 0) [ true ↦ refl | false ↦ refl ];
  near = λ j e. rw e refl;
  listed = listed;
  turn = omega (arith, turns);
  want = omega (arith, ap one_if has, ap one_if wants);
  claims = omega (arith, claims, ap one_if wants);
  order = late-push line An_over order (inr none);
}

pub some_at_most : (ts : List Tid) → some_of ts ≤ 1
some_at_most [] = omega arith
some_at_most (t ∷ ts) = omega arith

module _ {n : ℕ} {was : Talk} {due : List Item} {talks new_talks : Talks} {links new_links : TurnLinks} {to_do new_to_do : Tasks} where
  -- a thread claims slots
  pub claims_in_turn : (t : Tid) (items : List Item) → HasSpoken n (want_sends was) was (claiming t was) due items talks new_talks links new_links to_do new_to_do → turns_among items ≡ turns_among due
      → AreInTurn talks links to_do → AreInTurn new_talks new_links new_to_do
  claims_in_turn t items s turns a = by was.wants refl s
    where
      by : (v : Bool) → was.wants ≡ v → HasSpoken n (cond v [] (one_send 0 Want)) was (claiming t was) due items talks new_talks links new_links to_do new_to_do → AreInTurn new_talks new_links new_to_do
      by true e s = speaks_kept s (silent_fair was (claiming t was) (links n 0) due items refl (sym e) turns (omega (arith, some_at_most (claiming t was).claims)) (a.order n)) a
      by false e s = speaks_kept s (wish_fair was (claiming t was) (links n 0) due items e refl refl turns (a.order n)) a

  -- the first claim is to be served, or to be decided
  pub leaves_in_turn : (t : Tid) (ts : List Tid) (items : List Item) → HasSpoken n [] was (with_claims ts was) due items talks new_talks links new_links to_do new_to_do → was.claims ≡ t ∷ ts
      → turns_among items ≡ turns_among due → wants_among due ≤ wants_among items
      → AreInTurn talks links to_do → AreInTurn new_talks new_links new_to_do
  leaves_in_turn t ts items s claims turns wants a =
      speaks_kept s (silent_fair was (with_claims ts was) (links n 0) due items refl refl turns (omega (arith, a.claims n, ap (λ (t : Talk). some_of t.claims) s.before, ap (λ (t : Talk). one_if t.wants) s.before, ap wants_among s.ahead, ap some_of claims, some_at_most ts, wants)) (a.order n)) a

  -- its turn ends
  pub ends_in_turn : (items : List Item) → HasSpoken n (one_send 0 Over) was (after_turn was) due items talks new_talks links new_links to_do new_to_do
      → 1 + turns_among items ≡ turns_among due → some_of was.claims ≤ wants_among items
      → AreInTurn talks links to_do → AreInTurn new_talks new_links new_to_do
  ends_in_turn items s turns claims a =
      let now = turn_there a n (omega (arith, turns, ap turns_among s.ahead)) in
      speaks_kept s (end_fair was (after_turn was) (links n 0) due items (sym (ap (λ (t : Talk). t.wants) s.before) ∙ now.0) refl refl turns claims (a.order n) now.1) a

  -- it wants another one where claims are left
  pub again_in_turn : (items : List Item) → HasSpoken n (again_sends was.claims was) was (again was.claims was) due items talks new_talks links new_links to_do new_to_do
      → turns_among items ≡ turns_among due
      → AreInTurn talks links to_do → AreInTurn new_talks new_links new_to_do
  again_in_turn items s turns a = by was.claims refl s
    where
      asks : (v : Bool) (t : Tid) (ts : List Tid) → was.wants ≡ v → HasSpoken n (cond v [] (one_send 0 Want)) was (again (t ∷ ts) was) due items talks new_talks links new_links to_do new_to_do → AreInTurn new_talks new_links new_to_do
      asks true t ts e s = speaks_kept s (silent_fair was (again (t ∷ ts) was) (links n 0) due items refl (sym e) turns (omega (arith, some_at_most was.claims)) (a.order n)) a
      asks false t ts e s = speaks_kept s (wish_fair was (again (t ∷ ts) was) (links n 0) due items e refl refl turns (a.order n)) a

      by : (ts : List Tid) → was.claims ≡ ts → HasSpoken n (again_sends ts was) was (again ts was) due items talks new_talks links new_links to_do new_to_do → AreInTurn new_talks new_links new_to_do
      by [] e s = speaks_kept s (silent_fair was was (links n 0) due items refl refl turns (omega (arith, ap some_of e)) (a.order n)) a
      by (t ∷ ts) e s = asks was.wants t ts refl s

module _ {talks new_talks : Talks} {links new_links : TurnLinks} {to_do new_to_do : Tasks} where
  -- node n takes its turn
  pub turn_taken : (n : ℕ) → ((i : ℕ) → new_talks i ≡ talks i) → ((i j : ℕ) → links i j ≡ cond (eqb 0 i && eqb n j) (A_turn ∷ new_links i j) (new_links i j))
      → turns_among (new_to_do n) ≡ 1 + turns_among (to_do n) → ((i : ℕ) → eqb n i ≡ false → turns_among (new_to_do i) ≡ turns_among (to_do i)) → ((i : ℕ) → wants_among (new_to_do i) ≡ wants_among (to_do i))
      → AreInTurn talks links to_do → AreInTurn new_talks new_links new_to_do
  turn_taken n talk line here rest wants a = record {
    turn = at_each (λ i. count_by one_turn (new_links 0 i) + turns_among (new_to_do i) + count_by one_over (new_links i 0) ≡ one_if (is_first i (new_talks 0).wanting)) n
        (by_turn n (omega (arith, here, ap one_if (eq-eqb n n refl))))
        (λ i e. by_turn i (omega (arith, rest i e, ap one_if e)));
    want = λ i. omega (arith, ap (λ (t : Talk). times_in i t.wanting) (talk 0), same one_want refl i 0, ap (λ (t : Talk). one_if t.wants) (talk i), same one_over refl i 0, a.want i);
    once = λ i. omega (arith, ap (λ (t : Talk). times_in i t.wanting) (talk 0), a.once i);
    order = λ i. late i ∙ a.order i;
    claims = λ i. omega (arith, ap (λ (t : Talk). some_of t.claims) (talk i), ap (λ (t : Talk). one_if t.wants) (talk i), wants i, a.claims i);
    to_zero = λ i j far. omega (arith, same one_want refl i j, same one_over refl i j, a.to_zero i j far);
    from_zero = λ i j far. omega (arith, ap (count_by one_turn) (line i j), count_taken one_turn A_turn (new_links i j) 0 n i j, a.from_zero i j far);
  }
    where
      counted : (f : Word → ℕ) (i j : ℕ) → count_by f (links i j) ≡ at 0 n i j * f A_turn + count_by f (new_links i j)
      counted f i j = ap (count_by f) (line i j) ∙ count_taken f A_turn (new_links i j) 0 n i j

      same : (f : Word → ℕ) → f A_turn ≡ 0 → (i j : ℕ) → count_by f (new_links i j) ≡ count_by f (links i j)
      same f none i j = sym (counted f i j ∙ ap (λ k. at 0 n i j * k + count_by f (new_links i j)) none ∙ omega arith)

      late : (i : ℕ) → late_overs (new_links i 0) ≡ late_overs (links i 0)
      late i = sym (ap late_overs (line i 0) ∙ elim (eqb 0 i && eqb n 0) as (λ v. late_overs (cond v (A_turn ∷ new_links i 0) (new_links i 0)) ≡ late_overs (new_links i 0)) [ true ↦ refl | false ↦ refl ])

      by_turn : (i : ℕ) → turns_among (new_to_do i) ≡ one_if (eqb n i) + turns_among (to_do i)
          → count_by one_turn (new_links 0 i) + turns_among (new_to_do i) + count_by one_over (new_links i 0) ≡ one_if (is_first i (new_talks 0).wanting)
      by_turn i turns = omega (arith, counted one_turn 0 i, at_zero n i, turns, same one_over refl i 0, ap (λ (t : Talk). one_if (is_first i t.wanting)) (talk 0), a.turn i)

-- ## Node 0: who wants a turn, and whose turn it is

abbrev pub with_list : List ℕ → Talk → Talk
with_list list talk = record talk { wanting = list }

-- node 0 has taken this word from node m and has sent these; its list is this then
pub record Hears (m : ℕ) (word : Word) (sends : List Send) (was : Talk) (list : List ℕ) (talks new_talks : Talks) (links mid new_links : TurnLinks) (to_do new_to_do : Tasks) : Type 0 where
  pub before : talks 0 ≡ was
  pub talk : new_talks 0 ≡ with_list list was
  pub others : (i : ℕ) → eqb 0 i ≡ false → new_talks i ≡ talks i
  pub took : (i j : ℕ) → links i j ≡ cond (eqb m i && eqb 0 j) (word ∷ mid i j) (mid i j)
  pub words : (i j : ℕ) → new_links i j ≡ mid i j ++ cond (eqb 0 i) (sent_turns j sends) []
  pub turns : (i : ℕ) → turns_among (new_to_do i) ≡ turns_among (to_do i)
  pub wants : (i : ℕ) → wants_among (new_to_do i) ≡ wants_among (to_do i)

-- as far as its list tells; the word is no turn, and it sends nothing but turns
record IsFairList (m : ℕ) (word : Word) (sends : List Send) (old list : List ℕ) : Type 0 where
  no_turn : one_turn word ≡ 0
  turns_alone : (f : Word → ℕ) → f A_turn ≡ 0 → (j : ℕ) → count_by f (sent_turns j sends) ≡ 0
  late : (j : ℕ) (xs : List Word) → late_overs xs ≡ 0 → late_overs (xs ++ sent_turns j sends) ≡ 0
  turn : (i : ℕ) → count_by one_turn (sent_turns i sends) + one_if (is_first i old) ≡ one_if (is_first i list) + cond (eqb m i) (one_over word) 0
  want : (i : ℕ) → times_in i list + cond (eqb m i) (one_over word) 0 ≡ times_in i old + cond (eqb m i) (one_want word) 0
  once : (i : ℕ) → times_in i list ≤ 1

module _ {m : ℕ} {word : Word} {sends : List Send} {was : Talk} {list : List ℕ} {talks new_talks : Talks} {links mid new_links : TurnLinks} {to_do new_to_do : Tasks} (h : Hears m word sends was list talks new_talks links mid new_links to_do new_to_do) where
  -- of what is no turn node 0 sends nothing
  heard_same : (f : Word → ℕ) → ((j : ℕ) → count_by f (sent_turns j sends) ≡ 0) → (i j : ℕ) → count_by f (new_links i j) ≡ count_by f (mid i j)
  heard_same f none i j = ap (count_by f) (h.words i j) ∙ elim (eqb 0 i) as (λ v. count_by f (mid i j ++ cond v (sent_turns j sends) []) ≡ count_by f (mid i j))
      [ true ↦ count-append f (mid i j) (sent_turns j sends) ∙ omega (arith, none j) | false ↦ ap (count_by f) (append-nil (mid i j)) ]

  heard_turns : (i : ℕ) → count_by one_turn (new_links 0 i) ≡ count_by one_turn (mid 0 i) + count_by one_turn (sent_turns i sends)
  heard_turns i = ap (count_by one_turn) (h.words 0 i) ∙ count-append one_turn (mid 0 i) (sent_turns i sends)

  took_none : (f : Word → ℕ) → f word ≡ 0 → (i j : ℕ) → count_by f (links i j) ≡ count_by f (mid i j)
  took_none f none i j = ap (count_by f) (h.took i j) ∙ elim (eqb m i && eqb 0 j) as (λ v. count_by f (cond v (word ∷ mid i j) (mid i j)) ≡ count_by f (mid i j)) [ true ↦ omega (arith, none) | false ↦ refl ]

  took_one : (f : Word → ℕ) (i : ℕ) → count_by f (links i 0) ≡ cond (eqb m i) (f word) 0 + count_by f (mid i 0)
  took_one f i = ap (count_by f) (h.took i 0) ∙ elim (eqb m i) as (λ v. count_by f (cond (v && true) (word ∷ mid i 0) (mid i 0)) ≡ cond v (f word) 0 + count_by f (mid i 0)) [ true ↦ refl | false ↦ omega arith ]

  took_less : (f : Word → ℕ) (i j : ℕ) → count_by f (mid i j) ≤ count_by f (links i j)
  took_less f i j = subst (λ xs. count_by f (mid i j) ≤ count_by f xs) (sym (h.took i j)) (elim (eqb m i && eqb 0 j) as (λ v. count_by f (mid i j) ≤ count_by f (cond v (word ∷ mid i j) (mid i j))) [ true ↦ omega arith | false ↦ omega arith ])

  took_late : (i : ℕ) → late_overs (links i 0) ≡ 0 → late_overs (mid i 0) ≡ 0
  took_late i e = elim (eqb m i && eqb 0 0) as (λ v. late_overs (cond v (word ∷ mid i 0) (mid i 0)) ≡ 0 → late_overs (mid i 0) ≡ 0) [ true ↦ late-rest word (mid i 0) | false ↦ λ f. f ] (sym (ap late_overs (h.took i 0)) ∙ e)

  heard_late : IsFairList m word sends was.wanting list → (i : ℕ) → late_overs (mid i 0) ≡ 0 → late_overs (new_links i 0) ≡ 0
  heard_late f i e = ap late_overs (h.words i 0) ∙ elim (eqb 0 i) as (λ v. late_overs (mid i 0 ++ cond v (sent_turns 0 sends) []) ≡ 0) [ true ↦ f.late 0 (mid i 0) e | false ↦ ap late_overs (append-nil (mid i 0)) ∙ e ]

  heard_from : (i j : ℕ) → eqb 0 i ≡ false → new_links i j ≡ mid i j
  heard_from i j e = h.words i j ∙ ap (λ v. mid i j ++ cond v (sent_turns j sends) []) e ∙ append-nil (mid i j)

  hears_kept : IsFairList m word sends was.wanting list → AreInTurn talks links to_do → AreInTurn new_talks new_links new_to_do
  hears_kept f a = record {
    turn = λ i. omega (arith, heard_turns i, took_none one_turn f.no_turn 0 i, h.turns i, overs i 0, took_one one_over i, ap (λ (t : Talk). one_if (is_first i t.wanting)) h.talk, ap (λ (t : Talk). one_if (is_first i t.wanting)) h.before, f.turn i, a.turn i);
    want = λ i. omega (arith, ap (λ (t : Talk). times_in i t.wanting) h.talk, ap (λ (t : Talk). times_in i t.wanting) h.before, wishes i 0, overs i 0, took_one one_over i, took_one one_want i, wanted i, f.want i, a.want i);
    once = λ i. omega (arith, ap (λ (t : Talk). times_in i t.wanting) h.talk, f.once i);
    order = λ i. heard_late f i (took_late i (a.order i));
    claims = λ i. omega (arith, claimed i, wanted i, h.wants i, a.claims i);
    to_zero = λ i j far. omega (arith, wishes i j, overs i j, took_less one_over i j, took_less one_want i j, a.to_zero i j far);
    from_zero = λ i j far. omega (arith, ap (count_by one_turn) (heard_from i j (not_zero i far)), took_none one_turn f.no_turn i j, a.from_zero i j far);
  }
    where
      overs : (i j : ℕ) → count_by one_over (new_links i j) ≡ count_by one_over (mid i j)
      overs = heard_same one_over (f.turns_alone one_over refl)

      wishes : (i j : ℕ) → count_by one_want (new_links i j) ≡ count_by one_want (mid i j)
      wishes = heard_same one_want (f.turns_alone one_want refl)

      wanted : (i : ℕ) → one_if (new_talks i).wants ≡ one_if (talks i).wants
      wanted = at_each (λ i. one_if (new_talks i).wants ≡ one_if (talks i).wants) 0 (ap (λ (t : Talk). one_if t.wants) h.talk ∙ sym (ap (λ (t : Talk). one_if t.wants) h.before)) (λ i e. ap (λ (t : Talk). one_if t.wants) (h.others i e))

      claimed : (i : ℕ) → some_of (new_talks i).claims ≡ some_of (talks i).claims
      claimed = at_each (λ i. some_of (new_talks i).claims ≡ some_of (talks i).claims) 0 (ap (λ (t : Talk). some_of t.claims) h.talk ∙ sym (ap (λ (t : Talk). some_of t.claims) h.before)) (λ i e. ap (λ (t : Talk). some_of t.claims) (h.others i e))

one_turn_alone : (k : ℕ) (f : Word → ℕ) → f A_turn ≡ 0 → (j : ℕ) → count_by f (sent_turns j (one_send k Turn)) ≡ 0
one_turn_alone k f none j = elim (eqb k j) as (λ v. count_by f (cond v (A_turn ∷ []) []) ≡ 0) [ true ↦ omega (arith, none) | false ↦ refl ]

one_turn_late : (k j : ℕ) (xs : List Word) → late_overs xs ≡ 0 → late_overs (xs ++ sent_turns j (one_send k Turn)) ≡ 0
one_turn_late k j xs e = elim (eqb k j) as (λ v. late_overs (xs ++ cond v (A_turn ∷ []) []) ≡ 0) [ true ↦ late-push xs A_turn e (inl refl) | false ↦ ap late_overs (append-nil xs) ∙ e ]

one_turn_to : (k i : ℕ) → count_by one_turn (sent_turns i (one_send k Turn)) ≡ one_if (eqb k i)
one_turn_to k i = elim (eqb k i) as (λ v. count_by one_turn (cond v (A_turn ∷ []) []) ≡ one_if v) [ true ↦ refl | false ↦ refl ]

by_one : (m i k : ℕ) → cond (eqb m i) k 0 ≡ one_if (eqb m i) * k
by_one m i k = elim (eqb m i) as (λ v. cond v k 0 ≡ one_if v * k) [ true ↦ omega arith | false ↦ omega arith ]

-- one that isn't in the list comes into it
listing_fair : (m : ℕ) (old : List ℕ) → times_in m old ≡ 0 → ((i : ℕ) → times_in i old ≤ 1) → IsFairList m A_want (listing_sends m old) old (old ++ m ∷ [])
listing_fair m [] new once = record {
  no_turn = refl;
  turns_alone = one_turn_alone m;
  late = one_turn_late m;
  turn = λ i. omega (arith, one_turn_to m i, by_one m i (one_over A_want));
  want = λ i. omega (arith, by_one m i (one_over A_want), by_one m i (one_want A_want));
  once = λ i. omega (arith, one_of (eqb m i));
}
listing_fair m (k ∷ ks) new once = record {
  no_turn = refl;
  turns_alone = λ f none j. refl;
  late = λ j xs e. ap late_overs (append-nil xs) ∙ e;
  turn = λ i. omega (arith, by_one m i (one_over A_want));
  want = λ i. omega (arith, times-push (k ∷ ks) m i, by_one m i (one_over A_want), by_one m i (one_want A_want));
  once = at_each (λ i. times_in i (k ∷ (ks ++ m ∷ [])) ≤ 1) m (omega (arith, times-push (k ∷ ks) m m, new, one_of (eqb m m))) (λ i e. omega (arith, times-push (k ∷ ks) m i, once i, ap one_if e));
}

-- the first goes out of it, and the next has the turn
next_fair : (m : ℕ) (old : List ℕ) → is_first m old ≡ true → ((i : ℕ) → times_in i old ≤ 1) → IsFairList m An_over (turn_to (without_first old)) old (without_first old)
next_fair m [] first once = absurd (cc first)
next_fair m (k ∷ []) first once = record {
  no_turn = refl;
  turns_alone = λ f none j. refl;
  late = λ j xs e. ap late_overs (append-nil xs) ∙ e;
  turn = λ i. omega (arith, by_one m i (one_over An_over), ap (λ z. one_if (eqb z i)) (eqb-true k m first));
  want = λ i. omega (arith, by_one m i (one_over An_over), by_one m i (one_want An_over), ap (λ z. one_if (eqb z i)) (eqb-true k m first));
  once = λ i. omega arith;
}
next_fair m (k ∷ j ∷ ks) first once = record {
  no_turn = refl;
  turns_alone = one_turn_alone j;
  late = one_turn_late j;
  turn = λ i. omega (arith, one_turn_to j i, by_one m i (one_over An_over), ap (λ z. one_if (eqb z i)) (eqb-true k m first));
  want = λ i. omega (arith, by_one m i (one_over An_over), by_one m i (one_want An_over), ap (λ z. one_if (eqb z i)) (eqb-true k m first));
  once = λ i. omega (arith, once i);
}

module _ {m : ℕ} {was : Talk} {talks new_talks : Talks} {links mid new_links : TurnLinks} {to_do new_to_do : Tasks} where
  -- node 0 takes the wish of node m
  pub wish_in_turn : Hears m A_want (listing_sends m was.wanting) was (was.wanting ++ m ∷ []) talks new_talks links mid new_links to_do new_to_do → AreInTurn talks links to_do → AreInTurn new_talks new_links new_to_do
  wish_in_turn h a = hears_kept h (listing_fair m was.wanting (subst (λ (t : Talk). times_in m t.wanting ≡ 0) h.before (want_new a m (mid m 0) (h.took m 0 ∙ (rw (eq-eqb m m refl) refl)))) (subst (λ (t : Talk). (i : ℕ) → times_in i t.wanting ≤ 1) h.before a.once)) a

  -- it takes the end of the turn of node m
  pub next_in_turn : Hears m An_over (turn_to (without_first was.wanting)) was (without_first was.wanting) talks new_talks links mid new_links to_do new_to_do → AreInTurn talks links to_do → AreInTurn new_talks new_links new_to_do
  next_in_turn h a = hears_kept h (next_fair m was.wanting (subst (λ (t : Talk). is_first m t.wanting ≡ true) h.before (over_found a m (mid m 0) (h.took m 0 ∙ (rw (eq-eqb m m refl) refl)))) (subst (λ (t : Talk). (i : ℕ) → times_in i t.wanting ≤ 1) h.before a.once)) a

-- ## Lists of numbers

abbrev pub EachBelow : ℕ → List ℕ → Type 0
EachBelow bound [] = ⊤
EachBelow bound (k ∷ ks) = (k < bound) × EachBelow bound ks

-- each number that a list has is below a bound, where none from the bound on stands in it
pub below_bound : (bound : ℕ) (ks : List ℕ) → ((i : ℕ) → bound ≤ i → times_in i ks ≡ 0) → EachBelow bound ks
below_bound bound [] none = tt
below_bound bound (k ∷ ks) none = (by (nat_lt k bound) refl, below_bound bound ks (λ i e. omega (arith, none i e)))
  where
    by : (v : Bool) → nat_lt k bound ≡ v → k < bound
    by true e = grind (arith, nat_tests, e)
    by false e = absurd (omega (arith, none k (grind (arith, nat_tests, e)), ap one_if (eq-eqb k k refl)))
