-- What a layer above reads from the clauses.
use Rattle.std.proofs.Common.{inl, Option, Some, None, ◌≡◌, ◌≢◌, ℕ, zero, suc, ◌<◌, ◌≤◌, List, [], ◌∷◌, ◌++◌, length, set, refl, sym, ap, ◌∙◌, subst, arith}
use Rattle.std.specs.Prelude.{slice_get}
use Rattle.std.proofs.lemmas.Option.{slice_get_past, slice_get_within, same_Some}
use Rattle.rtrb.specs.Ring.{sent}
use Rattle.wires.specs.declared.link.Link.{Link}
use Rattle.wires.specs.declared.ends.Ends.{Ends}
use Rattle.wires.specs.Link.{link_sent, link_received, link_known, link_waiting, SameLink}
use Rattle.wires.specs.Ends.{link_of, of_link, sent_to, received_from, known_from, LinkChanged, AreFlushed, AreUnused}
use Rattle.wires.specs.Wires.{row_link, link_at, sent_on, received_on, known_on, waiting_on, AreWired, StaysWired, AreInOrder, AreSettled, AreFreshFor}
use Rattle.basics.proofs.Lemmas.{by_eq, by_less, some_at, get_set_same, get_set_other}

-- lists that have the same at each place are the same
same_list : {A : Type 0} (xs ys : List A) → ((i : ℕ) → slice_get xs i ≡ slice_get ys i) → xs ≡ ys
same_list [] [] h = refl
same_list [] (y ∷ ys) h = let e : None ≡ Some y = h zero in cc
same_list (x ∷ xs) [] h = let e : Some x ≡ None = h zero in cc
same_list (x ∷ xs) (y ∷ ys) h = let e : x ≡ y = same_Some x y (h zero) in ap (λ z. z ∷ xs) e ∙ ap (λ zs. y ∷ zs) (same_list xs ys (λ i. h (suc i)))

no_more : {A : Type 0} (xs ys : List A) → xs ++ ys ≡ [] → ys ≡ []
no_more [] ys h = h
no_more (x ∷ xs) ys h = cc

module _ {P : Type 0} where
  -- a word on the link that changed, before and after, and on another link
  pub of_before : (f : Link P → List P) (k : ℕ) (R : Link P → Link P → Type 0) (a b : Ends P) (l : LinkChanged k R a b) → of_link f (link_of a k) ≡ f l.before
  of_before f k R a b l = ap (of_link f) l.was

  pub of_after : (f : Link P → List P) (k : ℕ) (R : Link P → Link P → Type 0) (a b : Ends P) (l : LinkChanged k R a b) → of_link f (link_of b k) ≡ f l.after
  of_after f k R a b l = ap (of_link f) l.is

  pub of_other : (f : Link P → List P) (k i : ℕ) (R : Link P → Link P → Type 0) (a b : Ends P) (l : LinkChanged k R a b) → i ≢ k → of_link f (link_of b i) ≡ of_link f (link_of a i)
  of_other f k i R a b l ne = ap (of_link f) (l.others.links i ne)

  -- a word that a flush leaves
  of_flushed : (f : Link P → List P) → ((x y : Link P) → SameLink x y → f y ≡ f x) → (a b : Ends P) → AreFlushed a b → (k : ℕ) → of_link f (link_of b k) ≡ of_link f (link_of a k)
  of_flushed f g a b h k = by_less k (length a.links.items)
      (λ lt.
      let x = some_at a.links.items k lt in
      let y = some_at b.links.items k (omega (arith, a.links.ok.0, b.links.ok.0, h.width)) in
      ap (of_link f) y.1 ∙ (g x.0 y.0 (h.each k x.0 y.0 x.1 y.1).same ∙ sym (ap (of_link f) x.1)))
      (λ ge. ap (of_link f) (slice_get_past b.links.items k (omega (arith, a.links.ok.0, b.links.ok.0, h.width))) ∙ sym (ap (of_link f) (slice_get_past a.links.items k ge)))

  pub sent_to-flushed : (a b : Ends P) → AreFlushed a b → (k : ℕ) → sent_to b k ≡ sent_to a k
  sent_to-flushed = of_flushed link_sent (λ x y s. s.same_sent)

  pub received_from-flushed : (a b : Ends P) → AreFlushed a b → (k : ℕ) → received_from b k ≡ received_from a k
  received_from-flushed = of_flushed link_received (λ x y s. s.same_received)

  pub known_from-flushed : (a b : Ends P) → AreFlushed a b → (k : ℕ) → known_from b k ≡ known_from a k
  known_from-flushed = of_flushed link_known (λ x y s. s.same_known)

  -- the wires' words are those of the nodes' ends
  pub sent_on-node : (es : List (Ends P)) (i j : ℕ) (a : Ends P) → slice_get es i ≡ Some a → sent_on es i j ≡ sent_to a j
  sent_on-node es i j a at = ap (λ o. of_link link_sent (row_link o j)) at

  pub received_on-node : (es : List (Ends P)) (i j : ℕ) (b : Ends P) → slice_get es j ≡ Some b → received_on es i j ≡ received_from b i
  received_on-node es i j b at = ap (λ o. of_link link_received (row_link o i)) at

  pub known_on-node : (es : List (Ends P)) (i j : ℕ) (b : Ends P) → slice_get es j ≡ Some b → known_on es i j ≡ known_from b i
  known_on-node es i j b at = ap (λ o. of_link link_known (row_link o i)) at

  -- what is settled is in order, and what carried nothing is settled
  pub settled_in_order : (es : List (Ends P)) → AreSettled es → AreInOrder es
  settled_in_order es h = λ i j. (known_on es i j ++ waiting_on es i j, h.content i j)

  -- the first k of ys, and xs from there on
  record Mixed (k : ℕ) (xs ys : List (Ends P)) : Type 0 where
    zs : List (Ends P)
    front : (i : ℕ) → i < k → slice_get zs i ≡ slice_get ys i
    back : (i : ℕ) → k ≤ i → slice_get zs i ≡ slice_get xs i
    wired : AreWired zs

  mixed : (xs ys : List (Ends P)) → length ys ≡ length xs → ((i : ℕ) (a b : Ends P) → slice_get xs i ≡ Some a → slice_get ys i ≡ Some b → StaysWired a b)
      → AreWired xs → (k : ℕ) → k ≤ length xs → Mixed k xs ys
  mixed xs ys long stay w zero lt = record { zs = xs; front = λ i h. absurd (omega arith); back = λ i h. refl; wired = w }
  mixed xs ys long stay w (suc k) lt =
      let m = mixed xs ys long stay w k (omega arith) in
      let a = some_at xs k (omega arith) in
      let b = some_at ys k (omega arith) in
      let at : slice_get m.zs k ≡ Some a.0 = m.back k (omega arith) ∙ a.1 in
      record {
        zs = set m.zs k b.0;
        front = λ i h. by_eq i k
            (λ e. ap (λ j. slice_get (set m.zs k b.0) j) e ∙ (get_set_same m.zs k b.0 (slice_get_within m.zs k a.0 at) ∙ (sym b.1 ∙ sym (ap (λ j. slice_get ys j) e))))
            (λ ne. get_set_other m.zs i k b.0 ne ∙ m.front i (omega arith));
        back = λ i h. get_set_other m.zs i k b.0 (λ e. absurd (omega arith)) ∙ m.back i (omega arith);
        wired = (stay k a.0 b.0 a.1 b.1).among m.zs k m.wired at;
      }

  -- where each node's ends became others beside one another, all stay wired
  pub all_stay_wired : (xs ys : List (Ends P)) → length ys ≡ length xs → ((i : ℕ) (a b : Ends P) → slice_get xs i ≡ Some a → slice_get ys i ≡ Some b → StaysWired a b)
      → AreWired xs → AreWired ys
  all_stay_wired xs ys long stay w =
      let m = mixed xs ys long stay w (length xs) (omega arith) in
      subst AreWired (same_list m.zs ys (λ i. by_less i (length xs) (λ lt. m.front i lt)
      (λ ge. m.back i ge ∙ (slice_get_past xs i ge ∙ sym (slice_get_past ys i (omega arith)))))) m.wired

  -- the links of a node whose ends became b, and those of another
  pub link_at-set_same : (es : List (Ends P)) (i k : ℕ) (b : Ends P) → i < length es → link_at (set es i b) i k ≡ link_of b k
  link_at-set_same es i k b h = ap (λ o. row_link o k) (get_set_same es i b h)

  pub link_at-set_other : (es : List (Ends P)) (i p k : ℕ) (b : Ends P) → p ≢ i → link_at (set es i b) p k ≡ link_at es p k
  link_at-set_other es i p k b ne = ap (λ o. row_link o k) (get_set_other es p i b ne)

  -- the ends of fresh wires are unused
  pub fresh_unused : (n : ℕ) (es : List (Ends P)) (i : ℕ) (a : Ends P) → AreFreshFor n es → slice_get es i ≡ Some a → AreUnused a
  fresh_unused n es i a h at = record {
    none_sent = λ k. sym (sent_on-node es i k a at) ∙ h.none_sent i k;
    none_received = λ k. sym (received_on-node es k i a at) ∙ h.none_received k i;
    none_known = λ k. sym (known_on-node es k i a at) ∙ h.none_known k i;
  }

  -- where nothing was sent nothing waits
  none_waiting : (o : Option (Link P)) → of_link link_sent o ≡ [] → of_link link_waiting o ≡ []
  none_waiting None h = refl
  none_waiting (Some l) h = no_more (sent l.to) l.outbox.items h

  -- fresh wires are settled
  pub fresh_settled : (n : ℕ) (es : List (Ends P)) → AreFreshFor n es → AreSettled es
  fresh_settled n es h = record {
    content = λ i j. let w = none_waiting (link_at es i j) (h.none_sent i j) in
        rw (h.none_received i j, h.none_known i j, w, h.none_sent i j) refl;
    full = λ i j. inl (none_waiting (link_at es i j) (h.none_sent i j));
    shows = λ i j k. h.none_received i j ∙ sym (h.none_sent i j);
  }
