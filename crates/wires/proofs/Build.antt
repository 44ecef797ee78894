-- Nodes are added one by one.
use Rattle.std.proofs.Common.{◌≡◌, ◌≢◌, ℕ, ◌+◌, ◌<◌, Option, None, List, [], ◌∷◌, ◌++◌, length, set, refl, sym, ap, ◌∙◌, subst, arith, Some, length-append}
use Rattle.std.proofs.lemmas.Option.{slice_get_within, same_Some}
use Rattle.std.specs.Prelude.{slice_get}
use Rattle.rtrb.specs.Ring.{IsPair}
use Rattle.wires.specs.declared.link.Link.{Link}
use Rattle.wires.specs.declared.ends.Ends.{Ends}
use Rattle.wires.specs.Ends.{node_of, width, link_of, of_link}
use Rattle.wires.specs.Link.{link_sent, link_received, link_known}
use Rattle.wires.specs.Wires.{link_at, AreWired, AreFreshFor}
use Rattle.wires.specs.Built.{IsFresh, IsBuilt, Gains, Joined, JoinedBelow}
use Rattle.wires.proofs.Pairs.{row_case}
use Rattle.basics.proofs.Lemmas.{by_eq, by_less, get_set_same, get_set_other, get_last, get_before, some_at}

-- a relation holds along equations
pub along : {A B : Type 0} (R : A → B → Type 0) (a a' : A) (b b' : B) → a' ≡ a → b' ≡ b → R a b → R a' b'
along R a a' b b' e f h = subst (λ x. R x b') (sym e) (subst (λ y. R a y) (sym f) h)

by_link : {A : Type 0} (F : Option A → Type 0) (o : Option A) → F None → ((x : A) → o ≡ Some x → F (Some x)) → F o
by_link F None n s = n
by_link F (Some x) n s = s x refl

module _ {P : Type 0} where
  pub none_joined : (before : List (Ends P)) → JoinedBelow 0 before before []
  none_joined before = record { joined = λ i a b m p q r. cc; rest = λ i h. refl; fresh = λ i m r. cc }

  pub join_more : (k : ℕ) (before now : List (Ends P)) (mine : List (Link P)) (a b : Ends P) (l m : Link P)
      → JoinedBelow k before now mine → length mine ≡ k → slice_get now k ≡ Some a
      → Gains l a b → IsPair l.to m.from → IsPair m.to l.from → IsFresh l → IsFresh m
      → JoinedBelow (k + 1) before (set now k b) (mine ++ m ∷ [])
  join_more k before now mine a b l m h long at gains there back fl fm =
      let within = slice_get_within now k a at in
      let here : slice_get (mine ++ m ∷ []) k ≡ Some m = subst (λ j. slice_get (mine ++ m ∷ []) j ≡ Some m) long (get_last mine m) in
      record {
        joined = λ i x y z p q r. by_eq i k
            (λ e.
            let p' : slice_get before k ≡ Some x = subst (λ j. slice_get before j ≡ Some x) e p in
            let q' : slice_get (set now k b) k ≡ Some y = subst (λ j. slice_get (set now k b) j ≡ Some y) e q in
            let r' : slice_get (mine ++ m ∷ []) k ≡ Some z = subst (λ j. slice_get (mine ++ m ∷ []) j ≡ Some z) e r in
            let ax : a ≡ x = same_Some a x (sym at ∙ h.rest k (omega arith) ∙ p') in
            let by : b ≡ y = same_Some b y (sym (get_set_same now k b within) ∙ q') in
            let mz : m ≡ z = same_Some m z (sym here ∙ r') in
            subst (λ u. Joined u y z) ax (subst (λ u. Joined a u z) by (subst (λ u. Joined a b u) mz
            (record { link = l; gains = gains; there = there; back = back; fresh = fl }))))
            (λ ne. h.joined i x y z p (sym (get_set_other now i k b ne) ∙ q) (sym (get_before mine i m (λ e. ne (e ∙ long))) ∙ r));
        rest = λ i lt. get_set_other now i k b (λ e. absurd (omega arith)) ∙ h.rest i (omega arith);
        fresh = λ i z r. by_eq i k
            (λ e. subst IsFresh (same_Some m z (sym here ∙ subst (λ j. slice_get (mine ++ m ∷ []) j ≡ Some z) e r)) fm)
            (λ ne. h.fresh i z (sym (get_before mine i m (λ e. ne (e ∙ long))) ∙ r));
      }

  -- a node before the new one, as it was and as it is
  record Was (n i : ℕ) (before : List (Ends P)) (mine : List (Link P)) (a : Ends P) : Type 0 where
    first : Ends P
    its : Link P
    below : i < n
    was : slice_get before i ≡ Some first
    at : slice_get mine i ≡ Some its
    joined : Joined first a its

  pub built_more : (n : ℕ) (before now : List (Ends P)) (mine : List (Link P)) (e : Ends P) (own : Link P)
      → IsBuilt n before → length before ≡ n → length now ≡ n → length mine ≡ n → JoinedBelow n before now mine
      → node_of e ≡ n → e.links.items ≡ mine ++ own ∷ [] → IsPair own.to own.from → IsFresh own
      → IsBuilt (n + 1) (now ++ e ∷ [])
  built_more n before now mine e own h lb ln lm j node links paired fo =
      let es = now ++ e ∷ [] in
      let newest : (i : ℕ) (a : Ends P) → i ≡ n → slice_get es i ≡ Some a → e ≡ a
      = λ i a q p. same_Some e a (sym (get_last now e) ∙ subst (λ k. slice_get es k ≡ Some a) (q ∙ sym ln) p) in
      let older : (i : ℕ) (a : Ends P) → i ≢ n → slice_get es i ≡ Some a → Was n i before mine a
      = λ i a ne p.
      let at : slice_get now i ≡ Some a = sym (get_before now i e (λ q. ne (q ∙ ln))) ∙ p in
      let lt : i < n = omega (arith, slice_get_within now i a at) in
      let f = some_at before i (omega arith) in
      let m = some_at mine i (omega arith) in
      record { first = f.0; its = m.0; below = lt; was = f.1; at = m.1; joined = j.joined i f.0 a m.0 f.1 at m.1 } in
      -- a link of an older node at k is its new one, or one from before
      let old_link : (i k : ℕ) (a : Ends P) (l : Link P) (w : Was n i before mine a) → k ≢ n → link_of a k ≡ Some l → link_of w.first k ≡ Some l
      = λ i k a l w ne p.
      let wide : length w.first.links.items ≡ n = omega (arith, h.wide i w.first w.was, w.first.links.ok.0) in
      sym (get_before w.first.links.items k w.joined.link (λ q. ne (q ∙ wide))) ∙ subst (λ xs. slice_get xs k ≡ Some l) w.joined.gains.links p in
      let new_link : (i : ℕ) (a : Ends P) (l : Link P) (w : Was n i before mine a) → slice_get a.links.items n ≡ Some l → w.joined.link ≡ l
      = λ i a l w p.
      let wide : length w.first.links.items ≡ n = omega (arith, h.wide i w.first w.was, w.first.links.ok.0) in
      same_Some w.joined.link l (sym (subst (λ k. slice_get (w.first.links.items ++ w.joined.link ∷ []) k ≡ Some w.joined.link) wide (get_last w.first.links.items w.joined.link))
      ∙ subst (λ xs. slice_get xs n ≡ Some l) w.joined.gains.links p) in
      let my_link : (i : ℕ) (l : Link P) → i ≢ n → slice_get e.links.items i ≡ Some l → slice_get mine i ≡ Some l
      = λ i l ne p. sym (get_before mine i own (λ q. ne (q ∙ lm))) ∙ subst (λ xs. slice_get xs i ≡ Some l) links p in
      let my_own : (l : Link P) → slice_get e.links.items n ≡ Some l → own ≡ l
      = λ l p. same_Some own l (sym (subst (λ k. slice_get (mine ++ own ∷ []) k ≡ Some own) lm (get_last mine own)) ∙ subst (λ xs. slice_get xs n ≡ Some l) links p) in
      record {
        node = λ i a p. by_eq i n (λ q. subst (λ u. node_of u ≡ i) (newest i a q p) (node ∙ sym q)) (λ ne. let w = older i a ne p in w.joined.gains.node ∙ h.node i w.first w.was);
        wide = λ i a p. by_eq i n
            (λ q. subst (λ u. width u ≡ n + 1) (newest i a q p) (omega (arith, e.links.ok.0, ap length links, length-append mine (own ∷ []))))
            (λ ne. let w = older i a ne p in omega (arith, a.links.ok.0, w.first.links.ok.0, h.wide i w.first w.was, ap length w.joined.gains.links, length-append w.first.links.items (w.joined.link ∷ [])));
        fresh = λ i k a l p r. by_eq i n
            (λ q.
            let r' : link_of e k ≡ Some l = subst (λ u. link_of u k ≡ Some l) (sym (newest i a q p)) r in
            by_eq k n (λ s. subst IsFresh (my_own l (subst (λ z. link_of e z ≡ Some l) s r')) fo) (λ ne. j.fresh k l (my_link k l ne r')))
            (λ ne.
            let w = older i a ne p in
            by_eq k n (λ s. subst IsFresh (new_link i a l w (subst (λ z. link_of a z ≡ Some l) s r)) w.joined.fresh) (λ nk. h.fresh i k w.first l w.was (old_link i k a l w nk r)));
        own = λ i a l p r. by_eq i n
            (λ q.
            let r' : link_of e n ≡ Some l = subst (λ z. link_of e z ≡ Some l) q (subst (λ u. link_of u i ≡ Some l) (sym (newest i a q p)) r) in
            subst (λ u. IsPair u.to u.from) (my_own l r') paired)
            (λ ne. let w = older i a ne p in h.own i w.first l w.was (old_link i i a l w ne r));
        pairs = λ i k a b x y lt p q r t. by_eq k n
            (λ s.
            let ne : i ≢ n = omega arith in
            let w = older i a ne p in
            let rx : w.joined.link ≡ x = new_link i a x w (subst (λ z. link_of a z ≡ Some x) s r) in
            let ty : slice_get mine i ≡ Some y = my_link i y ne (subst (λ u. link_of u i ≡ Some y) (sym (newest k b s q)) t) in
            let ry : w.its ≡ y = same_Some w.its y (sym w.at ∙ ty) in
            subst (λ u. IsPair u.to y.from × IsPair y.to u.from) rx (subst (λ u. IsPair w.joined.link.to u.from × IsPair u.to w.joined.link.from) ry (w.joined.there, w.joined.back)))
            (λ nk.
            let ni : i ≢ n = λ s. absurd (omega (arith, (older k b nk q).below)) in
            let w = older i a ni p in
            let v = older k b nk q in
            h.pairs i k w.first v.first x y lt w.was v.was (old_link i k a x w nk r) (old_link k i b y v ni t));
      }

  -- what is built for n nodes is wired and fresh
  pub wired : (n : ℕ) (es : List (Ends P)) → length es ≡ n → IsBuilt n es → AreWired es
  wired n es count h = record {
    node = h.node;
    wide = λ i a p. h.wide i a p ∙ sym count;
    pair = λ i j x y r s. row_case es i j x r (λ a ai p. row_case es j i y s (λ b bj q.
        by_eq i j
        (λ e.
        let ab : a ≡ b = same_Some a b (sym ai ∙ subst (λ z. slice_get es z ≡ Some b) (sym e) bj) in
        let q' : link_of a i ≡ Some y = subst (λ u. link_of u i ≡ Some y) (sym ab) q in
        let p' : link_of a i ≡ Some x = subst (λ z. link_of a z ≡ Some x) (sym e) p in
        subst (λ u. IsPair x.to u.from) (same_Some x y (sym p' ∙ q')) (h.own i a x ai p'))
        (λ ne. by_less i j
        (λ lt. (h.pairs i j a b x y lt ai bj p q).0)
        (λ le. (h.pairs j i b a y x (omega arith) bj ai q p).1))));
  }

  pub fresh_for : (n : ℕ) (es : List (Ends P)) → length es ≡ n → IsBuilt n es → AreFreshFor n es
  fresh_for n es count h =
      let none : (f : Link P → List P) → ((l : Link P) → IsFresh l → f l ≡ []) → (i j : ℕ) → of_link f (link_at es i j) ≡ []
      = λ f k i j. by_link (λ o. of_link f o ≡ []) (link_at es i j) refl (λ l r. row_case es i j l r (λ a ai p. k l (h.fresh i j a l ai p))) in
      record {
        wired = wired n es count h;
        nodes = count;
        none_sent = none link_sent (λ l f. f.none_sent);
        none_received = λ i j. none link_received (λ l f. f.none_received) j i;
        none_known = λ i j. none link_known (λ l f. f.none_known) j i;
      }
