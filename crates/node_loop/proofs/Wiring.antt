-- What calls on one link of a node come to.
use Rattle.std.proofs.Common.{◌≡◌, ◌≢◌, ℕ, zero, suc, drop, get_or, ◌+◌, ◌<◌, ◌≤◌, List, [], ◌∷◌, ◌++◌, length, Option, Some, None, Bool, true, false, cond, eqb, eq-eqb, ne_eqb, refl, sym, ap, ◌∙◌, subst, arith, append_assoc}
use Rattle.std.proofs.lemmas.List.{append-nil}
use Rattle.std.specs.Prelude.{slice_get}
use Rattle.std.proofs.lemmas.Option.{slice_get_past}
use Rattle.std.proofs.Math.Seq.{drop-cons}
use Rattle.run_trace.specs.declared.entry.Act.{Act}
use Rattle.run_trace.specs.declared.entry.Act.TheVariants.{Boot, Run, Take, Move}
use Rattle.slot_space.specs.declared.names.Tid.{Tid}
use Rattle.run_trace.specs.declared.packet.Packet.{Packet}
use Rattle.run_trace.specs.declared.packet.Send.{Send}
use Rattle.run_trace.specs.Cluster.{taken_of}
use Rattle.wires.specs.declared.ends.Ends.{Ends}
use Rattle.wires.specs.declared.link.Link.{Link}
use Rattle.wires.specs.Ends.{node_of, width, link_of, of_link, count_of_link, sent_to, received_from, spare_to, AreFlushed, LinkChanged}
use Rattle.wires.specs.Link.{link_sent, link_received, link_known, link_spare, HasTaken, HasSent, SameLink, HasFlushed}
use Rattle.wires.specs.Wires.{StaysWired}
use Rattle.wires.proofs.Lemmas.{of_before, of_after, of_other, stays_refl, stays_trans}
use Rattle.basics.proofs.Lemmas.{by_eq, by_less, some_at}
use Rattle.node_loop.specs.Turns.{CarriesNothing, StaysKnown}
use Rattle.node_loop.specs.Links.{TakesFirst, Took, Reserved, HasRoom, Sent}
use Rattle.run_trace.specs.Links.{packets_to}

-- ## Taking

-- a word on the links is as before, if the call left it on its link
same_word : (f : Link Packet → List Packet) (s : ℕ) (R : Link Packet → Link Packet → Type 0) (a b : Ends Packet) (l : LinkChanged s R a b) → f l.after ≡ f l.before
    → (k : ℕ) → of_link f (link_of b k) ≡ of_link f (link_of a k)
same_word f s R a b l same k = by_eq k s
    (λ e. subst (λ j. of_link f (link_of b j) ≡ of_link f (link_of a j)) (sym e) (of_after f s R a b l ∙ (same ∙ sym (of_before f s R a b l))))
    (λ ne. of_other f s k R a b l ne)

-- a word on the links has something more, on one link
more_word : (f : Link Packet → List Packet) (s : ℕ) (R : Link Packet → Link Packet → Type 0) (a b : Ends Packet) (l : LinkChanged s R a b) (xs : List Packet) → f l.after ≡ f l.before ++ xs
    → (k : ℕ) (ys : List Packet) → (k ≡ s → ys ≡ xs) → (k ≢ s → ys ≡ []) → of_link f (link_of b k) ≡ of_link f (link_of a k) ++ ys
more_word f s R a b l xs more k ys here there = by_eq k s
    (λ e. subst (λ j. of_link f (link_of b j) ≡ of_link f (link_of a j) ++ ys) (sym e)
    (of_after f s R a b l ∙ (more ∙ (ap (λ zs. zs ++ xs) (sym (of_before f s R a b l)) ∙ ap (λ zs. of_link f (link_of a s) ++ zs) (sym (here e))))))
    (λ ne. of_other f s k R a b l ne ∙ (sym (append-nil (of_link f (link_of a k))) ∙ ap (λ zs. of_link f (link_of a k) ++ zs) (sym (there ne))))

-- what is known of the senders of which nothing is taken
others_known : (from : ℕ) (R : Link Packet → Link Packet → Type 0) (a b : Ends Packet) → LinkChanged from R a b → (k : ℕ) → Take from ≢ Take k → StaysKnown k a b
others_known from R a b l k ne p ps e = by_eq k from (λ h. absurd (ne (ap Take (sym h)))) (λ apart. ap (of_link link_known) (l.others.links k apart) ∙ e)

pub took_link : (from : ℕ) (o : Option Packet) (a b : Ends Packet) → LinkChanged from (HasTaken o) a b → StaysWired a b → Took (Take from) o a b
took_link from None a b l w = record {
  first = of_before link_known from (HasTaken None) a b l ∙ l.changed.takes.1;
  node = l.others.node;
  wide = l.others.width;
  received = λ k. more_word link_received from (HasTaken None) a b l [] (l.changed.takes.0 ∙ sym (append-nil (link_received l.before))) k [] (λ e. refl) (λ ne. refl);
  sent = same_word link_sent from (HasTaken None) a b l l.changed.same_sent;
  known = others_known from (HasTaken None) a b l;
  wired = w;
}
took_link from (Some x) a b l w = record {
  first = λ p ps known.
      let h = l.changed.takes.1 in
      first_is p ps h.0 (subst (λ zs. zs ++ h.0 ≡ x ∷ link_known l.after) (sym (of_before link_known from (HasTaken (Some x)) a b l) ∙ known) h.1);
  node = l.others.node;
  wide = l.others.width;
  received = λ k. more_word link_received from (HasTaken (Some x)) a b l (x ∷ []) l.changed.takes.0 k (cond (eqb from k) (x ∷ []) [])
      (λ e. ap (λ c. cond c (x ∷ []) []) (eq-eqb from k (sym e))) (λ ne. ap (λ c. cond c (x ∷ []) []) (ne_eqb from k (λ e. ne (sym e))));
  sent = same_word link_sent from (HasTaken (Some x)) a b l l.changed.same_sent;
  known = others_known from (HasTaken (Some x)) a b l;
  wired = w;
}
  where
    first_is : (p : Packet) (ps rest : List Packet) → (p ∷ ps) ++ rest ≡ x ∷ link_known l.after → Some x ≡ Some p
    first_is p ps rest e = cc

took_nothing : (act : Act) (a : Ends Packet) → TakesFirst a act None → ((k : ℕ) → taken_of k act None ≡ []) → Took act None a a
took_nothing act a f none = record {
  first = f;
  node = refl;
  wide = refl;
  received = λ k. sym (append-nil (received_from a k)) ∙ ap (λ zs. received_from a k ++ zs) (sym (none k));
  sent = λ k. refl;
  known = λ k ne p ps e. e;
  wired = stays_refl a;
}

pub boot_takes : (a : Ends Packet) → Took Boot None a a
boot_takes a = took_nothing Boot a refl (λ k. refl)

pub move_takes : (t : Tid) (to : ℕ) (a : Ends Packet) → Took (Move t to) None a a
move_takes t to a = took_nothing (Move t to) a refl (λ k. refl)

pub run_takes : (vp quantum : ℕ) (a : Ends Packet) → Took (Run vp quantum) None a a
run_takes vp quantum a = took_nothing (Run vp quantum) a refl (λ k. refl)

-- ## Room

pub nothing_carried : (a : Ends Packet) → CarriesNothing a a
nothing_carried a = record { node = refl; wide = refl; received = λ k. refl; sent = λ k. refl; known = λ k p ps e. e; wired = stays_refl a }

pub then_nothing : (a b c : Ends Packet) → CarriesNothing a b → CarriesNothing b c → CarriesNothing a c
then_nothing a b c h g = record {
  node = g.node ∙ h.node;
  wide = g.wide ∙ h.wide;
  received = λ k. g.received k ∙ h.received k;
  sent = λ k. g.sent k ∙ h.sent k;
  known = λ k p ps e. g.known k p ps (h.known k p ps e);
  wired = stays_trans a b c h.wired g.wired;
}

pub reserved_none : (a : Ends Packet) → Reserved a a
reserved_none a = record { nothing = nothing_carried a; spare = λ k. omega arith }

pub reserved_more : (a b c : Ends Packet) → Reserved a b → Reserved b c → Reserved a c
reserved_more a b c h g = record { nothing = then_nothing a b c h.nothing g.nothing; spare = λ k. omega (arith, h.spare k, g.spare k) }

pub reserved_link : (to : ℕ) (a b : Ends Packet) → LinkChanged to SameLink a b → StaysWired a b → Reserved a b
reserved_link to a b l w = record {
  nothing = record {
    node = l.others.node;
    wide = l.others.width;
    received = same_word link_received to SameLink a b l l.changed.same_received;
    sent = same_word link_sent to SameLink a b l l.changed.same_sent;
    known = λ k p ps e. same_word link_known to SameLink a b l l.changed.same_known k ∙ e;
    wired = w;
  };
  spare = λ k. by_eq k to
      (λ e. subst (λ j. spare_to a j ≤ spare_to b j) (sym e) (omega (arith, l.changed.spare, ap (count_of_link link_spare) l.was, ap (count_of_link link_spare) l.is)))
      (λ ne. omega (arith, ap (count_of_link link_spare) (l.others.links k ne)));
}

-- room stays where no spare place is lost
pub room_kept : (n : ℕ) (a b : Ends Packet) → Reserved a b → (xs : List Send) → HasRoom n a xs → HasRoom n b xs
room_kept n a b r [] h = tt
room_kept n a b r (x ∷ xs) h = (λ l. omega (arith, h.0 (omega (arith, l, r.nothing.wide)), r.spare x.to), room_kept n a b r xs h.1)

-- what is reserved so far: with room for the rest there is room for all
pub record Reserves (n : ℕ) (all rest : List Send) (old now : Ends Packet) : Type 0 where
  pub kept : Reserved old now
  pub room : (later : Ends Packet) → Reserved now later → HasRoom n later rest → HasRoom n later all

pub reserves_none : (n : ℕ) (all : List Send) (a : Ends Packet) → Reserves n all all a a
reserves_none n all a = record { kept = reserved_none a; room = λ later r h. h }

pub reserves_more : (n : ℕ) (x : Send) (all xs : List Send) (a b c : Ends Packet) → Reserves n all (x ∷ xs) a b → Reserved b c → (x.to < width c → n ≤ spare_to c x.to)
    → Reserves n all xs a c
reserves_more n x all xs a b c h r more = record {
  kept = reserved_more a b c h.kept r;
  room = λ later s k. h.room later (reserved_more b c later r s) (λ l. omega (arith, more (omega (arith, l, s.nothing.wide)), s.spare x.to), k);
}

pub reserves_all : (n : ℕ) (all : List Send) (a b : Ends Packet) → Reserves n all [] a b → HasRoom n b all
reserves_all n all a b h = h.room b (reserved_none b) tt

-- ## Sending

pub sent_link : (stamp : ℕ) (x : Send) (p : Packet) (a b : Ends Packet) → p ≡ record { stamp = stamp; body = x.body } → LinkChanged x.to (HasSent p) a b → StaysWired a b → Sent stamp (x ∷ []) a b
sent_link stamp x p a b e l w = record {
  node = l.others.node;
  wide = l.others.width;
  received = same_word link_received x.to (HasSent p) a b l l.changed.same_received;
  sent = λ k lt. more_word link_sent x.to (HasSent p) a b l (p ∷ []) l.changed.sends k (packets_to k stamp (x ∷ []))
      (λ h. ap (λ c. cond c ((record { stamp = stamp; body = x.body }) ∷ []) []) (eq-eqb x.to k (sym h)) ∙ ap (λ q. q ∷ []) (sym e))
      (λ ne. ap (λ c. cond c ((record { stamp = stamp; body = x.body }) ∷ []) []) (ne_eqb x.to k (λ h. ne (sym h))));
  spare = λ k. by_eq k x.to
      (λ e. subst (λ j. spare_to a j ≤ spare_to b j + 1) (sym e) (omega (arith, l.changed.spare, ap (count_of_link link_spare) l.was, ap (count_of_link link_spare) l.is)))
      (λ ne. omega (arith, ap (count_of_link link_spare) (l.others.links k ne)));
  known = λ k q qs e. same_word link_known x.to (HasSent p) a b l l.changed.same_known k ∙ e;
  wired = w;
}

pub sent_past : (stamp : ℕ) (x : Send) (a : Ends Packet) → width a ≤ x.to → Sent stamp (x ∷ []) a a
sent_past stamp x a past = record {
  node = refl;
  wide = refl;
  received = λ k. refl;
  sent = λ k lt. sym (append-nil (sent_to a k)) ∙ ap (λ c. sent_to a k ++ cond c ((record { stamp = stamp; body = x.body }) ∷ []) []) (sym (ne_eqb x.to k (λ e. absurd (omega (arith, e, lt, past)))));
  spare = λ k. omega arith;
  known = λ k p ps e. e;
  wired = stays_refl a;
}

-- what is sent so far, and room for the rest
pub record Sends (stamp : ℕ) (all rest : List Send) (old now : Ends Packet) : Type 0 where
  pub node : node_of now ≡ node_of old
  pub wide : width now ≡ width old
  pub received : (k : ℕ) → received_from now k ≡ received_from old k
  pub sent : (k : ℕ) → k < width old → sent_to now k ++ packets_to k stamp rest ≡ sent_to old k ++ packets_to k stamp all
  pub spare : (k : ℕ) → spare_to old k + length rest ≤ spare_to now k + length all
  pub known : (k : ℕ) → StaysKnown k old now
  pub wired : StaysWired old now
  pub room : HasRoom (length rest) now rest

pub sends_none : (stamp : ℕ) (all : List Send) (a : Ends Packet) → HasRoom (length all) a all → Sends stamp all all a a
sends_none stamp all a room = record {
  node = refl;
  wide = refl;
  received = λ k. refl;
  sent = λ k lt. refl;
  spare = λ k. omega arith;
  known = λ k p ps e. e;
  wired = stays_refl a;
  room = room;
}

-- after a packet there is room for one less
room_less : (n stamp : ℕ) (x : Send) (a b : Ends Packet) → Sent stamp (x ∷ []) a b → (xs : List Send) → HasRoom (suc n) a xs → HasRoom n b xs
room_less n stamp x a b s [] h = tt
room_less n stamp x a b s (y ∷ ys) h = (λ l. omega (arith, h.0 (omega (arith, l, s.wide)), s.spare y.to), room_less n stamp x a b s ys h.1)

packets-cons : (k stamp : ℕ) (x : Send) (xs : List Send) → packets_to k stamp (x ∷ xs) ≡ packets_to k stamp (x ∷ []) ++ packets_to k stamp xs
packets-cons k stamp x xs = by (eqb x.to k)
  where
    by : (c : Bool) → cond c ((record { stamp = stamp; body = x.body }) ∷ packets_to k stamp xs) (packets_to k stamp xs) ≡ cond c ((record { stamp = stamp; body = x.body }) ∷ []) [] ++ packets_to k stamp xs
    by true = refl
    by false = refl

pub sends_more : (stamp : ℕ) (x : Send) (all xs : List Send) (a b c : Ends Packet) → Sends stamp all (x ∷ xs) a b → Sent stamp (x ∷ []) b c → Sends stamp all xs a c
sends_more stamp x all xs a b c h s = record {
  node = s.node ∙ h.node;
  wide = s.wide ∙ h.wide;
  received = λ k. s.received k ∙ h.received k;
  sent = λ k lt.
      ap (λ zs. zs ++ packets_to k stamp xs) (s.sent k (omega (arith, lt, h.wide)))
      ∙ (append_assoc (sent_to b k) (packets_to k stamp (x ∷ [])) (packets_to k stamp xs)
      ∙ (ap (λ zs. sent_to b k ++ zs) (sym (packets-cons k stamp x xs)) ∙ h.sent k lt));
  spare = λ k. omega (arith, h.spare k, s.spare k);
  known = λ k p ps e. s.known k p ps (h.known k p ps e);
  wired = stays_trans a b c h.wired s.wired;
  room = room_less (length xs) stamp x b c s xs h.room.1;
}

pub sends_all : (stamp : ℕ) (all : List Send) (a b : Ends Packet) → Sends stamp all [] a b → Sent stamp all a b
sends_all stamp all a b h = record {
  node = h.node;
  wide = h.wide;
  received = h.received;
  sent = λ k lt. sym (append-nil (sent_to b k)) ∙ h.sent k lt;
  spare = λ k. omega (arith, h.spare k);
  known = h.known;
  wired = h.wired;
}

-- ## Flushing

pub flushed : (a b : Ends Packet) → AreFlushed a b → StaysWired a b → CarriesNothing a b
flushed a b f w = record {
  node = f.node;
  wide = f.width;
  received = same link_received (λ x y h. h.same.same_received);
  sent = same link_sent (λ x y h. h.same.same_sent);
  known = λ k p ps e. same link_known (λ x y h. h.same.same_known) k ∙ e;
  wired = w;
}
  where
    same : (word : Link Packet → List Packet) → ((x y : Link Packet) → HasFlushed x y → word y ≡ word x) → (k : ℕ) → of_link word (slice_get b.links.items k) ≡ of_link word (slice_get a.links.items k)
    same word keeps k = by_less k (width a)
        (λ l.
        let x = some_at a.links.items k (omega (arith, l, a.links.ok.0)) in
        let y = some_at b.links.items k (omega (arith, l, f.width, b.links.ok.0)) in
        ap (of_link word) y.1 ∙ keeps x.0 y.0 (f.each k x.0 y.0 x.1 y.1) ∙ sym (ap (of_link word) x.1))
        (λ past. ap (of_link word) (slice_get_past b.links.items k (omega (arith, past, f.width, b.links.ok.0))) ∙ sym (ap (of_link word) (slice_get_past a.links.items k (omega (arith, past, a.links.ok.0)))))

-- a flush loses no spare place
flush_spare : (a b : Ends Packet) → AreFlushed a b → (k : ℕ) → spare_to a k ≤ spare_to b k
flush_spare a b f k = by_less k (width a)
    (λ l.
    let x = some_at a.links.items k (omega (arith, l, a.links.ok.0)) in
    let y = some_at b.links.items k (omega (arith, l, f.width, b.links.ok.0)) in
    omega (arith, ap (count_of_link link_spare) x.1, ap (count_of_link link_spare) y.1, (f.each k x.0 y.0 x.1 y.1).same.spare))
    (λ past. omega (arith, ap (count_of_link link_spare) (slice_get_past a.links.items k (omega (arith, past, a.links.ok.0)))))

-- what was sent goes into the rings
pub sent_flushed : (stamp : ℕ) (all : List Send) (a b c : Ends Packet) → Sent stamp all a b → AreFlushed b c → StaysWired b c → Sent stamp all a c
sent_flushed stamp all a b c s f w =
    let n : CarriesNothing b c = flushed b c f w in
    record {
      node = n.node ∙ s.node;
      wide = n.wide ∙ s.wide;
      received = λ k. n.received k ∙ s.received k;
      sent = λ k l. n.sent k ∙ s.sent k l;
      spare = λ k. omega (arith, s.spare k, flush_spare b c f k);
      known = λ k p ps e. n.known k p ps (s.known k p ps e);
      wired = stays_trans a b c s.wired w;
    }

-- ## Reading what a loop over a slice goes over

pub reserves_next : (n i : ℕ) (x : Send) (all : List Send) (a b c : Ends Packet) → i < length all → get_or all i x ≡ x → Reserves n all (drop i all) a b → Reserved b c
    → (x.to < width c → n ≤ spare_to c x.to) → Reserves n all (drop (i + 1) all) a c
reserves_next n i x all a b c lt at h r more =
    let front : drop i all ≡ x ∷ drop (suc i) all = drop-cons all i x lt ∙ ap (λ y. y ∷ drop (suc i) all) at in
    let next : suc i ≡ i + 1 = omega arith in
    subst (λ j. Reserves n all (drop j all) a c) next (reserves_more n x all (drop (suc i) all) a b c (subst (λ xs. Reserves n all xs a b) front h) r more)

pub reserves_end : (n i : ℕ) (all : List Send) (a b : Ends Packet) → length all ≤ i → Reserves n all (drop i all) a b → HasRoom n b all
reserves_end n i all a b past h = reserves_all n all a b (subst (λ xs. Reserves n all xs a b) (drop-past i all past) h)
  where
    drop-past : (i : ℕ) (xs : List Send) → length xs ≤ i → drop i xs ≡ []
    drop-past zero [] l = refl
    drop-past (suc i) [] l = refl
    drop-past zero (x ∷ xs) l = absurd (omega arith)
    drop-past (suc i) (x ∷ xs) l = drop-past i xs (omega arith)
