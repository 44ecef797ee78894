-- What an event does without a word: claims, turns that end, and what comes of a packet of turns.
use Rattle.std.proofs.Common.{arith, ◌≡◌, ℕ, List, [], ◌∷◌, ◌++◌, Some, Bool, true, false, eqb, cond, ◌&&◌, refl, sym, ap, ◌∙◌, subst, append_assoc}
use Rattle.std.proofs.Math.Path.{fun_ext}
use Rattle.std.specs.Prelude.{is_some, not}
use Rattle.std.proofs.lemmas.Bool.{eq-eqb, eqb-true}
use Rattle.std.proofs.lemmas.List.{append-nil}
use Rattle.slot_space.specs.Limits.{slot_limit}
use Rattle.slot_space.specs.Sets.{lowest_run}
use Rattle.slot_space.specs.declared.names.Tid.{Tid}
use Rattle.run_trace.specs.declared.node.Wait.TheVariants as wait
use Rattle.run_trace.specs.Guests.{waits}
use Rattle.run_trace.specs.Calls.{slots_wanted}
use Rattle.run_trace.specs.declared.packet.Body.{Body}
use Rattle.run_trace.specs.declared.packet.Body.TheVariants.{Mover, Show, ShowDone, JoinAsk, DetachAsk, SemAsk, Answer, EndNote, Want, Turn, Over}
use Rattle.run_trace.specs.declared.packet.Send.{Send}
use Rattle.run_trace.specs.Talks.{Talk, one_send, want_sends, claiming, with_claims, after_turn, again_sends, again, turn_to, listing_sends, listing, without_first, next_turn, is_wanting, is_first}
use Rattle.run_trace.specs.Items.{Item, Serves, Grants, Decides, Ends_turn, Wants_again, Subject, Thread, Turns, works_off, has_slots}
use Rattle.run_trace.specs.Names.{is_tid}
use Rattle.run_trace.specs.Program.{Program}
use Rattle.run_trace.specs.Rules.{Occasion}
use Rattle.run_trace.specs.Cluster.{Net}
use Rattle.run_trace.specs.Local.{EventSoFar, nothing}
use Rattle.run_trace.specs.Steps.{speaks, thread_at}
use Rattle.run_trace.specs.Machine.{accepts, is_stray, has_run_for, claims, ends_turn, wants_again, leaves_claims}
use Rattle.run_trace.specs.Spots.{Seeks, On, its_call, Spots}
use Rattle.run_trace.specs.World.{World}
use Rattle.run_trace.specs.Keyed.{StandsFor}
use Rattle.bubbles.specs.Covering.{AreCovered}
use Rattle.run_trace.specs.Stands.{Busy, Here, Agrees, AreSeated, some_of, turns_among, wants_among, A_want, A_turn, An_over, Word, word_subject, word_of, words_about, itself, seeker_part, serving, AreInTurn}
use Rattle.run_trace.proofs.Lemmas.{is-true, is-refl}
use Rattle.trace_laws.proofs.Lists.KeyedLemmas.{rotated, raised}
use Rattle.trace_laws.proofs.Lists.Subjects.{about-append, about-less_other, less_word}
use Rattle.trace_laws.proofs.Lists.InTurn.{with_list, Hears, wish_in_turn, next_in_turn, turn_taken, want_to, want_found, over_to, over_found, turn_from, turn_found, some_at_most, sent_turn, sent_turns, HasSpoken, claims_in_turn, leaves_in_turn, ends_in_turn, again_in_turn}
use Rattle.trace_laws.proofs.Underway.Steps.{on_node}
use Rattle.trace_laws.proofs.Underway.Midst.{none_under, under_append, Outset, Links, LinkStands, at_link, Midst, under, sent_words, turn_words, talks_amid, to_do_amid}

-- ## What is sent

about_if : (v : Bool) (xs : List Word) (s : Subject) → words_about (cond v xs []) s ≡ cond v (words_about xs s) []
about_if true xs s = refl
about_if false xs s = refl

none_if : (v : Bool) → cond {A = List Word} v [] [] ≡ []
none_if true = refl
none_if false = refl

body_turns : (j : ℕ) (body : Body) → words_about (word_of j body ∷ []) Turns ≡ sent_turn body
body_turns j (Mover x) = refl
body_turns j (Show t bytes) = refl
body_turns j (ShowDone t) = refl
body_turns j (JoinAsk by seq) = refl
body_turns j (DetachAsk by seq) = refl
body_turns j (SemAsk by id up) = refl
body_turns j (Answer t reply second) = refl
body_turns j (EndNote seq end) = refl
body_turns j Want = refl
body_turns j Turn = refl
body_turns j Over = refl

about_turns : (j : ℕ) (xs : List Send) → words_about (sent_words j xs) Turns ≡ sent_turns j xs
about_turns j [] = refl
about_turns j (x ∷ xs) = elim (eqb x.to j) as (λ v. words_about (cond v (word_of j x.body ∷ sent_words j xs) (sent_words j xs)) Turns ≡ cond v (sent_turn x.body ++ sent_turns j xs) (sent_turns j xs)) [
  | true ↦ about-append (word_of j x.body ∷ []) (sent_words j xs) Turns ∙ ap (λ zs. zs ++ words_about (sent_words j xs) Turns) (body_turns j x.body) ∙ ap (λ zs. sent_turn x.body ++ zs) (about_turns j xs)
  | false ↦ about_turns j xs
]

-- these say nothing of a thread
abbrev pub AreOfTurns : List Send → Type 0
AreOfTurns xs = (j : ℕ) (t : Tid) → words_about (sent_words j xs) (Thread t) ≡ []

none_of_turns : AreOfTurns []
none_of_turns j t = refl

want_of_turns : AreOfTurns (one_send 0 Want)
want_of_turns j t = elim (eqb 0 j) as (λ v. words_about (cond v (word_of j Want ∷ []) []) (Thread t) ≡ []) [ true ↦ refl | false ↦ refl ]

over_of_turns : AreOfTurns (one_send 0 Over)
over_of_turns j t = elim (eqb 0 j) as (λ v. words_about (cond v (word_of j Over ∷ []) []) (Thread t) ≡ []) [ true ↦ refl | false ↦ refl ]

turn_of_turns : (m : ℕ) → AreOfTurns (one_send m Turn)
turn_of_turns m j t = elim (eqb m j) as (λ v. words_about (cond v (word_of j Turn ∷ []) []) (Thread t) ≡ []) [ true ↦ refl | false ↦ refl ]

wants_of_turns : (talk : Talk) → AreOfTurns (want_sends talk)
wants_of_turns talk = elim talk.wants as (λ v. AreOfTurns (cond v [] (one_send 0 Want))) [ true ↦ none_of_turns | false ↦ want_of_turns ]

again_of_turns : (ts : List Tid) (talk : Talk) → AreOfTurns (again_sends ts talk)
again_of_turns [] talk = none_of_turns
again_of_turns (t ∷ ts) talk = wants_of_turns talk

pub listing_of_turns : (m : ℕ) (ks : List ℕ) → AreOfTurns (listing_sends m ks)
listing_of_turns m [] = turn_of_turns m
listing_of_turns m (k ∷ ks) = none_of_turns

pub turn_to_of_turns : (ks : List ℕ) → AreOfTurns (turn_to ks)
turn_to_of_turns [] = none_of_turns
turn_to_of_turns (k ∷ ks) = turn_of_turns k

-- ## One step without a word

spoken_amid : (net : Net) (n : ℕ) (sends : List Send) (was kept : Talk) (due ahead : List Item) (L : Links) (xs : List Send)
    → HasSpoken n sends was kept due ahead (talks_amid net n was) (talks_amid net n kept) (turn_words (under n L xs)) (turn_words (under n L (xs ++ sends))) (to_do_amid n due) (to_do_amid n ahead)
spoken_amid net n sends was kept due ahead L xs = record {
  before = rw (eq-eqb n n refl) refl;
  talk = rw (eq-eqb n n refl) refl;
  others = λ i e. rw e refl;
  words = λ i j. ap (λ zs. words_about zs Turns) (under_append n L xs sends i j) ∙ about-append (under n L xs i j) (cond (eqb n i) (sent_words j sends) []) Turns
      ∙ ap (λ zs. words_about (under n L xs i j) Turns ++ zs) (about_if (eqb n i) (sent_words j sends) Turns ∙ ap (λ zs. cond (eqb n i) zs []) (about_turns j sends));
  ahead = rw (eq-eqb n n refl) refl;
  left = rw (eq-eqb n n refl) refl;
  rest = λ i e. rw e refl;
}

-- the event has come to this, and has told no more
abbrev pub Still : Outset → List Item → Links → EventSoFar → World → Type 0
Still outset ahead L d v = (k : Midst outset ahead L d []) × (k.now ≡ v)

module _ {outset : Outset} {due ahead : List Item} {L : Links} where
  open outset use {program as p, net, occasion as q, node as n, opening, world as w}

  -- what is ahead is what is left when the first is done
  silent_ok : (d : EventSoFar) (sends : List Send) (kept : Talk) → (m : Midst outset due L d [])
      → works_off n m.now.spots due d.sends d.node.talk ≡ works_off n m.now.spots ahead (d.sends ++ sends) kept
      → StandsFor is_tid itself (seeker_part n) (serving ahead ++ kept.claims) m.now.spots.threads → AreOfTurns sends
      → AreInTurn (talks_amid net n kept) (turn_words (under n L (d.sends ++ sends))) (to_do_amid n ahead)
      → Still outset ahead L (speaks sends kept d) m.now
  unfolding speaks
  silent_ok d sends kept m works seekers turns in_turn = (
    record {
      now = m.now;
      told = m.told;
      allowed = m.allowed;
      prints = m.prints;
      here = record {
        threads = m.here.threads;
        forest = m.here.forest;
        busy = m.here.busy;
        seekers = seekers;
        births = m.here.births;
        sems = m.here.sems;
        free = m.here.free;
        halted = m.here.halted;
      };
      there = m.there;
      links = λ i j t. ap (λ zs. words_about zs (Thread t)) (under_append n L d.sends sends i j) ∙ about-append (under n L d.sends i j) (cond (eqb n i) (sent_words j sends) []) (Thread t)
          ∙ ap (λ zs. words_about (under n L d.sends i j) (Thread t) ++ zs) (about_if (eqb n i) (sent_words j sends) (Thread t) ∙ ap (λ zs. cond (eqb n i) zs []) (turns j t) ∙ none_if (eqb n i))
          ∙ append-nil (words_about (under n L d.sends i j) (Thread t)) ∙ m.links i j t;
      turns = in_turn;
      agrees = m.agrees;
      seated = m.seated;
      covered = m.covered;
      aside = record {
        still = m.aside.still ∙ subst (λ (v : Spots). works_off n v due d.sends d.node.talk ≡ works_off n v ahead (d.sends ++ sends) kept) (ap (λ z. z.spots) m.told) works;
        next = m.aside.next;
        booted = m.aside.booted;
      };
    },
    refl,
  )

module _ {outset : Outset} {L : Links} where
  open outset use {program as p, net, occasion as q, node as n, opening, world as w}

  -- ## A thread that is to be served and for which there are no slots

  pub claims_ok : {ahead : List Item} (d : EventSoFar) (t : Tid) → (m : Midst outset (Serves t ∷ ahead) L d []) → has_slots n t m.now.spots ≡ false → Midst outset ahead L (claims t d) []
  claims_ok {ahead} d t m none =
      let talk : Talk = d.node.talk in
      (silent_ok d (want_sends talk) (claiming t talk) m (rw none refl)
      (subst (λ xs. StandsFor is_tid itself (seeker_part n) xs m.now.spots.threads) (append_assoc (serving ahead) talk.claims (t ∷ [])) (rotated is_tid is-true is-refl itself (serving ahead ++ talk.claims) t m.here.seekers))
      (wants_of_turns talk)
      (claims_in_turn t ahead (spoken_amid net n (want_sends talk) talk (claiming t talk) (Serves t ∷ ahead) ahead L d.sends) refl m.turns)).0

  -- ## A turn

  pub left_seekers : {ahead : List Item} {d : EventSoFar} (t : Tid) (ts : List Tid) → (m : Midst outset (Grants ∷ ahead) L d []) → d.node.talk.claims ≡ t ∷ ts → StandsFor is_tid itself (seeker_part n) (t ∷ (serving ahead ++ ts)) m.now.spots.threads
  left_seekers {ahead} t ts m has = raised is_tid is-true is-refl itself (serving ahead) ts t (subst (λ xs. StandsFor is_tid itself (seeker_part n) (serving ahead ++ xs) m.now.spots.threads) has m.here.seekers)

  -- the first claim is to be served
  pub serves_next_ok : {ahead : List Item} (d : EventSoFar) (t : Tid) (ts : List Tid) → (m : Midst outset (Grants ∷ ahead) L d []) → d.node.talk.claims ≡ t ∷ ts → has_slots n t m.now.spots ≡ true
      → Still outset (Serves t ∷ Grants ∷ ahead) L (leaves_claims ts d) m.now
  serves_next_ok {ahead} d t ts m has some =
      let talk : Talk = d.node.talk in
      silent_ok d [] (with_claims ts talk) m (rw (has, some, append-nil d.sends) refl)
      (left_seekers t ts m has) none_of_turns
      (leaves_in_turn t ts (Serves t ∷ Grants ∷ ahead) (spoken_amid net n [] talk (with_claims ts talk) (Grants ∷ ahead) (Serves t ∷ Grants ∷ ahead) L d.sends) has refl (omega arith) m.turns)

  -- or to be decided
  pub decides_next_ok : {ahead : List Item} (d : EventSoFar) (t : Tid) (ts : List Tid) → (m : Midst outset (Grants ∷ ahead) L d []) → d.node.talk.claims ≡ t ∷ ts → has_slots n t m.now.spots ≡ false
      → Still outset (Decides t ∷ Ends_turn ∷ Wants_again ∷ ahead) L (leaves_claims ts d) m.now
  decides_next_ok {ahead} d t ts m has none =
      let talk : Talk = d.node.talk in
      let next : List Item = Decides t ∷ Ends_turn ∷ Wants_again ∷ ahead in
      silent_ok d [] (with_claims ts talk) m (rw (has, none, append-nil d.sends) refl)
      (left_seekers t ts m has) none_of_turns
      (leaves_in_turn t ts next (spoken_amid net n [] talk (with_claims ts talk) (Grants ∷ ahead) next L d.sends) has refl (omega arith) m.turns)

  -- it ends where no claim is left
  pub grants_none_ok : {ahead : List Item} (d : EventSoFar) → (m : Midst outset (Grants ∷ ahead) L d []) → d.node.talk.claims ≡ [] → Midst outset ahead L (ends_turn d) []
  grants_none_ok {ahead} d m none =
      let talk : Talk = d.node.talk in
      (silent_ok d (one_send 0 Over) (after_turn talk) m (rw none refl) m.here.seekers over_of_turns
      (ends_in_turn ahead (spoken_amid net n (one_send 0 Over) talk (after_turn talk) (Grants ∷ ahead) ahead L d.sends) refl (omega (arith, ap some_of none)) m.turns)).0

  -- or where one is decided
  pub ends_turn_ok : {ahead : List Item} (d : EventSoFar) → (m : Midst outset (Ends_turn ∷ Wants_again ∷ ahead) L d []) → Midst outset (Wants_again ∷ ahead) L (ends_turn d) []
  ends_turn_ok {ahead} d m =
      let talk : Talk = d.node.talk in
      (silent_ok d (one_send 0 Over) (after_turn talk) m refl m.here.seekers over_of_turns
      (ends_in_turn (Wants_again ∷ ahead) (spoken_amid net n (one_send 0 Over) talk (after_turn talk) (Ends_turn ∷ Wants_again ∷ ahead) (Wants_again ∷ ahead) L d.sends) refl (omega (arith, some_at_most talk.claims)) m.turns)).0

  pub wants_again_ok : {ahead : List Item} (d : EventSoFar) → (m : Midst outset (Wants_again ∷ ahead) L d []) → Midst outset ahead L (wants_again d) []
  wants_again_ok {ahead} d m =
      let talk : Talk = d.node.talk in
      (silent_ok d (again_sends talk.claims talk) (again talk.claims talk) m refl
      (subst (λ xs. StandsFor is_tid itself (seeker_part n) (serving ahead ++ xs) m.now.spots.threads) (sym (again_claims talk.claims talk)) m.here.seekers)
      (again_of_turns talk.claims talk)
      (again_in_turn ahead (spoken_amid net n (again_sends talk.claims talk) talk (again talk.claims talk) (Wants_again ∷ ahead) ahead L d.sends) refl m.turns)).0
    where
      again_claims : (ts : List Tid) (talk : Talk) → (again ts talk).claims ≡ talk.claims
      again_claims [] talk = refl
      again_claims (t ∷ ts) talk = refl

  -- ## A thread that seeks slots, as its node has it

  pub seeking : {due : List Item} {d : EventSoFar} {hand : List Busy} (t : Tid) → (m : Midst outset due L d hand) → (m.now.spots.threads t).life ≡ On n Seeks
      → thread_at t d ≡ Some (waits wait.ForSlots (m.now.spots.threads t).guest)
  seeking t m x = on_node t Seeks m x

  pub same_run : {due : List Item} {d : EventSoFar} {hand : List Busy} (t : Tid) → (m : Midst outset due L d hand) → (m.now.spots.threads t).life ≡ On n Seeks
      → has_run_for (thread_at t d) d.node.slots.free ≡ has_slots n t m.now.spots
  same_run {d = d} t m x = ap (λ o. has_run_for o d.node.slots.free) (seeking t m x)
      ∙ ap (λ f. is_some (lowest_run f (slots_wanted (its_call t m.now.spots)) slot_limit)) (fun_ext (λ s. m.here.free s))

-- ## A packet of turns that is taken, before anything is said

-- what it leaves of turns on the links
took_turns : (from n : ℕ) (word : Word) (rest : List Word) (L : Links) → L from n ≡ word ∷ rest → word_subject word ≡ Turns
    → (i j : ℕ) → turn_words L i j ≡ cond (eqb from i && eqb n j) (word ∷ turn_words (at_link from n (less_word Turns) L) i j) (turn_words (at_link from n (less_word Turns) L) i j)
took_turns from n word rest L first of i j = by (eqb from i) (eqb n j) refl refl
  where
    by : (u v : Bool) → eqb from i ≡ u → eqb n j ≡ v
        → words_about (L i j) Turns ≡ cond (u && v) (word ∷ words_about (cond u (cond v (less_word Turns (L i j)) (L i j)) (L i j)) Turns) (words_about (cond u (cond v (less_word Turns (L i j)) (L i j)) (L i j)) Turns)
    by true true e f =
        let line : L i j ≡ word ∷ rest = ap (λ k. L k j) (sym (eqb-true from i e)) ∙ ap (λ k. L from k) (sym (eqb-true n j f)) ∙ first in
        rw (line, of) refl
    by true false e f = refl
    by false v e f = refl

-- of threads it leaves all
took_threads : (from n : ℕ) (L : Links) (i j : ℕ) (t : Tid) → words_about (at_link from n (less_word Turns) L i j) (Thread t) ≡ words_about (L i j) (Thread t)
took_threads from n L i j t = by (eqb from i) (eqb n j)
  where
    by : (u v : Bool) → words_about (cond u (cond v (less_word Turns (L i j)) (L i j)) (L i j)) (Thread t) ≡ words_about (L i j) (Thread t)
    by true true = about-less_other (L i j) Turns (Thread t) refl
    by true false = refl
    by false v = refl

-- nodes and links, before an event
pub record StandsBefore (p : Program) (net : Net) (n : ℕ) (v : Spots) (L : Links) : Type 0 where
  pub nodes : (k : ℕ) → Here k v (net.nodes k) [] []
  pub links : (i j : ℕ) → LinkStands i j (L i j) v.threads
  pub turns : AreInTurn (λ k. (net.nodes k).talk) (turn_words L) (λ k. [])
  pub agrees : Agrees p v
  pub seated : (k : ℕ) → AreSeated p k v
  pub covered : (k : ℕ) → AreCovered (v.forests k)

module _ (p : Program) (net : Net) (q : Occasion) (n : ℕ) (w : World) (L : Links) (before : StandsBefore p net n w.spots L) where
  abbrev pub opened_with : List Send → List Item → Talk → Outset
  opened_with sends to_do talk = record { program = p; net = net; occasion = q; node = n; opening = record { sends = sends; to_do = to_do; talk = talk }; world = w }

  -- the event, when it has taken a packet of turns and has sent these at once
  opens_ok : (from : ℕ) (sends : List Send) (kept : Talk) (ahead : List Item) → kept.claims ≡ (net.nodes n).talk.claims → serving ahead ≡ [] → AreOfTurns sends
      → AreInTurn (talks_amid net n kept) (turn_words (under n (at_link from n (less_word Turns) L) sends)) (to_do_amid n ahead)
      → Midst (opened_with sends ahead kept) ahead (at_link from n (less_word Turns) L) (speaks sends kept (nothing (net.nodes n))) []
  unfolding speaks
  opens_ok from sends kept ahead claims served turns in_turn = record {
    now = w;
    told = refl;
    allowed = record { solo = tt; holders = tt; life = tt; replies = tt; grants = tt; agrees = tt };
    prints = refl;
    here = record {
      threads = here.threads;
      forest = here.forest;
      busy = here.busy;
      seekers = subst (λ xs. StandsFor is_tid itself (seeker_part n) xs w.spots.threads) (sym (ap (λ xs. xs ++ kept.claims) served ∙ claims)) here.seekers;
      births = here.births;
      sems = here.sems;
      free = here.free;
      halted = here.halted;
    };
    there = λ k e. before.nodes k;
    links = λ i j t. about-append (M i j) (cond (eqb n i) (sent_words j sends) []) (Thread t)
        ∙ ap (λ zs. words_about (M i j) (Thread t) ++ zs) (about_if (eqb n i) (sent_words j sends) (Thread t) ∙ ap (λ zs. cond (eqb n i) zs []) (turns j t) ∙ none_if (eqb n i))
        ∙ append-nil (words_about (M i j) (Thread t)) ∙ took_threads from n L i j t ∙ before.links i j t;
    turns = in_turn;
    agrees = before.agrees;
    seated = before.seated;
    covered = before.covered;
    aside = record { still = refl; next = tt; booted = λ h. h };
  }
    where
      M : Links
      M = at_link from n (less_word Turns) L

      here : Here n w.spots (net.nodes n) [] []
      here = before.nodes n

  -- ## Node 0 takes a wish or the end of a turn

  -- its list is this then
  list_heard : (from : ℕ) (word : Word) (rest : List Word) (sends : List Send) (list : List ℕ) → L from n ≡ word ∷ rest → word_subject word ≡ Turns → n ≡ 0
      → Hears from word sends (net.nodes n).talk list (λ k. (net.nodes k).talk) (talks_amid net n (with_list list (net.nodes n).talk)) (turn_words L) (turn_words (at_link from n (less_word Turns) L))
      (turn_words (under n (at_link from n (less_word Turns) L) sends)) (λ k. []) (to_do_amid n [])
  list_heard from word rest sends list first of zero = record {
    before = ap (λ k. (net.nodes k).talk) (sym zero);
    talk = rw (eq-eqb n 0 zero) refl;
    others = λ i e. rw (ap (λ k. eqb k i) zero ∙ e) refl;
    took = subst (λ k. (i j : ℕ) → turn_words L i j ≡ cond (eqb from i && eqb k j) (word ∷ turn_words M i j) (turn_words M i j)) zero (took_turns from n word rest L first of);
    words = λ i j. about-append (M i j) (cond (eqb n i) (sent_words j sends) []) Turns
        ∙ ap (λ zs. turn_words M i j ++ zs) (about_if (eqb n i) (sent_words j sends) Turns ∙ ap (λ zs. cond (eqb n i) zs []) (about_turns j sends) ∙ ap (λ k. cond (eqb k i) (sent_turns j sends) []) zero);
    turns = λ i. elim (eqb n i) as (λ v. turns_among (cond v [] []) ≡ 0) [ true ↦ refl | false ↦ refl ];
    wants = λ i. elim (eqb n i) as (λ v. wants_among (cond v [] []) ≡ 0) [ true ↦ refl | false ↦ refl ];
  }
    where
      M : Links
      M = at_link from n (less_word Turns) L

  about_first : (from : ℕ) (word : Word) (rest : List Word) → L from n ≡ word ∷ rest → word_subject word ≡ Turns → turn_words L from n ≡ word ∷ words_about rest Turns
  about_first from word rest first of = rw (first, of) refl

  pub wish_ok : (from : ℕ) (rest : List Word) → L from n ≡ A_want ∷ rest
      → Midst (opened_with (listing_sends from (net.nodes n).talk.wanting) [] (listing from (net.nodes n).talk)) [] (at_link from n (less_word Turns) L) (accepts n from Want (net.nodes n)) []
  wish_ok from rest first =
      let talk : Talk = (net.nodes n).talk in
      let zero : n ≡ 0 = want_to before.turns from n (words_about rest Turns) (about_first from A_want rest first refl) in
      opens_ok from (listing_sends from talk.wanting) (listing from talk) [] refl refl (listing_of_turns from talk.wanting)
      (wish_in_turn (list_heard from A_want rest (listing_sends from talk.wanting) (talk.wanting ++ from ∷ []) first refl zero) before.turns)

  pub over_ok : (from : ℕ) (rest : List Word) → L from n ≡ An_over ∷ rest
      → Midst (opened_with (turn_to (without_first (net.nodes n).talk.wanting)) [] (next_turn (net.nodes n).talk)) [] (at_link from n (less_word Turns) L) (accepts n from Over (net.nodes n)) []
  over_ok from rest first =
      let talk : Talk = (net.nodes n).talk in
      let zero : n ≡ 0 = over_to before.turns from n (words_about rest Turns) (about_first from An_over rest first refl) in
      opens_ok from (turn_to (without_first talk.wanting)) (next_turn talk) [] refl refl (turn_to_of_turns (without_first talk.wanting))
      (next_in_turn (list_heard from An_over rest (turn_to (without_first talk.wanting)) (without_first talk.wanting) first refl zero) before.turns)

  -- ## A node takes its turn

  pub turn_begins : (from : ℕ) (rest : List Word) → L from n ≡ A_turn ∷ rest → Midst (opened_with [] (Grants ∷ []) (net.nodes n).talk) (Grants ∷ []) (at_link from n (less_word Turns) L) (nothing (net.nodes n)) []
  unfolding speaks
  turn_begins from rest first =
      let talk : Talk = (net.nodes n).talk in
      let M : Links = at_link from n (less_word Turns) L in
      let zero : from ≡ 0 = turn_from before.turns from n (words_about rest Turns) (about_first from A_turn rest first refl) in
      opens_ok from [] talk (Grants ∷ []) refl refl none_of_turns
      (turn_taken n (λ i. elim (eqb n i) as (λ v. eqb n i ≡ v → cond v talk (net.nodes i).talk ≡ (net.nodes i).talk) [ true ↦ λ e. ap (λ k. (net.nodes k).talk) (eqb-true n i e) | false ↦ λ e. refl ] refl)
      (λ i j. subst (λ xs. turn_words L i j ≡ cond (eqb 0 i && eqb n j) (A_turn ∷ xs) xs) (ap (λ zs. words_about zs Turns) (sym (none_under n M i j)))
      (subst (λ k. turn_words L i j ≡ cond (eqb k i && eqb n j) (A_turn ∷ turn_words M i j) (turn_words M i j)) zero (took_turns from n A_turn rest L first refl i j)))
      (ap (λ v. turns_among (cond v (Grants ∷ []) [])) (eq-eqb n n refl)) (λ i e. ap (λ v. turns_among (cond v (Grants ∷ []) [])) e)
      (λ i. elim (eqb n i) as (λ v. wants_among (cond v (Grants ∷ []) []) ≡ 0) [ true ↦ refl | false ↦ refl ]) before.turns)

  -- ## No packet of turns is a stray

  pub want_expected : (from : ℕ) (rest : List Word) → L from n ≡ A_want ∷ rest → is_stray p n from (net.nodes n) Want ≡ false
  want_expected from rest first =
      let words : turn_words L from n ≡ A_want ∷ words_about rest Turns = about_first from A_want rest first refl in
      let zero : n ≡ 0 = want_to before.turns from n (words_about rest Turns) words in
      let new : is_wanting from (net.nodes n).talk.wanting ≡ false = ap (λ k. is_wanting from (net.nodes k).talk.wanting) zero ∙ want_found before.turns from (words_about rest Turns) (ap (λ k. turn_words L from k) (sym zero) ∙ words) in
      rw (eq-eqb n 0 zero, new) refl

  pub over_expected : (from : ℕ) (rest : List Word) → L from n ≡ An_over ∷ rest → is_stray p n from (net.nodes n) Over ≡ false
  over_expected from rest first =
      let words : turn_words L from n ≡ An_over ∷ words_about rest Turns = about_first from An_over rest first refl in
      let zero : n ≡ 0 = over_to before.turns from n (words_about rest Turns) words in
      let first : is_first from (net.nodes n).talk.wanting ≡ true = ap (λ k. is_first from (net.nodes k).talk.wanting) zero ∙ over_found before.turns from (words_about rest Turns) (ap (λ k. turn_words L from k) (sym zero) ∙ words) in
      rw (eq-eqb n 0 zero, first) refl

  pub turn_expected : (from : ℕ) (rest : List Word) → L from n ≡ A_turn ∷ rest → is_stray p n from (net.nodes n) Turn ≡ false
  turn_expected from rest first =
      let words : turn_words L from n ≡ A_turn ∷ words_about rest Turns = about_first from A_turn rest first refl in
      let zero : from ≡ 0 = turn_from before.turns from n (words_about rest Turns) words in
      ap not (turn_found before.turns n (words_about rest Turns) (ap (λ k. turn_words L k n) (sym zero) ∙ words))
