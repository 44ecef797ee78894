-- An event in its midst: what holds of it, one more label, what the label does to spots and links, and the one lemma for a label.
use Rattle.std.proofs.Common.{arith, ◌≡◌, ◌≤◌, ◌+◌, ℕ, List, [], ◌∷◌, ◌++◌, Option, Some, None, Bool, true, false, eqb, cond, ◌&&◌, refl, sym, ap, ◌∙◌, subst, append_assoc, map}
use Rattle.std.specs.Prelude.{slice_get, not, All, ⊤}
use Rattle.std.proofs.Math.Path.{fun_ext}
use Rattle.std.proofs.lemmas.Bool.{eq-eqb, eqb-true}
use Rattle.std.proofs.lemmas.List.{append-nil}
use Rattle.slot_space.specs.Sets.{has}
use Rattle.slot_space.specs.declared.names.Tid.{Tid}
use Rattle.marcel_core.specs.declared.birth.Birth.{Birth}
use Rattle.marcel_core.specs.declared.birth.Birth.TheVariants.{Awaited}
use Rattle.marcel_sync.specs.declared.sem.SemRow.{SemRow}
use Rattle.marcel_sync.specs.Semaphores.{IsSemaphore, node_in, waiters_at}
use Rattle.run_trace.specs.declared.label.Label.{Label}
use Rattle.run_trace.specs.declared.label.Label.TheVariants.{Asked, Down, Burst}
use Rattle.run_trace.specs.declared.packet.Body.{Body}
use Rattle.run_trace.specs.declared.packet.Send.{Send}
use Rattle.run_trace.specs.Names.{is_tid}
use Rattle.run_trace.specs.Program.{Program}
use Rattle.run_trace.specs.declared.call.Call.{Call}
use Rattle.run_trace.specs.Calls.{call_of}
use Rattle.run_trace.specs.Local.{Local, EventSoFar}
use Rattle.run_trace.specs.Cluster.{Net}
use Rattle.run_trace.specs.Spots.{Stage, Stays, Seeks, Life, Awaits, Signals, Queues, Unborn, On, Spot, Remote, Spots, Holder, update, after_label, after_labels, is_free, at_node, gathered_by_call}
use Rattle.run_trace.specs.Rules.{Occasion, saying, Rule, SoloRule, HoldersRule, LifeRule, RepliesRule, GrantsRule}
use Rattle.run_trace.specs.World.{World, world_after}
use Rattle.trace_laws.specs.Obeys.{ObeyEach, AgreesRule}
use Rattle.run_trace.specs.Console.{shown_by, shown_by_all}
use Rattle.bubbles.specs.Forests.{ForestView}
use Rattle.bubbles.specs.Covering.{AreCovered}
use Rattle.trace_laws.proofs.Lists.SeatedLabels.{IsShifted, seated_label, covered_label}
use Rattle.run_trace.specs.Causes.{causes}
use Rattle.run_trace.specs.Talks.{Talk, one_send}
use Rattle.run_trace.specs.Obeying.{IsNext, Allows}
use Rattle.run_trace.specs.Stands.{Here, Agrees, AreSeated, AreInTurn, WantsSlots, itself, seeker_part, serving, turns_among, wants_among, count_by, one_turn, one_over, one_if, some_of, Busy, busy_name, busy_part, thread_part, link_part, Word, word_subject, word_of, words_about, Way, way, ways_of, on_link, phase_of, phase_at, Holding, held, slots_held, IsWellHeld, is_thread, waiter_name, waiter_in_life, waiter_part}
use Rattle.run_trace.specs.Keyed.{StandsFor}
use Rattle.run_trace.proofs.Lemmas.{is-true, is-refl, is-same}
use Rattle.trace_laws.proofs.Lists.Subjects.{less_word, rest_words, about-append, about-less, about-less_other, on_link-append}
use Rattle.trace_laws.proofs.Lists.KeyedLemmas.{kept, map_kept}
use Rattle.run_trace.specs.Items.{Subject, Thread, Turns, same_subject, Item, Does, Progress, is_seeking, goes_on_with, items_in, items_for, all_but_first, rest_after, told_gathered, told_first, to_do_after, works_off, worked_off, said, said_all}

-- an event before anything is said: of which program, on which occasion and node, what it has sent and has to do, and the cluster and
-- what was told before it
pub record Outset : Type 0 where
  pub program : Program
  pub net : Net
  pub occasion : Occasion
  pub node : ℕ
  pub opening : Progress
  pub world : World

abbrev pub Links : Type 0
Links = ℕ → ℕ → List Word

abbrev pub sent_words : ℕ → List Send → List Word
sent_words j [] = []
sent_words j (x ∷ xs) = cond (eqb x.to j) (word_of j x.body ∷ sent_words j xs) (sent_words j xs)

-- the links, with what the event has sent
abbrev pub under : ℕ → Links → List Send → Links
under n L sends i j = L i j ++ cond (eqb n i) (sent_words j sends) []

abbrev pub LinkStands : ℕ → ℕ → List Word → (Tid → Spot) → Type 0
LinkStands i j xs w = (t : Tid) → words_about xs (Thread t) ≡ link_part i j t w

-- the packets of turns on each link, what each node keeps of them, and what the event has still to do of them
abbrev pub turn_words : Links → ℕ → ℕ → List Word
turn_words M i j = words_about (M i j) Turns

abbrev pub talks_amid : Net → ℕ → Talk → ℕ → Talk
talks_amid net n talk k = cond (eqb n k) talk (net.nodes k).talk

abbrev pub to_do_amid : ℕ → List Item → ℕ → List Item
to_do_amid n ahead k = cond (eqb n k) ahead []

-- all labels obey each rule
pub record Obeyed (p : Program) (q : Occasion) (n : ℕ) (ls : List Label) (w : World) : Type 0 where
  pub solo : ObeyEach SoloRule p q n ls w
  pub holders : ObeyEach HoldersRule p q n ls w
  pub life : ObeyEach LifeRule p q n ls w
  pub replies : ObeyEach RepliesRule p q n ls w
  pub grants : ObeyEach GrantsRule p q n ls w
  pub agrees : ObeyEach AgreesRule p q n ls w

abbrev pub busy_item : Busy → Item
busy_item x = Does (Thread x.tid)

-- each label is what is to be done next
abbrev pub NextAll : Program → ℕ → List Label → Spots → Progress → Type 0
NextAll p n [] w r = ⊤
NextAll p n (l ∷ ls) w r = IsNext n l w (worked_off n w r).to_do × NextAll p n ls (after_label p n l w) (said p n l w (worked_off n w r))

-- what there is to do: for those with whom the event is busy, and then what is left of what it began with
abbrev pub doing : List Busy → List Item → List Item
doing hand ahead = map busy_item hand ++ ahead

-- to which the event has come, that has this to do
abbrev pub progress : EventSoFar → List Item → Progress
progress d to_do = record { sends = d.sends; to_do = to_do; talk = d.node.talk }

-- its first item says something, or there is none
abbrev pub Speaks : ℕ → Spots → List Item → Type 0
Speaks n w is = (sends : List Send) (talk : Talk) → works_off n w is sends talk ≡ record { sends = sends; to_do = is; talk = talk }

-- beside the spots: what was sent and is still to do, and that the node has begun
pub record Aside (p : Program) (n : ℕ) (opening : Progress) (w : Spots) (before : Local) (d : EventSoFar) (to_do : List Item) : Type 0 where
  pub still : worked_off n (after_labels p n d.labels w) (said_all p n d.labels w opening) ≡ worked_off n (after_labels p n d.labels w) (progress d to_do)
  pub next : NextAll p n d.labels w opening
  pub booted : before.booted ≡ true → d.node.booted ≡ true

-- the same of one more label, before which this was ahead; and what it needs for the forests
pub record Beside (p : Program) (n : ℕ) (v : Spots) (l : Label) (old now : Local) (due to_do : List Item) : Type 0 where
  pub shifted : IsShifted n l v
  pub front : Speaks n v due
  pub still : to_do ≡ to_do_after p n l v due
  pub next : IsNext n l v due
  pub talk : now.talk ≡ old.talk
  pub booted : now.booted ≡ old.booted

-- nodes and links stand for these spots, with node n in the state s, busy with hand and then with what is ahead
pub record StandsAmid (p : Program) (net : Net) (n : ℕ) (v : Spots) (M : Links) (s : Local) (hand : List Busy) (ahead : List Item) : Type 0 where
  pub here : Here n v s hand (serving ahead)
  pub there : (k : ℕ) → eqb n k ≡ false → Here k v (net.nodes k) [] []
  pub links : (i j : ℕ) → LinkStands i j (M i j) v.threads
  pub turns : AreInTurn (talks_amid net n s.talk) (turn_words M) (to_do_amid n ahead)
  pub agrees : Agrees p v

module _ (outset : Outset) where
  open outset use {program as p, net, occasion as q, node as n, opening, world as w}

  -- the event has come to d and has told now; it is busy with hand, and then what is ahead is left to do, of all that it began with;
  -- to_do is all that it has to do; L are the links without what it sent
  pub record MidstDoing (ahead : List Item) (L : Links) (d : EventSoFar) (hand : List Busy) (to_do : List Item) : Type 0 where
    pub now : World
    pub told : now ≡ record w { spots = after_labels p n d.labels w.spots }
    pub allowed : Obeyed p q n d.labels w
    pub prints : d.prints ≡ shown_by_all p n d.labels w.spots
    pub here : Here n now.spots d.node hand (serving ahead)
    pub there : (k : ℕ) → eqb n k ≡ false → Here k now.spots (net.nodes k) [] []
    pub links : (i j : ℕ) → LinkStands i j (under n L d.sends i j) now.spots.threads
    pub turns : AreInTurn (talks_amid net n d.node.talk) (turn_words (under n L d.sends)) (to_do_amid n ahead)
    pub agrees : Agrees p now.spots
    pub seated : (k : ℕ) → AreSeated p k now.spots
    pub covered : (k : ℕ) → AreCovered (now.spots.forests k)
    pub aside : Aside p n opening w.spots (net.nodes n) d to_do

  -- the same after one more label, of a world that was told
  pub record ThenDoing (ahead : List Item) (L : Links) (v : World) (l : Label) (d : EventSoFar) (hand : List Busy) (to_do : List Item) : Type 0 where
    pub midst : MidstDoing ahead L d hand to_do
    pub now : midst.now ≡ world_after p n l v

-- it has nothing to say before what it does for those with whom it is busy
abbrev pub Midst : Outset → List Item → Links → EventSoFar → List Busy → Type 0
Midst outset ahead L d hand = MidstDoing outset ahead L d hand (doing hand ahead)

abbrev pub Then : Outset → List Item → Links → World → Label → EventSoFar → List Busy → Type 0
Then outset ahead L v l d hand = ThenDoing outset ahead L v l d hand (doing hand ahead)

-- nodes and links stand for what is told then
pub amid : {outset : Outset} {ahead to_do : List Item} {L : Links} {d : EventSoFar} {hand : List Busy} → (m : MidstDoing outset ahead L d hand to_do) → StandsAmid outset.program outset.net outset.node m.now.spots (under outset.node L d.sends) d.node hand ahead
amid m = record { here = m.here; there = m.there; links = m.links; turns = m.turns; agrees = m.agrees }

-- ## One more label

pub after_append : (p : Program) (n : ℕ) (ls : List Label) (l : Label) (w : Spots) → after_label p n l (after_labels p n ls w) ≡ after_labels p n (ls ++ l ∷ []) w
after_append p n [] l w = refl
after_append p n (x ∷ ls) l w = after_append p n ls l (after_label p n x w)

-- the occasion after these labels too
abbrev pub having_said : List Label → Occasion → Occasion
having_said ls o = record o { said = o.said ++ ls }

obey_append : (rule : Rule) (p : Program) (q : Occasion) (n : ℕ) (ls : List Label) (l : Label) (w : World) → ObeyEach rule p q n ls w → rule p (having_said ls q) n l (record w { spots = after_labels p n ls w.spots }) → ObeyEach rule p q n (ls ++ l ∷ []) w
obey_append rule p q n [] l w o h = (subst (λ z. rule p (record q { said = z }) n l w) (append-nil q.said) h, tt)
obey_append rule p q n (x ∷ ls) l w o h = (o.0, obey_append rule p (saying x q) n ls l (world_after p n x w) o.1 (subst (λ z. rule p (record q { said = z }) n l (record w { spots = after_labels p n (x ∷ ls) w.spots })) (sym (append_assoc q.said (x ∷ []) ls)) h))

shown_append : (p : Program) (n : ℕ) (ls : List Label) (l : Label) (w : Spots) → shown_by_all p n (ls ++ l ∷ []) w ≡ shown_by_all p n ls w ++ shown_by l (after_labels p n ls w)
shown_append p n [] l w = append-nil (shown_by l w)
shown_append p n (x ∷ ls) l w = ap (λ xs. shown_by x w ++ xs) (shown_append p n ls l (after_label p n x w)) ∙ sym (append_assoc (shown_by x w) (shown_by_all p n ls (after_label p n x w)) (shown_by l (after_labels p n (x ∷ ls) w)))

said_append : (p : Program) (n : ℕ) (ls : List Label) (l : Label) (w : Spots) (r : Progress)
    → said_all p n (ls ++ l ∷ []) w r ≡ said p n l (after_labels p n ls w) (worked_off n (after_labels p n ls w) (said_all p n ls w r))
said_append p n [] l w r = refl
said_append p n (x ∷ ls) l w r = said_append p n ls l (after_label p n x w) (said p n x w (worked_off n w r))

next_append : (p : Program) (n : ℕ) (ls : List Label) (l : Label) (w : Spots) (r : Progress)
    → NextAll p n ls w r → IsNext n l (after_labels p n ls w) (worked_off n (after_labels p n ls w) (said_all p n ls w r)).to_do → NextAll p n (ls ++ l ∷ []) w r
next_append p n [] l w r a k = (k, tt)
next_append p n (x ∷ ls) l w r a k = (a.0, next_append p n ls l (after_label p n x w) (said p n x w (worked_off n w r)) a.1 k)

aside_append : {p : Program} {n : ℕ} {opening : Progress} {due to_do : List Item} {w : Spots} {before now : Local} {d : EventSoFar} {l : Label} {sends : List Send} {prints : List ℕ}
    → Aside p n opening w before d due → Beside p n (after_labels p n d.labels w) l d.node now due to_do → sends ≡ d.sends ++ causes p n l (after_labels p n d.labels w)
    → Aside p n opening w before (record { node = now; labels = d.labels ++ l ∷ []; sends = sends; prints = prints }) to_do
aside_append {p} {n} {opening} {due} {to_do} {w} {before} {now} {d} {l} {sends} a b sent =
    let v : Spots = after_labels p n d.labels w in
    let is : worked_off n v (said_all p n d.labels w opening) ≡ progress d due = a.still ∙ b.front d.sends d.node.talk in
    let after : Progress = record { sends = sends; to_do = to_do; talk = now.talk } in
    let then : said_all p n (d.labels ++ l ∷ []) w opening ≡ after =
    said_append p n d.labels l w opening ∙ ap (said p n l v) is ∙ sym (same_parts sent b.still b.talk) in
    record {
      still = ap (worked_off n (after_labels p n (d.labels ++ l ∷ []) w)) then;
      next = next_append p n d.labels l w opening a.next (subst (λ (r : Progress). IsNext n l v r.to_do) (sym is) b.next);
      booted = λ h. b.booted ∙ a.booted h;
    }
  where
    made_of : List Send → List Item → Talk → Progress
    made_of x y z = record { sends = x; to_do = y; talk = z }

    same_parts : {s1 s2 : List Send} {i1 i2 : List Item} {t1 t2 : Talk} → s1 ≡ s2 → i1 ≡ i2 → t1 ≡ t2 → made_of s1 i1 t1 ≡ made_of s2 i2 t2
    same_parts {s1} {s2} {i1} {i2} {t1} {t2} x y z = ap (λ k. made_of k i1 t1) x ∙ ap (λ k. made_of s2 k t1) y ∙ ap (λ k. made_of s2 i2 k) z

-- what is ahead says as much of turns, and serves the same threads
pub record IsAsBefore (due ahead : List Item) : Type 0 where
  pub turns : turns_among ahead ≡ turns_among due
  pub wants : wants_among ahead ≡ wants_among due
  pub serves : serving ahead ≡ serving due

pub as_before : {ahead : List Item} → IsAsBefore ahead ahead
as_before = record { turns = refl; wants = refl; serves = refl }

-- after the label its threads go on: no bubble is told first, and no processor chooses again
abbrev pub GoesOnOnly : Program → ℕ → Label → Spots → Type 0
GoesOnOnly p n (Asked t call args bytes) v = gathered_by_call p n t v ≡ None
GoesOnOnly p n (Down bubble list) v = ⊥
GoesOnOnly p n (Burst bubble list) v = ⊥
GoesOnOnly p n l v = ⊤

none_first : (p : Program) (n : ℕ) (l : Label) (v : Spots) → GoesOnOnly p n l v → told_first p n l v ≡ []
none_first p n (Asked t call args bytes) v h = ap told_gathered h
none_first p n (Down bubble list) v h = absurd h
none_first p n (Burst bubble list) v h = absurd h
none_first p n l v h = grind arith

first_gone : (p : Program) (n : ℕ) (l : Label) (v : Spots) (is : List Item) → GoesOnOnly p n l v → rest_after l is ≡ all_but_first is
first_gone p n (Down bubble list) v is h = absurd h
first_gone p n (Burst bubble list) v is h = absurd h
first_gone p n l v is h = grind arith

pub goes_only : (p : Program) (n : ℕ) (l : Label) (v : Spots) (is : List Item) {ss : List Subject} → GoesOnOnly p n l v → goes_on_with p n l v ≡ ss
    → to_do_after p n l v is ≡ items_for n ss (after_label p n l v) ++ all_but_first is
goes_only p n l v is {ss} h on =
    ap (λ z. z ++ items_for n (goes_on_with p n l v) (after_label p n l v) ++ rest_after l is) (none_first p n l v h)
    ∙ ap (λ z. items_for n (goes_on_with p n l v) (after_label p n l v) ++ z) (first_gone p n l v is h)
    ∙ ap (λ z. items_for n z (after_label p n l v) ++ all_but_first is) on

-- a label of the thread t, which comes to a new life: the event is busy with it, or goes on with what is left to do
pub record Own (p : Program) (n : ℕ) (l : Label) (t : Tid) (v : Spots) (due ahead : List Item) (hand more : List Busy) (new : Life) : Type 0 where
  pub heir : goes_on_with p n l v ≡ Thread t ∷ []
  pub only : GoesOnOnly p n l v
  pub front : Speaks n v (doing hand due)
  pub next : IsNext n l v (doing hand due)
  pub still : doing more ahead ≡ (items_in n t new ++ []) ++ all_but_first (doing hand due)

pub beside : {p : Program} {n : ℕ} {v : Spots} {l : Label} {t : Tid} {due ahead : List Item} {old now : Local} {hand more : List Busy} {new : Life}
    → Own p n l t v due ahead hand more new → ((after_label p n l v).threads t).life ≡ new → IsShifted n l v → now.booted ≡ old.booted → now.talk ≡ old.talk
    → Beside p n v l old now (doing hand due) (doing more ahead)
beside {p} {n} {v} {l} {t} {due} {hand = hand} o life shifted booted talk = record {
  shifted = shifted;
  booted = booted;
  talk = talk;
  front = o.front;
  next = o.next;
  still = o.still ∙ ap (λ z. (items_in n t z ++ []) ++ all_but_first (doing hand due)) (sym life) ∙ sym (goes_only p n l v (doing hand due) o.only o.heir);
}

-- a label that sets u going, which comes to one life, while its own thread t comes to another
pub record SetsGoing (p : Program) (n : ℕ) (l : Label) (u t : Tid) (v : Spots) (due ahead : List Item) (hand more : List Busy) (first second : Life) : Type 0 where
  pub heirs : goes_on_with p n l v ≡ Thread u ∷ Thread t ∷ []
  pub only : GoesOnOnly p n l v
  pub front : Speaks n v (doing hand due)
  pub next : IsNext n l v (doing hand due)
  pub still : doing more ahead ≡ (items_in n u first ++ (items_in n t second ++ [])) ++ all_but_first (doing hand due)

pub beside_both : {p : Program} {n : ℕ} {v : Spots} {l : Label} {u t : Tid} {due ahead : List Item} {old now : Local} {hand more : List Busy} {first second : Life}
    → SetsGoing p n l u t v due ahead hand more first second → ((after_label p n l v).threads u).life ≡ first → ((after_label p n l v).threads t).life ≡ second
    → IsShifted n l v → now.booted ≡ old.booted → now.talk ≡ old.talk
    → Beside p n v l old now (doing hand due) (doing more ahead)
beside_both {p} {n} {v} {l} {u} {t} {due} {hand = hand} {first = first} {second} o of_u of_t shifted booted talk = record {
  shifted = shifted;
  booted = booted;
  talk = talk;
  front = o.front;
  next = o.next;
  still = o.still
      ∙ ap (λ z. (items_in n u z ++ (items_in n t second ++ [])) ++ all_but_first (doing hand due)) (sym of_u)
      ∙ ap (λ z. (items_in n u ((after_label p n l v).threads u).life ++ (items_in n t z ++ [])) ++ all_but_first (doing hand due)) (sym of_t)
      ∙ sym (goes_only p n l v (doing hand due) o.only o.heirs);
}

-- ## Turns, where nothing of them changes

among_amid : (f : List Item → ℕ) (n i : ℕ) {due ahead : List Item} → f ahead ≡ f due → f (to_do_amid n ahead i) ≡ f (to_do_amid n due i)
among_amid f n i {due} {ahead} e = elim (eqb n i) as (λ b. f (cond b ahead []) ≡ f (cond b due [])) [ true ↦ e | false ↦ refl ]

pub in_turn_kept : (net : Net) (n : ℕ) (old now : Talk) (M N : Links) (due ahead : List Item) → AreInTurn (talks_amid net n old) (turn_words M) (to_do_amid n due)
    → now ≡ old → ((i j : ℕ) → turn_words N i j ≡ turn_words M i j) → turns_among ahead ≡ turns_among due → wants_among ahead ≡ wants_among due
    → AreInTurn (talks_amid net n now) (turn_words N) (to_do_amid n ahead)
in_turn_kept net n old now M N due ahead a talk words turns wants =
    subst (λ z. AreInTurn (talks_amid net n z) (turn_words N) (to_do_amid n ahead)) (sym talk)
    (subst (λ (z : ℕ → ℕ → List Word). AreInTurn (talks_amid net n old) z (to_do_amid n ahead)) (sym (fun_ext (λ i. fun_ext (λ j. words i j)))) (record {
      turn = λ i. ap (λ k. count_by one_turn (turn_words M 0 i) + k + count_by one_over (turn_words M i 0)) (among_amid turns_among n i turns) ∙ a.turn i;
      want = a.want;
      once = a.once;
      order = a.order;
      claims = λ i. subst (λ k. some_of (talks_amid net n old i).claims ≤ one_if (talks_amid net n old i).wants + k) (sym (among_amid wants_among n i wants)) (a.claims i);
      to_zero = a.to_zero;
      from_zero = a.from_zero;
    }))

-- ## Spots of other nodes

-- node k's lists show the thread as before
pub record Frame (k : ℕ) (t : Tid) (r s : Spot) : Type 0 where
  pub thread : thread_part k t s ≡ thread_part k t r
  pub busy : busy_part k t s ≡ busy_part k t r
  pub seeker : seeker_part k t s ≡ seeker_part k t r

abbrev pub spots_with : (Tid → Spot) → (ℕ → Holder) → (ℕ → List Birth) → (ℕ → List SemRow) → (ℕ → ForestView) → (ℕ → Bool) → Remote → Spots
spots_with threads slots births sems forests halts remote = record { threads = threads; slots = slots; births = births; sems = sems; forests = forests; halts = halts; remote = remote }

-- a node's own forest, where a label has changed it alone
pub own_forest : (f : ℕ → ForestView) (n : ℕ) (x : ForestView) → x ≡ at_node f n x n
own_forest f n x = rw (eq-eqb n n refl) refl

-- and another node's
pub other_forest : (f : ℕ → ForestView) (n : ℕ) (x : ForestView) (k : ℕ) → eqb n k ≡ false → at_node f n x k ≡ f k
other_forest f n x k e = rw e refl

-- nor does node k's list of those that seek slots show a thread that seeks none
pub no_seeker : (k : ℕ) (t : Tid) (s : Spot) → is_seeking k s.life ≡ false → seeker_part k t s ≡ None
no_seeker k t s e = rw e refl

pub here_kept : {f : ℕ → Holder} {b : ℕ → List Birth} {z : ℕ → List SemRow} {g : ℕ → ForestView} {h : ℕ → Bool} {remote : Remote} (k : ℕ) (w : Spots) (t : Tid) (s : Spot) (st : Local) (hand : List Busy) (served : List Tid) → Here k w st hand served → Frame k t (w.threads t) s
    → b k ≡ w.births k → z k ≡ w.sems k → g k ≡ w.forests k → ((x : ℕ) → is_free k (f x) ≡ is_free k (w.slots x)) → h k ≡ w.halts k → Here k (spots_with (update w.threads t s) f b z g h remote) st hand served
here_kept k w t s st hand served m frame births sems forests slots halts = record {
  threads = map_kept is_tid is-true is-refl (thread_part k) w.threads t s st.threads m.threads frame.thread;
  forest = m.forest ∙ sym forests;
  busy = kept is_tid is-true is-refl busy_name (busy_part k) w.threads t s hand m.busy frame.busy;
  seekers = kept is_tid is-true is-refl itself (seeker_part k) w.threads t s (served ++ st.talk.claims) m.seekers frame.seeker;
  births = m.births ∙ sym births;
  sems = m.sems ∙ sym sems;
  free = λ x. m.free x ∙ sym (slots x);
  halted = m.halted ∙ sym halts;
}

pub updated : (w : Tid → Spot) (t : Tid) (s : Spot) → update w t s t ≡ s
updated w t s = rw (is-refl t) refl

-- ## Links

abbrev pub ways_in : Tid → Spot → List Way
ways_in t s = ways_of t s.life s.verdict s.guest

pub links_kept : (t : Tid) (s : Spot) (w : Tid → Spot) (L : Links) → ((i j : ℕ) → LinkStands i j (L i j) w) → ways_in t s ≡ ways_in t (w t) → (i j : ℕ) → LinkStands i j (L i j) (update w t s)
links_kept t s w L h e i j u = h i j u ∙ elim (is_tid t u) as (λ v. is_tid t u ≡ v → on_link i j (ways_in u (w u)) ≡ on_link i j (ways_in u (cond v s (w u)))) [
  | true ↦ λ f. subst (λ z. on_link i j (ways_in z (w z)) ≡ on_link i j (ways_in z s)) (is-true t u f) (ap (on_link i j) (sym e))
  | false ↦ λ f. refl
] refl

sent_append : (j : ℕ) (xs ys : List Send) → sent_words j (xs ++ ys) ≡ sent_words j xs ++ sent_words j ys
sent_append j [] ys = refl
sent_append j (x ∷ xs) ys = elim (eqb x.to j) as (λ v. cond v (word_of j x.body ∷ sent_words j (xs ++ ys)) (sent_words j (xs ++ ys)) ≡ cond v (word_of j x.body ∷ sent_words j xs) (sent_words j xs) ++ sent_words j ys)
    [ true ↦ ap (λ zs. word_of j x.body ∷ zs) (sent_append j xs ys) | false ↦ sent_append j xs ys ]

-- what is on a link, when node n sends these too
pub under_append : (n : ℕ) (L : Links) (xs ys : List Send) (i j : ℕ) → under n L (xs ++ ys) i j ≡ under n L xs i j ++ cond (eqb n i) (sent_words j ys) []
under_append n L xs ys i j = elim (eqb n i) as (λ v. L i j ++ cond v (sent_words j (xs ++ ys)) [] ≡ (L i j ++ cond v (sent_words j xs) []) ++ cond v (sent_words j ys) []) [
  | true ↦ ap (λ zs. L i j ++ zs) (sent_append j xs ys) ∙ sym (append_assoc (L i j) (sent_words j xs) (sent_words j ys))
  | false ↦ sym (append-nil (L i j ++ []))
]

abbrev none_of : List Word
none_of = []

no_more : (v : Bool) → none_of ≡ cond v none_of none_of
no_more true = refl
no_more false = refl

-- what is on the link from i to j of a packet that n sends
abbrev more_words : (n to : ℕ) → Body → (i j : ℕ) → List Word
more_words n to body i j = cond (eqb n i && eqb to j) (word_of j body ∷ []) []

grown : (n to : ℕ) (body : Body) (L : Links) (sends : List Send) (i j : ℕ) → under n L (sends ++ one_send to body) i j ≡ under n L sends i j ++ more_words n to body i j
grown n to body L sends i j = under_append n L sends (one_send to body) i j
    ∙ elim (eqb n i) as (λ v. under n L sends i j ++ cond v (cond (eqb to j) (word_of j body ∷ []) []) [] ≡ under n L sends i j ++ cond (v && eqb to j) (word_of j body ∷ []) []) [ true ↦ refl | false ↦ refl ]

-- it is of its subject alone
more_about : (n to : ℕ) (body : Body) (i j : ℕ) (s u : Subject) → word_subject (word_of to body) ≡ s → words_about (more_words n to body i j) u ≡ cond (same_subject u s) (more_words n to body i j) []
more_about n to body i j s u name = by_tests (eqb n i) (eqb to j) refl
  where
    by_tests : (a b : Bool) → eqb to j ≡ b → words_about (cond (a && b) (word_of j body ∷ []) []) u ≡ cond (same_subject u s) (cond (a && b) (word_of j body ∷ []) []) []
    by_tests true true e = ap (λ z. cond (same_subject u z) (word_of j body ∷ []) []) (ap (λ k. word_subject (word_of k body)) (sym (eqb-true to j e)) ∙ name)
    by_tests true false e = no_more (same_subject u s)
    by_tests false b e = no_more (same_subject u s)

-- a packet is put on a link, and is the last that is under way of its thread
pub put_link : (n to : ℕ) (body : Body) (t : Tid) (s : Spot) (L : Links) (sends : List Send) (w : Tid → Spot) → ((i j : ℕ) → LinkStands i j (under n L sends i j) w)
    → word_subject (word_of to body) ≡ Thread t
    → ways_in t s ≡ ways_in t (w t) ++ way n to (word_of to body)
    → (i j : ℕ) → LinkStands i j (under n L (sends ++ one_send to body) i j) (update w t s)
put_link n to body t s L sends w h name new i j u =
    ap (λ xs. words_about xs (Thread u)) (grown n to body L sends i j) ∙ about-append (under n L sends i j) more (Thread u) ∙ ap (λ xs. xs ++ words_about more (Thread u)) (h i j u) ∙ by (is_tid t u) refl
  where
    more : List Word
    more = more_words n to body i j

    there : on_link i j (way n to (word_of to body)) ≡ more
    there = by_tests (eqb n i) (eqb to j) refl
      where
        by_tests : (a b : Bool) → eqb to j ≡ b → cond (a && b) (word_of to body ∷ []) [] ≡ cond (a && b) (word_of j body ∷ []) []
        by_tests true true e = ap (λ k. word_of k body ∷ []) (eqb-true to j e)
        by_tests true false e = refl
        by_tests false b e = refl

    own : (u : Tid) → words_about more (Thread u) ≡ cond (is_tid t u) more []
    own u = more_about n to body i j (Thread t) (Thread u) name ∙ ap (λ v. cond v more []) (is-same u t)

    by : (v : Bool) → is_tid t u ≡ v → on_link i j (ways_in u (w u)) ++ words_about more (Thread u) ≡ on_link i j (ways_in u (cond v s (w u)))
    by true e = subst (λ z. on_link i j (ways_in z (w z)) ++ words_about more (Thread z) ≡ on_link i j (ways_in z s)) (is-true t u e)
        (ap (λ xs. on_link i j (ways_in t (w t)) ++ xs) (own t ∙ ap (λ v. cond v more []) (is-refl t) ∙ sym there)
        ∙ sym (on_link-append i j (ways_in t (w t)) (way n to (word_of to body))) ∙ ap (on_link i j) (sym new))
    by false e = ap (λ xs. on_link i j (ways_in u (w u)) ++ xs) (own u ∙ ap (λ v. cond v more []) e) ∙ append-nil (on_link i j (ways_in u (w u)))

-- and it says nothing of turns
pub put_turns : (n to : ℕ) (body : Body) (t : Tid) (L : Links) (sends : List Send) → word_subject (word_of to body) ≡ Thread t → (i j : ℕ) → turn_words (under n L (sends ++ one_send to body)) i j ≡ turn_words (under n L sends) i j
put_turns n to body t L sends name i j =
    ap (λ xs. words_about xs Turns) (grown n to body L sends i j) ∙ about-append (under n L sends i j) (more_words n to body i j) Turns
    ∙ ap (λ xs. turn_words (under n L sends) i j ++ xs) (more_about n to body i j (Thread t) Turns name) ∙ append-nil (turn_words (under n L sends) i j)

abbrev pub at_link : ℕ → ℕ → (List Word → List Word) → Links → Links
at_link a b f L i j = cond (eqb a i) (cond (eqb b j) (f (L i j)) (L i j)) (L i j)

-- a packet is taken off a link, which was the first under way of its thread
pub take_link : (a b : ℕ) (y : Word) (t : Tid) (s : Spot) (L : Links) (w : Tid → Spot) → ((i j : ℕ) → LinkStands i j (L i j) w)
    → ways_in t (w t) ≡ way a b y ++ ways_in t s
    → (i j : ℕ) → LinkStands i j (at_link a b (less_word (Thread t)) L i j) (update w t s)
take_link a b y t s L w h old i j u = by (eqb a i) (eqb b j) (is_tid t u) refl refl refl
  where
    of_t : (x z : Bool) → eqb a i ≡ x → eqb b j ≡ z → on_link i j (ways_in t (w t)) ≡ cond (x && z) (y ∷ on_link i j (ways_in t s)) (on_link i j (ways_in t s))
    of_t x z e f = ap (on_link i j) old ∙ ap (λ v. cond (v && eqb b j) (y ∷ on_link i j (ways_in t s)) (on_link i j (ways_in t s))) e ∙ ap (λ v. cond (x && v) (y ∷ on_link i j (ways_in t s)) (on_link i j (ways_in t s))) f

    by : (x z v : Bool) → eqb a i ≡ x → eqb b j ≡ z → is_tid t u ≡ v → words_about (cond x (cond z (less_word (Thread t) (L i j)) (L i j)) (L i j)) (Thread u) ≡ on_link i j (ways_in u (cond v s (w u)))
    by true true true e f g = subst (λ k. words_about (less_word (Thread t) (L i j)) (Thread k) ≡ on_link i j (ways_in k s)) (is-true t u g)
        (about-less (L i j) (Thread t) ∙ ap rest_words (h i j t ∙ of_t true true e f))
    by true true false e f g = about-less_other (L i j) (Thread t) (Thread u) g ∙ h i j u
    by true false true e f g = subst (λ k. words_about (L i j) (Thread k) ≡ on_link i j (ways_in k s)) (is-true t u g) (h i j t ∙ of_t true false e f)
    by true false false e f g = h i j u
    by false z true e f g = subst (λ k. words_about (L i j) (Thread k) ≡ on_link i j (ways_in k s)) (is-true t u g) (h i j t ∙ of_t false z e f)
    by false z false e f g = h i j u

-- which says nothing of turns
pub take_turns : (a b : ℕ) (t : Tid) (L : Links) (i j : ℕ) → turn_words (at_link a b (less_word (Thread t)) L) i j ≡ turn_words L i j
take_turns a b t L i j = by (eqb a i) (eqb b j)
  where
    by : (x z : Bool) → words_about (cond x (cond z (less_word (Thread t) (L i j)) (L i j)) (L i j)) Turns ≡ turn_words L i j
    by true true = about-less_other (L i j) (Thread t) Turns refl
    by true false = refl
    by false z = refl

-- the links without t's packet, which is the first of its own on the link to node n
abbrev pub links_less : ℕ → Links → ℕ → Tid → Links
links_less n L from t = at_link from n (less_word (Thread t)) L

pub none_under : (n : ℕ) (L : Links) (i j : ℕ) → under n L [] i j ≡ L i j
none_under n L i j = elim (eqb n i) as (λ v. L i j ++ cond v [] [] ≡ L i j) [ true ↦ append-nil (L i j) | false ↦ append-nil (L i j) ]

pub nothing_sent : (n : ℕ) (L : Links) (i j : ℕ) (w : Tid → Spot) → LinkStands i j (L i j) w → LinkStands i j (under n L [] i j) w
nothing_sent n L i j w h = subst (λ bs. LinkStands i j bs w) (sym (none_under n L i j)) h

pub nothing_sent_from : (n : ℕ) (L : Links) (i j : ℕ) (w : Tid → Spot) → LinkStands i j (under n L [] i j) w → LinkStands i j (L i j) w
nothing_sent_from n L i j w h = subst (λ bs. LinkStands i j bs w) (none_under n L i j) h

-- ## What all nodes share

-- a life of which nothing else tells: its thread is born, waits neither for another's end nor for a semaphore, and seeks no slots
abbrev pub is_quiet : Life → Bool
is_quiet Unborn = false
is_quiet (On m (Awaits u)) = false
is_quiet (On m (Queues id)) = false
is_quiet (On m Seeks) = false
is_quiet _ = true

pub record Quiet (life : Life) : Type 0 where
  pub born : life ≡ Unborn → ⊥
  pub waits : (u : Tid) (m : ℕ) → life ≡ On m (Awaits u) → ⊥
  pub queues : (h k : ℕ) (t : Tid) → waiter_in_life h k t life ≡ None
  pub seeks : (k : ℕ) → is_seeking k life ≡ false

pub no_waiter : (h k : ℕ) (t : Tid) (life : Life) → is_quiet life ≡ true → waiter_in_life h k t life ≡ None
no_waiter h k t (On m (Queues id)) e = absurd (cc e)
no_waiter h k t life e = grind (arith, e)

quiet_seeks : (k : ℕ) (life : Life) → is_quiet life ≡ true → is_seeking k life ≡ false
quiet_seeks k (On m Seeks) e = absurd (cc e)
quiet_seeks k life e = grind (arith, e)

-- by the life that it is
pub quiet : {life old : Life} → life ≡ old → is_quiet old ≡ true → Quiet life
quiet {life} {old} x h = record {
  born = λ e. absurd (cc (ap is_quiet (sym x ∙ e), h));
  waits = λ u m e. absurd (cc (ap is_quiet (sym x ∙ e), h));
  queues = λ j k t. ap (waiter_in_life j k t) x ∙ no_waiter j k t old h;
  seeks = λ k. ap (is_seeking k) x ∙ quiet_seeks k old h;
}

-- a life that waits neither for another's end nor for a semaphore, seeks no slots, has not halted, and asks no semaphore of its own node by a packet
abbrev pub is_plain : Life → Bool
is_plain (On m (Awaits u)) = false
is_plain (On m (Queues id)) = false
is_plain (On m Seeks) = false
is_plain (On m Stays) = false
is_plain (On m (Signals id up)) = not (eqb (node_in id) m)
is_plain _ = true

-- a life that a thread may come to that is at this call; h are the halts then
pub record Fits (h : ℕ → Bool) (c : Call) (life : Life) : Type 0 where
  pub seeks : (m : ℕ) → life ≡ On m Seeks → WantsSlots c
  pub waits : (u : Tid) (m : ℕ) → life ≡ On m (Awaits u) → ⊥
  pub signals : (m id : ℕ) (up : Bool) → life ≡ On m (Signals id up) → eqb (node_in id) m ≡ false
  pub stays : (m : ℕ) → life ≡ On m Stays → h m ≡ true

pub record Plain (life : Life) : Type 0 where
  pub waits : (u : Tid) (m : ℕ) → life ≡ On m (Awaits u) → ⊥
  pub queues : (h k : ℕ) (t : Tid) → waiter_in_life h k t life ≡ None
  pub seeks : (k : ℕ) → is_seeking k life ≡ false
  pub signals : (m id : ℕ) (up : Bool) → life ≡ On m (Signals id up) → eqb (node_in id) m ≡ false
  pub stays : (m : ℕ) → life ≡ On m Stays → ⊥

elsewhere : (v : Bool) → not v ≡ true → v ≡ false
elsewhere true e = absurd (cc e)
elsewhere false e = refl

plain_waiter : (h k : ℕ) (t : Tid) (life : Life) → is_plain life ≡ true → waiter_in_life h k t life ≡ None
plain_waiter h k t (On m (Queues id)) e = absurd (cc e)
plain_waiter h k t life e = grind (arith, e)

pub plain_seeks : (k : ℕ) (life : Life) → is_plain life ≡ true → is_seeking k life ≡ false
plain_seeks k (On m Seeks) e = absurd (cc e)
plain_seeks k life e = grind (arith, e)

pub plain : (life : Life) → is_plain life ≡ true → Plain life
plain life h = record {
  waits = λ u m e. absurd (cc (ap is_plain e, h));
  queues = λ j k t. plain_waiter j k t life h;
  seeks = λ k. plain_seeks k life h;
  signals = λ m id up e. elsewhere (eqb (node_in id) m) (sym (ap is_plain e) ∙ h);
  stays = λ m e. absurd (cc (ap is_plain e, h));
}

pub plain_quiet : (n : ℕ) (stage : Stage) → is_plain (On n stage) ≡ true → is_quiet (On n stage) ≡ true
plain_quiet n (Awaits u) e = absurd (cc e)
plain_quiet n (Queues id) e = absurd (cc e)
plain_quiet n Seeks e = absurd (cc e)
plain_quiet n stage e = grind (arith, e)

not_seeking : {life : Life} (m : ℕ) → is_seeking m life ≡ false → life ≡ On m Seeks → ⊥
not_seeking m idle e = absurd (cc (idle, ap (is_seeking m) e, eq-eqb m m refl))

pub fits : {h : ℕ → Bool} {c : Call} {life : Life} → Plain life → Fits h c life
fits l = record { seeks = λ m e. absurd (not_seeking m (l.seeks m) e); waits = l.waits; signals = l.signals; stays = λ m e. absurd (l.stays m e) }

-- all semaphores are such, and their queues are those of the threads
pub record AreQueued (z : ℕ → List SemRow) (w : Tid → Spot) : Type 0 where
  pub sems : (n : ℕ) → All IsSemaphore (z n)
  pub queues : (h k : ℕ) → StandsFor is_tid waiter_name (waiter_part h k) (waiters_at k (z h)) w

pub queued : {p : Program} {w : Spots} → Agrees p w → AreQueued w.sems w.threads
queued a = record { sems = a.sems; queues = a.queues }

-- one that waits for no semaphore, before or after
pub queued_kept : {z : ℕ → List SemRow} (w : Tid → Spot) (t : Tid) (s : Spot) → AreQueued z w → ((h k : ℕ) → waiter_part h k t (w t) ≡ None) → ((h k : ℕ) → waiter_part h k t s ≡ None) → AreQueued z (update w t s)
queued_kept {z} w t s a old new = record {
  sems = a.sems;
  queues = λ h k. kept is_tid is-true is-refl waiter_name (waiter_part h k) w t s (waiters_at k (z h)) (a.queues h k) (new h k ∙ sym (old h k));
}

-- a thread keeps its slots, and its blocks lie well in them
pub record Keeps (old new : Option Holding) : Type 0 where
  pub slots : slots_held new ≡ slots_held old
  pub well : IsWellHeld old → IsWellHeld new

pub keeps : (old new : Option Holding) → new ≡ old → Keeps old new
keeps old new e = record { slots = ap slots_held e; well = λ h. subst (λ x. IsWellHeld x) (sym e) h }

-- a thread that keeps its phase, and that no record names as a joiner; f are the holders, z the semaphores and h the halts then
pub agrees_changed : {forests : ℕ → ForestView} {remote : Remote} (p : Program) (w : Spots) (t : Tid) (s : Spot) {f : ℕ → Holder} {z : ℕ → List SemRow} {h : ℕ → Bool} → Agrees p w
    → phase_of s.life ≡ phase_of (w.threads t).life
    → ((w.threads t).life ≡ Unborn → ⊥)
    → ((u : Tid) (m : ℕ) → (w.threads t).life ≡ On m (Awaits u) → ⊥)
    → Fits h (call_of s.guest.solo.state) s.life
    → AreQueued z (update w.threads t s)
    → ((m : ℕ) → w.halts m ≡ true → h m ≡ true)
    → ((u : Tid) (y : ℕ) → has y (slots_held (held (update w.threads t s u).life (update w.threads t s u).guest)) ≡ is_thread u (f y))
    → IsWellHeld (held s.life s.guest)
    → Agrees p (spots_with (update w.threads t s) f w.births z forests h remote)
agrees_changed p w t s {h = h} a phase born quiet new queued more slots well = record {
  sems = queued.sems;
  queues = queued.queues;
  signals = λ u m id up e. elim (is_tid t u) as (λ v. (cond v s (w.threads u)).life ≡ On m (Signals id up) → eqb (node_in id) m ≡ false) [ true ↦ λ g. new.signals m id up g | false ↦ λ g. a.signals u m id up g ] e;
  waits = λ u by at e. elim (is_tid t by) as (λ v. (cond v s (w.threads by)).life ≡ On at (Awaits u) → slice_get (w.births u.home) u.seq ≡ Some (Awaited by at)) [ true ↦ λ g. absurd (new.waits u at g) | false ↦ λ g. a.waits u by at g ] e;
  stays = λ u m e. elim (is_tid t u) as (λ v. (cond v s (w.threads u)).life ≡ On m Stays → h m ≡ true) [ true ↦ λ g. new.stays m g | false ↦ λ g. more m (a.stays u m g) ] e;
  seeks = λ u m e. elim (is_tid t u) as (λ v. (cond v s (w.threads u)).life ≡ On m Seeks → WantsSlots (call_of (cond v s (w.threads u)).guest.solo.state)) [ true ↦ λ g. new.seeks m g | false ↦ λ g. a.seeks u m g ] e;
  homes = λ u out. elim (is_tid t u) as (λ v. is_tid t u ≡ v → (cond v s (w.threads u)).life ≡ Unborn) [
    | true ↦ λ e. absurd (born (subst (λ x. (w.threads x).life ≡ Unborn) (sym (is-true t u e)) (a.homes u out)))
    | false ↦ λ e. a.homes u out
  ] refl;
  named = λ u. elim (is_tid t u) as (λ v. is_tid t u ≡ v → phase_at (slice_get (w.births u.home) u.seq) ≡ phase_of (cond v s (w.threads u)).life) [
    | true ↦ λ e. a.named u ∙ ap (λ x. phase_of (w.threads x).life) (sym (is-true t u e)) ∙ sym phase
    | false ↦ λ e. a.named u
  ] refl;
  awaits = λ u by at e. elim (is_tid t by) as (λ v. is_tid t by ≡ v → (cond v s (w.threads by)).life ≡ On at (Awaits u)) [
    | true ↦ λ g. absurd (quiet u at (subst (λ x. (w.threads x).life ≡ On at (Awaits u)) (sym (is-true t by g)) (a.awaits u by at e)))
    | false ↦ λ g. a.awaits u by at e
  ] refl;
  slots = slots;
  blocks = λ u. elim (is_tid t u) as (λ v. IsWellHeld (held (cond v s (w.threads u)).life (cond v s (w.threads u)).guest)) [ true ↦ well | false ↦ a.blocks u ];
}

-- one that keeps its slots too
pub agrees_queued : {forests : ℕ → ForestView} {remote : Remote} (p : Program) (w : Spots) (t : Tid) (s : Spot) (h : ℕ → Bool) {z : ℕ → List SemRow} → Agrees p w
    → phase_of s.life ≡ phase_of (w.threads t).life
    → ((w.threads t).life ≡ Unborn → ⊥)
    → ((u : Tid) (m : ℕ) → (w.threads t).life ≡ On m (Awaits u) → ⊥)
    → Keeps (held (w.threads t).life (w.threads t).guest) (held s.life s.guest)
    → Fits h (call_of s.guest.solo.state) s.life
    → AreQueued z (update w.threads t s)
    → ((m : ℕ) → w.halts m ≡ true → h m ≡ true)
    → Agrees p (spots_with (update w.threads t s) w.slots w.births z forests h remote)
agrees_queued p w t s h a phase born quiet kept new queued more = agrees_changed p w t s a phase born quiet new queued more
    (λ u x. elim (is_tid t u) as (λ v. is_tid t u ≡ v → has x (slots_held (held (cond v s (w.threads u)).life (cond v s (w.threads u)).guest)) ≡ is_thread u (w.slots x)) [
      | true ↦ λ e. ap (has x) kept.slots ∙ ap (λ y. has x (slots_held (held (w.threads y).life (w.threads y).guest))) (is-true t u e) ∙ a.slots u x
      | false ↦ λ e. a.slots u x
    ] refl)
    (kept.well (a.blocks t))

-- and waits for no semaphore, before or after
pub agrees_kept : {forests : ℕ → ForestView} {remote : Remote} (p : Program) (w : Spots) (t : Tid) (s : Spot) (h : ℕ → Bool) → Agrees p w
    → phase_of s.life ≡ phase_of (w.threads t).life
    → Quiet (w.threads t).life
    → Keeps (held (w.threads t).life (w.threads t).guest) (held s.life s.guest)
    → Fits h (call_of s.guest.solo.state) s.life
    → ((j k : ℕ) → waiter_part j k t s ≡ None)
    → ((m : ℕ) → w.halts m ≡ true → h m ≡ true)
    → Agrees p (spots_with (update w.threads t s) w.slots w.births w.sems forests h remote)
agrees_kept p w t s h a phase quiet kept new none more = agrees_queued p w t s h a phase quiet.born quiet.waits kept new
    (queued_kept w.threads t s (queued a) (λ j k. quiet.queues j k t) none) more

-- ## The one lemma for a label

module _ {outset : Outset} {ahead : List Item} where
  open outset use {program as p, net, occasion as q, node as n, opening, world as w}

  -- a label, with what goes with it, before which what is due was ahead
  pub labelled : {due is to_do : List Item} {L : Links} {d : EventSoFar} {hand : List Busy} {sends : List Send} {prints : List ℕ} (M : Links) (more : List Busy) (l : Label) (v : Spots) (now : Local)
      → (m : MidstDoing outset due L d hand is) → after_label p n l m.now.spots ≡ v → Allows p (having_said d.labels q) n l m.now
      → sends ≡ d.sends ++ causes p n l m.now.spots → prints ≡ d.prints ++ shown_by l m.now.spots
      → StandsAmid p net n v (under n M sends) now more ahead
      → Beside p n m.now.spots l d.node now is to_do
      → ThenDoing outset ahead M m.now l (record { node = now; labels = d.labels ++ l ∷ []; sends = sends; prints = prints }) more to_do
  labelled {due} {is} {to_do} {L} {d} {hand} M more l v now m same ok sent shown stands aside =
      let told : m.now ≡ record w { spots = after_labels p n d.labels w.spots } = m.told in
      let spots : m.now.spots ≡ after_labels p n d.labels w.spots = ap (λ (z : World). z.spots) told in
      let may : Allows p (having_said d.labels q) n l (record w { spots = after_labels p n d.labels w.spots }) = subst (λ z. Allows p (having_said d.labels q) n l z) told ok in
      record {
        now = ap (λ (z : Spots). record m.now { spots = z }) (sym same);
        midst = record {
          now = record m.now { spots = v };
          told = ap (λ (z : Spots). record m.now { spots = z }) (sym same) ∙ ap (world_after p n l) told ∙ ap (λ (z : Spots). record w { spots = z }) (after_append p n d.labels l w.spots);
          allowed = record {
            solo = obey_append SoloRule p q n d.labels l w m.allowed.solo may.solo;
            holders = obey_append HoldersRule p q n d.labels l w m.allowed.holders may.holders;
            life = obey_append LifeRule p q n d.labels l w m.allowed.life may.life;
            replies = obey_append RepliesRule p q n d.labels l w m.allowed.replies may.replies;
            grants = obey_append GrantsRule p q n d.labels l w m.allowed.grants may.grants;
            agrees = obey_append AgreesRule p q n d.labels l w m.allowed.agrees (subst (λ (z : World). Agrees p z.spots × ((k : ℕ) → AreSeated p k z.spots)) told (m.agrees, m.seated));
          };
          prints = shown ∙ ap (λ z. d.prints ++ shown_by l z) spots ∙ ap (λ xs. xs ++ shown_by l (after_labels p n d.labels w.spots)) m.prints ∙ sym (shown_append p n d.labels l w.spots);
          here = stands.here;
          there = stands.there;
          links = stands.links;
          turns = stands.turns;
          agrees = stands.agrees;
          seated = λ k. subst (λ z. AreSeated p k z) same (seated_label p (having_said d.labels q) n l m.now ok aside.shifted m.agrees m.seated k);
          covered = λ k. subst (λ (z : Spots). AreCovered (z.forests k)) same (covered_label p n l m.now.spots aside.shifted m.seated m.covered k);
          aside = aside_append m.aside (subst (λ z. Beside p n z l d.node now is to_do) spots aside) (sent ∙ ap (λ z. d.sends ++ causes p n l z) spots);
        };
      }
