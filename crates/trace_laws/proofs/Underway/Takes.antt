-- What a packet brings, on an event in its midst. L are the links before the packet is taken.
use Rattle.std.proofs.Common.{◌≡◌, ℕ, List, [], ◌∷◌, Option, Some, None, Bool, true, false, eqb, cond, refl, sym, ap, ◌∙◌, subst}
use Rattle.std.specs.Prelude.{slice_get, nat_lt, not}
use Rattle.std.specs.List.{list_all}
use Rattle.std.specs.Map.{lookup}
use Rattle.std.proofs.lemmas.Bool.{eq-eqb, eqb-true}
use Rattle.slot_space.specs.Sets.{has, meets}
use Rattle.slot_space.proofs.Lemmas.{meets-some}
use Rattle.slot_space.specs.Replies.{reply_code}
use Rattle.slot_space.specs.declared.names.Tid.{Tid}
use Rattle.slot_space.specs.declared.names.Reply.{Reply as TheReply}
use Rattle.marcel_core.specs.declared.birth.Birth.{Birth}
use Rattle.marcel_core.specs.declared.birth.Birth.TheVariants.{Lives, Awaited, Detached, Ended, Over}
use Rattle.marcel_core.specs.Homes.{is_open}
use Rattle.run_trace.specs.declared.label.Label.{Label}
use Rattle.run_trace.specs.declared.label.Label.TheVariants.{Judged, Told, Came, Shown}
use Rattle.run_trace.specs.declared.label.Extra.TheVariants.{Nothing}
use Rattle.run_trace.specs.declared.packet.Body.TheVariants.{ShowDone, Answer}
use Rattle.run_trace.specs.declared.node.Wait.{Wait}
use Rattle.run_trace.specs.declared.node.Wait.TheVariants as wait
use Rattle.run_trace.specs.Names.{is_tid, tid_cmp}
use Rattle.run_trace.specs.Program.{nodes_of}
use Rattle.run_trace.specs.Guests.{Guest, waits, told, guest_slots, packed}
use Rattle.run_trace.specs.Local.{Local, EventSoFar, nothing}
use Rattle.bubbles.specs.Forests.{enters, goes_on}
use Rattle.run_trace.specs.Steps.{say, put, print, enter, arrive, keep, thread_in, comes, tell, tell_found, reply_by_link, shows, acknowledges, line_of}
use Rattle.run_trace.specs.Machine.{may_come, lives_yet, are_away}
use Rattle.run_trace.specs.Keyed.{AreDistinct}
use Rattle.run_trace.specs.Spots.{Stage, Ready, Shows, Showing, Shown_there, Answers, Answered, On, Moving, Spot, Spots, Of_thread, is_free, update, shown_life, judged_life, judged_guest, told_stage, second_of, forests_after}
use Rattle.run_trace.specs.Rules.{MayTell}
use Rattle.run_trace.specs.Console.{asked_bytes}
use Rattle.run_trace.specs.Stands.{Busy, busy, busy_name, busy_part, thread_part, thread_in_life, Word, Travels, Line, Line_shown, way, ways_of, phase_of, phase_at, During, held, slots_held, is_thread, words_about, AreInTurn}
use Rattle.run_trace.proofs.Lemmas.{is-true, is-refl}
use Rattle.trace_laws.proofs.Lists.KeyedLemmas.{kept, fronted, unfronted, map_kept, map_set, map_added}
use Rattle.trace_laws.proofs.Underway.Midst.{talks_amid, to_do_amid, in_turn_kept, turn_words, none_under, take_turns, under, as_before, Outset, links_less, Links, Midst, quiet, plain, plain_quiet, keeps, LinkStands, spots_with, own_forest, take_link, nothing_sent, nothing_sent_from}
use Rattle.trace_laws.proofs.Lists.Parts.{both_idle, thread_holds, away_thread, busy_none, thread_was}
use Rattle.trace_laws.proofs.Lists.Stages.{StandsWaiting}
use Rattle.trace_laws.proofs.Outcomes.Consequences.{OnNode, on_node_is}
use Rattle.trace_laws.proofs.Underway.Steps.{after_first, own_goes, moved, send_step, in_hand, busy_in_hand}
use Rattle.run_trace.specs.Calls.{extra_of}
use Rattle.run_trace.specs.Causes.{judged_causes}
use Rattle.run_trace.specs.Items.{is_busy, is_seeking, Item, Says, Turns}

-- ## What a home and a map have

pub open_birth : (b : Option Birth) → phase_at b ≡ During → is_open b ≡ true
open_birth None e = absurd (cc e)
open_birth (Some Lives) e = refl
open_birth (Some (Awaited by at)) e = refl
open_birth (Some Detached) e = refl
open_birth (Some (Ended end)) e = absurd (cc e)
open_birth (Some Over) e = absurd (cc e)

meets_none : (xs ys : List ℕ) → ((y : ℕ) → has y xs ≡ true → has y ys ≡ true → ⊥) → meets xs ys ≡ false
meets_none xs ys none = elim (meets xs ys) as (λ b. meets xs ys ≡ b → b ≡ false) [
  | true ↦ λ e. (let k = meets-some xs ys e in absurd (none k.0 k.1 k.2))
  | false ↦ λ e. refl
] refl

-- what holds of each entry that is found holds of all
all_entries : {A K : Type 0} (same : K → K → Bool) (same-true : (a b : K) → same a b ≡ true → a ≡ b) (same-refl : (a : K) → same a a ≡ true) (test : K × A → Bool) (es : List (K × A)) → AreDistinct same es
    → ((u : K) (x : A) → lookup (same u) es ≡ Some x → test (u, x) ≡ true) → list_all test es ≡ true
all_entries same same-true same-refl test [] a each = refl
all_entries same same-true same-refl test (e ∷ es) a each =
    let first : test e ≡ true = each e.0 e.1 (rw (same-refl e.0) refl) in
    let rest : list_all test es ≡ true = all_entries same same-true same-refl test es a.1 (λ u x h. elim (same u e.0) as (λ v. same u e.0 ≡ v → test (u, x) ≡ true) [
      | true ↦ λ f. (let none : lookup (same u) es ≡ None = ap (λ z. lookup (same z) es) (same-true u e.0 f) ∙ a.0 in absurd (cc (none, h)))
      | false ↦ λ f. each u x (rw f h)
    ] refl) in
    rw (first, rest) refl

-- the links before anything is said
pub links_whole : {outset : Outset} {due : List Item} {L : Links} {s : Local} → (m : Midst outset due L (nothing s) []) → (i j : ℕ) → LinkStands i j (L i j) m.now.spots.threads
links_whole {outset} {L = L} m i j = nothing_sent_from outset.node L i j m.now.spots.threads (m.links i j)

-- a thread's packet is no word of a turn
pub taken_turns : {outset : Outset} {due : List Item} {L : Links} {s : Local} (from : ℕ) (t : Tid) → Midst outset due L (nothing s) [] → (i j : ℕ) → turn_words (under outset.node (links_less outset.node L from t) []) i j ≡ turn_words (under outset.node L []) i j
taken_turns {outset} {L = L} from t m i j =
    let n : ℕ = outset.node in
    ap (λ xs. words_about xs Turns) (none_under n (links_less n L from t) i j) ∙ take_turns from n t L i j ∙ ap (λ xs. words_about xs Turns) (sym (none_under n L i j))

-- after a label that says nothing of turns, at which a thread's packet was taken
pub still_in_turn : {outset : Outset} {ahead : List Item} {L : Links} {s : Local} (l : Label) (from : ℕ) (t : Tid) → Midst outset (Says l ∷ ahead) L (nothing s) []
    → AreInTurn (talks_amid outset.net outset.node s.talk) (turn_words (under outset.node (links_less outset.node L from t) [])) (to_do_amid outset.node ahead)
still_in_turn {outset} {ahead} {L} {s} l from t m = in_turn_kept outset.net outset.node s.talk s.talk (under outset.node L []) (under outset.node (links_less outset.node L from t) []) (Says l ∷ ahead) ahead m.turns refl (taken_turns from t m) refl refl

module _ {outset : Outset} {ahead : List Item} {L : Links} where
  open outset use {program as p, net, occasion as q, node as n, opening, world as w}

  -- ## Lines

  pub shows_ok : (s : Local) (from : ℕ) (t : Tid) (bytes : List ℕ) → (m : Midst outset (Says (Shown t) ∷ ahead) L (nothing s) []) → (m.now.spots.threads t).life ≡ On from (Shows bytes) → n ≡ 0
      → Midst outset ahead (links_less n L from t) (shows t bytes (nothing s)) (busy t (On from Showing) ∷ [])
  unfolding shows print say
  shows_ok s from t bytes m x zero =
      let o : Spot = m.now.spots.threads t in
      let r : Spot = record o { life = On from Showing } in
      let here_busy : is_busy n (On from Showing) ≡ true = eq-eqb 0 n (sym zero) in
      (moved (links_less n L from t) (busy t (On from Showing) ∷ []) (Shown t) t r s m
      (record {
        same = ap (λ z. spots_with (update m.now.spots.threads t (record o { life = shown_life z })) m.now.spots.slots m.now.spots.births m.now.spots.sems m.now.spots.forests m.now.spots.halts m.now.spots.remote) x;
        may = record { solo = tt; holders = tt; life = rw x zero; replies = tt; grants = tt };
        ties = record {
          threads = map_kept is_tid is-true is-refl (thread_part n) m.now.spots.threads t r s.threads m.here.threads (sym (ap (λ z. thread_in_life n z o.guest) x));
          busy = fronted is_tid is-true is-refl busy_name (busy_part n) m.now.spots.threads t r [] (busy t (On from Showing)) m.here.busy refl (busy_none n t o (On from (Shows bytes)) x refl) (rw here_busy refl);
        };
        births = refl;
        sems = refl;
        free = refl;
        halted = refl;
        after = after_first (Says (Shown t)) refl;
        talk = refl;
        next = record { heir = refl; only = tt; front = λ sends talk. refl; next = refl; still = rw here_busy refl };
        forest = m.here.forest;
        shifted = tt;
        booted = refl;
      })
      (record {
        sent = refl;
        shown = ap (λ z. line_of t (asked_bytes z)) (sym x);
        turns = taken_turns from t m;
        links = λ i j. nothing_sent n (links_less n L from t) i j (update m.now.spots.threads t r) (take_link from n (Line t bytes) t r L m.now.spots.threads (links_whole m) (ap (λ z. ways_of t z o.verdict o.guest) x ∙ ap (λ z. way from z (Line t bytes)) (sym zero)) i j);
      })
      (record {
        frame = λ k e. record {
          thread = sym (ap (λ z. thread_in_life k z o.guest) x);
          busy = busy_none k t r (On from Showing) refl (ap (λ z. eqb z k) (sym zero) ∙ e) ∙ sym (busy_none k t o (On from (Shows bytes)) x refl);
          seeker = both_idle k t o r (ap (is_seeking k) x) refl;
        };
        phase = sym (ap phase_of x);
        quiet = quiet x refl;
        holds = keeps _ _ (sym (ap (λ z. held z o.guest) x));
        whole = plain _ refl;
      })).midst

  -- ## Told by a packet

  pub tell_taken_ok : (s : Local) (from : ℕ) (t : Tid) (a : Stage) (waiting : Wait) (y : Word) → (m : Midst outset (Says (Told t) ∷ ahead) L (nothing s) []) → (m.now.spots.threads t).life ≡ On n a
      → MayTell n (On n a) → told_stage (On n a) ≡ Ready → ways_of t (On n a) (m.now.spots.threads t).verdict (m.now.spots.threads t).guest ≡ way from n y
      → StandsWaiting n t a waiting (m.now.spots.threads t).guest
      → Midst outset ahead (links_less n L from t) (tell t (m.now.spots.threads t).verdict.code (second_of (m.now.spots.threads t).verdict.extra) (nothing s)) []
  unfolding tell arrive say keep
  tell_taken_ok s from t a waiting y m x may next ways still =
      let o : Spot = m.now.spots.threads t in
      let g : Guest = told o.verdict.code (second_of o.verdict.extra) o.guest in
      let r : Spot = record o { life = On n Ready; guest = g } in
      subst (λ f. Midst outset ahead (links_less n L from t) (tell_found t o.verdict.code (second_of o.verdict.extra) f (nothing s)) []) (sym (m.here.threads.shows t ∙ thread_was n t o a x ∙ still.thread))
      (moved (links_less n L from t) [] (Told t) t r _ m
      (record {
        same = ap (λ z. spots_with (update m.now.spots.threads t (record o { life = On n z; guest = g })) m.now.spots.slots m.now.spots.births m.now.spots.sems (forests_after p n (Told t) m.now.spots) m.now.spots.halts m.now.spots.remote) (ap told_stage x ∙ next);
        may = record { solo = tt; holders = tt; life = subst (λ z. MayTell n z) (sym x) may; replies = tt; grants = tt };
        ties = record {
          threads = map_set is_tid is-true is-refl (thread_part n) m.now.spots.threads t r s.threads (waits waiting o.guest) (waits wait.No g) m.here.threads (thread_was n t o a x ∙ still.thread) (thread_was n t r Ready refl);
          busy = kept is_tid is-true is-refl busy_name (busy_part n) m.now.spots.threads t r [] m.here.busy (busy_none n t r (On n Ready) refl refl ∙ sym (busy_none n t o (On n a) x (still.idle n)));
        };
        births = refl;
        sems = refl;
        free = refl;
        halted = refl;
        after = after_first (Says (Told t)) refl;
        talk = refl;
        next = record { heir = refl; only = tt; front = λ sends talk. refl; next = refl; still = refl };
        forest = ap (goes_on t) m.here.forest ∙ own_forest m.now.spots.forests n (goes_on t (m.now.spots.forests n));
        shifted = tt;
        booted = refl;
      })
      (record {
        sent = refl;
        shown = refl;
        turns = taken_turns from t m;
        links = λ i j. nothing_sent n (links_less n L from t) i j (update m.now.spots.threads t r) (take_link from n y t r L m.now.spots.threads (links_whole m) (ap (λ z. ways_of t z o.verdict o.guest) x ∙ ways) i j);
      })
      (record {
        frame = λ k e. record {
          thread = away_thread n k t r Ready refl e ∙ sym (away_thread n k t o a x e);
          busy = busy_none k t r (On n Ready) refl refl ∙ sym (busy_none k t o (On n a) x (still.idle k));
          seeker = both_idle k t o r ((quiet x (plain_quiet n a still.plain)).seeks k) refl;
        };
        phase = sym (ap phase_of x);
        quiet = quiet x (plain_quiet n a still.plain);
        holds = keeps _ _ (sym still.held ∙ sym (ap (λ z. held z o.guest) x));
        whole = plain _ refl;
      })).midst

  -- ## Replies that go back

  pub acknowledges_ok : (d : EventSoFar) (t : Tid) (at : ℕ) (hs : List Busy) → (m : Midst outset ahead L d (busy t (On at Showing) ∷ hs)) → Midst outset ahead L (acknowledges t at d) hs
  unfolding acknowledges put say
  acknowledges_ok d t at hs m =
      let v : Spots = m.now.spots in
      let o : Spot = v.threads t in
      let x : o.life ≡ On at Showing = in_hand m in
      let zero : 0 ≡ n = eqb-true 0 n (busy_in_hand m) in
      let r : Spot = record o { life = On at Shown_there; verdict = record { code = 0; extra = Nothing } } in
      (send_step hs (Judged t 0 Nothing) t r d.node at (ShowDone t) m
      (record {
        same = ap (λ z. spots_with (update v.threads t (record { life = judged_life z; guest = judged_guest z o.guest; verdict = record { code = 0; extra = Nothing } })) v.slots v.births v.sems v.forests v.halts v.remote) x;
        may = record { solo = tt; holders = tt; life = rw x (sym zero); replies = rw x (refl, refl); grants = tt };
        ties = record {
          threads = map_kept is_tid is-true is-refl (thread_part n) v.threads t r d.node.threads m.here.threads (sym (ap (λ z. thread_in_life n z o.guest) x));
          busy = unfronted is_tid is-true is-refl busy_name (busy_part n) v.threads t r hs (busy t (On at Showing)) m.here.busy refl refl;
        };
        births = refl;
        sems = refl;
        free = refl;
        halted = refl;
        after = as_before;
        talk = refl;
        next = own_goes m refl refl tt refl refl;
        forest = m.here.forest;
        shifted = tt;
        booted = refl;
      })
      (record {
        sent = ap (judged_causes t) x;
        shown = refl;
        before = ap (λ z. ways_of t z o.verdict o.guest) x;
        after = ap (λ z. way z at (Line_shown t 0 Nothing)) zero;
        name = refl;
      })
      (record {
        frame = λ k e. record {
          thread = sym (ap (λ z. thread_in_life k z o.guest) x);
          busy = sym (busy_none k t o (On at Showing) x (ap (λ z. eqb z k) zero ∙ e));
          seeker = both_idle k t o r (ap (is_seeking k) x) refl;
        };
        phase = sym (ap phase_of x);
        quiet = quiet x refl;
        holds = keeps _ _ (sym (ap (λ z. held z o.guest) x));
        whole = plain _ refl;
      })).midst

  pub reply_ok : (d : EventSoFar) (t : Tid) (at : ℕ) (reply : TheReply) (second : Option ℕ) (hs : List Busy) → (m : Midst outset ahead L d (busy t (On at (Answers n reply second)) ∷ hs)) → Midst outset ahead L (reply_by_link t at reply second d) hs
  unfolding reply_by_link put say
  reply_ok d t at reply second hs m =
      let v : Spots = m.now.spots in
      let o : Spot = v.threads t in
      let x : o.life ≡ On at (Answers n reply second) = in_hand m in
      let r : Spot = record o { life = On at (Answered n); verdict = record { code = reply_code reply; extra = extra_of second } } in
      (send_step hs (Judged t (reply_code reply) (extra_of second)) t r d.node at (Answer t reply second) m
      (record {
        same = ap (λ z. spots_with (update v.threads t (record { life = judged_life z; guest = judged_guest z o.guest; verdict = record { code = reply_code reply; extra = extra_of second } })) v.slots v.births v.sems v.forests v.halts v.remote) x;
        may = record { solo = tt; holders = tt; life = rw x refl; replies = rw x (refl, refl); grants = tt };
        ties = record {
          threads = map_kept is_tid is-true is-refl (thread_part n) v.threads t r d.node.threads m.here.threads (sym (ap (λ z. thread_in_life n z o.guest) x));
          busy = unfronted is_tid is-true is-refl busy_name (busy_part n) v.threads t r hs (busy t (On at (Answers n reply second))) m.here.busy refl refl;
        };
        births = refl;
        sems = refl;
        free = refl;
        halted = refl;
        after = as_before;
        talk = refl;
        next = own_goes m refl refl tt refl refl;
        forest = m.here.forest;
        shifted = tt;
        booted = refl;
      })
      (record {
        sent = ap (judged_causes t) x;
        shown = refl;
        before = ap (λ z. ways_of t z o.verdict o.guest) x;
        after = refl;
        name = refl;
      })
      (record {
        frame = λ k e. record {
          thread = sym (ap (λ z. thread_in_life k z o.guest) x);
          busy = sym (busy_none k t o (On at (Answers n reply second)) x e);
          seeker = both_idle k t o r (ap (is_seeking k) x) refl;
        };
        phase = sym (ap phase_of x);
        quiet = quiet x refl;
        holds = keeps _ _ (sym (ap (λ z. held z o.guest) x));
        whole = plain _ refl;
      })).midst

  -- ## A thread comes

  -- it is one that the node expects
  pub may_come_ok : (s : Local) (from : ℕ) (t : Tid) → (m : Midst outset ahead L (nothing s) []) → (m.now.spots.threads t).life ≡ Moving from n → nat_lt t.home (nodes_of p) ≡ true → may_come p n s (packed t (m.now.spots.threads t).guest) ≡ true
  may_come_ok s from t m x home =
      let o : Spot = m.now.spots.threads t in
      let away : lookup (is_tid t) s.threads ≡ None = m.here.threads.shows t ∙ ap (λ z. thread_in_life n z o.guest) x in
      let slots : are_away (guest_slots o.guest) s ≡ true = rw (no_own, no_others) refl in
      rw (home, away, lives, slots) refl
    where
      g : Guest
      g = (m.now.spots.threads t).guest

      mine : (y : ℕ) → has y (guest_slots g) ≡ true → m.now.spots.slots y ≡ Of_thread t
      mine y h = thread_holds t (m.now.spots.slots y) (sym (m.agrees.slots t y) ∙ ap (λ z. has y (slots_held (held z g))) x ∙ h)

      no_own : meets (guest_slots g) s.slots.free ≡ false
      no_own = meets_none (guest_slots g) s.slots.free (λ y h k. let free : is_free n (m.now.spots.slots y) ≡ true = sym (m.here.free y) ∙ k in let none : is_free n (m.now.spots.slots y) ≡ false = ap (is_free n) (mine y h) in absurd (cc (free, none)))

      no_others : list_all (λ e. not (meets (guest_slots g) (guest_slots e.1.guest))) s.threads ≡ true
      no_others = all_entries is_tid is-true is-refl (λ e. not (meets (guest_slots g) (guest_slots e.1.guest))) s.threads m.here.threads.apart (λ u z f.
          let on : OnNode n (m.now.spots.threads u) z = on_node_is n u (m.now.spots.threads u) z (sym (m.here.threads.shows u) ∙ f) in
          ap not (meets_none (guest_slots g) (guest_slots z.guest) (λ y h k.
          let his : is_thread u (m.now.spots.slots y) ≡ true = sym (m.agrees.slots u y) ∙ ap (has y) on.slots ∙ k in
          let one : is_tid u t ≡ true = sym (ap (is_thread u) (mine y h)) ∙ his in
          let same : (m.now.spots.threads u).life ≡ (m.now.spots.threads t).life = ap (λ v. (m.now.spots.threads v).life) (is-true u t one) in
          absurd (cc (on.life, same, x)))))

      lives : lives_yet n s t ≡ true
      lives = elim (eqb t.home n) as (λ v. eqb t.home n ≡ v → cond v (is_open (slice_get s.births t.seq)) true ≡ true) [
        | true ↦ λ e.
            let names : s.births ≡ m.now.spots.births t.home = m.here.births ∙ ap m.now.spots.births (sym (eqb-true t.home n e)) in
            open_birth (slice_get s.births t.seq) (ap (λ (bs : List Birth). phase_at (slice_get bs t.seq)) names ∙ m.agrees.named t ∙ ap phase_of x)
        | false ↦ λ e. refl
      ] refl

  pub comes_ok : (s : Local) (from : ℕ) (t : Tid) → (m : Midst outset (Says (Came t) ∷ ahead) L (nothing s) []) → (m.now.spots.threads t).life ≡ Moving from n → Midst outset ahead (links_less n L from t) (comes (packed t (m.now.spots.threads t).guest) (nothing s)) []
  unfolding comes enter thread_in say
  comes_ok s from t m x =
      let o : Spot = m.now.spots.threads t in
      let r : Spot = record o { life = On n Ready } in
      (moved (links_less n L from t) [] (Came t) t r _ m
      (record {
        same = refl;
        may = record { solo = tt; holders = tt; life = rw x refl; replies = tt; grants = tt };
        ties = record {
          threads = map_added is_tid is-true is-refl tid_cmp (λ a b. refl) (thread_part n) m.now.spots.threads t r s.threads (waits wait.No o.guest) m.here.threads (ap (λ z. thread_in_life n z o.guest) x) (thread_was n t r Ready refl);
          busy = kept is_tid is-true is-refl busy_name (busy_part n) m.now.spots.threads t r [] m.here.busy (busy_none n t r (On n Ready) refl refl ∙ sym (busy_none n t o (Moving from n) x refl));
        };
        births = refl;
        sems = refl;
        free = refl;
        halted = refl;
        after = after_first (Says (Came t)) refl;
        talk = refl;
        next = record { heir = refl; only = tt; front = λ sends talk. refl; next = refl; still = refl };
        forest = ap (enters t o.guest.priority None) m.here.forest ∙ own_forest m.now.spots.forests n (enters t o.guest.priority None (m.now.spots.forests n));
        shifted = tt;
        booted = refl;
      })
      (record {
        sent = refl;
        shown = refl;
        turns = taken_turns from t m;
        links = λ i j. nothing_sent n (links_less n L from t) i j (update m.now.spots.threads t r) (take_link from n (Travels (packed t o.guest)) t r L m.now.spots.threads (links_whole m) (ap (λ z. ways_of t z o.verdict o.guest) x) i j);
      })
      (record {
        frame = λ k e. record {
          thread = away_thread n k t r Ready refl e ∙ sym (ap (λ z. thread_in_life k z o.guest) x);
          busy = busy_none k t r (On n Ready) refl refl ∙ sym (busy_none k t o (Moving from n) x refl);
          seeker = both_idle k t o r (ap (is_seeking k) x) refl;
        };
        phase = sym (ap phase_of x);
        quiet = quiet x refl;
        holds = keeps _ _ (sym (ap (λ z. held z o.guest) x));
        whole = plain _ refl;
      })).midst
