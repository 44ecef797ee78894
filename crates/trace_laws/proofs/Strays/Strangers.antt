-- No packet, whatever it says, gives a node a slot twice.
use Rattle.std.proofs.Common.{◌≡◌, ℕ, List, [], ◌∷◌, Option, Some, None, Bool, true, false, eqb, cond, refl, ap, ◌∙◌, subst, inr}
use Rattle.std.specs.Prelude.{nat_lt, not, slice_get, is_none}
use Rattle.std.specs.List.{list_all}
use Rattle.std.specs.Map.{lookup}
use Rattle.std.proofs.lemmas.Bool.{and_parts}
use Rattle.slot_space.specs.Sets.{has, meets}
use Rattle.slot_space.proofs.Lemmas.{meets-common}
use Rattle.slot_space.specs.Replies.{reply_code}
use Rattle.slot_space.specs.declared.names.Tid.{Tid}
use Rattle.slot_space.specs.declared.names.Reply.{Reply}
use Rattle.slot_space.specs.declared.names.Reply.TheVariants as replies
use Rattle.marcel_core.specs.declared.end.End.{End}
use Rattle.marcel_core.specs.declared.birth.Verdict.{Verdict}
use Rattle.marcel_core.specs.declared.birth.Verdict.TheVariants.{Now, Later, NoSuch, Taken}
use Rattle.marcel_core.specs.Homes.{verdict, detach_verdict, detached_reply, joiner}
use Rattle.marcel_sync.specs.declared.sem.SemRow.{SemRow}
use Rattle.marcel_sync.specs.declared.sem.Pgot.{Pgot}
use Rattle.marcel_sync.specs.declared.sem.Pgot.TheVariants as lowering
use Rattle.marcel_sync.specs.declared.sem.Vgot.{Vgot}
use Rattle.marcel_sync.specs.declared.sem.Vgot.TheVariants as raising
use Rattle.marcel_sync.specs.Semaphores.{number_in, lowered_answer, lowered, raised_answer, raised}
use Rattle.pack_thread.specs.Threads.{PackedThread as Packed}
use Rattle.run_trace.specs.declared.node.Wait.TheVariants as wait
use Rattle.run_trace.specs.declared.packet.Body.{Body}
use Rattle.run_trace.specs.declared.packet.Body.TheVariants.{Mover, Show, ShowDone, JoinAsk, DetachAsk, SemAsk, Answer, EndNote, Want, Turn, Over}
use Rattle.run_trace.specs.Names.{is_tid, tid_cmp}
use Rattle.run_trace.specs.Program.{Program, nodes_of}
use Rattle.run_trace.specs.Guests.{Thread, waits, unpacked, guest_slots}
use Rattle.run_trace.specs.Local.{Local, EventSoFar, nothing}
use Rattle.run_trace.specs.Steps.{comes, enter, thread_in, say, put, print, shows, acknowledges, hears, hears_detach, hears_signal, knows, change_birth, reply_by_link}
use Rattle.run_trace.specs.Machine.{takes, accepts, is_stray, may_come, is_unserving, lives_yet, are_away, answer, judges_join, replies_to, answers_p, answers_v, hears_call, tells_joiner}
use Rattle.trace_laws.specs.Strays.{slots_with, slots_here, IsHeldOnce}
use Rattle.run_trace.proofs.Lemmas.{is-true, is-refl, is-same}
use Rattle.trace_laws.proofs.Lists.KeyedLemmas.{lookup-insert}
use Rattle.trace_laws.proofs.Strays.Holdings.{same_held, told_held, answered_held, gained_held, new_slots}
use Rattle.trace_laws.proofs.Strays.Grants.{spoke_held, granted_held}

judged_held : (by : Tid) (from seq : ℕ) (v : Verdict) (s : Local) → IsHeldOnce s → IsHeldOnce (judges_join by from v (hears by seq from (nothing s))).node
unfolding hears change_birth say reply_by_link put
judged_held by from seq (Now end) s h = same_held s _ refl (λ t. refl) h
judged_held by from seq Later s h = same_held s _ refl (λ t. refl) h
judged_held by from seq NoSuch s h = same_held s _ refl (λ t. refl) h
judged_held by from seq Taken s h = same_held s _ refl (λ t. refl) h

-- semaphores hold no slots
replied_held : (me at : ℕ) (t : Tid) (reply : Reply) (d : EventSoFar) → IsHeldOnce d.node → IsHeldOnce (replies_to me at t reply d).node
unfolding say reply_by_link put
replied_held me at t reply d h = elim (eqb me at) as (λ v. IsHeldOnce (cond v (answer t (reply_code reply) d) (reply_by_link t at reply None d)).node) [
  | true ↦ answered_held t (reply_code reply) d h
  | false ↦ same_held d.node _ refl (λ u. refl) h
]

lowered_held : (me at : ℕ) (t : Tid) (got : Pgot) (d : EventSoFar) → IsHeldOnce d.node → IsHeldOnce (answers_p me at t got d).node
lowered_held me at t lowering.Got d h = replied_held me at t (replies.Value 0) d h
lowered_held me at t lowering.Later d h = h
lowered_held me at t lowering.NoSuch d h = replied_held me at t replies.NoSuch d h

raised_held : (me at : ℕ) (t : Tid) (got : Vgot) (d : EventSoFar) → IsHeldOnce d.node → IsHeldOnce (answers_v me at t got d).node
raised_held me at t (raising.Woke u there) d h = replied_held me at t (replies.Value 0) _ (replied_held me there u (replies.Value 0) d h)
raised_held me at t raising.Stored d h = replied_held me at t (replies.Value 0) d h
raised_held me at t raising.AtLimit d h = replied_held me at t replies.BadArgument d h
raised_held me at t raising.NoSuch d h = replied_held me at t replies.NoSuch d h

signal_held : (by : Tid) (sems : List SemRow) (s : Local) → IsHeldOnce s → IsHeldOnce (hears_signal by sems (nothing s)).node
unfolding hears_signal say
signal_held by sems s h = same_held s _ refl (λ t. refl) h

called_held : (me from : ℕ) (by : Tid) (id : ℕ) (up : Bool) (s : Local) → IsHeldOnce s → IsHeldOnce (hears_call me from by id up (nothing s)).node
called_held me from by id true s h = raised_held me from by (raised_answer (number_in id) s.sems) _ (signal_held by (raised (number_in id) s.sems) s h)
called_held me from by id false s h = lowered_held me from by (lowered_answer (number_in id) s.sems) _ (signal_held by (lowered (number_in id) (by, from) s.sems) s h)

detached_held : (by : Tid) (from seq : ℕ) (reply : Reply) (s : Local) → IsHeldOnce s → IsHeldOnce (reply_by_link by from reply None (hears_detach by seq (nothing s))).node
unfolding hears_detach change_birth say reply_by_link put
detached_held by from seq reply s h = same_held s _ refl (λ t. refl) h

known_held : (me seq : ℕ) (end : End) (o : Option (Tid × ℕ)) (s : Local) → IsHeldOnce s → IsHeldOnce (tells_joiner end o (knows me seq end (nothing s))).node
unfolding knows change_birth say reply_by_link put
known_held me seq end None s h = same_held s _ refl (λ t. refl) h
known_held me seq end (Some by) s h = same_held s _ refl (λ t. refl) h

-- what holds of all entries holds of the one that is found
found_all : (test : Tid × Thread → Bool) (t : Tid) (es : List (Tid × Thread)) (x : Thread) → list_all test es ≡ true → lookup (is_tid t) es ≡ Some x → (k : Tid) × (test (k, x) ≡ true)
found_all test t [] x a e = absurd (cc e)
found_all test t (y ∷ es) x a e = elim (is_tid t y.0) as (λ v. cond v (Some y.1) (lookup (is_tid t) es) ≡ Some x → (k : Tid) × (test (k, x) ≡ true)) [
  | true ↦ λ f. (let same : y.1 ≡ x = cc f in (y.0, subst (λ z. test (y.0, z) ≡ true) same (and_parts (test y) (list_all test es) a).0))
  | false ↦ λ f. found_all test t es x (and_parts (test y) (list_all test es) a).1 f
] e

not_both : (b : Bool) → not b ≡ true → b ≡ false
not_both true h = absurd (cc h)
not_both false h = refl

-- none of a newcomer's slots is here
away_own : (slots : List ℕ) (s : Local) → are_away slots s ≡ true → (y : ℕ) → has y slots ≡ true → has y s.slots.free ≡ false
away_own slots s a y h = elim (has y s.slots.free) as (λ v. has y s.slots.free ≡ v → v ≡ false) [
  | true ↦ λ e. absurd (cc (meets-common y slots s.slots.free h e, not_both (meets slots s.slots.free) (and_parts (not (meets slots s.slots.free)) _ a).0))
  | false ↦ λ e. refl
] refl

away_here : (slots : List ℕ) (s : Local) → are_away slots s ≡ true → (y : ℕ) (t : Tid) → has y slots ≡ true → has y (slots_here s t) ≡ true → ⊥
away_here slots s a y t h k = by (lookup (is_tid t) s.threads) refl k
  where
    by : (o : Option Thread) → lookup (is_tid t) s.threads ≡ o → has y (slots_with o) ≡ true → ⊥
    by None e g = absurd (cc g)
    by (Some x) e g =
        let f = found_all (λ e. not (meets slots (guest_slots e.1.guest))) t s.threads x (and_parts (not (meets slots s.slots.free)) _ a).1 e in
        cc (meets-common y slots (guest_slots x.guest) h g, not_both (meets slots (guest_slots x.guest)) f.1)

came_held : (p : Program) (me : ℕ) (x : Packed) (s : Local) → may_come p me s x ≡ true → IsHeldOnce s → IsHeldOnce (comes x (nothing s)).node
unfolding comes enter thread_in say
came_held p me x s may h = gained_held x.tid mine s _ (record {
  fewer = λ y k. k;
  taken = λ y k. away_own mine s away y k;
  apart = λ u y k l. away_here mine s away y u k l;
  held = new_slots x.tid new mine s (comes x (nothing s)).node (λ u. lookup-insert is_tid is-true is-refl tid_cmp (λ a b. refl) s.threads x.tid u new ∙ ap (λ v. cond v (Some new) (lookup (is_tid u) s.threads)) (is-same u x.tid)) (λ y k. inr k);
}) h
  where
    new : Thread
    new = waits wait.No (unpacked x)

    mine : List ℕ
    mine = guest_slots (unpacked x)

    away : are_away mine s ≡ true
    away =
        let a = and_parts (nat_lt x.tid.home (nodes_of p)) _ may in
        let b = and_parts (is_unserving x) _ a.1 in
        let c = and_parts (is_none (lookup (is_tid x.tid) s.threads)) _ b.1 in
        (and_parts (lives_yet me s x.tid) (are_away mine s) c.1).1

accepted_held : (p : Program) (me from : ℕ) (body : Body) (s : Local) → is_stray p me from s body ≡ false → IsHeldOnce s → IsHeldOnce (accepts me from body s).node
unfolding shows acknowledges put print say
accepted_held p me from (Mover x) s k h = came_held p me x s (opened (may_come p me s x) k) h
  where
    opened : (b : Bool) → not b ≡ false → b ≡ true
    opened true e = refl
    opened false e = absurd (cc e)
accepted_held p me from (Show t bytes) s k h = same_held s _ refl (λ u. refl) h
accepted_held p me from (ShowDone t) s k h = told_held t 0 None (nothing s) h
accepted_held p me from (JoinAsk by seq) s k h = judged_held by from seq (verdict (slice_get s.births seq)) s h
accepted_held p me from (DetachAsk by seq) s k h = detached_held by from seq (detached_reply (detach_verdict (slice_get s.births seq))) s h
accepted_held p me from (SemAsk by id up) s k h = called_held me from by id up s h
accepted_held p me from (Answer t reply second) s k h = told_held t (reply_code reply) second (nothing s) h
accepted_held p me from (EndNote seq end) s k h = known_held me seq end (joiner (slice_get s.births seq)) s h
accepted_held p me from Want s k h = spoke_held _ _ (nothing s) h
accepted_held p me from Turn s k h = granted_held me s.talk.claims (nothing s) h
accepted_held p me from Over s k h = spoke_held _ _ (nothing s) h

pub held_once : (p : Program) (me from : ℕ) (s : Local) (body : Body) → IsHeldOnce s → IsHeldOnce (takes p me from body s).node
held_once p me from s body h = elim (is_stray p me from s body) as (λ v. is_stray p me from s body ≡ v → IsHeldOnce (cond v (nothing s) (accepts me from body s)).node) [
  | true ↦ λ e. h
  | false ↦ λ e. accepted_held p me from body s e h
] refl
