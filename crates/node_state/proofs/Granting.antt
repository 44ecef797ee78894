-- The claims of a turn, served one after another, come to what the machine grants.
use Rattle.std.proofs.Common.{◌≡◌, ℕ, suc, ◌<◌, ◌≤◌, ◌-◌, ◌++◌, List, [], ◌∷◌, Bool, true, false, Option, Some, None, cond, length, take, drop, refl, sym, ap, subst, ◌∙◌, arith, append-nil}
use Rattle.std.specs.Prelude.{slice_get, is_some}
use Rattle.std.proofs.lemmas.List.{take_at, length-take-le, length-append}
use Rattle.slot_space.specs.Replies.{reply_code, tid_value}
use Rattle.slot_space.specs.declared.names.Reply.TheVariants as replies
use Rattle.slot_space.specs.declared.names.Tid.{Tid}
use Rattle.iso_blocks.specs.Heap.{rounded, place}
use Rattle.marcel_sync.specs.Semaphores.{number_in}
use Rattle.run_trace.specs.declared.label.Why.{Why}
use Rattle.run_trace.specs.declared.label.Why.TheVariants as why
use Rattle.run_trace.specs.declared.call.Call.{Call}
use Rattle.run_trace.specs.declared.call.Call.TheVariants.{Create, Isomalloc, CreateIn}
use Rattle.run_trace.specs.Calls.{call_of, place_code, slots_wanted}
use Rattle.run_trace.specs.Guests.{Thread, heap_of, with_placed, slots_for}
use Rattle.run_trace.specs.Talks.{Talk}
use Rattle.run_trace.specs.Local.{EventSoFar}
use Rattle.run_trace.specs.Steps.{next_name, thread_at, at_found, at_thread, say, keep, arrive, enter, thread_in, birth_in, slots_out, birth, judge, judge_as, tell, tell_found, takes_run, speaks, decides}
use Rattle.run_trace.specs.Machine.{answer, free_run, free_slot, run_for, creates_in, places, allocates_in, serves_call, serves, has_run_for, refuses, ends_turn, wants_again, leaves_claims, grants}
use Rattle.node_state.specs.Turns.{Grants, grants_to}

-- ## A thread that is served may claim slots, and changes no other claim

abbrev Adds : EventSoFar → EventSoFar → Type 0
Adds d e = (ts : List Tid) × (e.node.talk.claims ≡ d.node.talk.claims ++ ts)

keeps : (d e : EventSoFar) → e.node.talk ≡ d.node.talk → Adds d e
keeps d e same = ([], ap (λ (k : Talk). k.claims) same ∙ sym (append-nil d.node.talk.claims))

told : (t : Tid) (code : ℕ) (d : EventSoFar) → (tell t code None d).node.talk ≡ d.node.talk
unfolding tell arrive say keep
told t code d = by (thread_at t d)
  where
    by : (o : Option Thread) → (tell_found t code None o d).node.talk ≡ d.node.talk
    by None = refl
    by (Some x) = refl

created : (me : ℕ) (t : Tid) (reason : Why) (entry argument priority : ℕ) (o : Option ℕ) (d : EventSoFar) → Adds d (creates_in me t reason entry argument priority o d)
unfolding speaks birth judge enter thread_in birth_in slots_out say
created me t reason entry argument priority None d = (t ∷ [], refl)
created me t reason entry argument priority (Some slot) d =
    keeps d (creates_in me t reason entry argument priority (Some slot) d)
    (told t (tid_value (next_name me d)) (judge t (tid_value (next_name me d)) None (birth me reason entry argument priority slot d)))

placed : (t : Tid) (size : ℕ) (o : Option Thread) (d : EventSoFar) → (at_found o (places t size) d).node.talk ≡ d.node.talk
unfolding judge_as say keep
placed t size None d = refl
placed t size (Some x) d =
    let address : Option ℕ = place (heap_of x.guest.solo) size in
    told t (place_code address) (judge_as t (place_code address) (with_placed size address x.guest) d)

allocated : (t : Tid) (size : ℕ) (o : Option ℕ) (x : Thread) (d : EventSoFar) → Adds d (allocates_in t size o x d)
unfolding speaks takes_run slots_out say keep
allocated t size None x d = (t ∷ [], refl)
allocated t size (Some first) x d =
    let taken : EventSoFar = takes_run t first (slots_for size) x.guest d in
    keeps d (at_thread t (places t size) taken) (placed t size (thread_at t taken) taken)

call_adds : (me : ℕ) (t : Tid) (c : Call) (x : Thread) (d : EventSoFar) → Adds d (serves_call me t c x d)
call_adds me t (Create entry argument priority) x d = created me t (why.Create t) entry argument priority (free_slot d.node.slots.free) d
call_adds me t (CreateIn bubble entry argument priority) x d = created me t (why.Inside t (number_in bubble)) entry argument priority (free_slot d.node.slots.free) d
call_adds me t (Isomalloc len) x d = allocated t (rounded len) (run_for (rounded len) x.guest d.node.slots.free) x d
call_adds me t _ x d = keeps d d refl

serves_adds : (me : ℕ) (t : Tid) (d : EventSoFar) → Adds d (serves me t d)
serves_adds me t d = by (thread_at t d)
  where
    by : (o : Option Thread) → Adds d (at_found o (λ x e. serves_call me t (call_of x.guest.solo.state) x e) d)
    by None = keeps d d refl
    by (Some x) = call_adds me t (call_of x.guest.solo.state) x d

-- ## The first claim

claims_of : (ts : List Tid) (d : EventSoFar) → (leaves_claims ts d).node.talk.claims ≡ ts
unfolding speaks
claims_of ts d = refl

-- those that are left stand in front of what has come to them
in_front : (k : ℕ) (ts us extra : List Tid) → k ≤ length ts → us ≡ take k ts ++ extra → (take k us ≡ take k ts) × (k ≤ length us)
in_front k ts us extra few e =
    let long : length (take k ts) ≡ k = length-take-le k ts few in
    (ap (take k) e ∙ take_at (take k ts) extra k long, subst (λ (m : ℕ). k ≤ m) (sym (ap length e ∙ length-append (take k ts) extra)) (omega (arith, long)))

-- the machine's word for the same, with the claims by themselves
abbrev all : (me : ℕ) → List Tid → EventSoFar → EventSoFar
all me ts d = grants me ts d

one_served : (me k : ℕ) (t : Tid) (ts us : List Tid) (d new : EventSoFar) → us ≡ t ∷ ts → k ≤ length ts → has_run_for (thread_at t d) d.node.slots.free ≡ true
    → new ≡ serves me t (leaves_claims (take k ts) d) → (all me (take k new.node.talk.claims) new ≡ all me (take (suc k) us) d) × (k ≤ length new.node.talk.claims)
one_served me k t ts us d new front few has n =
    let mid : EventSoFar = leaves_claims (take k ts) d in
    let added = serves_adds me t mid in
    let claims : new.node.talk.claims ≡ take k ts ++ added.0 =
    ap (λ (e : EventSoFar). e.node.talk.claims) n ∙ added.1 ∙ ap (λ (xs : List Tid). xs ++ added.0) (claims_of (take k ts) d) in
    let left = in_front k ts new.node.talk.claims added.0 few claims in (
      ap (λ (xs : List Tid). all me xs new) left.0 ∙ ap (all me (take k ts)) n
          ∙ sym (ap (λ (b : Bool). cond b (all me (take k ts) (serves me t mid)) (wants_again (ends_turn (at_thread t (refuses t) mid)))) has)
          ∙ sym (ap (λ (xs : List Tid). all me (take (suc k) xs) d) front),
      left.1,
    )

-- a list with a first
first_of : (t : Tid) (us : List Tid) → Some t ≡ slice_get us 0 → us ≡ t ∷ drop 1 us
first_of t [] e = absurd (cc e)
first_of t (u ∷ us) e = let same : u ≡ t = cc e in ap (λ v. v ∷ us) same

pub granted_one : (me left : ℕ) (t : Tid) (old mid new : EventSoFar) (has : Bool) → 0 < left → left ≤ length old.node.talk.claims → Some t ≡ slice_get old.node.talk.claims 0
    → has ≡ has_run_for (thread_at t old) old.node.slots.free → has ≡ true → mid ≡ leaves_claims (take (left - 1) (drop 1 old.node.talk.claims)) old → new ≡ serves me t mid
    → Grants me left old new true
granted_one me left t old mid new has some few first can is m n =
    let us : List Tid = old.node.talk.claims in
    let k : ℕ = left - 1 in
    let next : suc k ≡ left = omega (arith, some) in
    let front = first_of t us first in
    let short : k ≤ length (drop 1 us) = omega (arith, few, some, ap length front) in
    let served = one_served me k t (drop 1 us) us old new front short (sym can ∙ is) (n ∙ ap (serves me t) m) in
    (served.0 ∙ ap (λ (i : ℕ). all me (take i us) old) next, served.1)

-- or the first is refused, and the turn ends
pub granted_none : (me left : ℕ) (t : Tid) (old mid refused ended new : EventSoFar) (has : Bool) → 0 < left → Some t ≡ slice_get old.node.talk.claims 0
    → has ≡ has_run_for (thread_at t old) old.node.slots.free → has ≡ false → mid ≡ leaves_claims (take (left - 1) (drop 1 old.node.talk.claims)) old
    → refused ≡ at_thread t (refuses t) mid → ended ≡ ends_turn refused → new ≡ wants_again ended → new ≡ grants_to me left old
granted_none me left t old mid refused ended new has some first can is m r e n =
    let us : List Tid = old.node.talk.claims in
    let k : ℕ = left - 1 in
    let left_in : EventSoFar = leaves_claims (take k (drop 1 us)) old in
    let next : suc k ≡ left = omega (arith, some) in
    n ∙ ap wants_again (e ∙ ap ends_turn (r ∙ ap (at_thread t (refuses t)) m))
    ∙ sym (ap (λ (b : Bool). cond b (all me (take k (drop 1 us)) (serves me t left_in)) (wants_again (ends_turn (at_thread t (refuses t) left_in)))) (sym can ∙ is))
    ∙ sym (ap (λ (xs : List Tid). all me (take (suc k) xs) old) (first_of t us first))
    ∙ ap (λ (i : ℕ). all me (take i us) old) next

-- ## A thread that is served, as it is found

pub served_at : (me : ℕ) (t : Tid) (x : Thread) (c : Call) (d : EventSoFar) → thread_at t d ≡ Some x → c ≡ call_of x.guest.solo.state
    → at_thread t (serves_call me t c) d ≡ serves me t d
served_at me t x c d here same =
    ap (λ o. at_found o (serves_call me t c) d) here ∙ ap (λ (k : Call). serves_call me t k x d) same
    ∙ sym (ap (λ o. at_found o (λ y e. serves_call me t (call_of y.guest.solo.state) y e) d) here)

-- and one that is refused
pub refused_at : (t : Tid) (x : Thread) (count code : ℕ) (d mid : EventSoFar) → thread_at t d ≡ Some x → count ≡ slots_wanted (call_of x.guest.solo.state)
    → code ≡ reply_code replies.Full → mid ≡ at_thread t (decides t count) d → answer t code mid ≡ at_thread t (refuses t) d
refused_at t x count code d mid here same full m =
    ap (λ (k : ℕ). answer t k mid) full
    ∙ ap (answer t (reply_code replies.Full)) (m ∙ ap (λ o. at_found o (decides t count) d) here ∙ ap (λ (k : ℕ). decides t k x d) same)
    ∙ sym (ap (λ o. at_found o (refuses t) d) here)

pub has_run_at : (t : Tid) (x : Thread) (count : ℕ) (d : EventSoFar) (has : Bool) → thread_at t d ≡ Some x → count ≡ slots_wanted (call_of x.guest.solo.state)
    → has ≡ is_some (free_run d.node.slots.free count) → has ≡ has_run_for (thread_at t d) d.node.slots.free
has_run_at t x count d has here same e =
    e ∙ ap (λ (k : ℕ). is_some (free_run d.node.slots.free k)) same ∙ sym (ap (λ o. has_run_for o d.node.slots.free) here)
