-- A node that has begun stays so.
use Rattle.std.proofs.Common.{◌≡◌, ℕ, zero, suc, List, [], ◌∷◌, Option, Some, None, Bool, true, false, cond, eqb, refl, ◌∙◌, subst}
use Rattle.std.specs.Prelude.{length, slice_get, nat_lt, ⊤}
use Rattle.std.specs.Map.{lookup}
use Rattle.slot_space.specs.declared.names.Tid.{Tid}
use Rattle.slot_space.specs.declared.names.Reply.{Reply}
use Rattle.slot_space.specs.declared.names.Reply.TheVariants as replies
use Rattle.slot_space.specs.Replies.{reply_code, tid_value}
use Rattle.iso_blocks.specs.Heap.{rounded, place, emptied}
use Rattle.rv_step.specs.declared.hart.Stop.{Stop}
use Rattle.rv_step.specs.declared.hart.Stop.TheVariants as stops
use Rattle.marcel_core.specs.declared.end.End.{End}
use Rattle.marcel_core.specs.declared.end.End.TheVariants as end_of
use Rattle.marcel_core.specs.declared.birth.Verdict.{Verdict}
use Rattle.marcel_core.specs.declared.birth.Verdict.TheVariants.{Now, Later, NoSuch, Taken}
use Rattle.marcel_core.specs.Homes.{verdict, detach_verdict, detached_reply, joiner}
use Rattle.marcel_sync.specs.declared.sem.SemRow.{SemRow}
use Rattle.marcel_sync.specs.declared.sem.Pgot.{Pgot}
use Rattle.marcel_sync.specs.declared.sem.Pgot.TheVariants as lowering
use Rattle.marcel_sync.specs.declared.sem.Vgot.{Vgot}
use Rattle.marcel_sync.specs.declared.sem.Vgot.TheVariants as raising
use Rattle.marcel_sync.specs.Semaphores.{node_in, number_in, name_on, lowered_answer, lowered, raised_answer, raised, with_one_more}
use Rattle.run_trace.specs.declared.call.Call.{Call}
use Rattle.run_trace.specs.declared.call.Call.TheVariants.{Exit, Name, Node, Nodes, Yield, Create, Join, Detach, SemNew, SemP, SemV, Isomalloc, Isofree, MigrateSelf, Migrate, Print, BubbleNew, BubbleInsert, BubbleWake, BubbleGather, CreateIn, Halt, Unknown}
use Rattle.run_trace.specs.declared.entry.Act.{Act}
use Rattle.run_trace.specs.declared.entry.Act.TheVariants.{Boot, Run as RunThread, Take, Move}
use Rattle.run_trace.specs.declared.label.Why.{Why}
use Rattle.run_trace.specs.declared.label.Why.TheVariants as why
use Rattle.run_trace.specs.declared.packet.Body.{Body}
use Rattle.run_trace.specs.declared.packet.Body.TheVariants.{Mover, Show, ShowDone, JoinAsk, DetachAsk, SemAsk, Answer, EndNote, Want, Turn, Over}
use Rattle.run_trace.specs.declared.packet.Packet.{Packet}
use Rattle.run_trace.specs.declared.packet.Send.{Send}
use Rattle.run_trace.specs.Names.{is_tid, tid_of}
use Rattle.run_trace.specs.Program.{Program, nodes_of, code_of, main_priority}
use Rattle.run_trace.specs.Guests.{Guest, Thread, Run, run_of, heap_of, with_placed, without_block, slots_for}
use Rattle.run_trace.specs.Calls.{call_of, refusal, bytes_of, place_code, slots_wanted}
use Rattle.run_trace.specs.Talks.{Talk, one_send, want_sends, claiming, with_claims, after_turn, again_sends, again, turn_to, listing_sends, listing, next_turn, without_first}
use Rattle.bubbles.specs.declared.bubble.Shift.{Shift}
use Rattle.bubbles.specs.declared.bubble.Step.{Step}
use Rattle.bubbles.specs.declared.bubble.Step.TheVariants.{Empty, Takes, Shifts}
use Rattle.bubbles.specs.Forests.{ForestView}
use Rattle.bubbles.specs.Picking.{step}
use Rattle.run_trace.specs.Bubbles.{is_listed, not_filling, Outcome, bubble_outcome, Gathering, gathering}
use Rattle.pack_thread.specs.Threads.{PackedThread as Packed}
use Rattle.run_trace.specs.Local.{Local, EventSoFar, nothing, with_booted}
use Rattle.run_trace.specs.Steps.{say, put, print, enter, arrive, depart, choose, thread_at, at_thread, at_found, keep, thread_in, thread_out, slots_out, slots_in, birth_in, change_birth, halt, next_name, birth, shifted, ran, asks, asks_bubbles, gathered, asks_show, asks_join, asks_detach, asks_signal, asks_here, asks_waiting, asks_slots, speaks, decides, halts, judge, tell_found, tell, judge_as, reply_by_link, takes_run, returns, gives, ends, leaves, comes, shows, acknowledges, hears, hears_detach, hears_signal, knows}
use Rattle.run_trace.specs.Machine.{answer, end_thread, free_slot, claims, creates_in, creates, judge_and_tell, places, run_for, allocates_in, allocates, serves_call, serves_thread, serves, allocates_at, has_run_for, refuses, ends_turn, wants_again, leaves_claims, grants, returns_any, frees_block, frees, goes, migrates, sends_away, sends, replies_to, answers_p, answers_v, lowers, raises, signals, hears_call, moves_found, does, calls, boots_in, boots, stopped, run_thread, run_found, chosen_by, chooses, choice_limit, gathers_found, does_bubbles, creates_inside, judges_join, tells_joiner, accepts, is_stray, takes, is_range, acts, local_event, turn_event, is_beyond}

-- ## Steps

record Kept (old new : EventSoFar) : Type 0 where
  is : new.node.booted ≡ old.node.booted

kept : {old new : EventSoFar} → new.node.booted ≡ old.node.booted → Kept old new
kept e = record { is = e }

then : {a b c : EventSoFar} → Kept a b → Kept b c → Kept a c
then h k = record { is = k.is ∙ h.is }

-- a step of a thread that may be here
at_keeps : (t : Tid) (step : Thread → EventSoFar → EventSoFar) (d : EventSoFar) → ((x : Thread) → Kept d (step x d)) → Kept d (at_thread t step d)
at_keeps t step d h = by (thread_at t d)
  where
    by : (o : Option Thread) → Kept d (at_found o step d)
    by None = kept refl
    by (Some x) = h x

birth_keeps : (me : ℕ) (w : Why) (entry a0 priority slot : ℕ) (d : EventSoFar) → Kept d (birth me w entry a0 priority slot d)
unfolding birth enter thread_in birth_in slots_out say
birth_keeps me w entry a0 priority slot d = kept refl

ran_keeps : (t : Tid) (vp : ℕ) (r : Run) (x : Thread) (d : EventSoFar) → Kept d (ran t vp r x d)
unfolding ran choose keep say
ran_keeps t vp r x d = kept refl

shifted_keeps : (vp : ℕ) (shift : Shift) (d : EventSoFar) → Kept d (shifted vp shift d)
unfolding shifted choose say
shifted_keeps vp shift d = kept refl

arrive_keeps : (t : Tid) (d : EventSoFar) → Kept d (arrive t d)
unfolding arrive
arrive_keeps t d = kept refl

asks_keeps : (t : Tid) (c : Call) (d : EventSoFar) → Kept d (asks t c d)
unfolding asks say
asks_keeps t c d = kept refl

asks_show_keeps : (t : Tid) (c : Call) (bytes : List ℕ) (x : Thread) (d : EventSoFar) → Kept d (asks_show t c bytes x d)
unfolding asks_show put keep say
asks_show_keeps t c bytes x d = kept refl

asks_join_keeps : (t : Tid) (c : Call) (u : Tid) (x : Thread) (d : EventSoFar) → Kept d (asks_join t c u x d)
unfolding asks_join asks put keep say
asks_join_keeps t c u x d = kept refl

asks_detach_keeps : (t : Tid) (c : Call) (u : Tid) (x : Thread) (d : EventSoFar) → Kept d (asks_detach t c u x d)
unfolding asks_detach asks put keep say
asks_detach_keeps t c u x d = kept refl

asks_signal_keeps : (t : Tid) (c : Call) (id : ℕ) (up : Bool) (x : Thread) (d : EventSoFar) → Kept d (asks_signal t c id up x d)
unfolding asks_signal asks put keep say
asks_signal_keeps t c id up x d = kept refl

asks_here_keeps : (t : Tid) (c : Call) (sems : List SemRow) (d : EventSoFar) → Kept d (asks_here t c sems d)
unfolding asks_here asks say
asks_here_keeps t c sems d = kept refl

asks_waiting_keeps : (t : Tid) (c : Call) (sems : List SemRow) (x : Thread) (d : EventSoFar) → Kept d (asks_waiting t c sems x d)
unfolding asks_waiting asks keep say
asks_waiting_keeps t c sems x d = kept refl

asks_bubbles_keeps : (t : Tid) (c : Call) (forest : ForestView) (d : EventSoFar) → Kept d (asks_bubbles t c forest d)
unfolding asks_bubbles asks say
asks_bubbles_keeps t c forest d = kept refl

gathers_keeps : (o : Option Gathering) (d : EventSoFar) → Kept d (gathers_found o d)
unfolding gathered say
gathers_keeps None d = kept refl
gathers_keeps (Some g) d = kept refl

asks_slots_keeps : (t : Tid) (c : Call) (x : Thread) (d : EventSoFar) → Kept d (asks_slots t c x d)
unfolding asks_slots asks keep say
asks_slots_keeps t c x d = kept refl

speaks_keeps : (sends : List Send) (talk : Talk) (d : EventSoFar) → Kept d (speaks sends talk d)
unfolding speaks
speaks_keeps sends talk d = kept refl

decides_keeps : (t : Tid) (count : ℕ) (x : Thread) (d : EventSoFar) → Kept d (decides t count x d)
unfolding decides keep say
decides_keeps t count x d = kept refl

halts_keeps : (t : Tid) (x : Thread) (d : EventSoFar) → Kept d (halts t x d)
unfolding halts halt keep say
halts_keeps t x d = kept refl

tell_keeps : (t : Tid) (code : ℕ) (second : Option ℕ) (d : EventSoFar) → Kept d (tell t code second d)
unfolding tell arrive keep say
tell_keeps t code second d = by (thread_at t d)
  where
    by : (o : Option Thread) → Kept d (tell_found t code second o d)
    by None = kept refl
    by (Some x) = kept refl

answer_keeps : (t : Tid) (code : ℕ) (d : EventSoFar) → Kept d (answer t code d)
unfolding judge say
answer_keeps t code d = then {b = judge t code None d} (kept refl) (tell_keeps t code None (judge t code None d))

judge_and_tell_keeps : (t : Tid) (code : ℕ) (g : Guest) (d : EventSoFar) → Kept d (judge_and_tell t code g d)
unfolding judge_as keep say
judge_and_tell_keeps t code g d = then {b = judge_as t code g d} (kept refl) (tell_keeps t code None (judge_as t code g d))

reply_keeps : (t : Tid) (at : ℕ) (reply : Reply) (second : Option ℕ) (d : EventSoFar) → Kept d (reply_by_link t at reply second d)
unfolding reply_by_link put say
reply_keeps t at reply second d = kept refl

takes_keep : (t : Tid) (first count : ℕ) (g : Guest) (d : EventSoFar) → Kept d (takes_run t first count g d)
unfolding takes_run slots_out keep say
takes_keep t first count g d = kept refl

returns_keep : (t : Tid) (slots : List ℕ) (g : Guest) (d : EventSoFar) → Kept d (returns t slots g d)
unfolding returns slots_in keep say
returns_keep t slots g d = kept refl

end_keeps : (t : Tid) (x : Thread) (end : End) (d : EventSoFar) → Kept d (end_thread t x end d)
unfolding ends gives put depart thread_out slots_in say
end_keeps t x end d = kept refl

leaves_keeps : (t : Tid) (to : ℕ) (x : Thread) (d : EventSoFar) → Kept d (leaves t to x d)
unfolding leaves put thread_out depart say
leaves_keeps t to x d = kept refl

comes_keeps : (x : Packed) (d : EventSoFar) → Kept d (comes x d)
unfolding comes enter thread_in say
comes_keeps x d = kept refl

shows_keeps : (t : Tid) (from : ℕ) (bytes : List ℕ) (d : EventSoFar) → Kept d (acknowledges t from (shows t bytes d))
unfolding acknowledges shows put print say
shows_keeps t from bytes d = kept refl

hears_keeps : (by : Tid) (seq at : ℕ) (d : EventSoFar) → Kept d (hears by seq at d)
unfolding hears change_birth say
hears_keeps by seq at d = kept refl

hears_detach_keeps : (by : Tid) (seq : ℕ) (d : EventSoFar) → Kept d (hears_detach by seq d)
unfolding hears_detach change_birth say
hears_detach_keeps by seq d = kept refl

hears_signal_keeps : (by : Tid) (sems : List SemRow) (d : EventSoFar) → Kept d (hears_signal by sems d)
unfolding hears_signal say
hears_signal_keeps by sems d = kept refl

knows_keeps : (me seq : ℕ) (end : End) (d : EventSoFar) → Kept d (knows me seq end d)
unfolding knows change_birth say
knows_keeps me seq end d = kept refl

-- ## Compositions

claims_keep : (t : Tid) (d : EventSoFar) → Kept d (claims t d)
claims_keep t d = speaks_keeps (want_sends d.node.talk) (claiming t d.node.talk) d

creates_keeps : (me : ℕ) (t : Tid) (reason : Why) (entry argument priority : ℕ) (d : EventSoFar) → Kept d (creates me t reason entry argument priority d)
creates_keeps me t reason entry argument priority d = by (free_slot d.node.slots.free)
  where
    by : (o : Option ℕ) → Kept d (creates_in me t reason entry argument priority o d)
    by None = claims_keep t d
    by (Some slot) = then (birth_keeps me reason entry argument priority slot d) (answer_keeps t (tid_value (next_name me d)) _)

places_keep : (t : Tid) (size : ℕ) (x : Thread) (d : EventSoFar) → Kept d (places t size x d)
places_keep t size x d =
    let address : Option ℕ = place (heap_of x.guest.solo) size in judge_and_tell_keeps t (place_code address) (with_placed size address x.guest) d

allocates_keeps : (t : Tid) (size : ℕ) (x : Thread) (d : EventSoFar) → Kept d (allocates t size x d)
allocates_keeps t size x d = by (run_for size x.guest d.node.slots.free)
  where
    by : (o : Option ℕ) → Kept d (allocates_in t size o x d)
    by None = claims_keep t d
    by (Some first) =
        let e : EventSoFar = takes_run t first (slots_for size) x.guest d in
        then (takes_keep t first (slots_for size) x.guest d) (at_keeps t (places t size) e (λ y. places_keep t size y e))

serves_call_keeps : (me : ℕ) (t : Tid) (c : Call) (x : Thread) (d : EventSoFar) → Kept d (serves_call me t c x d)
serves_call_keeps me t (Create entry argument priority) x d = creates_keeps me t (why.Create t) entry argument priority d
serves_call_keeps me t (CreateIn bubble entry argument priority) x d = creates_keeps me t (why.Inside t (number_in bubble)) entry argument priority d
serves_call_keeps me t (Isomalloc len) x d = allocates_keeps t (rounded len) x d
serves_call_keeps me t _ x d = kept refl

serves_keep : (me : ℕ) (t : Tid) (d : EventSoFar) → Kept d (serves me t d)
serves_keep me t d = at_keeps t (serves_thread me t) d (λ x. serves_call_keeps me t (call_of x.guest.solo.state) x d)

allocates_at_keeps : (me : ℕ) (t : Tid) (len : ℕ) (o : Option ℕ) (x : Thread) (d : EventSoFar) → Kept d (allocates_at me t len o x d)
allocates_at_keeps me t len None x d = then (asks_slots_keeps t (Isomalloc len) x d) (serves_keep me t _)
allocates_at_keeps me t len (Some address) x d =
    then (asks_keeps t (Isomalloc len) d) (at_keeps t (places t (rounded len)) _ (λ y. places_keep t (rounded len) y _))

-- the node has the turn
ends_turn_keeps : (d : EventSoFar) → Kept d (ends_turn d)
ends_turn_keeps d = speaks_keeps (one_send 0 Over) (after_turn d.node.talk) d

refuses_keeps : (t : Tid) (d : EventSoFar) → Kept d (at_thread t (refuses t) d)
refuses_keeps t d =
    at_keeps t (refuses t) d (λ x. then (decides_keeps t (slots_wanted (call_of x.guest.solo.state)) x d) (answer_keeps t (reply_code replies.Full) _))

grants_keep : (me : ℕ) (ts : List Tid) (d : EventSoFar) → Kept d (grants me ts d)
grants_keep me [] d = ends_turn_keeps d
grants_keep me (t ∷ ts) d = by (has_run_for (thread_at t d) d.node.slots.free) (grants_keep me ts (serves me t (leaves_claims ts d)))
  where
    left : Kept d (leaves_claims ts d)
    left = speaks_keeps [] (with_claims ts d.node.talk) d

    refused : EventSoFar
    refused = ends_turn (at_thread t (refuses t) (leaves_claims ts d))

    by : (b : Bool) → Kept (serves me t (leaves_claims ts d)) (grants me ts (serves me t (leaves_claims ts d)))
        → Kept d (cond b (grants me ts (serves me t (leaves_claims ts d))) (wants_again refused))
    by true more = then (then left (serves_keep me t (leaves_claims ts d))) more
    by false more =
        then (then (then left (refuses_keeps t (leaves_claims ts d))) (ends_turn_keeps _))
        (speaks_keeps (again_sends refused.node.talk.claims refused.node.talk) (again refused.node.talk.claims refused.node.talk) refused)

frees_keep : (t : Tid) (address : ℕ) (x : Thread) (d : EventSoFar) → Kept d (frees t address x d)
frees_keep t address x d =
    let e : EventSoFar = returns_any t (emptied (heap_of x.guest.solo) address) x.guest d in
    then {b = e} (by (emptied (heap_of x.guest.solo) address)) (at_keeps t (frees_block t address) e (λ y. judge_and_tell_keeps t 0 (without_block address y.guest) e))
  where
    by : (slots : List ℕ) → Kept d (returns_any t slots x.guest d)
    by [] = kept refl
    by (s ∷ slots) = returns_keep t (s ∷ slots) x.guest d

goes_keeps : (p : Program) (t : Tid) (to : ℕ) (x : Thread) (d : EventSoFar) → Kept d (goes p t to x d)
goes_keeps p t to x d = by (nat_lt t.home (nodes_of p))
  where
    by : (b : Bool) → Kept d (cond b (leaves t to x d) d)
    by true = leaves_keeps t to x d
    by false = kept refl

migrates_keeps : (p : Program) (me to : ℕ) (t : Tid) (d : EventSoFar) → Kept d (migrates p me to t d)
migrates_keeps p me to t d = by (eqb to me)
  where
    by : (b : Bool) → Kept d (cond b d (at_thread t (goes p t to) d))
    by true = kept refl
    by false = at_keeps t (goes p t to) d (λ x. goes_keeps p t to x d)

sends_keeps : (p : Program) (me : ℕ) (u : Tid) (to : ℕ) (t : Tid) (itself : Bool) (d : EventSoFar) → Kept d (sends p me u to t itself d)
sends_keeps p me u to t true d = then (answer_keeps t 0 d) (migrates_keeps p me to t _)
sends_keeps p me u to t false d = by (is_listed u d.node.forest)
  where
    by : (listed : Bool) → Kept d (sends_away p me u to t listed d)
    by true = then (migrates_keeps p me to u d) (answer_keeps t 0 _)
    by false = answer_keeps t (reply_code replies.NotHere) d

-- ## Semaphores

replies_keep : (me at : ℕ) (t : Tid) (reply : Reply) (d : EventSoFar) → Kept d (replies_to me at t reply d)
replies_keep me at t reply d = by (eqb me at)
  where
    by : (b : Bool) → Kept d (cond b (answer t (reply_code reply) d) (reply_by_link t at reply None d))
    by true = answer_keeps t (reply_code reply) d
    by false = reply_keeps t at reply None d

answers_p_keep : (me at : ℕ) (t : Tid) (got : Pgot) (d : EventSoFar) → Kept d (answers_p me at t got d)
answers_p_keep me at t lowering.Got d = replies_keep me at t (replies.Value 0) d
answers_p_keep me at t lowering.Later d = kept refl
answers_p_keep me at t lowering.NoSuch d = replies_keep me at t replies.NoSuch d

answers_v_keep : (me at : ℕ) (t : Tid) (got : Vgot) (d : EventSoFar) → Kept d (answers_v me at t got d)
answers_v_keep me at t (raising.Woke u there) d = then (replies_keep me there u (replies.Value 0) d) (replies_keep me at t (replies.Value 0) _)
answers_v_keep me at t raising.Stored d = replies_keep me at t (replies.Value 0) d
answers_v_keep me at t raising.AtLimit d = replies_keep me at t replies.BadArgument d
answers_v_keep me at t raising.NoSuch d = replies_keep me at t replies.NoSuch d

lowers_keeps : (me : ℕ) (t : Tid) (c : Call) (id : ℕ) (got : Pgot) (d : EventSoFar) → Kept d (lowers me t c id got d)
lowers_keeps me t c id lowering.Later d =
    let sems : List SemRow = lowered (number_in id) (t, me) d.node.sems in at_keeps t (asks_waiting t c sems) d (λ x. asks_waiting_keeps t c sems x d)
lowers_keeps me t c id lowering.Got d = then (asks_here_keeps t c _ d) (answers_p_keep me me t lowering.Got _)
lowers_keeps me t c id lowering.NoSuch d = then (asks_here_keeps t c _ d) (answers_p_keep me me t lowering.NoSuch _)

signals_keeps : (me : ℕ) (t : Tid) (c : Call) (id : ℕ) (up : Bool) (d : EventSoFar) → Kept d (signals me t c id up d)
signals_keeps me t c id true d = by (eqb (node_in id) me)
  where
    by : (b : Bool) → Kept d (cond b (raises me t c id (raised_answer (number_in id) d.node.sems) d) (at_thread t (asks_signal t c id true) d))
    by true = then (asks_here_keeps t c (raised (number_in id) d.node.sems) d) (answers_v_keep me me t (raised_answer (number_in id) d.node.sems) _)
    by false = at_keeps t (asks_signal t c id true) d (λ x. asks_signal_keeps t c id true x d)
signals_keeps me t c id false d = by (eqb (node_in id) me)
  where
    by : (b : Bool) → Kept d (cond b (lowers me t c id (lowered_answer (number_in id) d.node.sems) d) (at_thread t (asks_signal t c id false) d))
    by true = lowers_keeps me t c id (lowered_answer (number_in id) d.node.sems) d
    by false = at_keeps t (asks_signal t c id false) d (λ x. asks_signal_keeps t c id false x d)

hears_call_keeps : (me from : ℕ) (t : Tid) (id : ℕ) (up : Bool) (d : EventSoFar) → Kept d (hears_call me from t id up d)
hears_call_keeps me from t id true d =
    then (hears_signal_keeps t (raised (number_in id) d.node.sems) d) (answers_v_keep me from t (raised_answer (number_in id) d.node.sems) _)
hears_call_keeps me from t id false d =
    then (hears_signal_keeps t (lowered (number_in id) (t, from) d.node.sems) d) (answers_p_keep me from t (lowered_answer (number_in id) d.node.sems) _)

-- ## Run lists and bubbles

does_bubbles_keeps : (p : Program) (me : ℕ) (t : Tid) (c : Call) (d : EventSoFar) → Kept d (does_bubbles p me t c d)
does_bubbles_keeps p me t c d =
    let done : Outcome = bubble_outcome p me c d.node.forest in
    then (then (asks_bubbles_keeps t c done.after d) (gathers_keeps (gathering p me c d.node.forest) _)) (answer_keeps t done.code _)

creates_inside_keeps : (me : ℕ) (t : Tid) (c : Call) (o : Option Reply) (d : EventSoFar) → Kept d (creates_inside me t c o d)
creates_inside_keeps me t c (Some reply) d = then (asks_keeps t c d) (answer_keeps t (reply_code reply) _)
creates_inside_keeps me t c None d = then (at_keeps t (asks_slots t c) d (λ x. asks_slots_keeps t c x d)) (serves_keep me t _)

-- one case a call
does_keeps : (p : Program) (me : ℕ) (t : Tid) (c : Call) (bytes : List ℕ) (d : EventSoFar) → Kept d (does p me t c bytes d)
does_keeps p me t (Exit value) bytes d = then (asks_keeps t (Exit value) d) (at_keeps t (λ x. end_thread t x (end_of.Exit value)) _ (λ x. end_keeps t x (end_of.Exit value) _))
does_keeps p me t Name bytes d = then (asks_keeps t Name d) (answer_keeps t (tid_value t) _)
does_keeps p me t Node bytes d = then (asks_keeps t Node d) (answer_keeps t me _)
does_keeps p me t Nodes bytes d = then (asks_keeps t Nodes d) (answer_keeps t (nodes_of p) _)
does_keeps p me t Yield bytes d = then (asks_keeps t Yield d) (answer_keeps t 0 _)
does_keeps p me t (Create entry argument priority) bytes d =
    let c : Call = Create entry argument priority in then (at_keeps t (asks_slots t c) d (λ x. asks_slots_keeps t c x d)) (serves_keep me t _)
does_keeps p me t (Join name) bytes d = at_keeps t (asks_join t (Join name) (tid_of name)) d (λ x. asks_join_keeps t (Join name) (tid_of name) x d)
does_keeps p me t (Detach name) bytes d = at_keeps t (asks_detach t (Detach name) (tid_of name)) d (λ x. asks_detach_keeps t (Detach name) (tid_of name) x d)
does_keeps p me t (SemNew value) bytes d =
    then (asks_here_keeps t (SemNew value) (with_one_more value d.node.sems) d) (answer_keeps t (name_on me (length d.node.sems)) _)
does_keeps p me t (SemP id) bytes d = signals_keeps me t (SemP id) id false d
does_keeps p me t (SemV id) bytes d = signals_keeps me t (SemV id) id true d
does_keeps p me t (Isomalloc len) bytes d =
    at_keeps t (λ x. allocates_at me t len (place (heap_of x.guest.solo) (rounded len)) x) d
    (λ x. allocates_at_keeps me t len (place (heap_of x.guest.solo) (rounded len)) x d)
does_keeps p me t (Isofree address) bytes d = then (asks_keeps t (Isofree address) d) (at_keeps t (frees t address) _ (λ x. frees_keep t address x _))
does_keeps p me t (MigrateSelf to) bytes d = then (then (asks_keeps t (MigrateSelf to) d) (answer_keeps t 0 _)) (migrates_keeps p me to t _)
does_keeps p me t (Migrate name to) bytes d = then (asks_keeps t (Migrate name to) d) (sends_keeps p me (tid_of name) to t (eqb name (tid_value t)) _)
does_keeps p me t (Print address len) bytes d = at_keeps t (asks_show t (Print address len) bytes) d (λ x. asks_show_keeps t (Print address len) bytes x d)
does_keeps p me t (BubbleNew priority depth) bytes d = does_bubbles_keeps p me t (BubbleNew priority depth) d
does_keeps p me t (BubbleInsert bubble member) bytes d = does_bubbles_keeps p me t (BubbleInsert bubble member) d
does_keeps p me t (BubbleWake bubble) bytes d = does_bubbles_keeps p me t (BubbleWake bubble) d
does_keeps p me t (BubbleGather bubble) bytes d = does_bubbles_keeps p me t (BubbleGather bubble) d
does_keeps p me t (CreateIn bubble entry argument priority) bytes d =
    creates_inside_keeps me t (CreateIn bubble entry argument priority) (not_filling p me bubble d.node.forest) d
does_keeps p me t Halt bytes d = then (asks_keeps t Halt d) (at_keeps t (halts t) _ (λ x. halts_keeps t x _))
does_keeps p me t (Unknown number) bytes d = then (asks_keeps t (Unknown number) d) (answer_keeps t (reply_code replies.BadArgument) _)

calls_keeps : (p : Program) (me : ℕ) (t : Tid) (c : Call) (o : Option Reply) (bytes : List ℕ) (d : EventSoFar) → Kept d (calls p me t c o bytes d)
calls_keeps p me t c None bytes d = does_keeps p me t c bytes d
calls_keeps p me t c (Some reply) bytes d = then (asks_keeps t c d) (answer_keeps t (reply_code reply) _)

stops_keeps : (p : Program) (me : ℕ) (t : Tid) (stop : Stop) (x : Thread) (d : EventSoFar) → Kept d (stopped p me t stop x d)
stops_keeps p me t stops.Quantum x d = arrive_keeps t d
stops_keeps p me t stops.Call x d = calls_keeps p me t (call_of x.guest.solo.state) (refusal p t x.guest.solo (call_of x.guest.solo.state)) (bytes_of p x.guest.solo.state (call_of x.guest.solo.state)) d
stops_keeps p me t (stops.Fault kind) x d = end_keeps t x (end_of.Fault kind x.guest.solo.state.pc) d

run_keeps : (p : Program) (me vp quantum : ℕ) (t : Tid) (x : Thread) (d : EventSoFar) → Kept d (run_thread p me vp quantum t x d)
run_keeps p me vp quantum t x d =
    let r : Run = run_of (code_of p) quantum x.guest.solo.state in
    then (ran_keeps t vp r x d) (at_keeps t (stopped p me t r.stop) _ (λ y. stops_keeps p me t r.stop y _))

-- ## Events

-- the event leaves a node that has begun
abbrev pub StaysBooted : Bool → Option EventSoFar → Type 0
StaysBooted b None = ⊤
StaysBooted b (Some d) = d.node.booted ≡ b

found_keeps : (p : Program) (me vp quantum : ℕ) (t : Tid) (o : Option Thread) (d : EventSoFar) → StaysBooted d.node.booted (run_found p me vp quantum t o d)
found_keeps p me vp quantum t None d = tt
found_keeps p me vp quantum t (Some x) d = (run_keeps p me vp quantum t x d).is

chooses_keeps : (p : Program) (me vp quantum k : ℕ) (d : EventSoFar) → StaysBooted d.node.booted (chooses p me vp quantum k d)
chooses_keeps p me vp quantum zero d = tt
chooses_keeps p me vp quantum (suc k) d = by (λ shift. chooses_keeps p me vp quantum k (shifted vp shift d)) (step vp d.node.forest).what
  where
    by : ((shift : Shift) → StaysBooted (shifted vp shift d).node.booted (chooses p me vp quantum k (shifted vp shift d))) → (what : Step)
        → StaysBooted d.node.booted (chosen_by p me vp quantum (chooses p me vp quantum k) what d)
    by again Empty = tt
    by again (Takes t) = found_keeps p me vp quantum t (thread_at t d) d
    by again (Shifts shift) = subst (λ b. StaysBooted b (chooses p me vp quantum k (shifted vp shift d))) (shifted_keeps vp shift d).is (again shift)

accepts_keeps : (p : Program) (me from : ℕ) (body : Body) (s : Local) → Kept (nothing s) (accepts me from body s)
accepts_keeps p me from (Mover x) s = comes_keeps x (nothing s)
accepts_keeps p me from (Show t bytes) s = shows_keeps t from bytes (nothing s)
accepts_keeps p me from (ShowDone t) s = tell_keeps t 0 None (nothing s)
accepts_keeps p me from (JoinAsk by seq) s = then (hears_keeps by seq from (nothing s)) (judges (verdict (slice_get s.births seq)) _)
  where
    judges : (v : Verdict) (d : EventSoFar) → Kept d (judges_join by from v d)
    judges (Now end) d = reply_keeps by from _ _ d
    judges Later d = kept refl
    judges NoSuch d = reply_keeps by from replies.NoSuch None d
    judges Taken d = reply_keeps by from replies.Taken None d
accepts_keeps p me from (DetachAsk by seq) s =
    then (hears_detach_keeps by seq (nothing s)) (reply_keeps by from (detached_reply (detach_verdict (slice_get s.births seq))) None _)
accepts_keeps p me from (SemAsk by id up) s = hears_call_keeps me from by id up (nothing s)
accepts_keeps p me from (Answer t reply second) s = tell_keeps t (reply_code reply) second (nothing s)
accepts_keeps p me from (EndNote seq end) s = then (knows_keeps me seq end (nothing s)) (tells (joiner (slice_get s.births seq)) _)
  where
    tells : (o : Option (Tid × ℕ)) (d : EventSoFar) → Kept d (tells_joiner end o d)
    tells None d = kept refl
    tells (Some by) d = reply_keeps by.0 by.1 _ _ d
accepts_keeps p me from Want s = speaks_keeps (listing_sends from s.talk.wanting) (listing from s.talk) (nothing s)
accepts_keeps p me from Turn s = grants_keep me s.talk.claims (nothing s)
accepts_keeps p me from Over s = speaks_keeps (turn_to (without_first s.talk.wanting)) (next_turn s.talk) (nothing s)

takes_keeps : (p : Program) (me from : ℕ) (body : Body) (s : Local) → Kept (nothing s) (takes p me from body s)
takes_keeps p me from body s = by (is_stray p me from s body)
  where
    by : (b : Bool) → Kept (nothing s) (cond b (nothing s) (accepts me from body s))
    by true = kept refl
    by false = accepts_keeps p me from body s

boots_true : (p : Program) (me : ℕ) (s : Local) → (boots p me (nothing s)).node.booted ≡ true
boots_true p me s = by (eqb me 0)
  where
    born : (o : Option ℕ) → (boots_in p me o (with_booted (nothing s))).node.booted ≡ true
    born None = refl
    born (Some slot) = (birth_keeps me why.Main p.image.main 0 main_priority slot (with_booted (nothing s))).is

    by : (b : Bool) → (cond b (boots_in p me (free_slot s.slots.free) (with_booted (nothing s))) (with_booted (nothing s))).node.booted ≡ true
    by true = born (free_slot s.slots.free)
    by false = refl

abbrev pub IsBootedAfter : Option EventSoFar → Type 0
IsBootedAfter o = StaysBooted true o

acts_booted : (p : Program) (me : ℕ) (s : Local) (act : Act) (took : Option Packet) → s.booted ≡ true → IsBootedAfter (acts p me s act took)
acts_booted p me s Boot None b = boots_true p me s
acts_booted p me s (RunThread vp quantum) None b =
    subst (λ z. StaysBooted z (chooses p me vp quantum (choice_limit s.forest) (nothing s))) b (chooses_keeps p me vp quantum (choice_limit s.forest) (nothing s))
acts_booted p me s (Take from) (Some packet) b = (takes_keeps p me from packet.body s).is ∙ b
acts_booted p me s (Move t to) None b = listed (is_listed t s.forest)
  where
    found : (o : Option Thread) → IsBootedAfter (moves_found p t to o s)
    found None = tt
    found (Some x) = (goes_keeps p t to x (nothing s)).is ∙ b

    listed : (c : Bool) → IsBootedAfter (cond c (moves_found p t to (lookup (is_tid t) s.threads) s) None)
    listed true = found (lookup (is_tid t) s.threads)
    listed false = tt
acts_booted p me s Boot (Some packet) b = tt
acts_booted p me s (RunThread vp quantum) (Some packet) b = tt
acts_booted p me s (Take from) None b = tt
acts_booted p me s (Move t to) (Some packet) b = tt

-- a turn of a node that has begun leaves one that has
pub turn_booted : (p : Program) (me : ℕ) (s : Local) (act : Act) (took : Option Packet) → s.booted ≡ true → IsBootedAfter (turn_event p me s act took)
unfolding local_event
turn_booted p me s act took b = by (is_beyond took) (is_range p me s act)
  where
    by : (beyond inside : Bool) → IsBootedAfter (cond beyond (Some (nothing s)) (cond inside (acts p me s act took) None))
    by true inside = b
    by false true = acts_booted p me s act took b
    by false false = tt

-- a node that begins has begun
pub boot_booted : (p : Program) (me : ℕ) (s : Local) → IsBootedAfter (turn_event p me s Boot None)
unfolding local_event
boot_booted p me s = by (is_range p me s Boot)
  where
    by : (inside : Bool) → IsBootedAfter (cond inside (acts p me s Boot None) None)
    by true = boots_true p me s
    by false = tt
