-- What a thread says next that an entry is busy with, or that it serves: by the rules alone it is one label.
use Rattle.std.proofs.Common.{◌≡◌, ℕ, List, [], ◌∷◌, length, Option, Some, None, Bool, true, false, ◌||◌, refl, sym, ap, ◌∙◌, subst, arith}
use Rattle.slot_space.specs.Replies.{reply_code}
use Rattle.slot_space.specs.declared.names.Tid.{Tid}
use Rattle.iso_blocks.specs.Heap.{rounded, place, emptied}
use Rattle.marcel_sync.specs.Semaphores.{number_in}
use Rattle.run_trace.specs.declared.label.Label.{Label}
use Rattle.run_trace.specs.declared.label.Label.TheVariants.{Born, Ran, Asked, Heard, Judged, Told, Took, Gave, Ended, Known, Left, Came, Down, Burst, Gathered, Shown, Halted}
use Rattle.run_trace.specs.declared.label.Why.{Why}
use Rattle.run_trace.specs.declared.label.Why.TheVariants as why
use Rattle.run_trace.specs.declared.label.Extra.{Extra}
use Rattle.run_trace.specs.declared.label.Extra.TheVariants.{Nothing}
use Rattle.run_trace.specs.Names.{tid}
use Rattle.run_trace.specs.Program.{Program}
use Rattle.run_trace.specs.Guests.{Guest, stack_end, guest_slots, heap_of}
use Rattle.run_trace.specs.declared.call.Call.{Call}
use Rattle.run_trace.specs.declared.call.Call.TheVariants.{Create, CreateIn, Isomalloc, Isofree, MigrateSelf}
use Rattle.run_trace.specs.Calls.{extra_of, place_code, slots_wanted, call_of, number_of, args_of, refusal, said_bytes}
use Rattle.run_trace.specs.Spots.{Ready, Running, Due, Served, Seeks, Departs, Ends, Leaves, Halts, Showing, Answers, Life, On, Spots, lowest_free}
use Rattle.run_trace.specs.Rules.{Occasion, MayJudge, MayTell, MayHear, MayTake, MayGive, MayLeave, MayCome, MayShow, MayKnow, IsReply, IsForBlock}
use Rattle.run_trace.specs.World.{World}
use Rattle.run_trace.specs.Items.{Thread, is_busy, is_seeking, doer}
use Rattle.run_trace.specs.Obeying.{Allows}
use Rattle.trace_laws.proofs.Lists.Births.{plain_start}

-- ## The label

abbrev creates_next : ℕ → Tid → Why → (entry argument : ℕ) → Option ℕ → Spots → Label
creates_next n t reason entry argument None w = Told t
creates_next n t reason entry argument (Some slot) w = Born (tid n (length (w.births n))) reason entry argument 0 (stack_end slot) slot

abbrev takes_next : Tid → ℕ → Option ℕ → Label
takes_next t count None = Told t
takes_next t count (Some first) = Took t first count

-- of a thread that is served with slots
abbrev seeks_next : ℕ → Tid → Call → Spots → Label
seeks_next n t (Create entry argument priority) w = creates_next n t (why.Create t) entry argument (lowest_free n 1 w) w
seeks_next n t (CreateIn name entry argument priority) w = creates_next n t (why.Inside t (number_in name)) entry argument (lowest_free n 1 w) w
seeks_next n t (Isomalloc len) w = takes_next t (slots_wanted (Isomalloc len)) (lowest_free n (slots_wanted (Isomalloc len)) w)
seeks_next n t c w = Told t

abbrev frees_next : Tid → List ℕ → Label
frees_next t [] = Judged t 0 Nothing
frees_next t (s ∷ slots) = Gave t (s ∷ slots)

abbrev served_next : Tid → Call → Guest → Label
served_next t (Isomalloc len) g = Judged t (place_code (place (heap_of g.solo) (rounded len))) Nothing
served_next t (Isofree address) g = frees_next t (emptied (heap_of g.solo) address)
served_next t _ g = Judged t 0 Nothing

abbrev asked_next : Program → Tid → Guest → Label
asked_next p t g = Asked t (number_of (call_of g.solo.state)) (args_of (call_of g.solo.state)) (said_bytes p g.solo.state (call_of g.solo.state) (refusal p t g.solo (call_of g.solo.state)))

abbrev next_in : Program → ℕ → Tid → Life → Guest → Spots → Label
next_in p n t (On m Running) g w = asked_next p t g
next_in p n t (On m (Due code)) g w = Judged t code Nothing
next_in p n t (On m (Served c)) g w = served_next t c g
next_in p n t (On m Seeks) g w = seeks_next n t (call_of g.solo.state) w
next_in p n t (On m (Departs to)) g w = Left t to
next_in p n t (On m (Ends end)) g w = Gave t (guest_slots g)
next_in p n t (On m (Leaves end)) g w = Ended t end
next_in p n t (On m Halts) g w = Halted t
next_in p n t (On m Showing) g w = Judged t 0 Nothing
next_in p n t (On m (Answers h reply second)) g w = Judged t (reply_code reply) (extra_of second)
next_in p n t _ g w = Told t

abbrev pub next : Program → ℕ → Tid → Spots → Label
next p n t w = next_in p n t (w.threads t).life (w.threads t).guest w

-- ## Judged

judged_call : (t : Tid) (reply : ℕ) (extra : Extra) (m : ℕ) (c : Call) (g : Guest) → IsReply (On m (Served c)) g reply extra → Judged t reply extra ≡ served_next t c g
judged_call t reply extra m (Isomalloc len) g r = let there : reply ≡ place_code (place (heap_of g.solo) (rounded len)) = sym (ap place_code r.0) in cc (there, r.1)
judged_call t reply extra m (Isofree address) g r = rw r.0.1 (cc (r.0.0, r.1))
judged_call t reply extra m (MigrateSelf to) g r = cc (r.0, r.1)
judged_call t reply extra m c g r = grind (arith, r)

judged_in : (p : Program) (n : ℕ) (t : Tid) (reply : ℕ) (extra : Extra) (life : Life) (g : Guest) (w : Spots) → MayJudge n life → IsReply life g reply extra → Judged t reply extra ≡ next_in p n t life g w
judged_in p n t reply extra (On m (Due code)) g w may r = cc (r.0, r.1)
judged_in p n t reply extra (On m (Served c)) g w may r = judged_call t reply extra m c g r
judged_in p n t reply extra (On m Showing) g w may r = cc (r.0, r.1)
judged_in p n t reply extra (On m (Answers h answer second)) g w may r = cc (r.0, r.1)
judged_in p n t reply extra life g w may r = grind (arith, may)

-- ## Whose turn it is to speak

-- the entry is busy with a thread in this life, or the thread may be served
abbrev pub may_speak : ℕ → Life → Bool
may_speak n life = is_busy n life || is_seeking n life

pub busy_speaks : (n : ℕ) (life : Life) → is_busy n life ≡ true → may_speak n life ≡ true
busy_speaks n life e = rw e refl

pub seeker_speaks : (n : ℕ) (life : Life) → is_seeking n life ≡ true → may_speak n life ≡ true
seeker_speaks n (On m Seeks) e = e
seeker_speaks n life e = grind (arith, e)

-- ## Told, took, gave, left

told_in : (p : Program) (n : ℕ) (t : Tid) (life : Life) (g : Guest) (w : Spots) → MayTell n life → may_speak n life ≡ true → Told t ≡ next_in p n t life g w
told_in p n t life g w may speaks = grind (arith, may, speaks)

took_call : (n : ℕ) (t : Tid) (first count : ℕ) (c : Call) (w : Spots) → IsForBlock c count → lowest_free n count w ≡ Some first → Took t first count ≡ seeks_next n t c w
took_call n t first count (Isomalloc len) w k f = rw k (let free : lowest_free n (slots_wanted (Isomalloc len)) w ≡ Some first = subst (λ z. lowest_free n z w ≡ Some first) k f in rw free refl)
took_call n t first count c w k f = grind (arith, k)

took_in : (p : Program) (n : ℕ) (t : Tid) (first count : ℕ) (life : Life) (g : Guest) (w : Spots) → MayTake n life → IsForBlock (call_of g.solo.state) count → lowest_free n count w ≡ Some first → Took t first count ≡ next_in p n t life g w
took_in p n t first count (On m Seeks) g w may k f = took_call n t first count (call_of g.solo.state) w k f
took_in p n t first count life g w may k f = grind (arith, may)

gave_call : (n : ℕ) (t : Tid) (slots : List ℕ) (m : ℕ) (c : Call) (g : Guest) → MayGive n (On m (Served c)) g slots → Gave t slots ≡ served_next t c g
gave_call n t slots m (Isofree address) g k = by (emptied (heap_of g.solo) address) refl
  where
    by : (o : List ℕ) → emptied (heap_of g.solo) address ≡ o → Gave t slots ≡ frees_next t o
    by [] e = absurd (k.2 (k.1 ∙ e))
    by (s ∷ ss) e = ap (λ z. Gave t z) (k.1 ∙ e)
gave_call n t slots m c g k = grind (arith, k)

gave_in : (p : Program) (n : ℕ) (t : Tid) (slots : List ℕ) (life : Life) (g : Guest) (w : Spots) → MayGive n life g slots → Gave t slots ≡ next_in p n t life g w
gave_in p n t slots (On m (Ends end)) g w k = ap (λ z. Gave t z) k.1
gave_in p n t slots (On m (Served c)) g w k = gave_call n t slots m c g k
gave_in p n t slots life g w k = grind (arith, k)

left_in : (p : Program) (n : ℕ) (t : Tid) (to : ℕ) (life : Life) (g : Guest) (w : Spots) → MayLeave n to life → may_speak n life ≡ true → Left t to ≡ next_in p n t life g w
left_in p n t to life g w k speaks = grind (arith, k, speaks)

not_heard : (n : ℕ) (life : Life) → MayHear n life → may_speak n life ≡ true → ⊥
not_heard n life k speaks = grind (arith, k, speaks)

not_came : (n : ℕ) (life : Life) → MayCome n life → may_speak n life ≡ true → ⊥
not_came n life k speaks = grind (arith, k, speaks)

not_shown : (n : ℕ) (life : Life) → MayShow n life → may_speak n life ≡ true → ⊥
not_shown n life k speaks = grind (arith, k, speaks)

not_known : (n : ℕ) (life : Life) → MayKnow life → may_speak n life ≡ true → ⊥
not_known n life k speaks = grind (arith, k, speaks)

-- ## Any label

not_ready : (n : ℕ) (life : Life) → life ≡ On n Ready → may_speak n life ≡ true → ⊥
not_ready n life e speaks = let idle : may_speak n life ≡ false = ap (may_speak n) e in cc (idle, speaks)

module _ (p : Program) (q : Occasion) (n : ℕ) (world : World) where
  abbrev w : Spots
  w = world.spots

  -- by a thread whose turn it is
  own_next : (l : Label) (t : Tid) → doer l ≡ Some (Thread t) → Allows p q n l world → may_speak n (w.threads t).life ≡ true → l ≡ next p n t w
  own_next (Born u why.Main entry a0 a1 sp slot) t e a b = absurd (cc e)
  own_next (Born u (why.Create by) entry a0 a1 sp slot) t e a b =
      let same : by ≡ t = cc e in
      let life : (w.threads t).life ≡ On n Seeks = ap (λ z. (w.threads z).life) (sym same) ∙ a.solo.0.0 in
      let call : call_of (w.threads t).guest.solo.state ≡ Create entry a0 a.solo.0.1 = ap (λ z. call_of (w.threads z).guest.solo.state) (sym same) ∙ a.solo.0.2 in
      rw life (rw call (rw a.grants (cc (a.life.1, same, a.solo.1, a.solo.2 ∙ sym (plain_start slot)))))
  own_next (Born u (why.Inside by number) entry a0 a1 sp slot) t e a b =
      let same : by ≡ t = cc e in
      let life : (w.threads t).life ≡ On n Seeks = ap (λ z. (w.threads z).life) (sym same) ∙ a.solo.0.0 in
      let call : call_of (w.threads t).guest.solo.state ≡ CreateIn a.solo.0.1 entry a0 a.solo.0.2 = ap (λ z. call_of (w.threads z).guest.solo.state) (sym same) ∙ a.solo.0.3 in
      rw life (rw call (rw a.grants (cc (a.life.1, same, a.solo.0.4, a.solo.1, a.solo.2 ∙ sym (plain_start slot)))))
  own_next (Born u (why.Service by number) entry a0 a1 sp slot) t e a b = absurd a.solo.0
  own_next (Ran u vp count stop) t e a b = let same : u ≡ t = cc e in absurd (not_ready n (w.threads t).life (ap (λ z. (w.threads z).life) (sym same) ∙ a.life.0) b)
  own_next (Asked u call args bytes) t e a b =
      let same : u ≡ t = cc e in
      let one : Asked u call args bytes ≡ asked_next p u (w.threads u).guest = cc (a.solo.0, a.solo.1, a.solo.2) in
      one ∙ ap (λ z. next_in p n u z (w.threads u).guest w) (sym a.life) ∙ ap (λ z. next p n z w) same
  own_next (Heard u) t e a b = let same : u ≡ t = cc e in absurd (not_heard n (w.threads t).life (subst (λ z. MayHear n (w.threads z).life) same a.life) b)
  own_next (Judged u reply extra) t e a b =
      let same : u ≡ t = cc e in judged_in p n u reply extra (w.threads u).life (w.threads u).guest w a.life a.replies ∙ ap (λ z. next p n z w) same
  own_next (Told u) t e a b = let same : u ≡ t = cc e in told_in p n u (w.threads u).life (w.threads u).guest w a.life (subst (λ z. may_speak n (w.threads z).life ≡ true) (sym same) b) ∙ ap (λ z. next p n z w) same
  own_next (Took u first count) t e a b = let same : u ≡ t = cc e in took_in p n u first count (w.threads u).life (w.threads u).guest w a.life a.grants.0 a.grants.1 ∙ ap (λ z. next p n z w) same
  own_next (Gave u slots) t e a b = let same : u ≡ t = cc e in gave_in p n u slots (w.threads u).life (w.threads u).guest w a.life ∙ ap (λ z. next p n z w) same
  own_next (Ended u end) t e a b = let same : u ≡ t = cc e in ap (λ z. next_in p n u z (w.threads u).guest w) (sym a.life) ∙ ap (λ z. next p n z w) same
  own_next (Known u) t e a b = let same : u ≡ t = cc e in absurd (not_known n (w.threads t).life (subst (λ z. MayKnow (w.threads z).life) same a.life.0) b)
  own_next (Left u to) t e a b = let same : u ≡ t = cc e in left_in p n u to (w.threads u).life (w.threads u).guest w a.life.0 (subst (λ z. may_speak n (w.threads z).life ≡ true) (sym same) b) ∙ ap (λ z. next p n z w) same
  own_next (Came u) t e a b = let same : u ≡ t = cc e in absurd (not_came n (w.threads t).life (subst (λ z. MayCome n (w.threads z).life) same a.life) b)
  own_next (Shown u) t e a b = let same : u ≡ t = cc e in absurd (not_shown n (w.threads t).life (subst (λ z. MayShow n (w.threads z).life) same a.life) b)
  own_next (Halted u) t e a b = let same : u ≡ t = cc e in ap (λ z. next_in p n u z (w.threads u).guest w) (sym a.life) ∙ ap (λ z. next p n z w) same
  own_next (Down bubble list) t e a b = absurd (cc e)
  own_next (Burst bubble list) t e a b = absurd (cc e)
  own_next (Gathered bubble count) t e a b = absurd (cc e)
  own_next l t e a b = grind (arith, a.life)

  -- two labels by one such thread are one
  pub one_next : (l m : Label) (t : Tid) → doer l ≡ Some (Thread t) → doer m ≡ Some (Thread t) → may_speak n (w.threads t).life ≡ true → Allows p q n l world → Allows p q n m world → l ≡ m
  one_next l m t d e b x y = own_next l t d x b ∙ sym (own_next m t e y b)
