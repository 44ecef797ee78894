-- What is judged and what is told keep what a thread has come to.
use Rattle.std.proofs.Common.{◌≡◌, ℕ, ◌*◌, ◌/◌, ◌<◌, ◌⊎◌, List, [], ◌∷◌, ◌++◌, Option, Some, None, Bool, true, false, eqb, cond, refl, sym, ap, ◌∙◌, subst, arith, inl, inr}
use Rattle.std.specs.Prelude.{unwrap_or}
use Rattle.std.specs.Option.{option_map}
use Rattle.std.proofs.lemmas.List.{append-nil}
use Rattle.std.proofs.lemmas.Bool.Decides.{nat_tests}
use Rattle.rv_step.specs.Access.{bytes_from}
use Rattle.rv_step.specs.Memory.{Memory}
use Rattle.rv_step.specs.Step.{HartState}
use Rattle.slot_space.specs.Sets.{lowest_run}
use Rattle.slot_space.specs.Addresses.{slot_base}
use Rattle.slot_space.proofs.Lemmas.{lowest_run-found}
use Rattle.iso_blocks.specs.Heap.{Heap, rounded, place, placed, has_room, with_block, without, emptied}
use Rattle.run_trace.specs.declared.call.Call.{Call}
use Rattle.run_trace.specs.declared.call.Call.TheVariants.{Isomalloc, Isofree, MigrateSelf, Print}
use Rattle.run_trace.specs.declared.label.Extra.{Extra}
use Rattle.run_trace.specs.Guests.{Solo, Guest, without_slots, heap_of}
use Rattle.run_trace.specs.Calls.{call_of}
use Rattle.run_trace.specs.Same.{Lived}
use Rattle.run_trace.specs.Rules.{MayJudge, MayTell, IsReply}
use Rattle.run_trace.specs.Spots.{Due, Served, Told_next, Told_then, Showing, Shown_there, Answers, Answered, Life, On, Response, Spot, judged_life, judged_guest, told_stage, told_guest}
use Rattle.trace_laws.proofs.Lives.OwnLives.{with_slots, free_of, is_address, allotted, given_to, goes_on, ran_on, answered_with, solo_after, printed_by, printed_at, named_line, EachCalls}
use Rattle.trace_laws.proofs.Lives.Tales.{after_nothing, Comes, Calling, lines_before, IsReady, IsWaiting, IsPrinting, IsJudged, ServesAs, StageTale, LifeTale, Tale}

-- ## Memory and places

no_slots : (m : Memory) → without_slots [] m ≡ m
no_slots [] = refl
no_slots (h ∷ m) = ap (λ (z : Memory). h ∷ z) (no_slots m)

place_low : (h : Heap) (size address : ℕ) → place h size ≡ Some address → is_address address ≡ true
unfolding place
place_low h size address e = by (lowest_run fits 1 limit_is) refl e
  where
    fits : ℕ → Bool
    fits k = has_room h size (16 * k)

    limit_is : ℕ
    limit_is = slot_base 4096 / 16

    by : (o : Option ℕ) → lowest_run fits 1 limit_is ≡ o → (let f : ℕ → ℕ = λ k. 16 * k in option_map f o ≡ Some address) → is_address address ≡ true
    by None f g = absurd (cc g)
    by (Some k) f g =
        let low : k < limit_is = (lowest_run-found fits 1 limit_is k f).below in
        let same : 16 * k ≡ address = cc g in
        grind (arith, nat_tests, low, same)

-- ## Replies

-- what is judged, beside what it has got
abbrev pub with_reply : ℕ → Extra → Lived → Lived
with_reply reply extra a = record a { coming = record a.coming { code = reply; extra = extra } }

-- a reply that gives nothing and writes nothing
judged_plainly : (image : List ℕ) (a : Lived) (x : Solo) (lines : List (List ℕ)) (reply : ℕ) (extra : Extra)
    → IsWaiting image a x lines → given_to (call_of x.state) [] reply x ≡ x → printed_at image reply x ≡ []
    → IsJudged image (record { code = reply; extra = extra }) (with_reply reply extra a) x lines
judged_plainly image a x lines reply extra k same silent = record {
  was = x;
  at = k.at;
  same = sym (ap (λ z. given_to (call_of x.state) z reply x) k.empty ∙ same);
  verdict = refl;
  lines_are = k.lines_are ∙ sym (append-nil (lines_before image a)) ∙ ap (λ z. lines_before image a ++ z) (sym silent);
}

-- the reply of a call that its node serves
judged_served : (image : List ℕ) (a : Lived) (x y : Solo) (lines : List (List ℕ)) (reply : ℕ) (extra : Extra) (c : Call)
    → Calling image a y → ServesAs image c y → lines ≡ lines_before image a → x ≡ given_to c a.coming.slots reply y → printed_by image c reply y.state ≡ []
    → IsJudged image (record { code = reply; extra = extra }) (with_reply reply extra a) x lines
judged_served image a x y lines reply extra c at serves lines_are same silent = record {
  was = y;
  at = at;
  same = same ∙ sym (serves.gives a.coming.slots reply);
  verdict = refl;
  lines_are = lines_are ∙ sym (append-nil (lines_before image a)) ∙ ap (λ z. lines_before image a ++ z) (sym (serves.prints reply ∙ silent));
}

-- a block is placed, and the reply is its address
placed_so : (x y : Solo) (slots : List ℕ) (len reply : ℕ) → place (heap_of x) (rounded len) ≡ Some reply → x ≡ with_slots slots y
    → record x { live = (placed (heap_of x) (rounded len) (place (heap_of x) (rounded len))).live } ≡ allotted (rounded len) reply (is_address reply) (with_slots slots y)
placed_so x y slots len reply e same =
    ap (λ o. record x { live = (placed (heap_of x) (rounded len) o).live }) e
    ∙ ap (λ (z : Solo). record z { live = with_block (reply, rounded len) z.live }) same
    ∙ sym (ap (λ b. allotted (rounded len) reply b (with_slots slots y)) (place_low (heap_of x) (rounded len) reply e))

-- a block is freed, and the slots that it alone met are gone
freed_so : (x y : Solo) (address : ℕ) → ((x ≡ y) ⊎ (x ≡ free_of (emptied (heap_of y) address) y)) → emptied (heap_of x) address ≡ []
    → record x { live = without x.live address } ≡ record (free_of (emptied (heap_of y) address) y) { live = without y.live address }
freed_so x y address (inr same) none = ap (λ (z : Solo). record z { live = without z.live address }) same
freed_so x y address (inl same) none =
    let nothing : emptied (heap_of y) address ≡ [] = subst (λ (z : Solo). emptied (heap_of z) address ≡ []) same none in
    ap (λ (z : Solo). record z { live = without z.live address }) same
    ∙ sym (ap (λ (z : List ℕ). record (free_of z y) { live = without y.live address }) nothing ∙ ap (λ (m : Memory). record y { state = record y.state { memory = m }; live = without y.live address }) (no_slots y.state.memory))

pub own_judged : (image : List ℕ) (n : ℕ) (life : Life) (g : Guest) (v : Response) (lines : List (List ℕ)) (a : Lived) (reply : ℕ) (extra : Extra)
    → MayJudge n life → IsReply life g reply extra → LifeTale image life g.solo v lines a
    → LifeTale image (judged_life life) (judged_guest life g).solo (record { code = reply; extra = extra }) lines (with_reply reply extra a)
own_judged image n (On m (Due code)) g v lines a reply extra may is k =
    judged_plainly image a g.solo lines reply extra k.waits (ap (λ z. given_to (call_of g.solo.state) [] z g.solo) is.0 ∙ k.same) (ap (λ z. printed_at image z g.solo) is.0 ∙ k.silent)
own_judged image n (On m Showing) g v lines a reply extra may is k =
    let k1 : IsPrinting image k.0 a g.solo = k.1 in
    let line : List ℕ = bytes_from image g.solo.state.memory k1.address k1.len in
    let now : lines ≡ lines_before image a ++ line ∷ [] = k.2 ∙ ap (λ z. lines_before image a ++ z ∷ []) k1.bytes_are in
    record {
      judged = record {
        was = g.solo;
        at = k1.at;
        same = sym (ap (λ z. given_to z a.coming.slots reply g.solo) k1.is);
        verdict = refl;
        lines_are = now ∙ ap (λ z. lines_before image a ++ z) (sym (ap (λ z. printed_by image z reply g.solo.state) k1.is ∙ ap (λ z. printed_by image (Print k1.address k1.len) z g.solo.state) is.0));
      };
      at = k1.at;
      lines_are = now ∙ ap (λ z. lines_before image a ++ z ∷ []) (sym (ap (λ z. named_line image z g.solo.state) k1.is));
    }
own_judged image n (On m (Answers h answer second)) g v lines a reply extra may is k = record {
  judged = judged_plainly image a g.solo lines reply extra k.waits (k.same reply) (k.silent reply);
  at = k.waits.at;
  lines_are = k.waits.lines_are;
}
own_judged image n (On m (Served (Isomalloc len))) g v lines a reply extra may is k =
    judged_served image a _ k.was lines reply extra (Isomalloc len) k.at k.serves k.lines_are
    (placed_so g.solo k.was a.coming.slots len reply is.0 k.midst) refl
own_judged image n (On m (Served (Isofree address))) g v lines a reply extra may is k =
    judged_served image a _ k.was lines reply extra (Isofree address) k.at k.serves k.lines_are
    (freed_so g.solo k.was address k.midst.1 is.0.1
    ∙ sym (ap (λ z. given_to (Isofree address) a.coming.slots z k.was) is.0.0)) refl
own_judged image n (On m (Served (MigrateSelf to))) g v lines a reply extra may is k = by (eqb to m)
  where
    judged : IsJudged image (record { code = reply; extra = extra }) (with_reply reply extra a) g.solo lines
    judged = judged_served image a g.solo k.was lines reply extra (MigrateSelf to) k.at k.serves k.lines_are k.midst.1 refl

    by : (b : Bool) → StageTale image (cond b Told_next (Told_then to)) g.solo (record { code = reply; extra = extra }) lines (with_reply reply extra a)
    by true = judged
    by false = judged
own_judged image n life g v lines a reply extra may is k = grind (arith, may, is)

-- what it has lived through once it is told
abbrev pub told_then : Lived → Lived
told_then a = record a { stretches = (record { instructions = a.since; gift = a.coming }) ∷ a.stretches; since = 0; coming = record a.coming { slots = [] } }

-- where it came to its call is what its stretch comes to
pub came_so : (image : List ℕ) (a : Lived) (y : Solo) → Comes image a y → ran_on image a.since (solo_after image a.start a.stretches) ≡ y
came_so image a y r =
    let base : Solo = solo_after image a.start a.stretches in
    ap (λ (o : Option HartState). record base { state = unwrap_or o base.state }) r.steps ∙ sym r.rest

told_calls : (image : List ℕ) (v : Response) (a : Lived) (x : Solo) (lines : List (List ℕ)) → EachCalls image a.start a.stretches → IsJudged image v a x lines
    → EachCalls image a.start (told_then a).stretches
told_calls image v a x lines calls k = (calls, (k.was.state, k.at.reached.steps, k.at.call))

told_ready : (image : List ℕ) (v : Response) (a : Lived) (g : Guest) (lines : List (List ℕ)) → IsJudged image v a g.solo lines
    → IsReady image (told_then a) (told_guest v g).solo lines
told_ready image v a g lines k =
    let came : ran_on image a.since (solo_after image a.start a.stretches) ≡ k.was = came_so image a k.was k.at.reached in
    let same : (told_guest v g).solo ≡ solo_after image a.start (told_then a).stretches =
    ap (λ (z : Response). (told_guest z g).solo) k.verdict
    ∙ ap (λ (z : Solo). goes_on a.coming.code a.coming.extra z) k.same
    ∙ ap (λ (z : Solo). answered_with a.coming z) (sym came) in
    record {
      reached = record {
        steps = after_nothing image (solo_after image a.start (told_then a).stretches).state ∙ ap (λ (z : Solo). Some z.state) (sym same);
        rest = same ∙ ap (λ (z : Solo). record (solo_after image a.start (told_then a).stretches) { state = z.state }) (sym same);
      };
      empty = refl;
      lines_are = k.lines_are ∙ ap (λ z. lines_before image a ++ printed_at image a.coming.code z) (sym came);
    }

-- one that is told was judged
tells_judged : (image : List ℕ) (n : ℕ) (life : Life) (x : Solo) (v : Response) (lines : List (List ℕ)) (a : Lived) → MayTell n life → LifeTale image life x v lines a → IsJudged image v a x lines
tells_judged image n (On m Told_next) x v lines a may k = k
tells_judged image n (On m (Told_then to)) x v lines a may k = k
tells_judged image n (On m Shown_there) x v lines a may k = k.judged
tells_judged image n (On m (Answered h)) x v lines a may k = k.judged
tells_judged image n life x v lines a may k = grind (arith, may)

goes_ready : (image : List ℕ) (n : ℕ) (life : Life) (x : Solo) (v : Response) (lines : List (List ℕ)) (a : Lived) → IsReady image a x lines → StageTale image (told_stage life) x v lines a
goes_ready image n (On m (Told_then to)) x v lines a k = k
goes_ready image n life x v lines a k = grind (arith, k)

pub own_told : (image : List ℕ) (n : ℕ) (s : Spot) (lines : List (List ℕ)) (a : Lived) → MayTell n s.life → Tale image s lines a
    → Tale image (record s { life = On n (told_stage s.life); guest = told_guest s.verdict s.guest }) lines (told_then a)
own_told image n s lines a may k =
    let judged : IsJudged image s.verdict a s.guest.solo lines = tells_judged image n s.life s.guest.solo s.verdict lines a may k.life in
    record {
      calls = told_calls image s.verdict a s.guest.solo lines k.calls judged;
      life = goes_ready image n s.life (told_guest s.verdict s.guest).solo s.verdict lines (told_then a) (told_ready image s.verdict a s.guest lines judged);
    }
