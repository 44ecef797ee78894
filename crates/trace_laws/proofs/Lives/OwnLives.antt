-- A thread's life by what it was given alone: what it comes to with these slots and replies, and what it writes. Two lives
-- with the same gifts and as many instructions are one.
use Rattle.std.proofs.Common.{◌≡◌, ℕ, suc, ◌+◌, List, [], ◌∷◌, ◌++◌, Some, Bool, true, false, refl, sym, ap, ◌∙◌, subst, arith, map}
use Rattle.std.specs.Prelude.{length, nat_lt, ◌==◌, if◌then◌else◌, ⊤}
use Rattle.rv_step.specs.Access.{bytes_from}
use Rattle.rv_step.specs.Step.{HartState, Outcome, Call as ecall, Fault, step_of}
use Rattle.rv_step.specs.Run.{after}
use Rattle.rv_step.specs.Birth.{told as hart_told}
use Rattle.rv_step.specs.declared.hart.Stop.TheVariants as stops
use Rattle.slot_space.specs.Addresses.{slot_base}
use Rattle.iso_blocks.specs.Heap.{rounded, with_block, without, emptied}
use Rattle.run_trace.specs.declared.call.Call.{Call}
use Rattle.run_trace.specs.declared.call.Call.TheVariants.{Exit, Isomalloc, Isofree, Print}
use Rattle.marcel_core.specs.declared.end.End.{End}
use Rattle.marcel_core.specs.declared.end.End.TheVariants as end_of
use Rattle.run_trace.specs.declared.label.Extra.{Extra}
use Rattle.run_trace.specs.Calls.{call_of}
use Rattle.run_trace.specs.Guests.{Solo, Run, newborn, stack_start, with_bytes, run_of, with_zero_slots, without_slots, heap_of}
use Rattle.run_trace.specs.Same.{Start, Gift, Stretch, Lived, HasLivedLike, instructions_of}
use Rattle.run_trace.specs.Spots.{stepped, second_of}
use Rattle.trace_laws.proofs.Lives.RunLemmas.{run_is}

-- ## What it comes to

abbrev pub began : Start → Solo
began s =
    let sp : ℕ = stack_start s.stack (length s.bytes) in
    (with_bytes sp s.bytes (newborn s.entry s.argument (length s.bytes) sp s.stack 0)).solo

abbrev pub with_slots : List ℕ → Solo → Solo
with_slots slots x = record x { state = record x.state { memory = with_zero_slots slots x.state.memory } }

abbrev pub free_of : List ℕ → Solo → Solo
free_of slots x = record x { state = record x.state { memory = without_slots slots x.state.memory } }

-- each reply below the end of the slots is an address, and none of the refusals is
abbrev pub is_address : ℕ → Bool
is_address code = nat_lt code (slot_base 4096)

abbrev pub allotted : (size code : ℕ) → Bool → Solo → Solo
allotted size code true x = record x { live = with_block (code, size) x.live }
allotted size code false x = x

-- a call with these slots and this reply, before the thread is told
abbrev pub given_to : Call → List ℕ → ℕ → Solo → Solo
given_to (Isomalloc len) slots code x = allotted (rounded len) code (is_address code) (with_slots slots x)
given_to (Isofree address) slots code x =
    if code == 0 then record (free_of (emptied (heap_of x) address) x) { live = without x.live address } else x
given_to _ slots code x = x

abbrev pub goes_on : ℕ → Extra → Solo → Solo
goes_on code extra x = record x { state = hart_told x.state code (second_of extra) }

abbrev pub ran_on : List ℕ → ℕ → Solo → Solo
ran_on image count x = record x { state = stepped image count x.state }

abbrev pub answered_with : Gift → Solo → Solo
answered_with g x = goes_on g.code g.extra (given_to (call_of x.state) g.slots g.code x)

abbrev pub solo_after : List ℕ → Start → List Stretch → Solo
solo_after image s [] = began s
solo_after image s (x ∷ before) = answered_with x.gift (ran_on image x.instructions (solo_after image s before))

-- ## What it writes

abbrev pub line_if : Bool → List ℕ → List (List ℕ)
line_if true line = line ∷ []
line_if false line = []

abbrev pub printed_by : List ℕ → Call → ℕ → HartState → List (List ℕ)
printed_by image (Print address len) code s = line_if (code == 0) (bytes_from image s.memory address len)
printed_by image _ code s = []

-- the line that it names where it has come to a print
abbrev pub named_line : List ℕ → Call → HartState → List ℕ
named_line image (Print address len) s = bytes_from image s.memory address len
named_line image _ s = []

abbrev pub printed_at : List ℕ → ℕ → Solo → List (List ℕ)
printed_at image code x = printed_by image (call_of x.state) code x.state

abbrev pub lines_after : List ℕ → Start → List Stretch → List (List ℕ)
lines_after image s [] = []
lines_after image s (x ∷ before) = lines_after image s before ++ printed_at image x.gift.code (ran_on image x.instructions (solo_after image s before))

-- ## How it ends

abbrev pub exit_value : Call → ℕ
exit_value (Exit value) = value
exit_value _ = 0

-- by a fault, or by the exit that it has come to
abbrev pub ends_as : Outcome → HartState → End
ends_as (Fault kind) s = end_of.Fault kind s.pc
ends_as _ s = end_of.Exit (exit_value (call_of s))

abbrev pub end_at : List ℕ → Solo → End
end_at image x = ends_as (step_of image x.state) x.state

-- ## Each stretch ends at a call, so the gifts tell its length

-- after so many steps it comes to a call
abbrev pub CallsAt : List ℕ → HartState → ℕ → Type 0
CallsAt image s count = (mid : HartState) × (after image s count ≡ Some mid) × (step_of image mid ≡ ecall)

abbrev pub EachCalls : List ℕ → Start → List Stretch → Type 0
EachCalls image s [] = ⊤
EachCalls image s (x ∷ before) = EachCalls image s before × CallsAt image (solo_after image s before).state x.instructions

call_run : (image : List ℕ) (s : HartState) (count more : ℕ) (c : CallsAt image s count) → run_of image (suc (count + more)) s ≡ record { count = count; stop = stops.Call; state = c.0 }
call_run image s count more c =
    let one : Run = record { count = count; stop = stops.Call; state = c.0 } in
    run_is image (suc (count + more)) s one (record { steps = c.1; stop = (omega arith, c.2) })

pub one_call : (image : List ℕ) (s : HartState) (a b : ℕ) → CallsAt image s a → CallsAt image s b → a ≡ b
one_call image s a b x y =
    let same : b + a ≡ a + b = omega arith in
    ap (λ (r : Run). r.count) (sym (call_run image s a b x) ∙ ap (λ k. run_of image (suc k) s) (sym same) ∙ call_run image s b a y)

pub one_past : (image : List ℕ) (s : Start) (xs ys : List Stretch) → map (λ (x : Stretch). x.gift) xs ≡ map (λ (x : Stretch). x.gift) ys
    → EachCalls image s xs → EachCalls image s ys → xs ≡ ys
one_past image s [] [] h a b = refl
one_past image s [] (y ∷ ys) h a b = absurd (cc h)
one_past image s (x ∷ xs) [] h a b = absurd (cc h)
one_past image s (x ∷ xs) (y ∷ ys) h a b =
    let gift : x.gift ≡ y.gift = cc h in
    let rest : map (λ (x : Stretch). x.gift) xs ≡ map (λ (x : Stretch). x.gift) ys = cc h in
    let past : xs ≡ ys = one_past image s xs ys rest a.0 b.0 in
    let long : x.instructions ≡ y.instructions = one_call image (solo_after image s xs).state x.instructions y.instructions a.1 (subst (λ zs. CallsAt image (solo_after image s zs).state y.instructions) (sym past) b.1) in
    ap (λ k. (record { instructions = k; gift = x.gift }) ∷ xs) long
    ∙ ap (λ g. (record { instructions = y.instructions; gift = g }) ∷ xs) gift
    ∙ ap (λ zs. y ∷ zs) past

-- born the same, given the same and as far: the same stretches, and as many instructions since
pub record SamePast (a b : Lived) : Type 0 where
  pub start : a.start ≡ b.start
  pub stretches : a.stretches ≡ b.stretches
  pub since : a.since ≡ b.since

pub same_past : (image : List ℕ) (a b : Lived) → HasLivedLike a b → EachCalls image a.start a.stretches → EachCalls image b.start b.stretches → SamePast a b
same_past image a b h x y =
    let past : a.stretches ≡ b.stretches = one_past image a.start a.stretches b.stretches h.given x (subst (λ s. EachCalls image s b.stretches) (sym h.born) y) in
    let long : instructions_of a.stretches ≡ instructions_of b.stretches = ap instructions_of past in
    record { start = h.born; stretches = past; since = omega (arith, long, h.done) }
