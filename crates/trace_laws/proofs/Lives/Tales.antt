-- What a thread has come to by what it has lived through, at each stage of its life.
use Rattle.std.proofs.Common.{◌≡◌, ℕ, zero, suc, ◌+◌, ◌⊎◌, List, [], ◌∷◌, ◌++◌, Some, refl, ap, ◌∙◌, arith}
use Rattle.std.specs.Option.{option_and_then}
use Rattle.rv_step.specs.Access.{bytes_from}
use Rattle.rv_step.specs.Step.{HartState, Call as ecall, step_of}
use Rattle.rv_step.specs.Run.{after, next_of}
use Rattle.marcel_core.specs.declared.end.End.{End}
use Rattle.iso_blocks.specs.Heap.{emptied}
use Rattle.run_trace.specs.declared.call.Call.{Call}
use Rattle.run_trace.specs.declared.call.Call.TheVariants.{Isomalloc, Isofree, Print}
use Rattle.run_trace.specs.Guests.{Solo, heap_of}
use Rattle.run_trace.specs.Calls.{call_of}
use Rattle.run_trace.specs.Same.{Start, Stretch, Lived}
use Rattle.run_trace.specs.Spots.{Stage, Ready, Running, Due, Served, Seeks, Told_next, Told_then, Departs, Ends, Leaves, Halts, Stays, Shows, Showing, Shown_there, Asks, Awaits, Answers, Answered, Detaches, Signals, Queues, Life, Unborn, On, Moving, Noting, Gone, Response, Spot}
use Rattle.trace_laws.proofs.Lives.OwnLives.{end_at, with_slots, free_of, given_to, solo_after, printed_by, printed_at, named_line, lines_after, EachCalls}

-- ## Steps

pub after_sum : (image : List ℕ) (s mid : HartState) (a b : ℕ) → after image s a ≡ Some mid → after image s (a + b) ≡ after image mid b
unfolding after
after_sum image s mid a zero h = let same : a + 0 ≡ a = omega arith in ap (after image s) same ∙ h
after_sum image s mid a (suc b) h =
    let same : a + suc b ≡ suc (a + b) = omega arith in
    ap (after image s) same ∙ ap (λ o. option_and_then (λ x. next_of (step_of image x)) o) (after_sum image s mid a b h)

pub after_nothing : (image : List ℕ) (s : HartState) → after image s 0 ≡ Some s
unfolding after
after_nothing image s = refl

-- ## How far it has come

-- its code has done so many instructions since the last reply
pub record Reached (image : List ℕ) (s : Start) (past : List Stretch) (since : ℕ) (x : Solo) : Type 0 where
  pub steps : after image (solo_after image s past).state since ≡ Some x.state
  pub rest : x ≡ record (solo_after image s past) { state = x.state }

-- and it has come to a call
pub record AtCall (image : List ℕ) (s : Start) (past : List Stretch) (since : ℕ) (x : Solo) : Type 0 where
  pub reached : Reached image s past since x
  pub call : step_of image x.state ≡ ecall

abbrev pub Comes : List ℕ → Lived → Solo → Type 0
Comes image a x = Reached image a.start a.stretches a.since x

abbrev pub Calling : List ℕ → Lived → Solo → Type 0
Calling image a x = AtCall image a.start a.stretches a.since x

-- the lines of the prints that have returned
abbrev pub lines_before : List ℕ → Lived → List (List ℕ)
lines_before image a = lines_after image a.start a.stretches

-- ## By its stage

pub record IsReady (image : List ℕ) (a : Lived) (x : Solo) (lines : List (List ℕ)) : Type 0 where
  pub reached : Comes image a x
  pub empty : a.coming.slots ≡ []
  pub lines_are : lines ≡ lines_before image a

pub record IsWaiting (image : List ℕ) (a : Lived) (x : Solo) (lines : List (List ℕ)) : Type 0 where
  pub at : Calling image a x
  pub empty : a.coming.slots ≡ []
  pub lines_are : lines ≡ lines_before image a

pub record IsDue (image : List ℕ) (code : ℕ) (a : Lived) (x : Solo) (lines : List (List ℕ)) : Type 0 where
  pub waits : IsWaiting image a x lines
  pub same : given_to (call_of x.state) [] code x ≡ x
  pub silent : printed_at image code x ≡ []

-- what it is, while its node serves it, beside what it was at its call
abbrev pub InService : Call → List ℕ → Solo → Solo → Type 0
InService (Isomalloc len) slots y x = x ≡ with_slots slots y
InService (Isofree address) slots y x = (slots ≡ []) × ((x ≡ y) ⊎ (x ≡ free_of (emptied (heap_of y) address) y))
InService _ slots y x = (slots ≡ []) × (x ≡ y)

-- the call that it has come to gives and prints what this one does
pub record ServesAs (image : List ℕ) (c : Call) (x : Solo) : Type 0 where
  pub gives : (slots : List ℕ) (code : ℕ) → given_to (call_of x.state) slots code x ≡ given_to c slots code x
  pub prints : (code : ℕ) → printed_at image code x ≡ printed_by image c code x.state

pub record IsServed (image : List ℕ) (c : Call) (a : Lived) (x : Solo) (lines : List (List ℕ)) : Type 0 where
  pub was : Solo
  pub at : Calling image a was
  pub serves : ServesAs image c was
  pub midst : InService c a.coming.slots was x
  pub lines_are : lines ≡ lines_before image a

pub record IsPrinting (image : List ℕ) (bytes : List ℕ) (a : Lived) (x : Solo) : Type 0 where
  pub at : Calling image a x
  pub empty : a.coming.slots ≡ []
  pub address : ℕ
  pub len : ℕ
  pub is : call_of x.state ≡ Print address len
  pub bytes_are : bytes ≡ bytes_from image x.state.memory address len

-- it waits for the reply of a call that gives nothing and prints nothing, whatever it is answered
pub record IsAsking (image : List ℕ) (a : Lived) (x : Solo) (lines : List (List ℕ)) : Type 0 where
  pub waits : IsWaiting image a x lines
  pub same : (code : ℕ) → given_to (call_of x.state) [] code x ≡ x
  pub silent : (code : ℕ) → printed_at image code x ≡ []

-- it is to be told what was judged
pub record IsJudged (image : List ℕ) (v : Response) (a : Lived) (x : Solo) (lines : List (List ℕ)) : Type 0 where
  pub was : Solo
  pub at : Calling image a was
  pub same : x ≡ given_to (call_of was.state) a.coming.slots a.coming.code was
  pub verdict : v ≡ record { code = a.coming.code; extra = a.coming.extra }
  pub lines_are : lines ≡ lines_before image a ++ printed_at image a.coming.code was

pub record IsShown (image : List ℕ) (v : Response) (a : Lived) (x : Solo) (lines : List (List ℕ)) : Type 0 where
  pub judged : IsJudged image v a x lines
  pub at : Calling image a x
  pub lines_are : lines ≡ lines_before image a ++ named_line image (call_of x.state) x.state ∷ []

pub record IsAnswered (image : List ℕ) (v : Response) (a : Lived) (x : Solo) (lines : List (List ℕ)) : Type 0 where
  pub judged : IsJudged image v a x lines
  pub at : Calling image a x
  pub lines_are : lines ≡ lines_before image a

-- it has come to its end
pub record IsEnding (image : List ℕ) (end : End) (a : Lived) (lines : List (List ℕ)) : Type 0 where
  pub was : Solo
  pub reached : Comes image a was
  pub how : end ≡ end_at image was
  pub lines_are : lines ≡ lines_before image a

abbrev pub StageTale : List ℕ → Stage → Solo → Response → List (List ℕ) → Lived → Type 0
StageTale image Ready x v lines a = IsReady image a x lines
StageTale image Running x v lines a = IsWaiting image a x lines
StageTale image (Due code) x v lines a = IsDue image code a x lines
StageTale image (Served c) x v lines a = IsServed image c a x lines
StageTale image Seeks x v lines a = IsWaiting image a x lines
StageTale image Told_next x v lines a = IsJudged image v a x lines
StageTale image (Told_then to) x v lines a = IsJudged image v a x lines
StageTale image (Departs to) x v lines a = IsReady image a x lines
StageTale image (Ends end) x v lines a = IsEnding image end a lines
StageTale image (Leaves end) x v lines a = IsEnding image end a lines
StageTale image Halts x v lines a = IsWaiting image a x lines
StageTale image Stays x v lines a = IsWaiting image a x lines
StageTale image (Shows bytes) x v lines a = IsPrinting image bytes a x × (lines ≡ lines_before image a)
StageTale image Showing x v lines a = (bytes : List ℕ) × IsPrinting image bytes a x × (lines ≡ lines_before image a ++ bytes ∷ [])
StageTale image Shown_there x v lines a = IsShown image v a x lines
StageTale image (Asks u) x v lines a = IsAsking image a x lines
StageTale image (Awaits u) x v lines a = IsAsking image a x lines
StageTale image (Answers h reply second) x v lines a = IsAsking image a x lines
StageTale image (Answered h) x v lines a = IsAnswered image v a x lines
StageTale image (Detaches u) x v lines a = IsAsking image a x lines
StageTale image (Signals id up) x v lines a = IsAsking image a x lines
StageTale image (Queues id) x v lines a = IsAsking image a x lines

abbrev pub LifeTale : List ℕ → Life → Solo → Response → List (List ℕ) → Lived → Type 0
LifeTale image Unborn x v lines a = (lines ≡ []) × (a.stretches ≡ [])
LifeTale image (On n stage) x v lines a = StageTale image stage x v lines a
LifeTale image (Moving from to) x v lines a = IsReady image a x lines
LifeTale image (Noting n end) x v lines a = IsEnding image end a lines
LifeTale image (Gone end) x v lines a = IsEnding image end a lines

pub record Tale (image : List ℕ) (s : Spot) (lines : List (List ℕ)) (a : Lived) : Type 0 where
  pub calls : EachCalls image a.start a.stretches
  pub life : LifeTale image s.life s.guest.solo s.verdict lines a

-- a change of its life alone
pub with_life : (image : List ℕ) (s : Spot) (life : Life) (lines more : List (List ℕ)) (a : Lived) → Tale image s lines a
    → (LifeTale image s.life s.guest.solo s.verdict lines a → LifeTale image life s.guest.solo s.verdict more a) → Tale image (record s { life = life }) more a
with_life image s life lines more a k f = record { calls = k.calls; life = f k.life }
