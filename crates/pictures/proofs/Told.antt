-- What is read off the shapes of a trace is what its labels tell.
use Rattle.std.proofs.Common.{◌≡◌, ℕ, List, [], ◌∷◌, ◌++◌, Option, Some, None, true, false, cond, refl, ap, ◌∙◌, max, append-nil}
use Rattle.std.specs.Prelude.{nat_lt}
use Rattle.std.specs.List.{flat_map}
use Rattle.std.proofs.lemmas.Grind.{flat_map-append}
use Rattle.slot_space.specs.declared.names.Tid.{Tid}
use Rattle.run_trace.specs.declared.entry.Entry.{Entry}
use Rattle.run_trace.specs.declared.label.Label.{Label}
use Rattle.run_trace.specs.declared.label.Label.TheVariants.{Born, Ran, Asked, Heard, Told, Ended, Known, Left, Came, Decided, Shown}
use Rattle.run_trace.specs.declared.label.Why.TheVariants as whys
use Rattle.pictures.specs.declared.moment.Moment.{Moment}
use Rattle.pictures.specs.declared.shape.Message.{Message}
use Rattle.pictures.specs.declared.shape.Message.TheVariants as carry
use Rattle.pictures.specs.declared.shape.Reason.{Reason}
use Rattle.pictures.specs.declared.shape.Shape.{Shape}
use Rattle.pictures.specs.declared.shape.Shape.TheVariants.{Wait, Arrow}
use Rattle.pictures.specs.declared.thread.Thread.{Thread}
use Rattle.pictures.specs.Threads.{known, about, turn}
use Rattle.pictures.specs.Drawing.{waited, bars, arrow, earlier, arrows, call, marks, own, own_by, shapes_at, threads_at, drawn, Said, is_gone, left_over, end_of, threads_after, said, shapes}
use Rattle.pictures.specs.Telling.{run_in, run_told, mark_in, marks_told}

-- nothing before and behind
middle : {X : Type 0} (f : Shape → List X) (a b c : List Shape) → flat_map f a ≡ [] → flat_map f c ≡ [] → flat_map f ((a ++ b) ++ c) ≡ flat_map f b
middle {X} f a b c none_a none_c =
    flat_map-append f (a ++ b) c ∙ ap (λ (xs : List X). flat_map f (a ++ b) ++ xs) none_c ∙ append-nil (flat_map f (a ++ b)) ∙ flat_map-append f a b ∙ ap (λ (xs : List X). xs ++ flat_map f b) none_a

-- the bar that a label draws
pub own_bars : Option Tid → Moment → Label → List (Tid × Thread) → List Shape
own_bars None here l threads = []
own_bars (Some t) here l threads = bars t here l (turn here (known threads t here))

-- ## A reading that sees no arrows

module _ {X : Type 0} (f : Shape → List X) (no_flight : (t : Tid) (c : Message) (at to : Moment) → f (Arrow t c at to) ≡ []) where
  pub in_arrow : (t : Tid) (c : Message) (from : Option Moment) (here : Moment) → flat_map f (arrow t c from here) ≡ []
  in_arrow t c None here = refl
  in_arrow t c (Some from) here = ap (λ (xs : List X). xs ++ []) (no_flight t c from here)

  pub in_arrows : (t : Tid) (here : Moment) (l : Label) (x : Thread) → flat_map f (arrows t here l x) ≡ []
  in_arrows t here (Came u) x = in_arrow t carry.Thread x.left here
  in_arrows t here (Heard u) x = in_arrow t carry.Join (earlier x.asked here) here
  in_arrows t here (Shown u) x = in_arrow t carry.Line (earlier x.asked here) here
  in_arrows t here (Told u) x = in_arrow t carry.Answer (earlier x.judged here) here
  in_arrows t here (Known u) x = in_arrow t carry.EndNote (earlier x.ended here) here
  in_arrows t here _ x = refl

  pub in_call : (here : Moment) (l : Label) (threads : List (Tid × Thread)) → flat_map f (call here l threads) ≡ []
  in_call here (Born t (whys.Service by count) entry a0 a1 sp slot) threads = in_arrow by (carry.Call count) (earlier (known threads by here).asked here) here
  in_call here (Born t whys.Main entry a0 a1 sp slot) threads = refl
  in_call here (Born t (whys.Create by) entry a0 a1 sp slot) threads = refl
  in_call here (Born t (whys.Inside by bubble) entry a0 a1 sp slot) threads = refl
  in_call here _ threads = refl

  -- and no waits
  module _ (no_wait : (t : Tid) (reason : Reason) (at : Moment) (to : ℕ) → f (Wait t reason at to) ≡ []) where
    pub one_wait : (t : Tid) (reason : Reason) (at : Moment) (to : ℕ) → flat_map f (Wait t reason at to ∷ []) ≡ []
    one_wait t reason at to = ap (λ (xs : List X). xs ++ []) (no_wait t reason at to)

    pub in_waited : (t : Tid) (until : ℕ) (x : Thread) → flat_map f (waited t until x) ≡ []
    in_waited t until x = elim (nat_lt x.since.stamp until) as (λ v. flat_map f (cond v (Wait t x.reason x.since until ∷ []) []) ≡ []) [ true ↦ one_wait t x.reason x.since until | false ↦ refl ]

    -- of a thread it sees the bar alone
    pub in_own : (t : Tid) (here : Moment) (l : Label) (x : Thread) → flat_map f (own t here l x) ≡ flat_map f (bars t here l (turn here x))
    in_own t here (Born u why entry a0 a1 sp slot) x = middle f (waited t (turn here x) x) [] [] (in_waited t (turn here x) x) refl
    in_own t here (Ran u vp count stop) x = middle f (waited t (turn here x) x) (bars t here (Ran u vp count stop) (turn here x)) [] (in_waited t (turn here x) x) refl
    in_own t here (Asked u number args bytes) x = middle f (waited t (turn here x) x) [] [] (in_waited t (turn here x) x) refl
    in_own t here (Told u) x = middle f (waited t (turn here x) x) [] (arrows t here (Told u) x) (in_waited t (turn here x) x) (in_arrows t here (Told u) x)
    in_own t here (Ended u end) x = middle f (waited t (turn here x) x) [] [] (in_waited t (turn here x) x) refl
    in_own t here (Left u to) x = middle f (waited t (turn here x) x) [] [] (in_waited t (turn here x) x) refl
    in_own t here (Came u) x = middle f (waited t (turn here x) x) [] (arrows t here (Came u) x) (in_waited t (turn here x) x) (in_arrows t here (Came u) x)
    in_own t here (Heard u) x = in_arrows t here (Heard u) x
    in_own t here (Known u) x = in_arrows t here (Known u) x
    in_own t here (Shown u) x = in_arrows t here (Shown u) x
    in_own t here _ x = refl

    pub in_own_by : (o : Option Tid) (here : Moment) (l : Label) (threads : List (Tid × Thread)) → flat_map f (own_by o here l threads) ≡ flat_map f (own_bars o here l threads)
    unfolding own_bars
    in_own_by None here l threads = refl
    in_own_by (Some t) here l threads = in_own t here l (known threads t here)

    pub in_shapes : (here : Moment) (l : Label) (threads : List (Tid × Thread)) → flat_map f (shapes_at here l threads) ≡ flat_map f (own_bars (about l) here l threads) ++ flat_map f (marks here l)
    in_shapes here l threads =
        flat_map-append f (own_by (about l) here l threads) (call here l threads ++ marks here l)
        ∙ ap (λ xs. xs ++ flat_map f (call here l threads ++ marks here l)) (in_own_by (about l) here l threads)
        ∙ ap (λ xs. flat_map f (own_bars (about l) here l threads) ++ xs)
        (flat_map-append f (call here l threads) (marks here l) ∙ ap (λ xs. xs ++ flat_map f (marks here l)) (in_call here l threads))

    pub in_left_over : (end : ℕ) (es : List (Tid × Thread)) → flat_map f (flat_map (left_over end) es) ≡ []
    in_left_over end [] = refl
    in_left_over end (e ∷ es) =
        let one : flat_map f (left_over end e) ≡ [] = elim (is_gone e.1.reason) as (λ v. flat_map f (cond v [] (waited e.0 (max e.1.since.stamp end) e.1)) ≡ []) [ true ↦ refl | false ↦ in_waited e.0 (max e.1.since.stamp end) e.1 ] in
        flat_map-append f (left_over end e) (flat_map (left_over end) es) ∙ ap (λ xs. xs ++ flat_map f (flat_map (left_over end) es)) one ∙ in_left_over end es

    -- what each label gives, all give
    pub in_drawn : (told : Said → List X) → ((here : Moment) (l : Label) (threads : List (Tid × Thread)) → flat_map f (shapes_at here l threads) ≡ told (here, l))
        → (threads : List (Tid × Thread)) (ss : List Said) → flat_map f (drawn threads ss) ≡ flat_map told ss
    in_drawn told each threads [] = refl
    in_drawn told each threads (s ∷ ss) =
        flat_map-append f (shapes_at s.0 s.1 threads) (drawn (threads_at s.0 s.1 threads) ss)
        ∙ ap (λ xs. xs ++ flat_map f (drawn (threads_at s.0 s.1 threads) ss)) (each s.0 s.1 threads)
        ∙ ap (λ xs. told s ++ xs) (in_drawn told each (threads_at s.0 s.1 threads) ss)

    pub in_picture : (told : Said → List X) → ((here : Moment) (l : Label) (threads : List (Tid × Thread)) → flat_map f (own_bars (about l) here l threads) ++ flat_map f (marks here l) ≡ told (here, l))
        → (trace : List Entry) → flat_map f (shapes trace) ≡ flat_map told (said trace)
    in_picture told each trace =
        let rest = flat_map (left_over (end_of trace)) (threads_after [] (said trace)) in
        flat_map-append f (drawn [] (said trace)) rest
        ∙ ap (λ (xs : List X). xs ++ flat_map f rest) (in_drawn told (λ here l threads. in_shapes here l threads ∙ each here l threads) [] (said trace))
        ∙ ap (λ (xs : List X). flat_map told (said trace) ++ xs) (in_left_over (end_of trace) (threads_after [] (said trace)))
        ∙ append-nil (flat_map told (said trace))

-- ## Runs, and marks

run_at : (here : Moment) (l : Label) (threads : List (Tid × Thread)) → flat_map run_in (own_bars (about l) here l threads) ++ flat_map run_in (marks here l) ≡ run_told (here, l)
unfolding own_bars
run_at here (Ran t vp count stop) threads = refl
run_at here (Decided t count None) threads = refl
run_at here (Decided t count (Some first)) threads = refl
run_at here _ threads = refl

pub runs : (trace : List Entry) → flat_map run_in (shapes trace) ≡ flat_map run_told (said trace)
runs trace = in_picture run_in (λ t c at to. refl) (λ t reason at to. refl) run_told run_at trace

mark_at : (here : Moment) (l : Label) (threads : List (Tid × Thread)) → flat_map mark_in (own_bars (about l) here l threads) ++ flat_map mark_in (marks here l) ≡ marks_told (here, l)
unfolding own_bars
mark_at here (Ran t vp count stop) threads = refl
mark_at here (Decided t count None) threads = refl
mark_at here (Decided t count (Some first)) threads = refl
mark_at here _ threads = refl

pub signs : (trace : List Entry) → flat_map mark_in (shapes trace) ≡ flat_map marks_told (said trace)
signs trace = in_picture mark_in (λ t c at to. refl) (λ t reason at to. refl) marks_told mark_at trace
