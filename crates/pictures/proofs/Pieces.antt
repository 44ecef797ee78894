-- The pieces of a thread follow one another.
use Rattle.std.proofs.Common.{◌≡◌, ℕ, ◌≤◌, List, [], ◌∷◌, ◌++◌, Option, Some, None, true, false, cond, refl, sym, ap, ◌∙◌, subst, arith, append_assoc, append-nil}
use Rattle.std.specs.Prelude.{nat_lt}
use Rattle.std.specs.Map.{lookup}
use Rattle.std.specs.Option.{unwrap_or}
use Rattle.std.specs.BTreeMap.{insert_entry}
use Rattle.std.specs.declared.cmp.Ordering.{Ordering}
use Rattle.std.specs.declared.cmp.Ordering.TheVariants.{Less, Equal, Greater}
use Rattle.std.specs.Ordering.{is_eq, match_ordering}
use Rattle.std.specs.List.{flat_map}
use Rattle.std.proofs.lemmas.Grind.{flat_map-append}
use Rattle.std.proofs.lemmas.Bool.{ltb-false}
use Rattle.basics.proofs.Lemmas.{by_test}
use Rattle.slot_space.specs.declared.names.Tid.{Tid}
use Rattle.run_trace.specs.Names.{is_tid, tid_cmp}
use Rattle.run_trace.proofs.Lemmas.{is-true, is-refl}
use Rattle.run_trace.specs.declared.label.Label.{Label}
use Rattle.run_trace.specs.declared.label.Label.TheVariants.{Ran, Asked, Decided}
use Rattle.pictures.specs.declared.moment.Moment.{Moment}
use Rattle.pictures.specs.declared.shape.Message.{Message}
use Rattle.pictures.specs.declared.shape.Reason.{Reason}
use Rattle.pictures.specs.declared.shape.Shape.{Shape}
use Rattle.pictures.specs.declared.shape.Shape.TheVariants.{Wait, Arrow}
use Rattle.pictures.specs.declared.thread.Thread.{Thread}
use Rattle.pictures.specs.Moments.{following}
use Rattle.pictures.specs.Threads.{known, about, turn, after, stranger, next_reason, piece_end, rests, resting, noted}
use Rattle.pictures.specs.Drawing.{waited, bars, pieces, pieces_by, arrows, call, marks, own, own_by, shapes_at, threads_at, threads_by, drawn, Said, said}
use Rattle.pictures.proofs.Told.{in_arrows, in_call}
use Rattle.run_trace.specs.declared.entry.Entry.{Entry}
use Rattle.pictures.specs.Telling.{Span, span_in, FollowFrom, Follow}

abbrev span : ℕ → ℕ → Span
span from to = record { from = from; to = to }

-- what begins somewhere follows
from_any : (at : ℕ) (ps : List Span) → FollowFrom at ps → Follow ps
from_any at [] h = tt
from_any at (p ∷ ps) h = h.1

-- ## A name's entry in a map

lookup-insert : (es : List (Tid × Thread)) (t u : Tid) (x : Thread) → lookup (is_tid u) (insert_entry tid_cmp es t x) ≡ cond (is_tid u t) (Some x) (lookup (is_tid u) es)
lookup-insert [] t u x = refl
lookup-insert (e ∷ es) t u x = by (lookup-insert es t u x) (tid_cmp t e.0) refl
  where
    by : lookup (is_tid u) (insert_entry tid_cmp es t x) ≡ cond (is_tid u t) (Some x) (lookup (is_tid u) es) → (r : Ordering) → tid_cmp t e.0 ≡ r
        → lookup (is_tid u) (match_ordering r ((t, x) ∷ e ∷ es) ((e.0, x) ∷ es) (e ∷ insert_entry tid_cmp es t x)) ≡ cond (is_tid u t) (Some x) (cond (is_tid u e.0) (Some e.1) (lookup (is_tid u) es))
    by ih Less h = refl
    by ih Equal h =
        let one : t ≡ e.0 = is-true t e.0 (ap is_eq h) in
        subst (λ v. cond (is_tid u e.0) (Some x) (lookup (is_tid u) es) ≡ cond (is_tid u v) (Some x) (cond (is_tid u e.0) (Some e.1) (lookup (is_tid u) es))) (sym one)
        (elim (is_tid u e.0) as (λ v. cond v (Some x) (lookup (is_tid u) es) ≡ cond v (Some x) (cond v (Some e.1) (lookup (is_tid u) es))) [ true ↦ refl | false ↦ refl ])
    by ih Greater h =
        let apart : is_tid t e.0 ≡ false = ap is_eq h in
        grind (arith, ih, apart, is-true u e.0, is-true u t, is-refl t, is-refl u)

inserted : (es : List (Tid × Thread)) (t : Tid) (x : Thread) → lookup (is_tid t) (insert_entry tid_cmp es t x) ≡ Some x
inserted es t x = lookup-insert es t t x ∙ ap (λ v. cond v (Some x) (lookup (is_tid t) es)) (is-refl t)

elsewhere : (es : List (Tid × Thread)) (t u : Tid) (x : Thread) → is_tid t u ≡ false → lookup (is_tid t) (insert_entry tid_cmp es u x) ≡ lookup (is_tid t) es
elsewhere es t u x n = lookup-insert es u t x ∙ ap (λ v. cond v (Some x) (lookup (is_tid t) es)) n

-- ## What has no pieces

flight : (t u : Tid) (c : Message) (at to : Moment) → span_in t (Arrow u c at to) ≡ []
flight t u c at to = refl

no_marks : (t : Tid) (here : Moment) (l : Label) → flat_map (span_in t) (marks here l) ≡ []
no_marks t here (Ran u vp count stop) = refl
no_marks t here (Decided u count None) = refl
no_marks t here (Decided u count (Some first)) = refl
no_marks t here _ = refl

other_wait : (t u : Tid) (until : ℕ) (x : Thread) → is_tid t u ≡ false → flat_map (span_in t) (waited u until x) ≡ []
other_wait t u until x n =
    elim (nat_lt x.since.stamp until) as (λ v. flat_map (span_in t) (cond v (Wait u x.reason x.since until ∷ []) []) ≡ [])
    [ true ↦ ap (λ v. cond v (span x.since.stamp until ∷ []) [] ++ []) n | false ↦ refl ]

other_bar : (t u : Tid) (here : Moment) (l : Label) (begin : ℕ) → is_tid t u ≡ false → flat_map (span_in t) (bars u here l begin) ≡ []
other_bar t u here (Ran v vp count stop) begin n = ap (λ v. cond v (span begin (following begin) ∷ []) [] ++ []) n
other_bar t u here _ begin n = refl

other_turn : (t u : Tid) (here : Moment) (l : Label) (x : Thread) → is_tid t u ≡ false → flat_map (span_in t) (waited u (turn here x) x ++ bars u here l (turn here x)) ≡ []
other_turn t u here l x n =
    flat_map-append (span_in t) (waited u (turn here x) x) (bars u here l (turn here x))
    ∙ ap (λ xs. xs ++ flat_map (span_in t) (bars u here l (turn here x))) (other_wait t u (turn here x) x n)
    ∙ other_bar t u here l (turn here x) n

other_pieces : (t u : Tid) (here : Moment) (l : Label) (x : Thread) → is_tid t u ≡ false → flat_map (span_in t) (pieces u here l x) ≡ []
other_pieces t u here l x n = by (next_reason l)
  where
    by : (r : Option Reason) → flat_map (span_in t) (pieces_by u here l x r) ≡ []
    by None = refl
    by (Some reason) = other_turn t u here l x n

-- what is drawn of another thread
other : (t u : Tid) (here : Moment) (l : Label) (x : Thread) → is_tid t u ≡ false → flat_map (span_in t) (own u here l x) ≡ []
other t u here l x n =
    flat_map-append (span_in t) (pieces u here l x) (arrows u here l x)
    ∙ ap (λ xs. xs ++ flat_map (span_in t) (arrows u here l x)) (other_pieces t u here l x n)
    ∙ in_arrows (span_in t) (flight t) u here l x

-- a label's pieces are those of its thread
spans : (t : Tid) (here : Moment) (l : Label) (threads : List (Tid × Thread)) (more : List Shape)
    → flat_map (span_in t) (shapes_at here l threads ++ more) ≡ flat_map (span_in t) (own_by (about l) here l threads) ++ flat_map (span_in t) more
spans t here l threads more =
    let mine = own_by (about l) here l threads in
    let calls = call here l threads in
    grind (
      arith,
      flat_map-append (span_in t) (mine ++ (calls ++ marks here l)) more,
      flat_map-append (span_in t) mine (calls ++ marks here l),
      flat_map-append (span_in t) calls (marks here l),
      in_call (span_in t) (flight t) here l threads,
      no_marks t here l,
      append-nil (flat_map (span_in t) mine),
    )

-- ## One thread

wait_follows : (t : Tid) (until : ℕ) (x : Thread) (rest : List Span) → x.since.stamp ≤ until → FollowFrom until rest → FollowFrom x.since.stamp (flat_map (span_in t) (waited t until x) ++ rest)
wait_follows t until x rest up h =
    elim (nat_lt x.since.stamp until) as (λ v. nat_lt x.since.stamp until ≡ v → FollowFrom x.since.stamp (flat_map (span_in t) (cond v (Wait t x.reason x.since until ∷ []) []) ++ rest)) [
      | true ↦ λ e. subst (λ v. FollowFrom x.since.stamp ((cond v (span x.since.stamp until ∷ []) [] ++ []) ++ rest)) (sym (is-refl t)) (refl, h)
      | false ↦ λ e. let down : until ≤ x.since.stamp = ltb-false x.since.stamp until e in let same : until ≡ x.since.stamp = omega (arith, up, down) in subst (λ n. FollowFrom n rest) same h
    ] refl

bar_follows : (t : Tid) (here : Moment) (l : Label) (begin : ℕ) (rest : List Span) → FollowFrom (piece_end l begin) rest → FollowFrom begin (flat_map (span_in t) (bars t here l begin) ++ rest)
bar_follows t here (Ran v vp count stop) begin rest h = subst (λ v. FollowFrom begin ((cond v (span begin (following begin) ∷ []) [] ++ []) ++ rest)) (sym (is-refl t)) (refl, h)
bar_follows t here _ begin rest h = h

turn_follows : (t : Tid) (here : Moment) (l : Label) (x : Thread) (rest : List Span) → FollowFrom (piece_end l (turn here x)) rest
    → FollowFrom x.since.stamp (flat_map (span_in t) (waited t (turn here x) x ++ bars t here l (turn here x)) ++ rest)
turn_follows t here l x rest h =
    let w = waited t (turn here x) x in
    let b = bars t here l (turn here x) in
    let up : x.since.stamp ≤ turn here x = omega arith in
    let e : flat_map (span_in t) (w ++ b) ++ rest ≡ flat_map (span_in t) w ++ (flat_map (span_in t) b ++ rest) = ap (λ xs. xs ++ rest) (flat_map-append (span_in t) w b) ∙ append_assoc (flat_map (span_in t) w) (flat_map (span_in t) b) rest in
    subst (λ xs. FollowFrom x.since.stamp xs) (sym e) (wait_follows t (turn here x) x (flat_map (span_in t) b ++ rest) up (bar_follows t here l (turn here x) rest h))

-- what is noted of a thread doesn't touch where it waits
noted_since : (here : Moment) (l : Label) (x : Thread) → (noted here l x).since ≡ x.since
noted_since here (Asked t number args bytes) x = refl
noted_since here _ x = refl

pieces_follow : (t : Tid) (here : Moment) (l : Label) (x : Thread) (rest : List Span) → FollowFrom (resting here l x).since.stamp rest → FollowFrom x.since.stamp (flat_map (span_in t) (pieces t here l x) ++ rest)
pieces_follow t here l x rest h = by (next_reason l) h
  where
    by : (r : Option Reason) → FollowFrom (rests here l x r).since.stamp rest → FollowFrom x.since.stamp (flat_map (span_in t) (pieces_by t here l x r) ++ rest)
    by None h = h
    by (Some reason) h = turn_follows t here l x rest h

own_follows : (t : Tid) (here : Moment) (l : Label) (x : Thread) (rest : List Span) → FollowFrom (after here l x).since.stamp rest → FollowFrom x.since.stamp (flat_map (span_in t) (own t here l x) ++ rest)
own_follows t here l x rest h =
    let p = flat_map (span_in t) (pieces t here l x) in
    let e : flat_map (span_in t) (own t here l x) ≡ p =
    flat_map-append (span_in t) (pieces t here l x) (arrows t here l x) ∙ ap (λ xs. p ++ xs) (in_arrows (span_in t) (flight t) t here l x) ∙ append-nil p in
    subst (λ xs. FollowFrom x.since.stamp (xs ++ rest)) (sym e) (pieces_follow t here l x rest (subst (λ (m : Moment). FollowFrom m.stamp rest) (noted_since here l (resting here l x)) h))

-- ## All threads

module _ (t : Tid) (here : Moment) (l : Label) (threads : List (Tid × Thread)) (rest : List (Tid × Thread) → List Span)
    (goes_on : (now : List (Tid × Thread)) (x : Thread) → lookup (is_tid t) now ≡ Some x → FollowFrom x.since.stamp (rest now)) where
  -- the pieces of this thread at its label
  mine : (x : Thread) → known threads t here ≡ x → FollowFrom x.since.stamp (flat_map (span_in t) (own t here l (known threads t here)) ++ rest (insert_entry tid_cmp threads t (after here l (known threads t here))))
  mine x k =
      subst (λ y. FollowFrom x.since.stamp (flat_map (span_in t) (own t here l y) ++ rest (insert_entry tid_cmp threads t (after here l y)))) (sym k)
      (own_follows t here l x (rest (insert_entry tid_cmp threads t (after here l x))) (goes_on (insert_entry tid_cmp threads t (after here l x)) (after here l x) (inserted threads t (after here l x))))

  pub step : (o : Option Tid) (x : Thread) → lookup (is_tid t) threads ≡ Some x → FollowFrom x.since.stamp (flat_map (span_in t) (own_by o here l threads) ++ rest (threads_by o here l threads))
  step None x h = goes_on threads x h
  step (Some u) x h = by_test (is_tid t u)
      (λ e. subst (λ v. FollowFrom x.since.stamp (flat_map (span_in t) (own v here l (known threads v here)) ++ rest (insert_entry tid_cmp threads v (after here l (known threads v here))))) (is-true t u e)
      (mine x (ap (λ (o : Option Thread). unwrap_or o (stranger here)) h)))
      (λ n. subst (λ (xs : List Span). FollowFrom x.since.stamp (xs ++ rest (threads_by (Some u) here l threads))) (sym (other t u here l (known threads u here) n))
      (goes_on (threads_by (Some u) here l threads) x (elsewhere threads t u (after here l (known threads u here)) n ∙ h)))

  -- where it is not known yet
  pub first_step : ((now : List (Tid × Thread)) → lookup (is_tid t) now ≡ None → Follow (rest now)) → (o : Option Tid) → lookup (is_tid t) threads ≡ None
      → Follow (flat_map (span_in t) (own_by o here l threads) ++ rest (threads_by o here l threads))
  first_step begins None h = begins threads h
  first_step begins (Some u) h = by_test (is_tid t u)
      (λ e. subst (λ v. Follow (flat_map (span_in t) (own v here l (known threads v here)) ++ rest (insert_entry tid_cmp threads v (after here l (known threads v here))))) (is-true t u e)
      (from_any here.stamp _ (mine (stranger here) (ap (λ (o : Option Thread). unwrap_or o (stranger here)) h))))
      (λ n. subst (λ (xs : List Span). Follow (xs ++ rest (threads_by (Some u) here l threads))) (sym (other t u here l (known threads u here) n))
      (begins (threads_by (Some u) here l threads) (elsewhere threads t u (after here l (known threads u here)) n ∙ h)))

chain : (t : Tid) (ss : List Said) (threads : List (Tid × Thread)) (x : Thread) → lookup (is_tid t) threads ≡ Some x → FollowFrom x.since.stamp (flat_map (span_in t) (drawn threads ss))
chain t [] threads x h = tt
chain t (s ∷ ss) threads x h =
    subst (λ xs. FollowFrom x.since.stamp xs) (sym (spans t s.0 s.1 threads (drawn (threads_at s.0 s.1 threads) ss)))
    (step t s.0 s.1 threads (λ now. flat_map (span_in t) (drawn now ss)) (chain t ss) (about s.1) x h)

start : (t : Tid) (ss : List Said) (threads : List (Tid × Thread)) → lookup (is_tid t) threads ≡ None → Follow (flat_map (span_in t) (drawn threads ss))
start t [] threads h = tt
start t (s ∷ ss) threads h =
    subst Follow (sym (spans t s.0 s.1 threads (drawn (threads_at s.0 s.1 threads) ss)))
    (first_step t s.0 s.1 threads (λ now. flat_map (span_in t) (drawn now ss)) (chain t ss) (start t ss) (about s.1) h)

-- the pieces of each thread follow one another
pub follow : (trace : List Entry) (t : Tid) → Follow (flat_map (span_in t) (drawn [] (said trace)))
follow trace t = start t (said trace) [] refl
