-- What each label draws, and the picture of a trace.
use Rattle.std.specs.Prelude.{ℕ, max, List, [], ◌∷◌, ◌++◌, length, map, Option, Some, None, Bool, true, false, if◌then◌else◌, nat_lt}
use Rattle.std.specs.List.{flat_map}
use Rattle.std.specs.BTreeMap.{insert_entry}
use Rattle.slot_space.specs.declared.names.Tid.{Tid}
use Rattle.run_trace.specs.Names.{tid_cmp}
use Rattle.run_trace.specs.declared.entry.Entry.{Entry}
use Rattle.run_trace.specs.declared.label.Label.{Label}
use Rattle.run_trace.specs.declared.label.Label.TheVariants.{Born, Ran, Heard, Told, Took, Gave, Ended, Known, Came, Lent, InHand, Decided, Returned, Home, Down, Burst, Gathered, Shown, Halted, Dropped}
use Rattle.run_trace.specs.declared.label.Why.{Why}
use Rattle.run_trace.specs.declared.label.Why.TheVariants as whys
use Rattle.pictures.specs.declared.moment.Moment.{Moment}
use Rattle.pictures.specs.declared.shape.Message.{Message}
use Rattle.pictures.specs.declared.shape.Message.TheVariants as carry
use Rattle.pictures.specs.declared.shape.Reason.{Reason}
use Rattle.pictures.specs.declared.shape.Reason.TheVariants.{Gone}
use Rattle.pictures.specs.declared.shape.Sign.{Sign}
use Rattle.pictures.specs.declared.shape.Sign.TheVariants as sign
use Rattle.pictures.specs.declared.shape.Shape.{Shape}
use Rattle.pictures.specs.declared.shape.Shape.TheVariants.{Bar, Wait, Arrow, Mark, NodeMark}
use Rattle.pictures.specs.declared.thread.Thread.{Thread}
use Rattle.pictures.specs.declared.window.Window.{Window}
use Rattle.pictures.specs.Moments.{moment, is_same, following}
use Rattle.pictures.specs.Windows.{kept}
use Rattle.pictures.specs.Threads.{known, about, next_reason, turn, after}

-- ## Bars and waits

-- the wait up to a stamp, where it takes any time
abbrev pub waited : Tid → ℕ → Thread → List Shape
waited t until x = if nat_lt x.since.stamp until then Wait t x.reason x.since until ∷ [] else []

-- the bar of a run that begins at this stamp
abbrev pub bars : Tid → Moment → Label → ℕ → List Shape
bars t here (Ran u vp count stop) begin = Bar t vp count stop (moment here.node begin) (following begin) ∷ []
bars t here _ begin = []

abbrev pub pieces_by : Tid → Moment → Label → Thread → Option Reason → List Shape
pieces_by t here l x None = []
pieces_by t here l x (Some reason) = waited t (turn here x) x ++ bars t here l (turn here x)

-- the wait that a label ends, and the run that it is
abbrev pub pieces : Tid → Moment → Label → Thread → List Shape
pieces t here l x = pieces_by t here l x (next_reason l)

-- ## Arrows

-- where an arrow begins: nowhere, where it would end in the same entry
abbrev pub earlier : Option Moment → Moment → Option Moment
earlier None here = None
earlier (Some from) here = if is_same from here then None else Some from

-- an arrow from there
abbrev pub arrow : Tid → Message → Option Moment → Moment → List Shape
arrow t carries None here = []
arrow t carries (Some from) here = Arrow t carries from here ∷ []

-- a thread that came begins where it left, be it in the same entry
abbrev pub arrows : Tid → Moment → Label → Thread → List Shape
arrows t here (Came u) x = arrow t carry.Thread x.left here
arrows t here (Heard u) x = arrow t carry.Join (earlier x.asked here) here
arrows t here (Shown u) x = arrow t carry.Line (earlier x.asked here) here
arrows t here (Told u) x = arrow t carry.Answer (earlier x.judged here) here
arrows t here (Known u) x = arrow t carry.EndNote (earlier x.ended here) here
arrows t here _ x = []

-- a remote call, from where it was asked to the birth of the thread that serves it
abbrev pub call : Moment → Label → List (Tid × Thread) → List Shape
call here (Born t (whys.Service by count) entry a0 a1 sp slot) threads = arrow by (carry.Call count) (earlier (known threads by here).asked here) here
call here _ threads = []

-- ## Marks

abbrev pub as_list : Option Shape → List Shape
as_list None = []
as_list (Some s) = s ∷ []

abbrev pub of_thread : Tid → Moment → Sign → List Shape
of_thread t here s = Mark t s here ∷ []

abbrev pub of_node : Moment → Sign → List Shape
of_node here s = NodeMark s here ∷ []

abbrev pub birth : Why → Sign
birth whys.Main = sign.BornMain
birth (whys.Create by) = sign.Created by.home by.seq
birth (whys.Inside by bubble) = sign.BornInside by.home by.seq bubble
birth (whys.Service by count) = sign.BornFor by.home by.seq count

abbrev pub node_marks : Moment → Label → List Shape
node_marks here (Lent to slots) = of_node here (sign.Lent to (length slots))
node_marks here (InHand lender slots) = of_node here (sign.InHand lender (length slots))
node_marks here (Returned to slots) = of_node here (sign.Returned to (length slots))
node_marks here (Home slots) = of_node here (sign.Home (length slots))
node_marks here (Down bubble list) = of_node here (sign.Down bubble list)
node_marks here (Burst bubble list) = of_node here (sign.Burst bubble list)
node_marks here (Gathered bubble count) = of_node here (sign.Gathered bubble count)
node_marks here _ = []

abbrev pub marks : Moment → Label → List Shape
marks here (Born t why entry a0 a1 sp slot) = of_thread t here (birth why)
marks here (Ended t end) = of_thread t here (sign.Ended end)
marks here (Shown t) = of_thread t here sign.Line
marks here (Halted t) = of_thread t here sign.Halted
marks here (Took t first count) = of_thread t here (sign.Took first count)
marks here (Gave t slots) = of_thread t here (sign.Gave (length slots))
marks here (Decided t count None) = of_thread t here (sign.Undecided count)
marks here (Decided t count (Some first)) = of_thread t here (sign.Decided count first)
marks here (Dropped t count reply) = of_thread t here (sign.Dropped count)
marks here l = node_marks here l

-- ## A trace

-- what a label draws of its thread, whatever other threads do
abbrev pub own : Tid → Moment → Label → Thread → List Shape
own t here l x = pieces t here l x ++ arrows t here l x

abbrev pub own_by : Option Tid → Moment → Label → List (Tid × Thread) → List Shape
own_by None here l threads = []
own_by (Some t) here l threads = own t here l (known threads t here)

-- what a label draws
abbrev pub shapes_at : Moment → Label → List (Tid × Thread) → List Shape
shapes_at here l threads = own_by (about l) here l threads ++ (call here l threads ++ marks here l)

abbrev pub threads_by : Option Tid → Moment → Label → List (Tid × Thread) → List (Tid × Thread)
threads_by None here l threads = threads
threads_by (Some t) here l threads = insert_entry tid_cmp threads t (after here l (known threads t here))

-- the threads after a label
abbrev pub threads_at : Moment → Label → List (Tid × Thread) → List (Tid × Thread)
threads_at here l threads = threads_by (about l) here l threads

-- a label with the moment of its entry
abbrev pub Said : Type 0
Said = Moment × Label

abbrev pub moment_of : Entry → Moment
moment_of x = moment x.node x.stamp

abbrev pub labels_at : Moment → List Label → List Said
labels_at here ls = map (λ l. (here, l)) ls

abbrev pub said_in : Entry → List Said
said_in x = labels_at (moment_of x) x.labels

-- all labels of a trace
abbrev pub said : List Entry → List Said
said trace = flat_map said_in trace

-- what labels draw, one after another
abbrev pub drawn : List (Tid × Thread) → List Said → List Shape
drawn threads [] = []
drawn threads (s ∷ ss) = shapes_at s.0 s.1 threads ++ drawn (threads_at s.0 s.1 threads) ss

abbrev pub threads_after : List (Tid × Thread) → List Said → List (Tid × Thread)
threads_after threads [] = threads
threads_after threads (s ∷ ss) = threads_after (threads_at s.0 s.1 threads) ss

-- ## The end of a trace

-- the stamp behind the last entry
abbrev pub end_of : List Entry → ℕ
end_of [] = 0
end_of (x ∷ xs) = max (following x.stamp) (end_of xs)

abbrev pub is_gone : Reason → Bool
is_gone Gone = true
is_gone _ = false

-- a thread that lives waits on, up to the end
abbrev pub left_over : ℕ → Tid × Thread → List Shape
left_over end e = if is_gone e.1.reason then [] else waited e.0 (max e.1.since.stamp end) e.1

-- what a trace draws: what its labels draw, and then the waits that last
abbrev pub shapes : List Entry → List Shape
shapes trace = drawn [] (said trace) ++ flat_map (left_over (end_of trace)) (threads_after [] (said trace))

-- the part of it in the window
abbrev pub picture : Window → List Entry → List Shape
picture w trace = kept w (shapes trace)
