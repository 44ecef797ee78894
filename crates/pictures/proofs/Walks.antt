-- Labels one after another.
use Rattle.std.proofs.Common.{◌≡◌, ℕ, suc, ◌+◌, ◌<◌, List, [], ◌∷◌, ◌++◌, length, drop, get_or, drop-cons, add-one, refl, sym, ap, ◌∙◌, append_assoc}
use Rattle.std.proofs.lemmas.Grind.{flat_map-append}
use Rattle.run_trace.specs.declared.entry.Entry.{Entry}
use Rattle.run_trace.specs.declared.label.Label.{Label}
use Rattle.pictures.specs.declared.moment.Moment.{Moment}
use Rattle.pictures.specs.declared.window.Window.{Window}
use Rattle.pictures.specs.Windows.{if_within, kept}
use Rattle.slot_space.specs.declared.names.Tid.{Tid}
use Rattle.pictures.specs.declared.shape.Shape.{Shape}
use Rattle.pictures.specs.declared.thread.Thread.{Thread}
use Rattle.pictures.specs.Drawing.{Said, drawn, threads_after, threads_at, shapes_at, said, said_in, labels_at, moment_of}

-- what more labels draw stands behind
pub drawn_more : (threads : List (Tid × Thread)) (a b : List Said) → drawn threads (a ++ b) ≡ drawn threads a ++ drawn (threads_after threads a) b
drawn_more threads [] b = refl
drawn_more threads (s ∷ a) b =
    let now = threads_at s.0 s.1 threads in
    ap (λ (xs : List Shape). shapes_at s.0 s.1 threads ++ xs) (drawn_more now a b) ∙ sym (append_assoc (shapes_at s.0 s.1 threads) (drawn now a) (drawn (threads_after now a) b))

pub threads_more : (threads : List (Tid × Thread)) (a b : List Said) → threads_after threads (a ++ b) ≡ threads_after (threads_after threads a) b
threads_more threads [] b = refl
threads_more threads (s ∷ a) b = threads_more (threads_at s.0 s.1 threads) a b

-- after an entry, what is left of a trace gives what all gave before it
pub entry_step : (w : Window) (threads now : List (Tid × Thread)) (shapes more : List Shape) (trace : List Entry) (i : ℕ) (x : Entry) (here : Moment) (labels : List Label)
    → i < length trace → x ≡ get_or trace i x → here ≡ moment_of x → labels ≡ x.labels → more ≡ shapes ++ kept w (drawn threads (labels_at here labels)) → now ≡ threads_after threads (labels_at here labels)
    → (more ++ kept w (drawn now (said (drop (i + 1) trace))) ≡ shapes ++ kept w (drawn threads (said (drop i trace))))
    × (threads_after now (said (drop (i + 1) trace)) ≡ threads_after threads (said (drop i trace)))
entry_step w threads now shapes more trace i x here labels less is at same s t =
    let rest = said (drop (i + 1) trace) in
    let a = drawn threads (said_in x) in
    let b = drawn (threads_after threads (said_in x)) rest in
    let whole : drop i trace ≡ x ∷ drop (i + 1) trace = rw add-one (drop-cons trace i x less ∙ ap (λ y. y ∷ drop (suc i) trace) (sym is)) in
    let all : said (drop i trace) ≡ said_in x ++ rest = ap said whole in
    let one : labels_at here labels ≡ said_in x = ap (λ m. labels_at m labels) at ∙ ap (λ ls. labels_at (moment_of x) ls) same in
    let s2 : more ≡ shapes ++ kept w a = s ∙ ap (λ ss. shapes ++ kept w (drawn threads ss)) one in
    let t2 : now ≡ threads_after threads (said_in x) = t ∙ ap (threads_after threads) one in (
      ap (λ (xs : List Shape). xs ++ kept w (drawn now rest)) s2 ∙ ap (λ ts. (shapes ++ kept w a) ++ kept w (drawn ts rest)) t2 ∙ append_assoc shapes (kept w a) (kept w b)
          ∙ ap (λ (xs : List Shape). shapes ++ xs) (sym (flat_map-append (if_within w) a b) ∙ ap (kept w) (sym (drawn_more threads (said_in x) rest)) ∙ ap (λ ss. kept w (drawn threads ss)) (sym all)),
      ap (λ ts. threads_after ts rest) t2 ∙ sym (threads_more threads (said_in x) rest) ∙ ap (threads_after threads) (sym all),
    )
