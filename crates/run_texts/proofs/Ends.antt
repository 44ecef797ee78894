-- How the main thread ends, by the labels of one entry and those behind it.
use Rattle.std.proofs.Common.{◌≡◌, ◌∙◌, ℕ, ◌+◌, ◌<◌, List, [], ◌∷◌, ◌++◌, length, drop, get_or, drop-cons, add-one, suc, refl, ap, sym, Option, Some, None}
use Rattle.run_trace.specs.declared.entry.Entry.{Entry}
use Rattle.std.specs.Option.{option_or}
use Rattle.marcel_core.specs.declared.end.End.{End}
use Rattle.run_trace.specs.declared.label.Label.{Label}
use Rattle.run_texts.specs.Summaries.{end_in, labels_of, main_end}

or_or : (a b c : Option End) → option_or (option_or a b) c ≡ option_or a (option_or b c)
or_or None b c = refl
or_or (Some e) b c = refl

pub main_ends : (xs ys : List Label) → main_end (xs ++ ys) ≡ option_or (main_end xs) (main_end ys)
main_ends [] ys = refl
main_ends (l ∷ ls) ys = rw (main_ends ls ys, or_or (end_in l) (main_end ls) (main_end ys)) refl

-- an entry, and those behind it
pub next_entry : (trace : List Entry) (i : ℕ) (x : Entry) → i < length trace → x ≡ get_or trace i x
    → main_end (labels_of (drop i trace)) ≡ option_or (main_end x.labels) (main_end (labels_of (drop (i + 1) trace)))
next_entry trace i x less is =
    let whole : drop i trace ≡ x ∷ drop (i + 1) trace = rw add-one (drop-cons trace i x less ∙ ap (λ y. y ∷ drop (suc i) trace) (sym is)) in
    ap (λ l. main_end (labels_of l)) whole ∙ main_ends x.labels (labels_of (drop (i + 1) trace))
