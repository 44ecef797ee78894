-- A trace's text, both ways.
use Rattle.std.proofs.Common.{◌≡◌, ℕ, ◌+◌, ◌<◌, Bool, true, false, eqb, ltb, List, [], ◌∷◌, ◌++◌, length, Option, Some, None, Result, Ok, Err, refl, sym, ap, subst, ◌∙◌, inl, inr, append_assoc, arith}
use Rattle.std.specs.Prelude.{map, codes, IfOk}
use Rattle.std.specs.List.{flat_map, join_with_byte, AllByRecursion, list_all}
use Rattle.std.specs.Str.{bytes_eq}
use Rattle.std.proofs.lemmas.Bool.{cases_Bool, ne_eqb, ltb-true, lt-ltb, and_parts}
use Rattle.std.proofs.lemmas.List.{append-nil}
use Rattle.std.proofs.lemmas.List.Concat.{flat_map-append}
use Rattle.std.proofs.lemmas.List.Folds.{list_all-append}
use Rattle.std.proofs.lemmas.List.Elements.{All-from_recursion}
use Rattle.std.proofs.lemmas.List.Splits.{join_with_byte-slice_split}
use Rattle.std.proofs.lemmas.Slice.Eq.{bytes_eq-Decides}
use Rattle.run_trace.specs.declared.entry.Entry.{Entry}
use Rattle.run_trace.specs.declared.label.Label.{Label}
use Rattle.trace_text.specs.declared.lines.Line.{Line}
use Rattle.trace_text.specs.declared.lines.Line.TheVariants.{Head, Said}
use Rattle.trace_text.specs.declared.error.TextError.{TextError}
use Rattle.trace_text.specs.Lines.{spaced, words_text, head_words, label_words, line_text, entry_lines, trace_lines, trace_text}
use Rattle.trace_text.specs.Fits.{Fits, FitsTrace}
use Rattle.trace_text.specs.Reading.{parts, label_named, head}
use Rattle.trace_text.specs.Texts.{ended, head_line, label_line, line_in, line_at, Read, with_labels, onto, at_line, read_from, closed, read_trace, Reads}
use Rattle.trace_text.proofs.Digits.{some_parts}
use Rattle.trace_text.proofs.LineFacts.{read_line}
use Rattle.trace_text.proofs.OneWord.{plain, some_is, bind_some, IsApart, last_part, first_part}
use Rattle.trace_text.proofs.Sound.{IsHead, label_sound, head_sound}
use Rattle.trace_text.proofs.Again.{label_again, head_again}
use Rattle.trace_text.proofs.Plain.{all_plain, label_plain, head_plain}

abbrev said_text : List Label → List ℕ
said_text ls = flat_map line_text (map label_words ls)

-- ---- cutting

blank_free : (w : List ℕ) → plain w ≡ true → AllByRecursion (λ b. eqb b 32 ≡ false) w
blank_free [] h = tt
blank_free (b ∷ w) h =
    let p = and_parts (ltb 32 b) (plain w) h in
    (ne_eqb b 32 (λ e. absurd (omega (arith, ltb-true 32 b p.0, e))), blank_free w p.1)

blanks_apart : (w : List ℕ) → plain w ≡ true → IsApart 32 w
blanks_apart w h = All-from_recursion (λ b. eqb b 32 ≡ false) w (blank_free w h)

abbrev visible : List ℕ → Bool
visible w = list_all (λ b. ltb 31 b) w

to_visible : (w : List ℕ) → plain w ≡ true → visible w ≡ true
to_visible [] h = refl
to_visible (b ∷ w) h =
    let p = and_parts (ltb 32 b) (plain w) h in
    rw (lt-ltb 31 b (omega (arith, ltb-true 32 b p.0)), to_visible w p.1) refl

spaced_visible : (ws : List (List ℕ)) → all_plain ws ≡ true → visible (spaced ws) ≡ true
spaced_visible [] h = refl
spaced_visible (w ∷ ws) h =
    let p = and_parts (plain w) (all_plain ws) h in
    list_all-append (λ b. ltb 31 b) (32 ∷ w) (spaced ws) ∙ rw (to_visible w p.0, spaced_visible ws p.1) refl

words_visible : (ws : List (List ℕ)) → all_plain ws ≡ true → visible (words_text ws) ≡ true
words_visible [] h = refl
words_visible (w ∷ ws) h =
    let p = and_parts (plain w) (all_plain ws) h in
    list_all-append (λ b. ltb 31 b) w (spaced ws) ∙ rw (to_visible w p.0, spaced_visible ws p.1) refl

newline_free : (w : List ℕ) → visible w ≡ true → AllByRecursion (λ b. eqb b 10 ≡ false) w
newline_free [] h = tt
newline_free (b ∷ w) h =
    let p = and_parts (ltb 31 b) (visible w) h in
    (ne_eqb b 10 (λ e. absurd (omega (arith, ltb-true 31 b p.0, e))), newline_free w p.1)

words_cut : (w : List ℕ) (ws : List (List ℕ)) → plain w ≡ true → all_plain ws ≡ true → parts 32 (words_text (w ∷ ws)) ≡ w ∷ ws
words_cut w [] h k = ap (parts 32) (append-nil w) ∙ last_part 32 w (blanks_apart w h)
words_cut w (v ∷ ws) h k =
    let p = and_parts (plain v) (all_plain ws) k in
    first_part 32 w (v ++ spaced ws) (blanks_apart w h) ∙ ap (λ (vs : List (List ℕ)). w ∷ vs) (words_cut v ws p.0 p.1)

line_cut : (ws : List (List ℕ)) (rest : List ℕ) → all_plain ws ≡ true → parts 10 (line_text ws ++ rest) ≡ words_text ws ∷ parts 10 rest
line_cut ws rest h =
    ap (parts 10) (append_assoc (words_text ws) (10 ∷ []) rest)
    ∙ first_part 10 (words_text ws) rest (All-from_recursion (λ b. eqb b 10 ≡ false) (words_text ws) (newline_free (words_text ws) (words_visible ws h)))

-- ---- what is written is read again

line_again : (ws : List (List ℕ)) (x : Line) → all_plain ws ≡ true → line_in ws ≡ Some x → line_at (words_text ws) ≡ Some x
unfolding line_at
line_again [] x h e = absurd cc
line_again (w ∷ ws) x h e = let p = and_parts (plain w) (all_plain ws) h in ap line_in (words_cut w ws p.0 p.1) ∙ e

line_step : (i : ℕ) (ws : List (List ℕ)) (x : Line) (rest : List ℕ) → all_plain ws ≡ true → line_in ws ≡ Some x → read_from i (parts 10 (line_text ws ++ rest)) ≡ onto i x (read_from (i + 1) (parts 10 rest))
line_step i ws x rest h e =
    read_line i (line_text ws ++ rest) (words_text ws) rest (line_cut ws rest h) ∙ ap (λ (o : Option Line). at_line i o (read_from (i + 1) (parts 10 rest))) (line_again ws x h e)

abbrev ok : List Label × List Entry → Read
ok r = Ok r

abbrev with_more : List Label → List Label × List Entry → List Label × List Entry
with_more ls r = (ls ++ r.0, r.1)

labels_again : (ls : List Label) (rest : List ℕ) (r : List Label × List Entry) → AllByRecursion Fits ls → ((k : ℕ) → 1 < k → read_from k (parts 10 rest) ≡ Ok r) → (i : ℕ) → 1 < i → read_from i (parts 10 (said_text ls ++ rest)) ≡ ok (with_more ls r)
labels_again [] rest r fits later i lt = later i lt
labels_again (l ∷ ls) rest r fits later i lt =
    let more : eqb i 1 ≡ false = ne_eqb i 1 (λ e. absurd (omega (arith, e, lt))) in
    ap (λ (t : List ℕ). read_from i (parts 10 t)) (append_assoc (line_text (label_words l)) (said_text ls) rest)
    ∙ line_step i (label_words l) (Said l) (said_text ls ++ rest) (label_plain l fits.0) (label_again l fits.0)
    ∙ ap (onto i (Said l)) (labels_again ls rest r fits.1 later (i + 1) (omega (arith, lt)))
    ∙ rw more refl

entry_text : (x : Entry) (xs : List Entry) → trace_text (x ∷ xs) ≡ line_text (head_words x) ++ (said_text x.labels ++ trace_text xs)
entry_text x xs = flat_map-append line_text (entry_lines x) (trace_lines xs) ∙ append_assoc (line_text (head_words x)) (said_text x.labels) (trace_text xs)

entries_again : (xs : List Entry) → FitsTrace xs → (i : ℕ) → 0 < i → read_from i (parts 10 (trace_text xs)) ≡ ok ([], xs)
entries_again [] fits i lt = refl
entries_again (x ∷ xs) fits i lt =
    let later : (k : ℕ) → 1 < k → read_from k (parts 10 (trace_text xs)) ≡ ok ([], xs) = λ k more. entries_again xs fits.1 k (omega (arith, more)) in
    let labels : read_from (i + 1) (parts 10 (said_text x.labels ++ trace_text xs)) ≡ ok (with_more x.labels ([], xs)) = labels_again x.labels (trace_text xs) ([], xs) fits.0.1 later (i + 1) (omega (arith, lt)) in
    ap (λ (t : List ℕ). read_from i (parts 10 t)) (entry_text x xs)
    ∙ line_step i (head_words x) (Head (with_labels x [])) (said_text x.labels ++ trace_text xs) (head_plain x fits.0.0) (head_again x fits.0.0)
    ∙ ap (onto i (Head (with_labels x []))) labels
    ∙ ap (λ (ls : List Label). ok ([], with_labels x ls ∷ xs)) (append-nil x.labels)

pub trace_again : (xs : List Entry) → FitsTrace xs → read_trace (trace_text xs) ≡ Ok xs
unfolding read_trace
trace_again xs fits = ap (closed [] None []) (entries_again xs fits 1 (omega arith))

-- ---- what is read was written

abbrev IsOf : Line → List (List ℕ) → Type 0
IsOf (Head x) ws = IsHead x × (head_words x ≡ ws)
IsOf (Said l) ws = Fits l × (label_words l ≡ ws)

ended_some : {X : Type 0} (x y : X) (ws : List (List ℕ)) → ended x ws ≡ Some y → (ws ≡ []) × (x ≡ y)
ended_some x y [] e = (refl, some_is x y e)
ended_some x y (w ∷ ws) e = absurd cc

line_in_sound : (ws : List (List ℕ)) (x : Line) → line_in ws ≡ Some x → IsOf x ws
line_in_sound [] x e = absurd cc
line_in_sound (w ∷ ws) x e =
    elim (cases_Bool (bytes_eq w (codes "@"))) [
      | inl is ↦
          let now : head_line ws ≡ Some x = rw is at e in
          let p = bind_some (head ws) (λ (p : Entry × List (List ℕ)). ended (Head p.0) p.1) x now in
          let q = ended_some (Head p.0.0) x p.0.1 p.2 in
          let s = head_sound ws p.0.0 p.0.1 p.1 in
          let whole : head_words p.0.0 ≡ w ∷ ws = sym (append-nil (head_words p.0.0)) ∙ ap (λ (v : List (List ℕ)). head_words p.0.0 ++ v) (sym q.0) ∙ s.1 ∙ ap (λ (v : List ℕ). v ∷ ws) (sym ((bytes_eq-Decides w (codes "@")).0 is)) in
          let here : IsOf (Head p.0.0) (w ∷ ws) = (s.0, whole) in
          subst (λ (y : Line). IsOf y (w ∷ ws)) q.1 here
      | inr isnt ↦
          let now : label_line w ws ≡ Some x = rw isnt at e in
          let p = bind_some (label_named w ws) (λ (p : Label × List (List ℕ)). ended (Said p.0) p.1) x now in
          let q = ended_some (Said p.0.0) x p.0.1 p.2 in
          let s = label_sound w ws p.0.0 p.0.1 p.1 in
          let whole : label_words p.0.0 ≡ w ∷ ws = sym (append-nil (label_words p.0.0)) ∙ ap (λ (v : List (List ℕ)). label_words p.0.0 ++ v) (sym q.0) ∙ s.1 in
          let here : IsOf (Said p.0.0) (w ∷ ws) = (s.0, whole) in
          subst (λ (y : Line). IsOf y (w ∷ ws)) q.1 here
    ]

words_joined : (w : List ℕ) (ws : List (List ℕ)) → words_text (w ∷ ws) ≡ join_with_byte 32 (w ∷ ws)
words_joined w [] = append-nil w
words_joined w (v ∷ ws) = ap (λ (t : List ℕ). w ++ 32 ∷ t) (words_joined v ws)

joined_words : (ws : List (List ℕ)) → words_text ws ≡ join_with_byte 32 ws
joined_words [] = refl
joined_words (w ∷ ws) = words_joined w ws

-- this line is written so
abbrev pub IsText : Line → List ℕ → Type 0
IsText (Head x) bs = IsHead x × (words_text (head_words x) ≡ bs)
IsText (Said l) bs = Fits l × (words_text (label_words l) ≡ bs)

as_text : (x : Line) (ws : List (List ℕ)) → IsOf x ws → IsText x (words_text ws)
as_text (Head x) ws h = (h.0, ap words_text h.1)
as_text (Said l) ws h = (h.0, ap words_text h.1)

line_sound : (bs : List ℕ) (x : Line) → line_at bs ≡ Some x → IsText x bs
unfolding line_at
line_sound bs x e = subst (IsText x) (joined_words (parts 32 bs) ∙ join_with_byte-slice_split 32 bs) (as_text x (parts 32 bs) (line_in_sound (parts 32 bs) x e))

ok_is : (r s : List Label × List Entry) → ok r ≡ ok s → r ≡ s
ok_is r s e = cc

abbrev both : List Label → List Entry → List Label × List Entry
both ls es = (ls, es)

both_is : (ls ms : List Label) (es fs : List Entry) → ok (both ls es) ≡ ok (both ms fs) → (ls ≡ ms) × (es ≡ fs)
both_is ls ms es fs e = let p = ok_is (both ls es) (both ms fs) e in (ap (λ (r : List Label × List Entry). r.0) p, ap (λ (r : List Label × List Entry). r.1) p)

head_onto : (i : ℕ) (x : Entry) (r : Read) (ls : List Label) (es : List Entry) → onto i (Head x) r ≡ ok (both ls es) → (q : List Label × List Entry) × (r ≡ Ok q) × ([] ≡ ls) × (with_labels x q.0 ∷ q.1 ≡ es)
head_onto i x (Ok q) ls es e = let p = both_is [] ls (with_labels x q.0 ∷ q.1) es e in (q, refl, p.0, p.1)
head_onto i x (Err k) ls es e = absurd cc

said_onto : (i : ℕ) (l : Label) (r : Read) (ls : List Label) (es : List Entry) → onto i (Said l) r ≡ ok (both ls es) → (q : List Label × List Entry) × (r ≡ Ok q) × (l ∷ q.0 ≡ ls) × (q.1 ≡ es) × (eqb i 1 ≡ false)
said_onto i l (Ok q) ls es e =
    elim (cases_Bool (eqb i 1)) [
      | inl is ↦ let no : Err 1 ≡ ok (both ls es) = rw is at e in absurd cc
      | inr isnt ↦ let now : ok (both (l ∷ q.0) q.1) ≡ ok (both ls es) = rw isnt at e in let p = both_is (l ∷ q.0) ls q.1 es now in (q, refl, p.0, p.1, isnt)
    ]
said_onto i l (Err k) ls es e =
    elim (cases_Bool (eqb i 1)) [
      | inl is ↦ let no : Err 1 ≡ ok (both ls es) = rw is at e in absurd cc
      | inr isnt ↦ let no : Err k ≡ ok (both ls es) = rw isnt at e in absurd cc
    ]

abbrev AreWritten : List Label → List Entry → List ℕ → Type 0
AreWritten ls es bs = AllByRecursion Fits ls × FitsTrace es × (said_text ls ++ trace_text es ≡ bs)

last_sound : (i : ℕ) (l : List ℕ) (ls : List Label) (es : List Entry) → read_from i (l ∷ []) ≡ ok (both ls es) → ([] ≡ ls) × ([] ≡ es) × (l ≡ [])
last_sound i [] ls es e = let p = both_is [] ls [] es e in (p.0, p.1, refl)
last_sound i (b ∷ l) ls es e =
    let ne : eqb (length (b ∷ l)) 0 ≡ false = ne_eqb (length (b ∷ l)) 0 (λ z. absurd (omega (arith, z))) in
    let no : Err i ≡ ok (both ls es) = rw ne at e in
    absurd cc

line_written : (i : ℕ) (l rest : List ℕ) (o : Option Line) (r : Read) (ls : List Label) (es : List Entry) → line_at l ≡ o → at_line i o r ≡ ok (both ls es) → ((ms : List Label) (fs : List Entry) → r ≡ ok (both ms fs) → AreWritten ms fs rest) → AreWritten ls es (l ++ 10 ∷ rest)
line_written i l rest None r ls es e f h = absurd cc
line_written i l rest (Some (Head x)) r ls es e f h =
    let q = head_onto i x r ls es f in
    let s = line_sound l (Head x) e in
    let later = h q.0.0 q.0.1 q.1 in
    let fits : FitsTrace (with_labels x q.0.0 ∷ q.0.1) = ((s.0.0, later.0), later.1) in
    let text : trace_text (with_labels x q.0.0 ∷ q.0.1) ≡ l ++ 10 ∷ rest =
    entry_text (with_labels x q.0.0) q.0.1 ∙ append_assoc (words_text (head_words x)) (10 ∷ []) (said_text q.0.0 ++ trace_text q.0.1)
    ∙ ap (λ (t : List ℕ). t ++ 10 ∷ (said_text q.0.0 ++ trace_text q.0.1)) s.1 ∙ ap (λ (t : List ℕ). l ++ 10 ∷ t) later.2 in
    let here : AreWritten [] (with_labels x q.0.0 ∷ q.0.1) (l ++ 10 ∷ rest) = (tt, fits, text) in
    subst (λ (fs : List Entry). AreWritten ls fs (l ++ 10 ∷ rest)) q.3 (subst (λ (ms : List Label). AreWritten ms (with_labels x q.0.0 ∷ q.0.1) (l ++ 10 ∷ rest)) q.2 here)
line_written i l rest (Some (Said x)) r ls es e f h =
    let q = said_onto i x r ls es f in
    let s = line_sound l (Said x) e in
    let later = h q.0.0 q.0.1 q.1 in
    let text : said_text (x ∷ q.0.0) ++ trace_text q.0.1 ≡ l ++ 10 ∷ rest =
    append_assoc (line_text (label_words x)) (said_text q.0.0) (trace_text q.0.1) ∙ append_assoc (words_text (label_words x)) (10 ∷ []) (said_text q.0.0 ++ trace_text q.0.1)
    ∙ ap (λ (t : List ℕ). t ++ 10 ∷ (said_text q.0.0 ++ trace_text q.0.1)) s.1 ∙ ap (λ (t : List ℕ). l ++ 10 ∷ t) later.2 in
    let here : AreWritten (x ∷ q.0.0) q.0.1 (l ++ 10 ∷ rest) = ((s.0, later.0), later.1, text) in
    subst (λ (fs : List Entry). AreWritten ls fs (l ++ 10 ∷ rest)) q.3 (subst (λ (ms : List Label). AreWritten ms q.0.1 (l ++ 10 ∷ rest)) q.2 here)

lines_sound : (i : ℕ) (ps : List (List ℕ)) (ls : List Label) (es : List Entry) → 0 < length ps → read_from i ps ≡ ok (both ls es) → AreWritten ls es (join_with_byte 10 ps)
lines_sound i [] ls es lt e = absurd (omega arith)
lines_sound i (l ∷ []) ls es lt e =
    let p = last_sound i l ls es e in
    let here : AreWritten [] [] l = (tt, tt, sym p.2) in
    subst (λ (fs : List Entry). AreWritten ls fs l) p.1 (subst (λ (ms : List Label). AreWritten ms [] l) p.0 here)
lines_sound i (l ∷ p ∷ ps) ls es lt e =
    line_written i l (join_with_byte 10 (p ∷ ps)) (line_at l) (read_from (i + 1) (p ∷ ps)) ls es refl e (λ ms fs f. lines_sound (i + 1) (p ∷ ps) ms fs (omega arith) f)

-- no label stands before the first head
first_line : (l : List ℕ) (o : Option Line) (r : Read) (ls : List Label) (es : List Entry) → at_line 1 o r ≡ ok (both ls es) → [] ≡ ls
first_line l None r ls es e = absurd cc
first_line l (Some (Head x)) r ls es e = (head_onto 1 x r ls es e).2
first_line l (Some (Said x)) r ls es e = let q = said_onto 1 x r ls es e in let no : true ≡ false = q.4 in absurd cc

no_labels : (ps : List (List ℕ)) (ls : List Label) (es : List Entry) → read_from 1 ps ≡ ok (both ls es) → [] ≡ ls
no_labels [] ls es e = (both_is [] ls [] es e).0
no_labels (l ∷ []) ls es e = (last_sound 1 l ls es e).0
no_labels (l ∷ p ∷ ps) ls es e = first_line l (line_at l) (read_from 2 (p ∷ ps)) ls es e

closed_ok : (r : Read) (es : List Entry) → closed [] None [] r ≡ Ok es → (q : List Label × List Entry) × (r ≡ Ok q) × (q.1 ≡ es)
closed_ok (Ok q) es e = (q, refl, cc)
closed_ok (Err k) es e = absurd cc

pub trace_sound : (text : List ℕ) (es : List Entry) → read_trace text ≡ Ok es → FitsTrace es × (text ≡ trace_text es)
unfolding read_trace
trace_sound text es e =
    let q = closed_ok (read_from 1 (parts 10 text)) es e in
    let none = no_labels (parts 10 text) q.0.0 q.0.1 q.1 in
    let s = lines_sound 1 (parts 10 text) q.0.0 q.0.1 (some_parts 10 text) q.1 in
    let text_is : trace_text q.0.1 ≡ text = ap (λ (ls : List Label). said_text ls ++ trace_text q.0.1) none ∙ s.2 ∙ join_with_byte-slice_split 10 text in
    (subst FitsTrace q.2 s.1, sym text_is ∙ ap trace_text q.2)

pub read_ok : {X : Type 0} (view : X → List Entry) (r : Result X TextError) (text : List ℕ) → Reads view r (read_trace text) → IfOk r (λ v. FitsTrace (view v) × (text ≡ trace_text (view v)))
read_ok view (Ok v) text h = trace_sound text (view v) h
read_ok view (Err e) text h = tt
