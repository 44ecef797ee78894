-- A text read as a trace.
use Rattle.std.specs.Prelude.{◌≡◌, ℕ, ◌+◌, ◌++◌, List, [], ◌∷◌, Option, Some, None, Result, Ok, Err, length, codes, ◌==◌, if◌then◌else◌}
use Rattle.std.specs.Str.{bytes_eq}
use Rattle.run_trace.specs.declared.entry.Entry.{Entry}
use Rattle.run_trace.specs.declared.label.Label.{Label}
use Rattle.trace_text.specs.declared.lines.Line.{Line}
use Rattle.trace_text.specs.declared.lines.Line.TheVariants.{Head, Said}
use Rattle.trace_text.specs.declared.lines.Reading.{Reading}
use Rattle.trace_text.specs.declared.error.TextError.{TextError}
use Rattle.trace_text.specs.declared.error.TextError.TheVariants as error
use Rattle.trace_text.specs.Reading.{◌>>=◌, parts, label_named, head}

-- where no word is left
abbrev pub ended : {X : Type 0} → X → List (List ℕ) → Option X
ended x [] = Some x
ended x (w ∷ ws) = None

abbrev pub head_line : List (List ℕ) → Option Line
head_line ws = head ws >>= λ p. ended (Head p.0) p.1

abbrev pub label_line : List ℕ → List (List ℕ) → Option Line
label_line w ws = label_named w ws >>= λ p. ended (Said p.0) p.1

abbrev pub line_in : List (List ℕ) → Option Line
line_in [] = None
line_in (w ∷ ws) = if bytes_eq w (codes "@") then head_line ws else label_line w ws

-- what a line says
unfoldable pub line_at : List ℕ → Option Line
line_at bs = line_in (parts 32 bs)

-- labels of an entry that began before, and the entries behind it; or the first line that is none
abbrev pub Read : Type 0
Read = Result (List Label × List Entry) ℕ

abbrev pub with_labels : Entry → List Label → Entry
with_labels x ls = record { stamp = x.stamp; node = x.node; round = x.round; act = x.act; labels = ls }

-- this line onto what stands behind it; the first line is a head
abbrev pub onto : ℕ → Line → Read → Read
onto i (Head x) (Ok r) = Ok ([], with_labels x r.0 ∷ r.1)
onto i (Head x) (Err k) = Err k
onto i (Said l) (Ok r) = if i == 1 then Err 1 else Ok (l ∷ r.0, r.1)
onto i (Said l) (Err k) = if i == 1 then Err 1 else Err k

abbrev pub at_line : ℕ → Option Line → Read → Read
at_line i None r = Err i
at_line i (Some x) r = onto i x r

-- the lines from number i on; each ends with a newline, so the last part is empty
abbrev pub read_from : ℕ → List (List ℕ) → Read
read_from i [] = Ok ([], [])
read_from i (l ∷ []) = if length l == 0 then Ok ([], []) else Err i
read_from i (l ∷ m ∷ ls) = at_line i (line_at l) (read_from (i + 1) (m ∷ ls))

-- the entries that are done, and the last one with its labels
abbrev pub shut : List Entry → Option Entry → List Label → List Entry
shut done None labels = done
shut done (Some x) labels = done ++ with_labels x labels ∷ []

-- what was read, before what is read behind it
abbrev pub closed : List Entry → Option Entry → List Label → Read → Result (List Entry) ℕ
closed done last labels (Ok r) = Ok (shut done last (labels ++ r.0) ++ r.1)
closed done last labels (Err i) = Err i

abbrev pub with_rest : Reading → Read → Result (List Entry) ℕ
with_rest x r = closed x.done.items x.last x.labels.items r

unfoldable pub read_trace : List ℕ → Result (List Entry) ℕ
read_trace text = closed [] None [] (read_from 1 (parts 10 text))

-- the entries, or the first bad line, or there was no memory
abbrev pub Fails : TextError → Result (List Entry) ℕ → Type 0
Fails error.NoMemory read = Unit {0}
Fails (error.BadLine i) read = read ≡ Err i

abbrev pub Reads : {X : Type 0} → (X → List Entry) → Result X TextError → Result (List Entry) ℕ → Type 0
Reads view (Ok x) read = read ≡ Ok (view x)
Reads view (Err e) read = Fails e read

-- after line i
abbrev pub Goes : ℕ → Option Line → Reading → Result Reading TextError → Type 0
Goes i x old (Ok new) = (r : Read) → with_rest new r ≡ with_rest old (at_line i x r)
Goes i x old (Err e) = (r : Read) → Fails e (with_rest old (at_line i x r))
