-- The text of a trace.
use Rattle.std.specs.Prelude.{ℕ, List, [], ◌∷◌, ◌++◌, Option, Some, None, Bool, true, false, map, codes, decimal}
use Rattle.std.specs.List.{flat_map}
use Rattle.run_trace.specs.declared.entry.Entry.{Entry}
use Rattle.run_trace.specs.declared.label.Label.{Label}
use Rattle.run_trace.specs.declared.label.Label.TheVariants.{Born, Ran, Asked, Heard, Judged, Told, Took, Gave, Ended, Known, Left, Came, Lent, InHand, Decided, Returned, Home, Down, Burst, Gathered, Shown, Halted, Dropped}
use Rattle.trace_text.specs.Calls.{CallRow, call_numbered}
use Rattle.trace_text.specs.Words.{tid_text, slots_text, bytes_text, reply_text, stop_text, first_text, act_words, why_words, end_words, extra_words}

-- words, with a blank before each but the first
abbrev pub spaced : List (List ℕ) → List ℕ
spaced ws = flat_map (λ w. 32 ∷ w) ws

abbrev pub words_text : List (List ℕ) → List ℕ
words_text [] = []
words_text (w ∷ ws) = w ++ spaced ws

-- the first line of an entry, without its newline
abbrev pub head_words : Entry → List (List ℕ)
head_words x = codes "@" ∷ decimal x.stamp ∷ decimal x.node ∷ decimal x.round ∷ act_words x.act

abbrev pub said_words : Bool → List ℕ → List (List ℕ)
said_words false bytes = []
said_words true bytes = bytes_text bytes ∷ []

-- a call by its name, or by its number where no call has it; the bytes are told of those calls alone that name some
abbrev pub asked_words : Option CallRow → ℕ → List ℕ → List ℕ → List (List ℕ)
asked_words None call args bytes = codes "unknown" ∷ decimal call ∷ map decimal args
asked_words (Some r) call args bytes = r.name ∷ (map decimal args ++ said_words r.says bytes)

-- the line of a label
abbrev pub label_words : Label → List (List ℕ)
label_words (Born t why entry a0 a1 sp slot) = codes "born" ∷ tid_text t ∷ (why_words why ++ decimal entry ∷ decimal a0 ∷ decimal a1 ∷ decimal sp ∷ decimal slot ∷ [])
label_words (Ran t vp count stop) = codes "ran" ∷ tid_text t ∷ decimal vp ∷ decimal count ∷ stop_text stop ∷ []
label_words (Asked t call args bytes) = codes "asked" ∷ tid_text t ∷ asked_words (call_numbered call) call args bytes
label_words (Heard t) = codes "heard" ∷ tid_text t ∷ []
label_words (Judged t reply extra) = codes "judged" ∷ tid_text t ∷ reply_text reply ∷ extra_words extra
label_words (Told t) = codes "told" ∷ tid_text t ∷ []
label_words (Took t first count) = codes "took" ∷ tid_text t ∷ decimal first ∷ decimal count ∷ []
label_words (Gave t slots) = codes "gave" ∷ tid_text t ∷ slots_text slots ∷ []
label_words (Ended t end) = codes "ended" ∷ tid_text t ∷ end_words end
label_words (Known t) = codes "known" ∷ tid_text t ∷ []
label_words (Left t to) = codes "left" ∷ tid_text t ∷ decimal to ∷ []
label_words (Came t) = codes "came" ∷ tid_text t ∷ []
label_words (Lent to slots) = codes "lent" ∷ decimal to ∷ slots_text slots ∷ []
label_words (InHand lender slots) = codes "inhand" ∷ decimal lender ∷ slots_text slots ∷ []
label_words (Decided t count first) = codes "decided" ∷ tid_text t ∷ decimal count ∷ first_text first ∷ []
label_words (Returned to slots) = codes "returned" ∷ decimal to ∷ slots_text slots ∷ []
label_words (Home slots) = codes "home" ∷ slots_text slots ∷ []
label_words (Down bubble list) = codes "down" ∷ decimal bubble ∷ decimal list ∷ []
label_words (Burst bubble list) = codes "burst" ∷ decimal bubble ∷ decimal list ∷ []
label_words (Gathered bubble count) = codes "gathered" ∷ decimal bubble ∷ decimal count ∷ []
label_words (Shown t) = codes "shown" ∷ tid_text t ∷ []
label_words (Halted t) = codes "halted" ∷ tid_text t ∷ []
label_words (Dropped t count reply) = codes "dropped" ∷ tid_text t ∷ decimal count ∷ reply_text reply ∷ []

-- a line: words and a newline
abbrev pub line_text : List (List ℕ) → List ℕ
line_text ws = words_text ws ++ 10 ∷ []

-- the lines of an entry: its head, and one for each label
abbrev pub entry_lines : Entry → List (List (List ℕ))
entry_lines x = head_words x ∷ map label_words x.labels

abbrev pub trace_lines : List Entry → List (List (List ℕ))
trace_lines xs = flat_map entry_lines xs

-- the text of a trace: the lines of each entry in turn
abbrev pub trace_text : List Entry → List ℕ
trace_text xs = flat_map line_text (trace_lines xs)
