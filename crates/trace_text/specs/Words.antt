-- How numbers, names, lists and acts are written in the text of a trace.
use Rattle.std.specs.Prelude.{ℕ, ◌+◌, ◌-◌, ◌/◌, ◌%◌, ◌^◌, List, [], ◌∷◌, ◌++◌, Option, Some, None, codes, decimal, nat_lt, if◌then◌else◌}
use Rattle.std.specs.List.{flat_map}
use Rattle.slot_space.specs.declared.names.Tid.{Tid}
use Rattle.rv_step.specs.declared.hart.FaultKind.{FaultKind}
use Rattle.rv_step.specs.declared.hart.FaultKind.TheVariants as kinds
use Rattle.rv_step.specs.declared.hart.Stop.{Stop}
use Rattle.rv_step.specs.declared.hart.Stop.TheVariants as stops
use Rattle.marcel_core.specs.declared.end.End.{End}
use Rattle.marcel_core.specs.declared.end.End.TheVariants as ends
use Rattle.run_trace.specs.declared.entry.Act.{Act}
use Rattle.run_trace.specs.declared.entry.Act.TheVariants as acts
use Rattle.run_trace.specs.declared.label.Why.{Why}
use Rattle.run_trace.specs.declared.label.Why.TheVariants as whys
use Rattle.run_trace.specs.declared.label.Extra.{Extra}
use Rattle.run_trace.specs.declared.label.Extra.TheVariants as extras
use Rattle.trace_text.specs.declared.writing.Word.{Word}
use Rattle.trace_text.specs.declared.writing.Word.TheVariants as word

-- a thread's name
abbrev pub tid_text : Tid → List ℕ
tid_text t = decimal t.home ++ 46 ∷ decimal t.seq

-- ascending slots, with commas between them
abbrev pub slots_text : List ℕ → List ℕ
slots_text [] = codes "-"
slots_text (n ∷ ns) = decimal n ++ flat_map (λ m. 44 ∷ decimal m) ns

-- a digit below 16
abbrev pub glyph : ℕ → ℕ
glyph n = if nat_lt n 10 then 48 + n else 87 + n

abbrev pub byte_text : ℕ → List ℕ
byte_text b = glyph (b / 16) ∷ glyph (b % 16) ∷ []

-- two lower-case hexadecimal digits for each byte
abbrev pub bytes_text : List ℕ → List ℕ
bytes_text [] = codes "-"
bytes_text (b ∷ bs) = flat_map byte_text (b ∷ bs)

-- a reply's number as that of a0, which is signed
abbrev pub reply_text : ℕ → List ℕ
reply_text n = if nat_lt n (2 ^ 63) then decimal n else 45 ∷ decimal (2 ^ 64 - n)

abbrev pub kind_text : FaultKind → List ℕ
kind_text kinds.Illegal = codes "illegal"
kind_text kinds.Break = codes "break"
kind_text kinds.Misaligned = codes "misaligned"
kind_text kinds.Fetch = codes "fetch"
kind_text kinds.Load = codes "load"
kind_text kinds.Store = codes "store"

abbrev pub stop_text : Stop → List ℕ
stop_text stops.Quantum = codes "quantum"
stop_text stops.Call = codes "call"
stop_text (stops.Fault kind) = kind_text kind

-- a slot, or none
abbrev pub first_text : Option ℕ → List ℕ
first_text None = codes "-"
first_text (Some slot) = decimal slot

-- a word as the code hands it on, without where it lies in memory
abbrev pub word_text : Word → List ℕ
word_text (word.Text letters) = letters.now
word_text (word.Number n) = decimal n
word_text (word.Thread t) = tid_text t.now
word_text (word.Slots slots) = slots_text slots.now
word_text (word.First first) = first_text first
word_text (word.Reply reply) = reply_text reply

-- ---- what takes several words

abbrev pub act_words : Act → List (List ℕ)
act_words acts.Boot = codes "boot" ∷ []
act_words (acts.Run vp quantum) = codes "run" ∷ decimal vp ∷ decimal quantum ∷ []
act_words (acts.Take from) = codes "take" ∷ decimal from ∷ []
act_words (acts.Move t to) = codes "move" ∷ tid_text t ∷ decimal to ∷ []

abbrev pub why_words : Why → List (List ℕ)
why_words whys.Main = codes "main" ∷ []
why_words (whys.Create by) = codes "create" ∷ tid_text by ∷ []
why_words (whys.Inside by bubble) = codes "in" ∷ tid_text by ∷ decimal bubble ∷ []
why_words (whys.Service by count) = codes "service" ∷ tid_text by ∷ decimal count ∷ []

abbrev pub end_words : End → List (List ℕ)
end_words (ends.Exit value) = codes "exit" ∷ decimal value ∷ []
end_words (ends.Fault kind pc) = kind_text kind ∷ decimal pc ∷ []

-- nothing, the value of a1, or the bytes of a result behind an x
abbrev pub extra_words : Extra → List (List ℕ)
extra_words extras.Nothing = []
extra_words (extras.Second second) = decimal second ∷ []
extra_words (extras.Bytes bytes) = (120 ∷ bytes_text bytes) ∷ []
