-- What stands on the error output.
use Rattle.std.specs.Prelude.{◌≡◌, ◌⊎◌, ℕ, ◌++◌, List, [], ◌∷◌, codes, Bool, true, false, Option}
use Rattle.std.specs.Fmt.{decimal, digits}
use Rattle.std.specs.List.{flat_map}
use Rattle.outside.specs.Outside.{Rose, Appends, AppendsPrefix}
use Rattle.rv_step.specs.declared.hart.FaultKind.{FaultKind}
use Rattle.rv_step.specs.declared.hart.FaultKind.TheVariants as kinds
use Rattle.asm_text.specs.declared.slots.What.{What}
use Rattle.asm_text.specs.declared.slots.What.TheVariants.{Form, Name, Range, Place}
use Rattle.rv_asm.specs.declared.error.AsmError.{AsmError}
use Rattle.rv_asm.specs.declared.error.AsmError.TheVariants as errors
use Rattle.slot_space.specs.declared.names.Tid.{Tid}
use Rattle.marcel_core.specs.declared.end.End.TheVariants as ends
use Rattle.run_trace.specs.declared.entry.Entry.{Entry}
use Rattle.run_trace.specs.declared.label.Label.{Label}
use Rattle.run_trace.specs.declared.label.Label.TheVariants.{Ended}
use Rattle.pm2_top.specs.declared.report.Report.{Report}
use Rattle.pm2_top.specs.declared.status.Status.{Status}
use Rattle.pm2_top.specs.declared.status.Status.TheVariants.{Done, Usage, BadSource, Stalled, OutOfTurns, ReadFault, WriteFault, NoMemory, NotPossible, BadScheduleText}

-- the word of a fault
abbrev pub kind_word : FaultKind → List ℕ
kind_word kinds.Illegal = codes "illegal"
kind_word kinds.Break = codes "break"
kind_word kinds.Misaligned = codes "misaligned"
kind_word kinds.Fetch = codes "fetch"
kind_word kinds.Load = codes "load"
kind_word kinds.Store = codes "store"

-- the thread has ended by this fault of the instruction at the pc
abbrev pub fault_line : Tid → FaultKind → ℕ → List ℕ
fault_line t kind pc =
    codes "fault " ++ (decimal t.home ++ (codes "." ++ (decimal t.seq ++ (codes " " ++ (kind_word kind ++ (codes " at 0x" ++ (digits 16 false pc ++ 10 ∷ [])))))))

-- a line for each end by fault, and nothing else
abbrev pub label_text : Label → List ℕ
label_text (Ended t (ends.Fault kind pc)) = fault_line t kind pc
label_text _ = []

-- the faults of a trace, in its order
abbrev pub faults_text : List Entry → List ℕ
faults_text trace = flat_map (λ entry. flat_map label_text entry.labels) trace

-- what is wrong on a line
abbrev pub what_words : What → List ℕ
what_words Form = codes "bad form"
what_words Name = codes "bad name"
what_words Range = codes "out of range"
what_words Place = codes "bad place"

abbrev pub at_line : ℕ → List ℕ → List ℕ
at_line line words = codes "pm2: line " ++ (decimal line ++ (codes ": " ++ (words ++ 10 ∷ [])))

-- why a source has no image
abbrev pub error_line : AsmError → List ℕ
error_line (errors.BadLine line what) = at_line line (what_words what)
error_line (errors.Twice line) = at_line line (codes "defined twice")
error_line (errors.Unknown line) = at_line line (codes "unknown label")
error_line (errors.FarTarget line) = at_line line (codes "target out of reach")
error_line errors.NoMain = codes "pm2: no main\n"
error_line errors.TooLong = codes "pm2: image too long\n"
error_line errors.NoMemory = codes "pm2: out of memory\n"

-- the line of a status
abbrev pub status_line : Status → List ℕ
status_line Done = []
status_line Usage = codes "usage: pm2 asm FILE / run FILE / sim FILE / replay FILE SCHEDULE / stress N\n"
status_line (BadSource error) = error_line error
status_line Stalled = codes "pm2: stalled\n"
status_line OutOfTurns = codes "pm2: out of turns\n"
status_line ReadFault = codes "pm2: cannot read\n"
status_line WriteFault = codes "pm2: cannot write\n"
status_line NoMemory = codes "pm2: out of memory\n"
status_line (NotPossible line) = codes "pm2: act at line " ++ (decimal line ++ codes " not possible\n")
status_line (BadScheduleText line) = codes "pm2: bad schedule at line " ++ (decimal line ++ 10 ∷ [])

-- the lines of the faults, and then the line of the status
unfoldable pub err_text : Status → List Entry → List ℕ
err_text status trace = faults_text trace ++ status_line status

-- the text is on the output, or a first part of it is and the output has counted a fault
abbrev pub IsOnError : List ℕ → Option (List ℕ) → Option (List ℕ) → ℕ → ℕ → Type 0
IsOnError text written now before after = Appends written text now ⊎ (AppendsPrefix written text now × Rose before after)

-- a first part of the text is on an output that takes memory and had none for the rest
abbrev pub IsCutShort : Bool → List ℕ → Option (List ℕ) → Option (List ℕ) → ℕ → ℕ → Type 0
IsCutShort takes_memory text written now before after = (takes_memory ≡ true) × AppendsPrefix written text now × (after ≡ before)

-- the line of want of memory is told: on an output that takes no memory, all of it but for a fault
abbrev pub IsMemoryTold : Bool → Option (List ℕ) → Option (List ℕ) → ℕ → ℕ → Type 0
IsMemoryTold takes_memory written now before after =
    IsOnError (status_line NoMemory) written now before after ⊎ IsCutShort takes_memory (status_line NoMemory) written now before after

-- the status and the text of how a command has ended; where there was no memory for the text, or the output had none, that is the status
abbrev pub StatusTold : Bool → Report → Status → Option (List ℕ) → Option (List ℕ) → ℕ → ℕ → Type 0
StatusTold takes_memory ended status written now before after =
    ((status ≡ ended.status) × IsOnError (err_text ended.status ended.trace) written now before after)
    ⊎ ((status ≡ NoMemory) × (IsMemoryTold takes_memory written now before after ⊎ IsCutShort takes_memory (err_text ended.status ended.trace) written now before after))

-- a command is reported as it has ended, with its trace and its links
pub record Reports (takes_memory : Bool) (ended report : Report) (written now : Option (List ℕ)) (before after : ℕ) : Type 0 where
  pub trace : report.trace ≡ ended.trace
  pub wires : report.wires ≡ ended.wires
  pub told : StatusTold takes_memory ended report.status written now before after
