-- What is told at the end of a run: the summary on the output, and the trace and its acts in files.
use Rattle.std.specs.Prelude.{◌≡◌, ◌≢◌, ◌⊎◌, ℕ, Bool, true, false, List, [], Option, Some, None, IfSome, if◌then◌else◌, option_map}
use Rattle.outside.specs.Outside.{Content, Appends, AppendsPrefix, file_at}
use Rattle.outside.specs.declared.outside.WriteRefusal.{WriteRefusal}
use Rattle.run_trace.specs.declared.entry.Entry.{Entry}
use Rattle.trace_text.specs.Lines.{trace_text}
use Rattle.run_texts.specs.Written.{schedule_text}
use Rattle.run_texts.specs.Summaries.{summary_of}
use Rattle.settings.specs.Settings.{Chosen}
use Rattle.pm2_top.specs.Number.{refusal_status}
use Rattle.pm2_top.specs.declared.delivery.Saved.{Saved}
use Rattle.pm2_top.specs.declared.delivery.Saved.TheVariants as saved
use Rattle.pm2_top.specs.declared.report.Report.{Report}
use Rattle.pm2_top.specs.declared.status.Status.{Status}
use Rattle.pm2_top.specs.declared.status.Status.TheVariants.{Done, Usage, BadSource, Stalled, OutOfTurns, ReadFault, WriteFault, NoMemory, NotPossible, BadScheduleText}

-- a listing was written, or a run has come to its end: what is asked for is told
abbrev pub is_told : Status → Bool
is_told Done = true
is_told Stalled = true
is_told OutOfTurns = true
is_told (NotPossible line) = true
is_told Usage = false
is_told (BadSource error) = false
is_told ReadFault = false
is_told WriteFault = false
is_told NoMemory = false
is_told (BadScheduleText line) = false

-- the summary, where it is asked for
abbrev pub summary_for : Chosen → List Entry → List ℕ
summary_for asked trace = if asked.summary then summary_of trace else []

-- ---- files

-- what is saved of a run with this trace
abbrev pub text_of : Saved → List Entry → List ℕ
text_of saved.Trace trace = trace_text trace
text_of saved.Schedule trace = schedule_text trace

-- the file has this text now, where the shelf tells its files
abbrev pub HasText : (name text : List ℕ) → (old new : Content) → Type 0
HasText name text old new = file_at new name ≡ option_map (λ _. Some text) (file_at old name)

-- the file is as before or has this text, unless its write has failed
abbrev pub IsLeft : (name text : List ℕ) → (failed : Type 0) → (old new : Content) → Type 0
IsLeft name text failed old new = (file_at new name ≡ file_at old name) ⊎ (HasText name text old new ⊎ failed)

-- each file that is asked for has its text
pub record HasFiles (asked : Chosen) (trace : List Entry) (old new : Content) : Type 0 where
  pub trace_file : IfSome asked.trace (λ name. HasText name (trace_text trace) old new)
  pub schedule_file : IfSome asked.schedule (λ name. HasText name (schedule_text trace) old new)

-- each is as before or has its text, unless its write has failed; every other file is as before
pub record LeavesFiles (asked : Chosen) (trace : List Entry) (failed : Type 0) (old new : Content) : Type 0 where
  pub trace_file : IfSome asked.trace (λ name. IsLeft name (trace_text trace) failed old new)
  pub schedule_file : IfSome asked.schedule (λ name. IsLeft name (schedule_text trace) failed old new)
  pub others : (name : List ℕ) → asked.trace ≢ Some name → asked.schedule ≢ Some name → file_at new name ≡ file_at old name

-- words without settings change no file
abbrev pub Leaves : Option Chosen → List Entry → (failed : Type 0) → (old new : Content) → Type 0
Leaves None trace failed old new = new ≡ old
Leaves (Some asked) trace failed old new = LeavesFiles asked trace failed old new

-- where no file is asked for, no write is counted
abbrev pub KeepsCount : Option Chosen → (before now : ℕ) → Type 0
KeepsCount None before now = now ≡ before
KeepsCount (Some asked) before now = asked.trace ≡ None → asked.schedule ≡ None → now ≡ before

-- ---- the status

abbrev pub with_status : Status → Report → Report
with_status status ran = record { status = status; trace = ran.trace; wires = ran.wires }

-- what is asked for was told of a command; where writing was refused, that is its status; the summary stands behind what was written
pub data Tells (asked : Chosen) (ran : Report) (written now : Option (List ℕ)) (ended : Report) : Type 0 where
  Nothing : is_told ran.status ≡ false → now ≡ written → ended ≡ ran → Tells asked ran written now ended
  All : is_told ran.status ≡ true → Appends written (summary_for asked ran.trace) now → ended ≡ ran → Tells asked ran written now ended
  Refused : is_told ran.status ≡ true → AppendsPrefix written (summary_for asked ran.trace) now
      → (refusal : WriteRefusal) → ended ≡ with_status (refusal_status refusal) ran → Tells asked ran written now ended

-- ---- what is counted

-- a read of a file is counted as failed only where the command ends as not read, and a write of one only where it ends as not written
pub record CountsNoOther (status : Status) (unread unread_now unwritten unwritten_now : ℕ) : Type 0 where
  pub reads : status ≢ ReadFault → unread_now ≡ unread
  pub writes : status ≢ WriteFault → unwritten_now ≡ unwritten
