-- What the settings name: a source, a schedule, and a cluster; and what may have been read of them.
use Rattle.std.specs.Prelude.{◌≡◌, ◌⊎◌, ◌<◌, ◌≤◌, ℕ, List, length, Option, Some, None, Result, Ok, Err, IfSome, IsSomeAnd, if◌then◌else◌, nat_lt}
use Rattle.outside.specs.Outside.{Content, file_at, Lacks}
use Rattle.rv_inst.specs.declared.image.Image.{Image}
use Rattle.rv_asm.specs.declared.error.AsmError.{AsmError}
use Rattle.rv_asm.specs.declared.error.AsmError.TheVariants as errors
use Rattle.rv_asm.specs.Images.{image_of}
use Rattle.run_trace.specs.declared.entry.Setup.{Setup}
use Rattle.run_texts.specs.declared.schedule.Scheduled.{Scheduled}
use Rattle.run_texts.specs.Schedules.{schedule_of}
use Rattle.run_texts.specs.Stress.{stress_source}
use Rattle.settings.specs.Settings.{Chosen}
use Rattle.settings.specs.declared.command.Command.{Command}
use Rattle.settings.specs.declared.command.Command.TheVariants.{Asm, Run, Sim, Replay, Stress}

-- the longest source, in bytes
abbrev pub source_limit : ℕ
source_limit = 1048576

-- the longest schedule, in bytes
abbrev pub schedule_limit : ℕ
schedule_limit = 33554432

-- ---- what stands in the files, where the shelf tells them

-- the source of a command: a file, or the text of so many jobs
abbrev pub source_in : Content → Command → Option (Option (List ℕ))
source_in files (Asm name) = file_at files name
source_in files (Run name) = file_at files name
source_in files (Sim name) = file_at files name
source_in files (Replay name acts) = file_at files name
source_in files (Stress jobs) = Some (Some (stress_source jobs))

-- the schedule of a command; only `replay` has one
abbrev pub schedule_in : Content → Command → Option (Option (List ℕ))
schedule_in files (Replay name acts) = file_at files acts
schedule_in files (Asm name) = Some None
schedule_in files (Run name) = Some None
schedule_in files (Sim name) = Some None
schedule_in files (Stress jobs) = Some None

-- the shelf tells its files, and a file that the command reads isn't there
abbrev pub LacksAny : Content → Command → Type 0
LacksAny files (Asm name) = Lacks files name
LacksAny files (Run name) = Lacks files name
LacksAny files (Sim name) = Lacks files name
LacksAny files (Replay name acts) = Lacks files name ⊎ Lacks files acts
LacksAny files (Stress jobs) = ⊥

-- this is there, or it isn't told
abbrev pub MayBe : Option (Option (List ℕ)) → List ℕ → Type 0
MayBe told bytes = IfSome told (λ file. file ≡ Some bytes)

-- something of which this holds is there, or it isn't told
abbrev pub MayBeSuch : Option (Option (List ℕ)) → (List ℕ → Type 0) → Type 0
MayBeSuch told P = IfSome told (λ file. IsSomeAnd file P)

-- ---- what is read

-- this may have been read: all bytes, or nothing where there are more than so many
abbrev pub MayBeRead : (limit : ℕ) → Option (Option (List ℕ)) → Option (List ℕ) → Type 0
MayBeRead limit told None = MayBeSuch told (λ bytes. limit < length bytes)
MayBeRead limit told (Some bytes) = MayBe told bytes × (length bytes ≤ limit)

-- this source and this schedule may have been read for a command
abbrev pub MayBeGiven : Content → Command → (source schedule : Option (List ℕ)) → Type 0
MayBeGiven files (Asm name) source schedule = MayBeRead source_limit (file_at files name) source
MayBeGiven files (Run name) source schedule = MayBeRead source_limit (file_at files name) source
MayBeGiven files (Sim name) source schedule = MayBeRead source_limit (file_at files name) source
MayBeGiven files (Replay name acts) source schedule = MayBeRead source_limit (file_at files name) source × MayBeRead schedule_limit (file_at files acts) schedule
MayBeGiven files (Stress jobs) source schedule = source ≡ Some (stress_source jobs)

-- the image of what was read, or why there is none
abbrev pub image_in : Option (List ℕ) → Result Image AsmError
image_in None = Err errors.TooLong
image_in (Some source) = image_of source

-- the acts of what was read, or the first line that is bad; a schedule that is too long is bad as a whole
abbrev pub acts_in : (nodes processors : ℕ) → Option (List ℕ) → Result (List Scheduled) ℕ
acts_in nodes processors None = Err 0
acts_in nodes processors (Some schedule) = schedule_of nodes processors schedule

-- the acts of a schedule's bytes, likewise
abbrev pub acts_of : (nodes processors : ℕ) → List ℕ → Result (List Scheduled) ℕ
acts_of nodes processors bytes = if nat_lt schedule_limit (length bytes) then Err 0 else schedule_of nodes processors bytes

-- this may be the image of the command's source
pub record IsImageOf (files : Content) (command : Command) (image : Image) : Type 0 where
  pub bytes : List ℕ
  pub source : MayBe (source_in files command) bytes
  pub assembled : image_of bytes ≡ Ok image

-- ---- the cluster

-- the cluster has as many nodes and slots as the settings say, each node these run lists, and a run as many instructions at most
pub record IsClusterOf (asked : Chosen) (setup : Setup) : Type 0 where
  pub nodes : setup.geometry.nodes ≡ asked.nodes
  pub slots : setup.geometry.slots ≡ asked.slots
  pub tree : setup.tree ≡ asked.tree
  pub quantum : setup.quantum ≡ asked.quantum
