-- How a command comes to its end, and when each status comes.
use Rattle.std.specs.Prelude.{◌≡◌, ◌⊎◌, ℕ, Bool, List, [], Option, Some, None, Result, Ok, Err, IsSomeAnd, length, reverse, ⊤}
use Rattle.outside.specs.Outside.{Content, Appends, AppendsPrefix}
use Rattle.rv_inst.specs.declared.image.Image.{Image}
use Rattle.rv_asm.specs.declared.error.AsmError.{AsmError}
use Rattle.rv_asm.specs.Images.{image_of}
use Rattle.asm_list.specs.Listing.{listing}
use Rattle.node_state.specs.Events.{program}
use Rattle.levels.specs.Trees.{processors}
use Rattle.run_trace.specs.declared.entry.Entry.{Entry}
use Rattle.run_trace.specs.declared.entry.Setup.{Setup}
use Rattle.run_trace.specs.declared.packet.Packet.{Packet}
use Rattle.run_trace.specs.Legality.{Legal}
use Rattle.run_trace.specs.Program.{Program}
use Rattle.run_texts.specs.declared.schedule.Scheduled.{Scheduled}
use Rattle.settings.specs.Settings.{Chosen}
use Rattle.settings.specs.declared.command.Command.{Command}
use Rattle.settings.specs.declared.command.Command.TheVariants.{Asm, Run, Sim, Replay, Stress}
use Rattle.wires.specs.declared.ends.Ends.{Ends}
use Rattle.wires.specs.Wires.{AreFreshFor}
use Rattle.cluster.specs.Standing.{HaveCarried}
use Rattle.simulation.specs.Ends.{Simulates, Shows, CarriesAt}
use Rattle.simulation.specs.Rounds.{GoesInRounds}
use Rattle.simulation.specs.Schedules.{Follows}
use Rattle.simulation.specs.declared.simulation.Simulated.{Simulated}
use Rattle.pm2_top.specs.Asked.{IsClusterOf, IsImageOf, MayBeGiven, MayBeSuch, source_in, schedule_in, image_in, acts_in, acts_of}
use Rattle.pm2_top.specs.Delivery.{Tells}
use Rattle.pm2_top.specs.Number.{end_status}
use Rattle.pm2_top.specs.declared.report.Report.{Report}
use Rattle.pm2_top.specs.declared.status.Status.{Status}
use Rattle.pm2_top.specs.declared.status.Status.TheVariants.{Done, Usage, BadSource, Stalled, OutOfTurns, ReadFault, WriteFault, NoMemory, NotPossible, BadScheduleText}

-- the status, but for want of memory
abbrev pub IsUnlessMemory : Status → Status → Type 0
IsUnlessMemory status s = (status ≡ s) ⊎ (status ≡ NoMemory)

-- where it is told, the source has no image, for this reason
abbrev pub MayBeNoSource : Content → Chosen → AsmError → Type 0
MayBeNoSource files asked error = MayBeSuch (source_in files asked.command) (λ bytes. image_of bytes ≡ Err error)

-- where it is told, this is the first bad line of the schedule
abbrev pub MayBeNoSchedule : Content → Chosen → ℕ → Type 0
MayBeNoSchedule files asked line = MayBeSuch (schedule_in files asked.command) (λ bytes. acts_of asked.nodes (processors asked.tree) bytes ≡ Err line)

-- ---- how a command comes to its end

-- with this status, and nothing has run: the links are those that were given
abbrev pub plainly : Status → List (Ends Packet) → Report
plainly status given = record { status = status; trace = []; wires = given }

-- a run was the whole command
abbrev pub run_report : Simulated → Report
run_report run = record { status = end_status run.end; trace = run.trace; wires = run.wires }

-- with this status, or for want of memory; nothing has run, and nothing is written
abbrev pub EndsPlainly : Status → List (Ends Packet) → Option (List ℕ) → Option (List ℕ) → Report → Type 0
EndsPlainly status given written now ended = (now ≡ written) × ((ended ≡ plainly status given) ⊎ (ended ≡ plainly NoMemory given))

-- a listing was written, or a first part of it
abbrev pub Lists : List ℕ → Option (List ℕ) → Option (List ℕ) → Status → Type 0
Lists text written now Done = Appends written text now
Lists text written now WriteFault = AppendsPrefix written text now
Lists text written now NoMemory = AppendsPrefix written text now
Lists text written now Usage = ⊥
Lists text written now (BadSource error) = ⊥
Lists text written now Stalled = ⊥
Lists text written now OutOfTurns = ⊥
Lists text written now ReadFault = ⊥
Lists text written now (NotPossible line) = ⊥
Lists text written now (BadScheduleText line) = ⊥

-- the program has run in this way on the cluster of the settings: the trace is that run's, the lines are the trace's, the links
-- that were given have carried its packets, and the status is that of the run's end
pub record HasRunAs (Ran : Program → Simulated → Type 0) (asked : Chosen) (image : Image) (given : List (Ends Packet)) (written now : Option (List ℕ)) (report : Report) : Type 0 where
  pub setup : Setup
  pub cluster : IsClusterOf asked setup
  pub run : Simulated
  pub ran : Ran (program setup image) run
  pub shows : Shows (program setup image) written now run
  pub carries : CarriesAt (program setup image) given run
  pub reported : report ≡ run_report run

-- in the order that the seed draws
abbrev pub DrawnBy : (moves : Bool) → (turns seed : ℕ) → Program → Simulated → Type 0
DrawnBy moves turns seed p s = Simulates moves p turns seed s

-- in rounds of all nodes side by side
abbrev pub InRounds : (turns : ℕ) → Program → Simulated → Type 0
InRounds turns p s = GoesInRounds p turns s

-- in the order of a schedule
abbrev pub ScheduledBy : List Scheduled → Program → Simulated → Type 0
ScheduledBy acts p s = Follows p acts s

-- what is done by a schedule has come to its end: with its acts, or with its first bad line
abbrev pub HasReplayed : Chosen → Result (List Scheduled) ℕ → Image → List (Ends Packet) → Option (List ℕ) → Option (List ℕ) → Report → Type 0
HasReplayed asked (Ok acts) image given written now ended = EndsPlainly NoMemory given written now ended ⊎ HasRunAs (ScheduledBy acts) asked image given written now ended
HasReplayed asked (Err line) image given written now ended = EndsPlainly (BadScheduleText line) given written now ended

-- what is done with an image has come to its end: the listing is written, or the program has run
abbrev pub DoneWith : Command → Chosen → Result (List Scheduled) ℕ → Image → List (Ends Packet) → Option (List ℕ) → Option (List ℕ) → Report → Type 0
DoneWith (Asm name) asked acts image given written now ended = Lists (listing image) written now ended.status × (ended.trace ≡ []) × (ended.wires ≡ given)
DoneWith (Run name) asked acts image given written now ended = HasRunAs (InRounds asked.turns) asked image given written now ended
DoneWith (Sim name) asked acts image given written now ended = HasRunAs (DrawnBy asked.moves asked.turns asked.seed) asked image given written now ended
DoneWith (Replay name schedule) asked acts image given written now ended = HasReplayed asked acts image given written now ended
DoneWith (Stress jobs) asked acts image given written now ended = HasRunAs (InRounds asked.turns) asked image given written now ended

-- what is done with a source has come to its end: with its image, or with the reason why it has none
abbrev pub HasSourceEnded : Chosen → Result Image AsmError → Result (List Scheduled) ℕ → List (Ends Packet) → Option (List ℕ) → Option (List ℕ) → Report → Type 0
HasSourceEnded asked (Ok image) acts given written now ended = EndsPlainly NoMemory given written now ended ⊎ DoneWith asked.command asked acts image given written now ended
HasSourceEnded asked (Err error) acts given written now ended = EndsPlainly (BadSource error) given written now ended

-- what is done with the files has come to its end
pub data HasRun (files : Content) (asked : Chosen) (given : List (Ends Packet)) (written now : Option (List ℕ)) (ended : Report) : Type 0 where
  NotRead : EndsPlainly ReadFault given written now ended → HasRun files asked given written now ended
  Read : (source schedule : Option (List ℕ)) → MayBeGiven files asked.command source schedule
      → HasSourceEnded asked (image_in source) (acts_in asked.nodes (processors asked.tree) schedule) given written now ended → HasRun files asked given written now ended

-- what the words ask for was done, and what they ask for was told
pub record HasObeyed (files : Content) (asked : Chosen) (given : List (Ends Packet)) (written now : Option (List ℕ)) (ended : Report) : Type 0 where
  pub ran : Report
  pub shown : Option (List ℕ)
  pub has_run : HasRun files asked given written shown ran
  pub tells : Tells asked ran shown now ended

-- a command has come to its end: the words are refused, or there was no memory to read them, or it has done what they ask
-- for
pub data HasEnded (files : Content) (settings : Option Chosen) (given : List (Ends Packet)) (written now : Option (List ℕ)) (ended : Report) : Type 0 where
  NoSettings : settings ≡ None → now ≡ written → ended ≡ plainly Usage given → HasEnded files settings given written now ended
  NotSettled : now ≡ written → ended ≡ plainly NoMemory given → HasEnded files settings given written now ended
  Settled : (asked : Chosen) → settings ≡ Some asked → HasObeyed files asked given written now ended → HasEnded files settings given written now ended

-- ---- the trace of a command

-- nothing has run, or it is a legal trace of the source's image, on the cluster of the settings, newest entry first
pub data IsTraceOf (files : Content) (asked : Chosen) (trace : List Entry) : Type 0 where
  NothingRan : trace ≡ [] → IsTraceOf files asked trace
  LegalRun : (image : Image) → IsImageOf files asked.command image
      → (setup : Setup) → IsClusterOf asked setup → Legal (program setup image) (reverse trace) → IsTraceOf files asked trace

-- ---- the links of a command

-- as many nodes as a cluster may have: for so many links are given
abbrev pub node_limit : ℕ
node_limit = 8

-- nothing has run, and on no link anything was sent or received
pub record IsUntouched (trace : List Entry) (wires : List (Ends Packet)) : Type 0 where
  pub nothing : trace ≡ []
  pub fresh : AreFreshFor node_limit wires

-- an image of the source has run on the cluster of the settings: the trace is legal, and on each link was sent what its entries
-- send, and received what they take
pub record HasCarried (files : Content) (asked : Chosen) (trace : List Entry) (wires : List (Ends Packet)) : Type 0 where
  pub image : Image
  pub of_source : IsImageOf files asked.command image
  pub setup : Setup
  pub cluster : IsClusterOf asked setup
  pub legal : Legal (program setup image) (reverse trace)
  pub nodes : length wires ≡ node_limit
  pub carried : HaveCarried (program setup image) (reverse trace) wires

-- what a command that has settings leaves of the links
abbrev pub LeavesLinks : Command → Content → Chosen → List Entry → List (Ends Packet) → Type 0
LeavesLinks (Asm name) files asked trace wires = IsUntouched trace wires
LeavesLinks (Run name) files asked trace wires = HasCarried files asked trace wires
LeavesLinks (Sim name) files asked trace wires = HasCarried files asked trace wires
LeavesLinks (Replay name acts) files asked trace wires = HasCarried files asked trace wires
LeavesLinks (Stress jobs) files asked trace wires = HasCarried files asked trace wires

-- where nothing has run, the first; else the second; at want of memory nothing is said
abbrev pub ByStatus : Status → Type 0 → Type 0 → Type 0
ByStatus Done nothing done = done
ByStatus Usage nothing done = nothing
ByStatus (BadSource error) nothing done = nothing
ByStatus Stalled nothing done = done
ByStatus OutOfTurns nothing done = done
ByStatus ReadFault nothing done = nothing
ByStatus WriteFault nothing done = done
ByStatus NoMemory nothing done = ⊤
ByStatus (NotPossible line) nothing done = done
ByStatus (BadScheduleText line) nothing done = nothing

-- what has become of the links at the end of a command
abbrev pub IsCarriedOut : Content → Option Chosen → Report → Type 0
IsCarriedOut files settings report =
    ByStatus report.status (IsUntouched report.trace report.wires) (IsSomeAnd settings (λ asked. LeavesLinks asked.command files asked report.trace report.wires))

-- ---- what comes where all goes well

-- a run is done, is stuck or has had its turns
abbrev pub IsRunsEnd : Status → Type 0
IsRunsEnd status = (status ≡ Done) ⊎ ((status ≡ Stalled) ⊎ (status ≡ OutOfTurns))

-- a listing is written; a run has come to its end, or a schedule has an act that isn't possible or a bad line
abbrev pub IsUsual : Command → Status → Type 0
IsUsual (Asm name) status = status ≡ Done
IsUsual (Run name) status = IsRunsEnd status
IsUsual (Sim name) status = IsRunsEnd status
IsUsual (Replay name acts) status = IsRunsEnd status ⊎ ((line : ℕ) × ((status ≡ NotPossible line) ⊎ (status ≡ BadScheduleText line)))
IsUsual (Stress jobs) status = IsRunsEnd status

-- it is told that there is a schedule, where the command reads one
abbrev pub HasSchedule : Content → Command → Type 0
HasSchedule files (Asm name) = ⊤
HasSchedule files (Run name) = ⊤
HasSchedule files (Sim name) = ⊤
HasSchedule files (Replay name acts) = (bytes : List ℕ) × (schedule_in files (Replay name acts) ≡ Some (Some bytes))
HasSchedule files (Stress jobs) = ⊤

-- what the command reads is told, and its source has an image
pub record HasSource (files : Content) (asked : Chosen) : Type 0 where
  pub bytes : List ℕ
  pub told : source_in files asked.command ≡ Some (Some bytes)
  pub image : Image
  pub assembled : image_of bytes ≡ Ok image
  pub schedule : HasSchedule files asked.command
