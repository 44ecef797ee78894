-- The numbers of the statuses, the status of a refused write, and that of a run's end.
use Rattle.std.specs.Prelude.{ℕ}
use Rattle.outside.specs.declared.outside.WriteRefusal.{WriteRefusal}
use Rattle.outside.specs.declared.outside.WriteRefusal.TheVariants as refusal
use Rattle.simulation.specs.declared.simulation.RunEnd.{RunEnd}
use Rattle.simulation.specs.declared.simulation.RunEnd.TheVariants as end
use Rattle.pm2_top.specs.declared.status.Status.{Status}
use Rattle.pm2_top.specs.declared.status.Status.TheVariants.{Done, Usage, BadSource, Stalled, OutOfTurns, ReadFault, WriteFault, NoMemory, NotPossible, BadScheduleText}

abbrev pub status_number : Status → ℕ
status_number Done = 0
status_number Usage = 1
status_number (BadSource error) = 2
status_number Stalled = 3
status_number OutOfTurns = 4
status_number ReadFault = 5
status_number WriteFault = 6
status_number NoMemory = 7
status_number (NotPossible line) = 8
status_number (BadScheduleText line) = 9

abbrev pub refusal_status : WriteRefusal → Status
refusal_status refusal.Failed = WriteFault
refusal_status refusal.NoMemory = NoMemory

abbrev pub end_status : RunEnd → Status
end_status end.Done = Done
end_status end.Stalled = Stalled
end_status end.OutOfTurns = OutOfTurns
end_status (end.NotPossible line) = NotPossible line
end_status end.WriteFault = WriteFault
end_status end.NoMemory = NoMemory
