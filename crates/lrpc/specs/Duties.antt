-- What a thread owes to a remote call, before and after it gives its result.
use Rattle.std.specs.Prelude.{Option, Some, None}
use Rattle.lrpc.specs.declared.call.CallNo.{CallNo}
use Rattle.lrpc.specs.declared.duty.Duty.{Duty}
use Rattle.lrpc.specs.declared.duty.Duty.TheVariants as duties
use Rattle.lrpc.specs.declared.duty.Given.{Given}
use Rattle.lrpc.specs.declared.duty.Given.TheVariants.{Send, Taken, NoSuch}

-- what becomes of a result: it is sent where one is owed
abbrev pub given_by : Duty → Given
given_by duties.None = NoSuch
given_by (duties.Cast call) = NoSuch
given_by (duties.Owes call) = Send call
given_by (duties.Paid call) = Taken

-- the duty after that: what was owed is paid
abbrev pub after_giving : Duty → Duty
after_giving duties.None = duties.None
after_giving (duties.Cast call) = duties.Cast call
after_giving (duties.Owes call) = duties.Paid call
after_giving (duties.Paid call) = duties.Paid call

-- the call whose caller waits for a result
abbrev pub owed_by : Duty → Option CallNo
owed_by duties.None = None
owed_by (duties.Cast call) = None
owed_by (duties.Owes call) = Some call
owed_by (duties.Paid call) = None
