-- The numbers of the faults.
use Rattle.std.specs.Prelude.{ℕ}
use Rattle.rv_step.specs.declared.hart.FaultKind.{FaultKind}
use Rattle.rv_step.specs.declared.hart.FaultKind.TheVariants.{Illegal, Break, Misaligned, Fetch, Load, Store}

abbrev pub fault_number : FaultKind → ℕ
fault_number Illegal = 1
fault_number Break = 2
fault_number Misaligned = 3
fault_number Fetch = 4
fault_number Load = 5
fault_number Store = 6
