-- The numbers of a thread's parts, in the order of the fields.
use Rattle.std.specs.Prelude.{ℕ, List, [], ◌∷◌}
use Rattle.lrpc.specs.declared.call.CallNo.{CallNo}
use Rattle.lrpc.specs.declared.duty.Duty.{Duty}
use Rattle.lrpc.specs.declared.duty.Duty.TheVariants as duties

abbrev pub call_numbers : CallNo → List ℕ
call_numbers call = call.by.home ∷ call.by.seq ∷ call.count ∷ call.at ∷ []

abbrev pub duty_numbers : Duty → List ℕ
duty_numbers duties.None = 0 ∷ 0 ∷ 0 ∷ 0 ∷ 0 ∷ []
duty_numbers (duties.Cast call) = 1 ∷ call_numbers call
duty_numbers (duties.Owes call) = 2 ∷ call_numbers call
duty_numbers (duties.Paid call) = 3 ∷ call_numbers call

-- each block's address and size
unfoldable pub block_numbers : List (ℕ × ℕ) → List ℕ
block_numbers [] = []
block_numbers (b ∷ blocks) = b.0 ∷ b.1 ∷ block_numbers blocks
