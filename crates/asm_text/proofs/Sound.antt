-- What is made of filled rows is sound.
use Rattle.std.proofs.Common.{ℕ, ◌≤◌, ◌<◌, ◌%◌, ◌-◌, List, [], ◌∷◌, length, ◌++◌, Option, Some, None, Result, Ok, Err, inl, inr, arith}
use Rattle.std.specs.Prelude.{nat_lt, IfSome}
use Rattle.std.specs.List.{AllByRecursion}
use Rattle.std.proofs.lemmas.Bool.{cases_Bool}
use Rattle.std.proofs.lemmas.Bool.Decides.{nat_tests}
use Rattle.rv_inst.specs.declared.inst.ShiftOp.{ShiftOp}
use Rattle.rv_inst.specs.declared.inst.ShiftOp.TheVariants as shift_op
use Rattle.rv_inst.specs.Format.{FitsBits, low_twelve}
use Rattle.rv_inst.specs.Table.{shift_end}
use Rattle.asm_text.specs.declared.statements.Make.{Make}
use Rattle.asm_text.specs.declared.statements.Make.TheVariants as make
use Rattle.asm_text.specs.declared.slots.What.{What}
use Rattle.asm_text.specs.Lines.{LineOf, HasSound}
use Rattle.asm_words.specs.Tokens.{TokenOf, word, mark, text, stray}
use Rattle.asm_text.specs.Statements.{StatementOf, plain, branch, jump, load_number, load_address, values, bytes, align, service, nothing, FieldsOf, bulk, values_of, made, IsSound}

low_twelve_fits : (n : ℕ) → FitsBits 11 (low_twelve n)
low_twelve_fits n =
    elim (cases_Bool (nat_lt (n % 4096) 2048)) [
      | inl is ↦ rw is (let h : n % 4096 < 2048 = grind (arith, nat_tests) in h)
      | inr isnt ↦ rw isnt (let h : 4095 - n % 4096 < 2048 = grind (arith, nat_tests) in h)
    ]

amount_fits : (op : ShiftOp) (n : ℕ) → n % shift_end op < shift_end op
amount_fits shift_op.Slli n = omega arith
amount_fits shift_op.Srli n = omega arith
amount_fits shift_op.Srai n = omega arith
amount_fits shift_op.Slliw n = omega arith
amount_fits shift_op.Srliw n = omega arith
amount_fits shift_op.Sraiw n = omega arith

values_fit : (ts : List TokenOf) → length (values_of ts) ≤ length ts
values_fit [] = omega arith
values_fit (word w ∷ ts) = omega (arith, values_fit ts)
values_fit (mark m ∷ ts) = omega (arith, values_fit ts)
values_fit (text t ∷ ts) = omega (arith, values_fit ts)
values_fit (stray ∷ ts) = omega (arith, values_fit ts)

pub made_sound : (m : Make) (f : FieldsOf) (n : ℕ) → bulk f ≤ n → IsSound n (made m f)
made_sound make.Lui f n h = (omega arith, omega arith)
made_sound make.Auipc f n h = (omega arith, omega arith)
made_sound make.Jal f n h = tt
made_sound make.Call f n h = tt
made_sound make.Jalr f n h = (omega arith, omega arith, low_twelve_fits f.number)
made_sound make.CallBy f n h = (omega arith, omega arith, low_twelve_fits 0)
made_sound make.Return f n h = (omega arith, omega arith, low_twelve_fits 0)
made_sound (make.Branch op) f n h = tt
made_sound (make.Load op) f n h = (omega arith, omega arith, low_twelve_fits f.number)
made_sound (make.Store op) f n h = (omega arith, omega arith, low_twelve_fits f.number)
made_sound (make.Imm op) f n h = (omega arith, omega arith, low_twelve_fits f.number)
made_sound (make.ImmBy op number) f n h = (omega arith, omega arith, low_twelve_fits number)
made_sound (make.Shift op) f n h = (omega arith, omega arith, amount_fits op f.number)
made_sound (make.Op op) f n h = (omega arith, omega arith, omega arith)
made_sound make.Fence f n h = (omega arith, omega arith, omega arith)
made_sound make.Ecall f n h = tt
made_sound make.Ebreak f n h = tt
made_sound make.LoadNumber f n h = tt
made_sound make.LoadAddress f n h = tt
made_sound (make.Values width) f n h = omega (arith, values_fit f.values)
made_sound make.Bytes f n h = omega arith
made_sound make.Align f n h = omega arith
made_sound make.Service f n h = tt
made_sound make.Nothing f n h = tt

-- what is sound for some bytes is so for more
pub sound_more : (s : StatementOf) (m n : ℕ) → m ≤ n → IsSound m s → IsSound n s
sound_more (plain i) m n h k = k
sound_more (branch op a b l) m n h k = tt
sound_more (jump r l) m n h k = tt
sound_more (load_number r v) m n h k = tt
sound_more (load_address r l) m n h k = tt
sound_more (values w vs) m n h k = omega arith
sound_more (bytes bs) m n h k = omega arith
sound_more (align e) m n h k = k
sound_more (service v l) m n h k = tt
sound_more nothing m n h k = tt

option_sound : (o : Option StatementOf) (m n : ℕ) → m ≤ n → IfSome o (IsSound m) → IfSome o (IsSound n)
option_sound None m n h k = tt
option_sound (Some s) m n h k = sound_more s m n h k

-- the same of a reading
pub has_sound_more : (r : Result LineOf What) (m n : ℕ) → m ≤ n → HasSound m r → HasSound n r
has_sound_more (Err w) m n h k = tt
has_sound_more (Ok l) m n h k = option_sound l.statement m n h k

-- each reading, and one more
pub sound_push : (rs : List (Result LineOf What)) (r : Result LineOf What) (m n : ℕ) → AllByRecursion (HasSound n) rs → m ≤ n → HasSound m r → AllByRecursion (HasSound n) (rs ++ r ∷ [])
sound_push [] r m n all h k = (has_sound_more r m n h k, tt)
sound_push (q ∷ rs) r m n all h k = (all.0, sound_push rs r m n all.1 h k)
