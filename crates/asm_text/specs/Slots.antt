-- A row's slots: what each wants of its token.
use Rattle.std.specs.Prelude.{ℕ, Bool, true, false, ◌||◌, ◌&&◌, List, [], ◌∷◌, if◌then◌else◌, ◌==◌, Result, Ok, Err, is_some}
use Rattle.std.specs.Option.{option_map_or}
use Rattle.std.specs.List.{list_all}
use Rattle.asm_words.specs.Tokens.{TokenOf, word, mark, text}
use Rattle.asm_words.specs.Words.{is_name, number_of, register_among, registers, in_range, bits_of}
use Rattle.asm_text.specs.declared.slots.What.{What}
use Rattle.asm_text.specs.declared.slots.What.TheVariants.{Form, Name, Range, Place}
use Rattle.asm_text.specs.declared.slots.Slot.{Slot}
use Rattle.asm_text.specs.declared.slots.Slot.TheVariants as slot
use Rattle.asm_text.specs.Statements.{FieldsOf}

-- a result whose value is seen by a function
abbrev pub seen : {A B : Type 0} → (A → B) → Result A What → Result B What
seen f (Ok x) = Ok (f x)
seen f (Err w) = Err w

-- the fault that counts of two on one line
abbrev pub worst : What → What → What
worst Form b = Form
worst Name Form = Form
worst Name b = Name
worst Range Form = Form
worst Range Name = Name
worst Range b = Range
worst Place b = b

abbrev pub fault_or : {A : Type 0} → What → Result A What → What
fault_or w (Ok x) = w
fault_or w (Err v) = worst w v

-- ---- what a token is where a slot wants something of it

-- a word that is a name and no register's is a fault of Name, all else of Form
abbrev pub register_in : TokenOf → Result ℕ What
register_in (word w) = option_map_or Ok (register_among registers w) (if is_name w then Err Name else Err Form)
register_in _ = Err Form

abbrev pub number_in : ℕ → ℕ → TokenOf → Result ℕ What
number_in below above (word w) = option_map_or (λ n. if in_range below above n then Ok (bits_of n) else Err Range) (number_of w) (Err Form)
number_in below above _ = Err Form

abbrev pub label_in : TokenOf → Result (List ℕ) What
label_in (word w) = if is_name w then Ok w else Err Form
label_in _ = Err Form

abbrev pub text_in : TokenOf → Result (List ℕ) What
text_in (text t) = Ok t
text_in _ = Err Form

abbrev pub mark_in : ℕ → TokenOf → Result (Unit {0}) What
mark_in m (mark b) = if b == m then Ok tt else Err Form
mark_in m _ = Err Form

-- the fields with what the token gives to one of them
abbrev pub read_slot : Slot → TokenOf → FieldsOf → Result FieldsOf What
read_slot slot.Rd t f = seen (λ x. record f { rd = x }) (register_in t)
read_slot slot.Rs1 t f = seen (λ x. record f { rs1 = x }) (register_in t)
read_slot slot.Rs2 t f = seen (λ x. record f { rs2 = x }) (register_in t)
read_slot (slot.Mark m) t f = seen (λ x. f) (mark_in m t)
read_slot (slot.Number below above) t f = seen (λ x. record f { number = x }) (number_in below above t)
read_slot slot.Label t f = seen (λ x. record f { label = x }) (label_in t)
read_slot slot.Text t f = seen (λ x. record f { text = x }) (text_in t)
read_slot (slot.Values below above labels) t f = Err Form

-- ---- values with commas between them

abbrev pub is_comma : TokenOf → Bool
is_comma (mark m) = m == 44
is_comma _ = false

-- a number, or a name where labels are taken
abbrev pub is_value : Bool → TokenOf → Bool
is_value labels (word w) = is_some (number_of w) || (labels && is_name w)
is_value labels _ = false

-- values with commas between them, where the first token is to be a value or a comma
abbrev pub are_values : Bool → (wants_comma : Bool) → List TokenOf → Bool
are_values labels false [] = false
are_values labels true [] = true
are_values labels false (t ∷ ts) = is_value labels t && are_values labels true ts
are_values labels true (t ∷ ts) = is_comma t && are_values labels false ts

-- a number is in the range
abbrev pub value_fits : ℕ → ℕ → TokenOf → Bool
value_fits below above (word w) = option_map_or (in_range below above) (number_of w) true
value_fits below above _ = true

abbrev pub read_values : ℕ → ℕ → Bool → List TokenOf → FieldsOf → Result FieldsOf What
read_values below above labels ts f =
    if are_values labels false ts then (if list_all (value_fits below above) ts then Ok (record f { values = ts }) else Err Range) else Err Form

-- ---- all slots of a row

-- the fields with what the tokens give to the slots, each token to one slot; of several faults the worst
abbrev pub read_slots : List Slot → List TokenOf → FieldsOf → Result FieldsOf What
read_slots [] [] f = Ok f
read_slots [] (t ∷ ts) f = Err Form
read_slots (slot.Values below above labels ∷ []) ts f = read_values below above labels ts f
read_slots (s ∷ ss) [] f = Err Form
read_slots (s ∷ ss) (t ∷ ts) f =
    elim (read_slot s t f) [ Ok more ↦ read_slots ss ts more | Err w ↦ Err (fault_or w (read_slots ss ts f)) ]
