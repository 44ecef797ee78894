use Rattle.std.proofs.Common.{◌≡◌, List, ◌∷◌, length, ap, sym, ◌∙◌, rules}
use Rattle.std.specs.Prelude.{map}
use Rattle.asm_text.specs.declared.slots.Slot.{Slot}
use Rattle.asm_text.specs.declared.slots.Slot.TheVariants as slot
use Rattle.asm_words.specs.Tokens.{token_of}
use Rattle.asm_text.specs.Statements.{fields_seen}
use Rattle.asm_text.specs.Slots.{read_slots}
use Rattle.asm_text.proofs.Values.{values_last}
use Rattle.asm_text.proofs.slots.+read_slots.Goals as goal

pub returns-clause-value : goal.returns-clause-value
returns-clause-value t c =
    let others = c.in-Some.other_slots.now in
    let none : length others ≡ 0 = search rules in
    let e : c.args.slots.now ≡ slot.Values c.in-Values.below c.in-Values.above c.in-Values.labels ∷ others = c.in-Some.ensures.cases.0 ∙ ap (λ (s : Slot). s ∷ others) c.in-Values.is in
    let tokens = map token_of c.args.tokens.now in
    let fields = fields_seen c.args.fields in
    c.read_values.ensures.value ∙ sym (ap (λ (ss : List Slot). read_slots ss tokens fields) e ∙ values_last others c.in-Values.below c.in-Values.above c.in-Values.labels tokens fields none)

pub returns-in-Err-read_slots-clause-value : goal.returns-in-Err-read_slots-clause-value
returns-in-Err-read_slots-clause-value t c = search rules
