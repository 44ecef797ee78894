-- Settings by what is given.
use Rattle.std.proofs.Common.{◌≡◌, ◌∙◌, ap, sym, List, Some}
use Rattle.std.proofs.Math.Path.{fun_ext}
use Rattle.words.specs.Words.{Item, GrammarOf, Text, items_of, values}
use Rattle.settings.specs.declared.verb.Verb.{Verb}
use Rattle.settings.specs.Settings.{chosen_by, grammar_of, settings_by}

-- what is given under each name is all that the settings need to know of the words
pub settings_by-given : (verb : Verb) (words : List Text) (g : GrammarOf) → g ≡ grammar_of verb → (given : Text → List Text)
    → (items : List Item) × (items_of g words ≡ Some items) × ((name : Text) → given name ≡ values name items)
    → settings_by verb words ≡ chosen_by verb given
settings_by-given verb words g same given r =
    let found : items_of (grammar_of verb) words ≡ Some r.0 = ap (λ (h : GrammarOf). items_of h words) (sym same) ∙ r.1 in
    rw found (ap (λ (f : Text → List Text). chosen_by verb f) (fun_ext (λ name. sym (r.2 name))))
