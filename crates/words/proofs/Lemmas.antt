-- Lemmas of the words of a command. Other crates cite these alone.
use Rattle.std.proofs.Common.{Bool, List, Some, length, true, ◌≡◌, ◌≤◌}
use Rattle.std.specs.List.{list_all}
use Rattle.std.specs.Prelude.{count_by}
use Rattle.std.specs.Str.{bytes_eq}
use Rattle.words.specs.Uses.{is_use}
use Rattle.words.specs.Words.{GrammarOf, Item, Text, file, is_name, items_of, values}
use Rattle.words.proofs.Rules
use Rattle.words.proofs.Uses
pub use Rattle.words.proofs.Uses.{tally}

-- ## Texts

-- texts that compare as equal are one
pub same_text : (a b : Text) → bytes_eq a b ≡ true → a ≡ b
same_text = Rules.same_text

-- ## How often a name is used

-- it is std's count
pub tally_is : {X : Type 0} (p : X → Bool) (xs : List X) → tally p xs ≡ count_by p xs
tally_is = Uses.tally_is

-- each use of an option or a flag gives it a value
pub uses_have_values : (g : GrammarOf) (name : Text) (words : List Text) (items : List Item) → items_of g words ≡ Some items → list_all is_name (values file items) ≡ true → count_by (is_use name) words ≤ length (values name items)
uses_have_values = Uses.uses_have_values
