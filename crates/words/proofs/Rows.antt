-- The rows that a parse keeps, as a function of the items of the words.
use Rattle.std.proofs.Common.{◌≡◌, ◌∙◌, sym, ap, refl, true, false, List, [], ◌∷◌, ◌++◌, Option, Some, None}
use Rattle.std.specs.Prelude.{fold}
use Rattle.std.specs.Str.{bytes_eq}
use Rattle.std.proofs.lemmas.List.Sums.{fold-append}
use Rattle.clap.specs.Walk.{Held, Row, Rule, reading_by, settled, used_by_id, with_values}
use Rattle.std.specs.Option.{option_map_or}
use Rattle.clap.specs.declared.error.kind.ErrorKind.TheVariants.{InvalidValue}
use Rattle.clap.specs.Faults.{settle_fault, use_fault}
use Rattle.clap.specs.declared.builder.value_parser.Reading.{Reading}
use Rattle.clap.specs.declared.parser.matches.ValueSource.TheVariants.{CommandLine}
use Rattle.words.specs.Words.{Item, GrammarOf, Text, file, has}
use Rattle.words.proofs.Rules.{built_file, by_id, rules}

abbrev pub how : Reading
how = reading_by built_file

abbrev pub with_row : List Row → Item → List Row
with_row rows p = with_values p.0 how CommandLine (p.1 ∷ []) rows

abbrev pub rows : List Item → List Row
rows items = fold with_row [] items

pub rows_more : (items : List Item) (p : Item) → rows (items ++ p ∷ []) ≡ with_row (rows items) p
rows_more items p = fold-append with_row [] items (p ∷ [])

-- what is held, with nothing pending
abbrev pub held : List Item → Held
held items = record { rows = rows items; pending = None; skip = 0 }

abbrev pub held_with : List Item → Text → List Text → Held
held_with items id vs = record { rows = rows items; pending = Some (id, vs); skip = 0 }

-- once the pending argument is used, the rows are those of the items
pub record Ready (t : GrammarOf) (items : List Item) (h : Held) : Type 0 where
  pub settled : settled (rules t) h ≡ held items
  pub fault : settle_fault (rules t) false h ≡ []

pub nothing_ready : (t : GrammarOf) (items : List Item) → Ready t items (held items)
nothing_ready t items = record { settled = refl; fault = refl }

-- a name that is pending
pub file_ready : (t : GrammarOf) (items : List Item) (word : Text) → Ready t (items ++ (file, word) ∷ []) (held_with items file (word ∷ []))
file_ready t items word = record {
  settled = ap (λ (r : List Row). record { rows = r; pending = None; skip = 0 }) (sym (rows_more items (file, word)));
  fault = refl;
}

-- an option's value that is pending
pub value_ready : (t : GrammarOf) (items : List Item) (id word : Text) → has id t.options ≡ true → bytes_eq file id ≡ false → Ready t (items ++ (id, word) ∷ []) (held_with items id (word ∷ []))
value_ready t items id word h e = record {
  settled = ap (λ (o : Option Rule). record { rows = used_by_id o (word ∷ []) (rows items); pending = None; skip = 0 }) (by_id t id h e)
      ∙ ap (λ (r : List Row). record { rows = r; pending = None; skip = 0 }) (sym (rows_more items (id, word)));
  fault = ap (λ (o : Option Rule). option_map_or (λ a. use_fault false a (word ∷ []) (rows items)) o []) (by_id t id h e);
}

-- an option that waits for its value is refused when it is used
pub no_value : (t : GrammarOf) (items : List Item) (id : Text) → has id t.options ≡ true → bytes_eq file id ≡ false → settle_fault (rules t) false (held_with items id []) ≡ InvalidValue ∷ []
no_value t items id h e = ap (λ (o : Option Rule). option_map_or (λ a. use_fault false a [] (rows items)) o []) (by_id t id h e)
