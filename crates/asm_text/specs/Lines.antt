-- What a line says: a label and a statement, by the rows of the table, or what is wrong with it.
use Rattle.std.specs.Prelude.{ℕ, true, List, [], ◌∷◌, if◌then◌else◌, ◌==◌, Option, Some, None, Result, Ok, Err, IfOk, IfSome, map}
use Rattle.std.specs.Option.{option_map, option_map_or, option_or}
use Rattle.std.specs.Str.{bytes_eq}
use Rattle.std.specs.Str.Lines.{lines}
use Rattle.asm_words.specs.Tokens.{TokenOf, word, mark, tokens_of}
use Rattle.asm_words.specs.Words.{is_name}
use Rattle.asm_text.specs.declared.slots.What.{What}
use Rattle.asm_text.specs.declared.slots.What.TheVariants.{Form, Name}
use Rattle.asm_text.specs.declared.reading.Line.{Line}
use Rattle.asm_text.specs.Statements.{StatementOf, FilledOf, no_fields, made, statement_seen, IsSound}
use Rattle.asm_text.specs.Slots.{seen, read_slots}
use Rattle.asm_text.specs.Rows.{RowOf, instructions, pseudo_instructions, directives}

-- what the tokens say in the form of a row
abbrev pub read_row : RowOf → List TokenOf → Result FilledOf What
read_row r ts = seen (λ f. record { make = r.make; fields = f }) (read_slots r.slots ts no_fields)

-- what a row reads, unless a row after it has the tokens' form
abbrev pub or_later : Result FilledOf What → Option (Result FilledOf What) → Option (Result FilledOf What)
or_later (Err Form) (Some r) = Some r
or_later r later = Some r

-- by the first row of that name whose form the tokens have; nothing where no row has the name
abbrev pub read_rows : List RowOf → List ℕ → List TokenOf → Option (Result FilledOf What)
read_rows [] w ts = None
read_rows (r ∷ rs) w ts = if bytes_eq r.name w then or_later (read_row r ts) (read_rows rs w ts) else read_rows rs w ts

-- the same by the first of the three tables that has the name
abbrev pub read_tables : List ℕ → List TokenOf → Option (Result FilledOf What)
read_tables w ts = option_or (read_rows instructions w ts) (option_or (read_rows pseudo_instructions w ts) (read_rows directives w ts))

-- the label in front, and the tokens behind it
abbrev pub label_at : List TokenOf → Option (List ℕ) × List TokenOf
label_at (word w ∷ mark m ∷ ts) = if m == 58 then (Some w, ts) else (None, word w ∷ mark m ∷ ts)
label_at ts = (None, ts)

-- no statement, or one that begins with its name; where there is no such name, nothing behind it is looked at
abbrev pub statement_at : List TokenOf → Result (Option FilledOf) What
statement_at [] = Ok None
statement_at (word w ∷ ts) = if is_name w then option_map_or (seen Some) (read_tables w ts) (Err Name) else Err Form
statement_at (t ∷ ts) = Err Form

-- ---- lines, without where they lie in memory

pub record LineOf : Type 0 where
  pub label : Option (List ℕ)
  pub statement : Option StatementOf

abbrev pub line_seen : Line → LineOf
line_seen l = record { label = option_map (λ w. w.now) l.label; statement = option_map statement_seen l.statement }

abbrev pub line_at : List TokenOf → Result LineOf What
line_at ts =
    let l = label_at ts in
    if option_map_or is_name l.0 true
    then seen (λ s. record { label = l.0; statement = option_map (λ f. made f.make f.fields) s }) (statement_at l.1)
    else Err Form

-- what a line says, or what is wrong with it
unfoldable pub line_said : List ℕ → Result LineOf What
line_said line = line_at (tokens_of line)

-- what each line of a source says
abbrev pub said : List ℕ → List (Result LineOf What)
said source = map line_said (lines source)

-- the statement, if there is one, is sound, with no more data than n
abbrev pub HasSound : ℕ → Result LineOf What → Type 0
HasSound n reading = IfOk reading (λ line. IfSome line.statement (IsSound n))
