-- The names of the calls in a trace's text.
use Rattle.std.specs.Prelude.{ℕ, List, [], ◌∷◌, Bool, true, false, Option, Some, None, ◌==◌, if◌then◌else◌, codes}
use Rattle.std.specs.Str.{bytes_eq}
use Rattle.trace_text.specs.declared.rows.Row.{Row}

-- a call: its name, its number, how many arguments are told of it, and whether the bytes that it names are told
pub record CallRow : Type 0 where
  pub name : List ℕ
  pub number : ℕ
  pub arguments : ℕ
  pub says : Bool

abbrev row : List ℕ → ℕ → ℕ → Bool → CallRow
row name number arguments says = record { name = name; number = number; arguments = arguments; says = says }

-- a row of the table in the code, without where it lies in memory
abbrev pub row_of : Row → CallRow
row_of r = row r.name.now r.number r.arguments r.says

-- every call that a guest can make so far
unfoldable pub calls : List CallRow
calls =
    row (codes "exit") 1 1 false
    ∷ row (codes "self") 2 0 false
    ∷ row (codes "node") 3 0 false
    ∷ row (codes "nodes") 4 0 false
    ∷ row (codes "yield") 5 0 false
    ∷ row (codes "create") 6 3 false
    ∷ row (codes "join") 7 1 false
    ∷ row (codes "detach") 8 1 false
    ∷ row (codes "sem_new") 9 1 false
    ∷ row (codes "sem_p") 10 1 false
    ∷ row (codes "sem_v") 11 1 false
    ∷ row (codes "isomalloc") 12 1 false
    ∷ row (codes "isofree") 13 1 false
    ∷ row (codes "migrate_self") 14 1 false
    ∷ row (codes "migrate") 15 2 false
    ∷ row (codes "print") 16 2 true
    ∷ row (codes "bubble_new") 17 2 false
    ∷ row (codes "bubble_insert") 18 2 false
    ∷ row (codes "bubble_wake") 19 1 false
    ∷ row (codes "bubble_gather") 20 1 false
    ∷ row (codes "create_in") 21 4 false
    ∷ row (codes "halt") 25 0 false
    ∷ []

abbrev pub numbered : List CallRow → ℕ → Option CallRow
numbered [] number = None
numbered (r ∷ rs) number = if r.number == number then Some r else numbered rs number

abbrev pub named : List CallRow → List ℕ → Option CallRow
named [] name = None
named (r ∷ rs) name = if bytes_eq name r.name then Some r else named rs name

-- the call of this name
abbrev pub call_named : List ℕ → Option CallRow
call_named name = named calls name

-- the call of this number
abbrev pub call_numbered : ℕ → Option CallRow
call_numbered number = numbered calls number
