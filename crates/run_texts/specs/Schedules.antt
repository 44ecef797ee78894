-- A schedule as a text.
use Rattle.std.specs.Prelude.{◌≡◌, ℕ, ◌+◌, List, [], ◌∷◌, if◌then◌else◌, nat_lt, Result, Ok, Err, ⊤}
use Rattle.trace_text.specs.declared.error.TextError.{TextError}
use Rattle.trace_text.specs.declared.error.TextError.TheVariants as error
use Rattle.run_texts.specs.declared.act.Said.{Said}
use Rattle.run_texts.specs.declared.act.Said.TheVariants as said
use Rattle.run_texts.specs.declared.schedule.Scheduled.{Scheduled}
use Rattle.run_texts.specs.Parts.{Text, lines_of}
use Rattle.run_texts.specs.Acts.{said_in}

-- an act with its line, or the number of the first bad line
abbrev pub Reading : Type 0
Reading = Result (List Scheduled) ℕ

-- no schedule has more acts
abbrev pub most_acts : ℕ
most_acts = 1000000

abbrev pub at_front : Scheduled → Reading → Reading
at_front a (Ok more) = Ok (a ∷ more)
at_front a (Err line) = Err line

-- acts that stand before a reading
abbrev pub behind : List Scheduled → Reading → Reading
behind [] reading = reading
behind (a ∷ before) reading = at_front a (behind before reading)

-- what a line says, behind so many acts, and then the rest, by the acts that stand before it
abbrev pub goes_on : (line acts : ℕ) → Said → (ℕ → Reading) → Reading
goes_on line acts said.Nothing rest = rest acts
goes_on line acts said.Bad rest = Err line
goes_on line acts (said.Act node a) rest =
    if nat_lt acts most_acts then at_front (record { line = line; node = node; act = a }) (rest (acts + 1)) else Err line

-- the lines from this one on, behind so many acts, where there are so many nodes, each with so many processors
abbrev pub acts_from : (nodes processors line acts : ℕ) → List Text → Reading
acts_from nodes processors line acts [] = Ok []
acts_from nodes processors line acts (l ∷ ls) = goes_on line acts (said_in nodes processors l) (λ n. acts_from nodes processors (line + 1) n ls)

-- the acts of a schedule, each with its line, or the first line that is bad; lines are counted from 1
unfoldable pub schedule_of : (nodes processors : ℕ) → Text → Reading
schedule_of nodes processors text = acts_from nodes processors 1 0 (lines_of text)

-- the answer is this reading
abbrev pub Reads : Result (List Scheduled) TextError → Reading → Type 0
Reads (Ok acts) reading = reading ≡ Ok acts
Reads (Err (error.BadLine line)) reading = reading ≡ Err line
Reads (Err error.NoMemory) reading = ⊤
