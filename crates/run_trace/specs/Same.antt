-- What a thread lives through, told by its own labels: how it was born, how many instructions it has done, what it was given
-- with each reply. And when two threads, in two traces, have lived through the same and have written the same.
use Rattle.std.specs.Prelude.{◌≡◌, ℕ, ◌+◌, List, [], ◌∷◌, ◌++◌, map, if◌then◌else◌}
use Rattle.slot_space.specs.Sets.{run}
use Rattle.slot_space.specs.declared.names.Tid.{Tid}
use Rattle.marcel_core.specs.declared.end.End.{End}
use Rattle.run_trace.specs.declared.entry.Entry.{Entry}
use Rattle.run_trace.specs.declared.label.Label.{Label}
use Rattle.run_trace.specs.declared.label.Label.TheVariants.{Born, Ran, Judged, Told, Took, Shown}
use Rattle.run_trace.specs.declared.label.Extra.{Extra}
use Rattle.run_trace.specs.declared.label.Extra.TheVariants.{Nothing}
use Rattle.run_trace.specs.Names.{is_tid}
use Rattle.run_trace.specs.Program.{Program}
use Rattle.run_trace.specs.Items.{subject}
use Rattle.run_trace.specs.Alone.{is_about, remote_of}
use Rattle.run_trace.specs.Console.{asked_bytes}
use Rattle.run_trace.specs.Rules.{spots_of}
use Rattle.run_trace.specs.Spots.{Life, On, Noting, Gone, Shown_there, Spots, Remote, remote_after, stack_bytes, after_label, at_first}

-- how a thread is born
pub record Start : Type 0 where
  pub entry : ℕ
  pub argument : ℕ
  pub stack : ℕ  -- the slot of its stack
  pub bytes : List ℕ  -- at the end of its stack, where it is a service

-- what a thread is given when a call returns: slots of zeros for its heap, a0, and what comes beside it
pub record Gift : Type 0 where
  pub slots : List ℕ
  pub code : ℕ
  pub extra : Extra

-- a stretch of its life: from its birth or a reply up to the next reply
pub record Stretch : Type 0 where
  pub instructions : ℕ
  pub gift : Gift

pub record Lived : Type 0 where
  pub start : Start
  pub stretches : List Stretch  -- newest first
  pub since : ℕ  -- the instructions done since
  pub coming : Gift  -- what it has got since, and was answered last

abbrev pub no_gift : Gift
no_gift = record { slots = []; code = 0; extra = Nothing }

abbrev pub unlived : Lived
unlived = record { start = record { entry = 0; argument = 0; stack = 0; bytes = [] }; stretches = []; since = 0; coming = no_gift }

-- one more of its labels: the instructions of a run are counted, wherever it was cut
abbrev pub lived_then : Remote → Label → Lived → Lived
lived_then remote (Born u why entry a0 a1 sp slot) a =
    record unlived { start = record { entry = entry; argument = a0; stack = slot; bytes = stack_bytes why remote } }
lived_then remote (Ran u vp count stop) a = record a { since = a.since + count }
lived_then remote (Took u first count) a = record a { coming = record a.coming { slots = a.coming.slots ++ run first count } }
lived_then remote (Judged u reply extra) a = record a { coming = record a.coming { code = reply; extra = extra } }
lived_then remote (Told u) a = record a {
  stretches = (record { instructions = a.since; gift = a.coming }) ∷ a.stretches;
  since = 0;
  coming = record a.coming { slots = [] };
}
lived_then remote _ a = a

abbrev pub lived_in : Remote → Tid → List Label → Lived → Lived
lived_in remote t [] a = a
lived_in remote t (l ∷ ls) a = lived_in (remote_after l remote) t ls (if is_about t (subject l) then lived_then remote l a else a)

-- what thread t has lived through in a trace, newest entry first
abbrev pub lived : Tid → List Entry → Lived
lived t [] = unlived
lived t (x ∷ xs) = lived_in (remote_of xs) t x.labels (lived t xs)

-- ## The same

-- what it was given with each reply that it was told
abbrev pub gifts : Lived → List Gift
gifts a = map (λ x. x.gift) a.stretches

abbrev pub instructions_of : List Stretch → ℕ
instructions_of [] = 0
instructions_of (x ∷ before) = instructions_of before + x.instructions

-- all that it has done
abbrev pub instructions : Lived → ℕ
instructions a = instructions_of a.stretches + a.since

-- born the same, given the same slots and the same replies so far, and as many instructions done
pub record HasLivedLike (a b : Lived) : Type 0 where
  pub born : a.start ≡ b.start
  pub given : gifts a ≡ gifts b
  pub done : instructions a ≡ instructions b

-- ## Lines

-- the lines of thread t that stand on the console, oldest first: the bytes of each, without the thread's name
abbrev pub written_then : Tid → Label → Spots → List (List ℕ) → List (List ℕ)
written_then t (Shown u) w lines = if is_tid u t then lines ++ asked_bytes (w.threads u).life ∷ [] else lines
written_then t _ w lines = lines

abbrev pub written_in : Program → ℕ → Tid → List Label → Spots → List (List ℕ) → List (List ℕ)
written_in p n t [] w lines = lines
written_in p n t (l ∷ ls) w lines = written_in p n t ls (after_label p n l w) (written_then t l w lines)

abbrev pub written : Program → Tid → List Entry → List (List ℕ)
written p t [] = []
written p t (x ∷ xs) = written_in p x.node t x.labels (spots_of p (at_first p) xs) (written p t xs)

-- these lines, and the next one too where its print is shown and hasn't returned yet
abbrev pub IsUpTo : List (List ℕ) → List ℕ → Life → List (List ℕ) → Type 0
IsUpTo before next (On n Shown_there) lines = lines ≡ before ++ next ∷ []
IsUpTo before next life lines = lines ≡ before

-- thread t has written these lines, and the next one too where its print is shown and hasn't returned yet
abbrev pub HasWritten : Program → List Entry → Tid → List (List ℕ) → List ℕ → Type 0
HasWritten p trace t before next = IsUpTo before next ((spots_of p (at_first p) trace).threads t).life (written p t trace)

-- ## Ends

-- a thread has ended so, and perhaps its home knows
abbrev pub HasEnded : Life → End → Type 0
HasEnded (Noting n end) how = end ≡ how
HasEnded (Gone end) how = end ≡ how
HasEnded _ how = ⊥
