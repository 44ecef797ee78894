-- Settings as numbers, and an option without where its name lies in memory.
use Rattle.std.specs.Prelude.{◌≡◌, ◌≤◌, ℕ, true}
use Rattle.std.specs.Option.{option_map}
use Rattle.settings.specs.Numbers.{NumberOf, are_apart, quantum, turns}
use Rattle.settings.specs.Settings.{Chosen}
use Rattle.settings.specs.declared.number.NumberOption.{NumberOption}
use Rattle.settings.specs.declared.asked.Settings.{Settings}
use Rattle.settings.specs.declared.asked.Asked.{Asked}
use Rattle.settings.specs.declared.command.Command.{Command}

abbrev pub chosen : Settings → Chosen
chosen s = record {
  command = s.command;
  nodes = s.setup.geometry.nodes;
  slots = s.setup.geometry.slots;
  tree = s.setup.tree;
  quantum = s.setup.quantum;
  turns = s.turns;
  seed = s.seed;
  moves = s.moves;
  summary = s.summary;
  trace = s.trace;
  schedule = s.schedule;
}

abbrev pub option_seen : NumberOption → NumberOf
option_seen o = record { name = o.name.now; low = o.low; high = o.high; usual = o.usual }

-- the same of what is asked for by names that aren't owned
abbrev pub chosen_in : Command → Asked → Chosen
chosen_in command a = record {
  command = command;
  nodes = a.setup.geometry.nodes;
  slots = a.setup.geometry.slots;
  tree = a.setup.tree;
  quantum = a.setup.quantum;
  turns = a.turns;
  seed = a.seed;
  moves = a.moves;
  summary = a.summary;
  trace = option_map (λ s. s.now) a.trace;
  schedule = option_map (λ s. s.now) a.schedule;
}

abbrev pub IsBetween : ℕ → ℕ → ℕ → Type 0
IsBetween low high n = (low ≤ n) × (n ≤ high)

-- a run has 1 to 65,536 instructions, and there are 1 to 1,000,000 entries; nodes, slots and the tree have their own limits; the trace and the
-- schedule go to two files
pub record IsWithinLimits (s : Settings) : Type 0 where
  pub some_quantum : 1 ≤ s.setup.quantum
  pub small_quantum : s.setup.quantum ≤ quantum.high
  pub some_turns : 1 ≤ s.turns
  pub few_turns : s.turns ≤ turns.high
  pub apart : are_apart s.trace s.schedule ≡ true
