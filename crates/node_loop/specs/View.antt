-- A node as its callers see it.
use Rattle.std.specs.Prelude.{ℕ, suc, ◌-◌, ◌^◌, List, [], max, nat_lt, if◌then◌else◌}
use Rattle.run_trace.specs.declared.entry.Entry.{Entry}
use Rattle.run_trace.specs.declared.packet.Packet.{Packet}
use Rattle.run_trace.specs.Program.{Program}
use Rattle.run_trace.specs.Local.{Local, fresh}
use Rattle.wires.specs.declared.ends.Ends.{Ends}

-- no round begins with a clock as great, and no packet with a stamp as great is taken but as a stray
abbrev pub clock_limit : ℕ
clock_limit = 2 ^ 62

pub record NodeView : Type 0 where
  pub program : Program
  pub me : ℕ
  pub state : Local
  pub clock : ℕ  -- none of its stamps is above it
  pub round : ℕ
  pub entries : List Entry  -- oldest first
  pub console : List ℕ  -- the lines that it has shown
  pub ends : Ends Packet  -- its ends of its links with all nodes

-- node n before it begins
abbrev pub unbooted : Program → ℕ → Ends Packet → NodeView
unbooted p n ends = record {
  program = p;
  me = n;
  state = fresh p n;
  clock = 0;
  round = 0;
  entries = [];
  console = [];
  ends = ends;
}

abbrev pub view_of : Program → (me : ℕ) → Local → (clock round : ℕ) → List Entry → List ℕ → Ends Packet → NodeView
view_of p me state clock round entries console ends = record {
  program = p;
  me = me;
  state = state;
  clock = clock;
  round = round;
  entries = entries;
  console = console;
  ends = ends;
}

abbrev pub with_ends : Ends Packet → NodeView → NodeView
with_ends ends v = record v { ends = ends }

-- the round after a round; rounds stand still at their type's end
abbrev pub next_round : ℕ → ℕ
next_round round = if nat_lt round (2 ^ 64 - 1) then suc round else round

-- the clock is at least this, and the next round begins
abbrev pub raised : ℕ → NodeView → NodeView
raised clock v = record v { clock = max v.clock clock; round = next_round v.round }
