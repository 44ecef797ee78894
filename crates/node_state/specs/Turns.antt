-- Turns to come to slots of other nodes, as code takes them step by step.
use Rattle.std.specs.Prelude.{◌≡◌, ℕ, ◌≤◌, ◌-◌, List, [], length, take, Option, Some, None, Bool, true, false}
use Rattle.run_trace.specs.declared.packet.Body.TheVariants.{Turn}
use Rattle.run_trace.specs.declared.packet.Send.{Send}
use Rattle.run_trace.specs.Talks.{one_send}
use Rattle.run_trace.specs.Local.{EventSoFar}
use Rattle.run_trace.specs.Machine.{grants}

-- the node with this number has the turn from now on
abbrev pub turn_for : Option ℕ → List Send
turn_for None = []
turn_for (Some m) = one_send m Turn

-- what is granted to so many claims from the front
abbrev pub grants_to : (me left : ℕ) → EventSoFar → EventSoFar
grants_to me left d = grants me (take left d.node.talk.claims) d

-- of so many claims the first is served, and the others come to what all would have; or the turn has ended
abbrev pub Grants : (me left : ℕ) → EventSoFar → EventSoFar → Bool → Type 0
Grants me left old new true = (grants_to me (left - 1) new ≡ grants_to me left old) × (left - 1 ≤ length new.node.talk.claims)
Grants me left old new false = new ≡ grants_to me left old
