-- What a judge has to say of a trace, newest entry first.
use Rattle.std.specs.Prelude.{◌≡◌, ◌≤◌, ◌<◌, ◌⊎◌, ◌+◌, ℕ, List, [], ◌∷◌, length, take, reverse, ⊤}
use Rattle.run_trace.specs.declared.entry.Entry.{Entry}
use Rattle.run_trace.specs.Program.{Program, nodes_of}
use Rattle.run_trace.specs.Cluster.{fresh_net}
use Rattle.run_trace.specs.Trace.{IsRun}
use Rattle.run_trace.specs.Histories.{IsInOrder}
use Rattle.run_trace.specs.Legality.{AreRising, boot_entry}

-- the entry with this number is the beginning of the node with this number, if there is one
abbrev pub BeginsAt : Program → ℕ → Entry → Type 0
BeginsAt p number x = number < nodes_of p → x ≡ boot_entry p number

-- each of the oldest entries is a node's beginning
abbrev pub AreBeginnings : Program → List Entry → Type 0
AreBeginnings p [] = ⊤
AreBeginnings p (x ∷ xs) = BeginsAt p (length xs) x × AreBeginnings p xs

-- nothing is wrong so far
pub record IsSound (p : Program) (trace : List Entry) : Type 0 where
  pub order : IsInOrder trace
  pub begins : AreBeginnings p trace
  pub rounds : AreRising trace
  pub runs : IsRun p (fresh_net p) trace

-- nothing is wrong with so many entries, oldest first, but with one more; or there is no more, and a beginning is missing
pub record IsFirstFault (p : Program) (entries : List Entry) (number : ℕ) : Type 0 where
  pub within : number ≤ length entries
  pub sound : IsSound p (reverse (take number entries))
  pub fault : number < length entries → IsSound p (reverse (take (number + 1) entries)) → ⊥
  pub missing : length entries ≤ number → length entries < nodes_of p

-- after the newest of these
abbrev pub Follows : Entry → List Entry → Type 0
Follows x [] = ⊤
Follows x (y ∷ ys) = ((y.stamp < x.stamp) ⊎ ((y.stamp ≡ x.stamp) × (y.node < x.node))) × (y.round ≤ x.round)
