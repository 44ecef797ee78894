-- What each node has written by itself, oldest first.
use Rattle.std.specs.Prelude.{◌≡◌, ℕ, suc, ◌<◌, List, [], ◌∷◌, ⊤}
use Rattle.run_trace.specs.declared.entry.Entry.{Entry}

-- each of these has a greater stamp
abbrev pub AreLater : ℕ → List Entry → Type 0
AreLater stamp [] = ⊤
AreLater stamp (x ∷ xs) = (stamp < x.stamp) × AreLater stamp xs

-- entries of this node, whose stamps ascend
abbrev pub IsPart : ℕ → List Entry → Type 0
IsPart n [] = ⊤
IsPart n (x ∷ xs) = (x.node ≡ n) × AreLater x.stamp xs × IsPart n xs

-- one part for each node from n on
abbrev pub AreParts : ℕ → List (List Entry) → Type 0
AreParts n [] = ⊤
AreParts n (part ∷ parts) = IsPart n part × AreParts (suc n) parts
