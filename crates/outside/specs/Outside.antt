-- What a shelf of files and a sink of bytes tell, and when a count of faults rose.
use Rattle.std.specs.Prelude.{◌≡◌, ◌≤◌, ◌+◌, ◌-◌, ◌^◌, ◌++◌, ℕ, Bool, nat_eq, min, List, take, Option, Some, None, IfSome, option_map}
use Rattle.std.specs.List.{list_any}

-- the count rose in a call: it is greater after it, or stands at its last value
abbrev pub Rose : ℕ → ℕ → Type 0
Rose before now = min (before + 1) (2 ^ 64 - 1) ≤ now

-- the files by their names, where the shelf tells them
abbrev pub Content : Type 0
Content = Option (List ℕ → Option (List ℕ))

-- the file of this name: None where the shelf doesn't tell, Some None where it tells that there is none
abbrev pub file_at : Content → List ℕ → Option (Option (List ℕ))
file_at None name = None
file_at (Some files) name = Some (files name)

-- the shelf tells its files and has none of this name
abbrev pub Lacks : Content → List ℕ → Type 0
Lacks files name = file_at files name ≡ Some None

-- the shelf tells its files, and this is the file's whole content
abbrev pub Holds : Content → List ℕ → List ℕ → Type 0
Holds files name bytes = file_at files name ≡ Some (Some bytes)

-- these may be the file's bytes: they are where the shelf tells them
abbrev pub MayHold : Content → List ℕ → List ℕ → Type 0
MayHold files name bytes = IfSome (file_at files name) (λ file. file ≡ Some bytes)

-- the bytes are at the end of what was written, where that is told
abbrev pub Appends : Option (List ℕ) → List ℕ → Option (List ℕ) → Type 0
Appends old bytes new = new ≡ option_map (λ b. b ++ bytes) old

-- a first part of the bytes is
abbrev pub AppendsPrefix : Option (List ℕ) → List ℕ → Option (List ℕ) → Type 0
AppendsPrefix old bytes new = (n : ℕ) × Appends old (take n bytes) new

-- the call of this number is one of those that fail
abbrev pub is_planned : List ℕ → ℕ → Bool
is_planned fails call = list_any (λ n. nat_eq n call) fails
