-- What a node does in one round: it goes over its links and its processors in passes. All lists have the newest act first.
use Rattle.std.specs.Prelude.{◌≡◌, ◌<◌, ◌≤◌, ◌⊎◌, ⊤, ℕ, zero, suc, List, [], ◌∷◌, ◌++◌, length, Bool, true, false}
use Rattle.run_trace.specs.declared.entry.Act.{Act}
use Rattle.run_trace.specs.declared.entry.Act.TheVariants.{Run, Take}

-- an act that a node did, and which processors have a pick after it
pub record Moment : Type 0 where
  pub act : Act
  pub ready : ℕ → Bool

-- which processors have a pick after these acts, if those that are told have one before them
abbrev pub ready_after : (ℕ → Bool) → List Moment → ℕ → Bool
ready_after ready [] = ready
ready_after ready (x ∷ xs) = x.ready

-- one take from each of some senders below this number, in the order of senders
abbrev pub AreTakes : ℕ → List Moment → Type 0
AreTakes below [] = ⊤
AreTakes below (x ∷ xs) = (sender : ℕ) × (x.act ≡ Take sender) × (sender < below) × AreTakes sender xs

-- a take from this sender is among them
abbrev pub HasTake : ℕ → List Moment → Type 0
HasTake sender [] = ⊥
HasTake sender (x ∷ xs) = (x.act ≡ Take sender) ⊎ HasTake sender xs

-- with a run of the processor where it has a pick, and nothing more where it has none
abbrev pub RunsNext : (quantum vp : ℕ) → Bool → (before runs : List Moment) → Type 0
RunsNext quantum vp true before runs = (x : Moment) × (runs ≡ x ∷ before) × (x.act ≡ Run vp quantum)
RunsNext quantum vp false before runs = runs ≡ before

-- the processors below this number in their order: a run with this quantum of each that has a pick when its turn comes
abbrev pub AreRuns : (quantum below : ℕ) → (ℕ → Bool) → List Moment → Type 0
AreRuns quantum zero ready runs = runs ≡ []
AreRuns quantum (suc vp) ready runs = (before : List Moment) × AreRuns quantum vp ready before × RunsNext quantum vp (ready_after ready before vp) before runs

-- a pass over so many processors: takes in the order of senders, and then a run of each processor that has a pick
pub record IsPass (nodes processors quantum : ℕ) (ready : ℕ → Bool) (pass : List Moment) : Type 0 where
  pub takes : List Moment
  pub runs : List Moment
  pub whole : pass ≡ runs ++ takes
  pub ascending : AreTakes nodes takes
  pub run : AreRuns quantum processors (ready_after ready takes) runs

-- the acts of these passes, the newest of which stands first
abbrev pub acts_in : List (List Moment) → List Moment
acts_in [] = []
acts_in (pass ∷ before) = pass ++ acts_in before

abbrev pub ArePasses : (nodes processors quantum : ℕ) → (ℕ → Bool) → List (List Moment) → Type 0
ArePasses nodes processors quantum ready [] = ⊤
ArePasses nodes processors quantum ready (pass ∷ before) =
    IsPass nodes processors quantum (ready_after ready (acts_in before)) pass × ArePasses nodes processors quantum ready before

-- the oldest of a pass and the passes before it
abbrev pub first_pass : List Moment → List (List Moment) → List Moment
first_pass pass [] = pass
first_pass pass (earlier ∷ before) = first_pass earlier before

-- no processor has a pick
abbrev pub NoneReady : (processors : ℕ) → (ℕ → Bool) → Type 0
NoneReady processors ready = (vp : ℕ) → vp < processors → ready vp ≡ false

-- at most so many acts fall into passes. The round ends with that many acts, by which the last pass may be cut off before some
-- processor, or where no processor has a pick; from each sender of which a packet was there at its start a packet is taken in the
-- first pass, unless that is cut off
pub record IsRound (nodes processors quantum most : ℕ) (ready has : ℕ → Bool) (acts : List Moment) : Type 0 where
  pub passes : List (List Moment)
  pub last : List Moment
  pub reach : ℕ  -- the processors below this number are asked in the last pass
  pub whole : acts ≡ last ++ acts_in passes
  pub each : ArePasses nodes processors quantum ready passes
  pub within : reach ≤ processors
  pub cut : IsPass nodes reach quantum (ready_after ready (acts_in passes)) last
  pub few : length acts ≤ most
  pub ends : (length acts ≡ most) ⊎ ((last ≡ []) × NoneReady processors (ready_after ready acts))
  pub first : (sender : ℕ) → sender < nodes → has sender ≡ true → HasTake sender (first_pass last passes) ⊎ (length (first_pass last passes) ≡ most)
