-- Which labels and entries have exactly their fields, so that their text says all of them.
use Rattle.std.specs.Prelude.{◌≡◌, ℕ, ◌+◌, ◌^◌, ◌<◌, ◌≤◌, List, [], ◌∷◌, Bool, true, false, Option, Some, None, length}
use Rattle.std.specs.List.{AllByRecursion}
use Rattle.slot_space.specs.declared.names.Tid.{Tid}
use Rattle.marcel_core.specs.declared.end.End.{End}
use Rattle.marcel_core.specs.declared.end.End.TheVariants as ends
use Rattle.run_trace.specs.declared.entry.Act.{Act}
use Rattle.run_trace.specs.declared.entry.Act.TheVariants as acts
use Rattle.run_trace.specs.declared.entry.Entry.{Entry}
use Rattle.run_trace.specs.declared.label.Label.{Label}
use Rattle.run_trace.specs.declared.label.Label.TheVariants.{Born, Ran, Asked, Heard, Judged, Told, Took, Gave, Ended, Known, Left, Came, Lent, InHand, Decided, Returned, Home, Down, Burst, Gathered, Shown, Halted, Dropped}
use Rattle.run_trace.specs.declared.label.Why.{Why}
use Rattle.run_trace.specs.declared.label.Why.TheVariants as whys
use Rattle.run_trace.specs.declared.label.Extra.{Extra}
use Rattle.run_trace.specs.declared.label.Extra.TheVariants as extras
use Rattle.trace_text.specs.Calls.{CallRow, call_numbered}

abbrev pub FitsTid : Tid → Type 0
FitsTid t = (t.home < 2 ^ 8) × (t.seq < 2 ^ 32)

-- numbers of 16 bits that ascend, the first not below the one given
abbrev pub AscendFrom : ℕ → List ℕ → Type 0
AscendFrom least [] = Unit {0}
AscendFrom least (n ∷ ns) = (least ≤ n) × (n < 2 ^ 16) × AscendFrom (n + 1) ns

abbrev pub FitsSlots : List ℕ → Type 0
FitsSlots ns = AscendFrom 0 ns

abbrev pub AreBytes : List ℕ → Type 0
AreBytes bs = AllByRecursion (λ b. b < 2 ^ 8) bs

abbrev pub FitsAct : Act → Type 0
FitsAct acts.Boot = Unit {0}
FitsAct (acts.Run vp quantum) = (vp < 2 ^ 8) × (quantum < 2 ^ 32)
FitsAct (acts.Take from) = from < 2 ^ 8
FitsAct (acts.Move t to) = FitsTid t × (to < 2 ^ 8)

abbrev pub FitsWhy : Why → Type 0
FitsWhy whys.Main = Unit {0}
FitsWhy (whys.Create by) = FitsTid by
FitsWhy (whys.Inside by bubble) = FitsTid by × (bubble < 2 ^ 32)
FitsWhy (whys.Service by count) = FitsTid by × (count < 2 ^ 32)

abbrev pub FitsEnd : End → Type 0
FitsEnd (ends.Exit value) = value < 2 ^ 64
FitsEnd (ends.Fault kind pc) = pc < 2 ^ 64

abbrev pub FitsExtra : Extra → Type 0
FitsExtra extras.Nothing = Unit {0}
FitsExtra (extras.Second second) = second < 2 ^ 64
FitsExtra (extras.Bytes bytes) = AreBytes bytes

abbrev pub FitsFirst : Option ℕ → Type 0
FitsFirst None = Unit {0}
FitsFirst (Some slot) = slot < 2 ^ 16

abbrev pub AreLong : List ℕ → Type 0
AreLong ns = AllByRecursion (λ n. n < 2 ^ 64) ns

-- bytes where the call names some, and else none
abbrev pub FitsSaid : Bool → List ℕ → Type 0
FitsSaid false bytes = bytes ≡ []
FitsSaid true bytes = AreBytes bytes

-- so many arguments as the call has; of a number that no call has nothing more is told
abbrev pub FitsAsked : Option CallRow → ℕ → List ℕ → List ℕ → Type 0
FitsAsked None call args bytes = (call < 2 ^ 64) × (args ≡ []) × (bytes ≡ [])
FitsAsked (Some r) call args bytes = (length args ≡ r.arguments) × AreLong args × FitsSaid r.says bytes

abbrev pub Fits : Label → Type 0
Fits (Born t why entry a0 a1 sp slot) = FitsTid t × FitsWhy why × (entry < 2 ^ 64) × (a0 < 2 ^ 64) × (a1 < 2 ^ 64) × (sp < 2 ^ 64) × (slot < 2 ^ 16)
Fits (Ran t vp count stop) = FitsTid t × (vp < 2 ^ 8) × (count < 2 ^ 32)
Fits (Asked t call args bytes) = FitsTid t × FitsAsked (call_numbered call) call args bytes
Fits (Heard t) = FitsTid t
Fits (Judged t reply extra) = FitsTid t × (reply < 2 ^ 64) × FitsExtra extra
Fits (Told t) = FitsTid t
Fits (Took t first count) = FitsTid t × (first < 2 ^ 16) × (count < 2 ^ 16)
Fits (Gave t slots) = FitsTid t × FitsSlots slots
Fits (Ended t end) = FitsTid t × FitsEnd end
Fits (Known t) = FitsTid t
Fits (Left t to) = FitsTid t × (to < 2 ^ 8)
Fits (Came t) = FitsTid t
Fits (Lent to slots) = (to < 2 ^ 8) × FitsSlots slots
Fits (InHand lender slots) = (lender < 2 ^ 8) × FitsSlots slots
Fits (Decided t count first) = FitsTid t × (count < 2 ^ 16) × FitsFirst first
Fits (Returned to slots) = (to < 2 ^ 8) × FitsSlots slots
Fits (Home slots) = FitsSlots slots
Fits (Down bubble list) = (bubble < 2 ^ 32) × (list < 2 ^ 8)
Fits (Burst bubble list) = (bubble < 2 ^ 32) × (list < 2 ^ 8)
Fits (Gathered bubble count) = (bubble < 2 ^ 32) × (count < 2 ^ 32)
Fits (Shown t) = FitsTid t
Fits (Halted t) = FitsTid t
Fits (Dropped t count reply) = FitsTid t × (count < 2 ^ 32) × (reply < 2 ^ 64)

abbrev pub FitsHead : Entry → Type 0
FitsHead x = (x.stamp < 2 ^ 64) × (x.node < 2 ^ 8) × (x.round < 2 ^ 64) × FitsAct x.act

abbrev pub FitsEntry : Entry → Type 0
FitsEntry x = FitsHead x × AllByRecursion Fits x.labels

-- each label and each head of the trace fits
abbrev pub FitsTrace : List Entry → Type 0
FitsTrace xs = AllByRecursion FitsEntry xs
