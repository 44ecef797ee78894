-- Readings behind acts.
use Rattle.std.proofs.Common.{◌≡◌, ◌∙◌, ℕ, ◌+◌, ◌<◌, true, nat_lt, List, [], ◌∷◌, ◌++◌, length, length-append, refl, ap, sym, Ok, Err, IsErrOf, arith}
use Rattle.std.proofs.lemmas.Bool.Decides.{nat_tests}
use Rattle.trace_text.specs.declared.error.TextError.{TextError}
use Rattle.trace_text.specs.declared.error.TextError.TheVariants as error
use Rattle.run_texts.specs.declared.act.Said.{Said}
use Rattle.run_texts.specs.declared.act.Said.TheVariants as said_as
use Rattle.run_texts.specs.Parts.{Text, lines_of}
use Rattle.run_texts.specs.declared.schedule.Scheduled.{Scheduled}
use Rattle.run_texts.specs.Schedules.{Reading, Reads, acts_from, at_front, behind, goes_on}

pub behind_more : (before : List Scheduled) (a : Scheduled) (r : Reading) → behind (before ++ a ∷ []) r ≡ behind before (at_front a r)
behind_more [] a r = refl
behind_more (b ∷ before) a r = ap (at_front b) (behind_more before a r)

pub behind_bad : (before : List Scheduled) (line : ℕ) → behind before (Err line) ≡ Err line
behind_bad [] line = refl
behind_bad (b ∷ before) line = ap (at_front b) (behind_bad before line)

pub behind_end : (before : List Scheduled) → behind before (Ok []) ≡ Ok before
behind_end [] = refl
behind_end (b ∷ before) = ap (at_front b) (behind_end before)

-- all lines are read
pub all_read : (nodes processors line n : ℕ) (acts : List Scheduled) (rest : Text) (r : Reading) → length rest ≡ 0 → behind acts (acts_from nodes processors line n (lines_of rest)) ≡ r → r ≡ Ok acts
all_read nodes processors line n acts [] r h e = sym e ∙ behind_end acts
all_read nodes processors line n acts (b ∷ bs) r h e = absurd (omega arith)

-- a line is bad, or there is no memory
pub refused : (e : TextError) (line n : ℕ) (said : Said) (acts : List Scheduled) (rest : ℕ → Reading) (r : Reading)
    → ((bad : ℕ) → IsErrOf {T = Unit {0}} (Err e) (error.BadLine bad) → (bad ≡ line) × ((more : ℕ → Reading) → goes_on line n said more ≡ Err line)) → behind acts (goes_on line n said rest) ≡ r → Reads (Err e) r
refused error.NoMemory line n said acts rest r h e = tt
refused (error.BadLine bad) line n said acts rest r h e =
    let p = h bad refl in
    sym e ∙ (ap (behind acts) (p.1 rest) ∙ (behind_bad acts line ∙ ap (λ l. Err l) (sym p.0)))

-- an act is taken in
pub one_more : (before now : List Scheduled) (line : ℕ) (a : Scheduled) (said : Said) (rest : ℕ → Reading) → said ≡ said_as.Act a.node a.act → a.line ≡ line → now ≡ before ++ a ∷ [] → length before < 1000000
    → behind now (rest (length now)) ≡ behind before (goes_on line (length before) said rest)
one_more before now line a said rest es el en less =
    let test : nat_lt (length before) 1000000 ≡ true = grind (arith, nat_tests) in
    let len : length now ≡ length before + 1 = rw en (length-append before (a ∷ []) ∙ refl) in
    rw (es, test, len) (rw (en, sym el) (behind_more before a (rest (length before + 1))))
