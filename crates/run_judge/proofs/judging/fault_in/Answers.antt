use Rattle.std.proofs.Common.{◌<◌, ◌+◌, ℕ, List, length, take, reverse, Option, None, Some, MatchOption, subst}
use Rattle.run_trace.specs.Program.{Program}
use Rattle.run_trace.specs.declared.entry.Entry.{Entry}
use Rattle.run_judge.specs.Judged.{IsSound}
use Rattle.run_judge.proofs.SoundLemmas.{at_fault, not_legal, at_end, Said}
use Rattle.run_judge.proofs.judging.fault_in.Goals as goal

-- what the loop has found
abbrev Found : Program → List Entry → Option ℕ → Type 0
Found p entries fault = MatchOption fault (IsSound p (reverse entries))
    (λ number. (number < length entries) × IsSound p (reverse (take number entries)) × (IsSound p (reverse (take (number + 1) entries)) → ⊥))

pub returns-in-Some : goal.returns-in-Some
returns-in-Some c =
    let p : Program = c.args.program.now in
    let entries : List Entry = c.args.entries.now in
    let found : Found p entries (Some c.in-Some.number) = subst (λ o. Found p entries o) c.in-Some.is c.in_ok-number.ensures in
    record {
      legal = (λ e. absurd (cc e), λ l. absurd (not_legal p entries c.in-Some.number found.2 l));
      first = at_fault p entries c.in-Some.number found.0 found.1 found.2;
    }

pub returns-in-None : goal.returns-in-None
returns-in-None c =
    let p : Program = c.args.program.now in
    let entries : List Entry = c.args.entries.now in
    let found : Found p entries None = subst (λ o. Found p entries o) c.in-None.is c.in_ok-number.ensures in
    let said : Said p entries c.missing.result = at_end c.whole.ensures.sequential p entries c.missing.result found c.missing.ensures in
    record { legal = said.legal; first = said.first }
