-- The acts of a schedule that was read are not too many, and in range.
use Rattle.std.proofs.Common.{◌≡◌, ◌<◌, ◌≤◌, ℕ, List, [], ◌∷◌, length, Option, Some, Result, Ok, Err, subst, arith}
use Rattle.std.specs.Prelude.{◌^◌, IfSome, IfOk}
use Rattle.run_trace.specs.declared.entry.Act.{Act}
use Rattle.run_trace.specs.declared.entry.Act.TheVariants as act
use Rattle.run_trace.specs.Program.{Program, nodes_of, processors_of}
use Rattle.node_loop.specs.Turns.{IsActInRange}
use Rattle.trace_text.specs.declared.error.TextError.{TextError}
use Rattle.run_texts.specs.declared.schedule.Scheduled.{Scheduled}
use Rattle.run_texts.specs.Parts.{lines_of}
use Rattle.run_texts.specs.Fitting.{IsActOf, AreActsOf}
use Rattle.run_texts.specs.Schedules.{Reads, most_acts, schedule_of}
use Rattle.simulation.specs.Schedules.{AreInRange}

act_in_range : (p : Program) (node : ℕ) (a : Act) → IsActOf (nodes_of p) (processors_of p) node a → IsActInRange p node a
act_in_range p node act.Boot h = h
act_in_range p node (act.Run vp quantum) h = (h.0, omega (arith, h.1), h.2)
act_in_range p node (act.Take sender) h = h
act_in_range p node (act.Move t to) h = h

in_range : (p : Program) (acts : List Scheduled) → AreActsOf (nodes_of p) (processors_of p) acts → AreInRange p acts
in_range p [] h = tt
in_range p (s ∷ later) h = (h.0, act_in_range p s.node s.act h.1, in_range p later h.2)

pub fine_of : (p : Program) (text : List ℕ) (r : Result (List Scheduled) TextError) → Reads r (schedule_of (nodes_of p) (processors_of p) text)
    → ((nodes processors : ℕ) (text : List ℕ) (acts : List Scheduled) → schedule_of nodes processors text ≡ Ok acts → (length acts ≤ most_acts) × AreActsOf nodes processors acts)
    → IfOk r (λ acts. (length acts ≤ 1000000) × AreInRange p acts)
fine_of p text (Ok acts) h fit = let fits : (length acts ≤ most_acts) × AreActsOf (nodes_of p) (processors_of p) acts = fit (nodes_of p) (processors_of p) text acts h in (fits.0, in_range p acts fits.1)
fine_of p text (Err e) h fit = tt

-- the lines of a schedule that was read can be counted
pub countable : (o : Option (List ℕ)) (text read : List ℕ) → IfSome o (λ bytes. length bytes ≤ 33554432) → o ≡ Some text → read ≡ text → ((bytes : List ℕ) → length (lines_of bytes) ≤ length bytes)
    → length (lines_of read) < 2 ^ 32
countable o text read h is same fit =
    let few : length text ≤ 33554432 = subst (λ z. IfSome z (λ bytes. length bytes ≤ 33554432)) is h in
    let lines : length (lines_of read) ≤ length text = subst (λ z. length (lines_of read) ≤ length z) same (fit read) in
    omega (arith, few, lines)
