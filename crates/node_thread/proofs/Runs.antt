-- Steps one after another are a run.
use Rattle.std.proofs.Common.{◌≡◌, ℕ, zero, suc, List, Option, Some, None, refl, sym, ap, ◌∙◌, arith}
use Rattle.std.specs.Option.{option_and_then}
use Rattle.rv_step.specs.declared.hart.Stop.{Stop}
use Rattle.rv_step.specs.declared.hart.Stop.TheVariants as stops
use Rattle.rv_step.specs.Step.{HartState, Outcome, Next, Call, Fault, step_of}
use Rattle.rv_step.specs.Run.{after, next_of, StopsBy}
use Rattle.run_trace.specs.Guests.{Run, run_of, run_on}

stay : (o : Option HartState) → o ≡ option_and_then (λ (mid : HartState). Some mid) o
stay None = refl
stay (Some s) = refl

regroup : (f g : HartState → Option HartState) (o : Option HartState)
    → option_and_then f (option_and_then g o) ≡ option_and_then (λ (mid : HartState). option_and_then f (g mid)) o
regroup f g None = refl
regroup f g (Some s) = refl

-- the first step apart
from_front : (image : List ℕ) (s : HartState) (n : ℕ)
    → after image s (suc n) ≡ option_and_then (λ (mid : HartState). after image mid n) (next_of (step_of image s))
unfolding after
from_front image s zero = stay (next_of (step_of image s))
from_front image s (suc n) =
    ap (option_and_then (λ (mid : HartState). next_of (step_of image mid))) (from_front image s n)
    ∙ regroup (λ (mid : HartState). next_of (step_of image mid)) (λ (mid : HartState). after image mid n) (next_of (step_of image s))

abbrev inside : HartState → Option HartState → HartState
inside d None = d
inside d (Some s) = s

abbrev is_run : ℕ → Stop → HartState → Run
is_run count stop new = record { count = count; stop = stop; state = new }

stops_at : (image : List ℕ) (s : HartState) (quantum : ℕ) (stop : Stop) → StopsBy image s quantum 0 stop → run_of image quantum s ≡ is_run 0 stop s
unfolding run_of
stops_at image s zero stops.Quantum h = refl
stops_at image s (suc q) stops.Quantum h = absurd (omega arith)
stops_at image s zero stops.Call h = absurd (let lt = h.0 in omega arith)
stops_at image s (suc q) stops.Call h = ap (λ (o : Outcome). run_on o s (run_of image q)) h.1
stops_at image s zero (stops.Fault kind) h = absurd (let lt = h.0 in omega arith)
stops_at image s (suc q) (stops.Fault kind) h = ap (λ (o : Outcome). run_on o s (run_of image q)) h.1

-- the rest stops as the whole does
rest_stops : (image : List ℕ) (new : HartState) (quantum count : ℕ) (stop : Stop) → StopsBy image new (suc quantum) (suc count) stop → StopsBy image new quantum count stop
rest_stops image new q c stops.Quantum h = omega arith
rest_stops image new q c stops.Call h = (let lt = h.0 in omega arith, h.1)
rest_stops image new q c (stops.Fault kind) h = (let lt = h.0 in omega arith, h.1)

no_quantum : (image : List ℕ) (new : HartState) (count : ℕ) (stop : Stop) → StopsBy image new 0 (suc count) stop → ⊥
no_quantum image new c stops.Quantum h = omega arith
no_quantum image new c stops.Call h = let lt = h.0 in omega arith
no_quantum image new c (stops.Fault kind) h = let lt = h.0 in omega arith

pub run_is : (image : List ℕ) (s new : HartState) (quantum count : ℕ) (stop : Stop)
    → after image s count ≡ Some new → StopsBy image new quantum count stop → run_of image quantum s ≡ record { count = count; stop = stop; state = new }
unfolding run_of after
run_is image s new quantum zero stop e h = at_once
  where
    same : s ≡ new
    same = ap (inside s) e

    at_once : run_of image quantum s ≡ record { count = 0; stop = stop; state = new }
    at_once = rw same (stops_at image new quantum stop h)
run_is image s new zero (suc count) stop e h = absurd (no_quantum image new count stop h)
run_is image s new (suc quantum) (suc count) stop e h = by (step_of image s) refl (λ (mid : HartState) on. run_is image mid new quantum count stop on (rest_stops image new quantum count stop h))
  where
    front : option_and_then (λ (mid : HartState). after image mid count) (next_of (step_of image s)) ≡ Some new
    front = sym (from_front image s count) ∙ e

    by : (o : Outcome) → step_of image s ≡ o
        → ((mid : HartState) → after image mid count ≡ Some new → run_of image quantum mid ≡ record { count = count; stop = stop; state = new })
        → run_of image (suc quantum) s ≡ record { count = suc count; stop = stop; state = new }
    by (Next mid) is more =
        let on : after image mid count ≡ Some new = rw is at front in
        ap (λ (o : Outcome). run_on o s (run_of image quantum)) is
        ∙ ap (λ (r : Run). let q : Run = record r { count = suc r.count } in q) (more mid on)
    by Call is more = absurd (let gone = rw is at front in cc)
    by (Fault kind) is more = absurd (let gone = rw is at front in cc)
