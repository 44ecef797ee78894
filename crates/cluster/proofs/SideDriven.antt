-- All nodes after a round side by side, in the words of the code.
use Rattle.std.proofs.Common.{◌≡◌, ℕ, List, length, map, get_or, Some, ap, ◌∙◌, subst, arith}
use Rattle.std.specs.Prelude.{slice_get}
use Rattle.std.proofs.lemmas.Option.{slice_get_within}
use Rattle.run_trace.specs.declared.packet.Packet.{Packet}
use Rattle.run_trace.specs.Program.{Program}
use Rattle.wires.specs.declared.ends.Ends.{Ends}
use Rattle.wires.specs.Wires.{AreWired}
use Rattle.basics.proofs.Lemmas.{some_at}
use Rattle.wires.proofs.Lemmas.{stays_trans}
use Rattle.node_loop.specs.Rounds.{Rounds}
use Rattle.node_loop.specs.View.{NodeView, raised}
use Rattle.node_loop.specs.declared.node.RoundEnd.{RoundEnd}
use Rattle.node_loop.specs.declared.node.RoundEnd.TheVariants.{Lost, Through}
use Rattle.cluster.specs.Apart.{StaysInPlace}
use Rattle.cluster.specs.Between.{AllOf, AreNumbered, wires_in}
use Rattle.cluster.specs.Rounds.{acts_in_round}
use Rattle.cluster.specs.SideBySide.{EachHasRun, HasRun}
use Rattle.cluster.proofs.Acting.{get_raised, raised_length, read_some}
use Rattle.cluster.proofs.SideWires.{wired_all}

run_keeps : (v w : NodeView) → HasRun v w → StaysInPlace v w
run_keeps v w h = by h.end h.rounds
  where
    by : (e : RoundEnd) → Rounds v acts_in_round w e → StaysInPlace v w
    by Through r = record { program = r.done.history.program; me = r.done.history.me; wired = r.done.wired }
    by Lost r = record { program = r.lost.program ∙ r.done.history.program; me = r.lost.me ∙ r.done.history.me; wired = stays_trans v.ends r.last.ends w.ends r.done.wired r.lost.wired }

-- what is raised and has run, one by one
pub ran_keep : (clock : ℕ) (old mid ran : List NodeView) → mid ≡ map (raised clock) old → length ran ≡ length mid → EachHasRun mid ran → (n : ℕ) (v w : NodeView) → slice_get old n ≡ Some v → slice_get ran n ≡ Some w → StaysInPlace (raised clock v) w
ran_keep clock old mid ran e long h n v w f g =
    let at : slice_get mid n ≡ Some (raised clock v) = ap (λ us. slice_get us n) e ∙ get_raised clock old n v f in
    run_keeps (raised clock v) w
    (subst (λ z. HasRun z w) (read_some mid n v (raised clock v) at) (subst (λ z. HasRun (get_or mid n v) z) (read_some ran n v w g) (h n v (slice_get_within mid n (raised clock v) at))))

pub ran_wired : (clock : ℕ) (old mid ran : List NodeView) (rest : List (Ends Packet)) → mid ≡ map (raised clock) old → length ran ≡ length mid → EachHasRun mid ran → AreWired (wires_in old rest) → AreWired (wires_in ran rest)
ran_wired clock old mid ran rest e long h w =
    wired_all rest old ran (omega (arith, long, ap length e, raised_length clock old)) (λ n v x f g. (ran_keep clock old mid ran e long h n v x f g).wired) w

pub ran_numbered : (clock : ℕ) (old mid ran : List NodeView) → mid ≡ map (raised clock) old → length ran ≡ length mid → EachHasRun mid ran → AreNumbered old → AreNumbered ran
ran_numbered clock old mid ran e long h k n w g =
    let v = some_at old n (omega (arith, long, ap length e, raised_length clock old, slice_get_within ran n w g)) in
    (ran_keep clock old mid ran e long h n v.0 w v.1 g).me ∙ k n v.0 v.1

pub ran_all : (p : Program) (clock : ℕ) (old mid ran : List NodeView) → mid ≡ map (raised clock) old → length ran ≡ length mid → EachHasRun mid ran → AllOf p old → AllOf p ran
ran_all p clock old mid ran e long h k n w g =
    let v = some_at old n (omega (arith, long, ap length e, raised_length clock old, slice_get_within ran n w g)) in
    (ran_keep clock old mid ran e long h n v.0 w v.1 g).program ∙ k n v.0 v.1
