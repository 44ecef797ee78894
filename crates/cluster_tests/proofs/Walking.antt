-- A cluster that has done some acts stands after each step.
use Rattle.std.proofs.Common.{ℕ, suc, ◌<◌, [], ◌∷◌, sym, ap, ◌∙◌, subst, arith}
use Rattle.run_trace.specs.declared.entry.Act.{Act}
use Rattle.run_trace.specs.Program.{Program, nodes_of}
use Rattle.node_loop.specs.declared.node.Turned.{Turned}
use Rattle.node_loop.specs.declared.node.Turned.TheVariants.{Did, Idle}
use Rattle.cluster.specs.Standing.{HasRoom, IsStanding, Steps}
use Rattle.cluster.specs.View.{ClusterView}
use Rattle.cluster.proofs.Lemmas.{has_room}
use Rattle.cluster_tests.specs.Walks.{IsWalked}

pub room : (c : ClusterView) → IsWalked c → c.turns < 1000 → (n : ℕ) → HasRoom c n
room c w few n = has_room c [] w.kept w.stands.agrees (omega (arith, w.clock, few)) n

pub standing : (c : ClusterView) → IsWalked c → IsStanding c
standing c w = ([], w.kept, w.stands)

pub walked : (old new : ClusterView) (n : ℕ) (act : Act) (t : Turned) (w : IsWalked old) → Steps old [] w.kept n act new t → IsWalked new
walked old new n act Idle w same = subst (λ c. IsWalked c) (sym same) w
walked old new n act Did w d = record {
  kept = d.entry ∷ w.kept;
  stands = d.stands;
  clock = d.clock ∙ d.next.stamp ∙ ap suc w.clock ∙ sym (ap suc d.turns);
  two = ap (λ (p : Program). nodes_of p) d.program ∙ w.two;
}
