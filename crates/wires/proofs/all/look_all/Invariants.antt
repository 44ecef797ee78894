use Rattle.wires.specs.Link.{IsInOrder}
use Rattle.wires.proofs.Walk.{Going, Done, DoneRow}
use Rattle.wires.proofs.all.look_all.Given as goal

abbrev pub invariant-loop-j : goal.invariant-loop-j
invariant-loop-j g l = record { going : Going l.fn.nodes l.nodes; done : Done IsInOrder l.j l.nodes }

abbrev pub invariant-loop-i : goal.invariant-loop-i
invariant-loop-i g l = record { going : Going l.fn.nodes l.nodes; done : Done IsInOrder l.j l.nodes; row : DoneRow IsInOrder l.i l.j l.nodes }
