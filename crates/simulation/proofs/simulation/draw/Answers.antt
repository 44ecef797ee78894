use Rattle.std.proofs.Common.{[]}
use Rattle.simulation.proofs.Choosing.{chosen_possible, chosen_whole, some_chosen, draws}
use Rattle.cluster.proofs.Lemmas.{has_room}
use Rattle.simulation.proofs.simulation.draw.Goals as goal

pub unreachable-requires : goal.unreachable-requires
unreachable-requires c = some_chosen _ c.choose.result c.args.word c.requires.some.2
    (chosen_whole c.args.moves c.args.cluster.now.program c.requires.some.0 c.args.word _ (c.choose.ensures [] c.requires.some.0 c.requires.some.1)) c.in-None.is

pub step-requires-clause-node : goal.step-requires-clause-node
step-requires-clause-node c = (chosen_possible c.args.moves c.args.cluster.now c.requires.some.0 c.choose.result c.args.word _ c.requires.some.1
    (chosen_whole c.args.moves c.args.cluster.now.program c.requires.some.0 c.args.word _ (c.choose.ensures [] c.requires.some.0 c.requires.some.1)) c.in-Some.is).node

pub step-requires-clause-range : goal.step-requires-clause-range
step-requires-clause-range c = (chosen_possible c.args.moves c.args.cluster.now c.requires.some.0 c.choose.result c.args.word _ c.requires.some.1
    (chosen_whole c.args.moves c.args.cluster.now.program c.requires.some.0 c.args.word _ (c.choose.ensures [] c.requires.some.0 c.requires.some.1)) c.in-Some.is).range

pub returns-clause-ok : goal.returns-clause-ok
returns-clause-ok c trace s = draws c.args.moves c.args.cluster.now c.step.new.self trace c.choose.result c.args.word _ _ _ s
    (chosen_whole c.args.moves c.args.cluster.now.program trace c.args.word _ (c.choose.ensures [] trace s)) c.in-Some.is
    (c.in_ok-step-in-Some.ensures.steps [] trace s) (c.in_ok-step-in-Some.ensures.idle [] trace s)

pub step-requires-clause-room : goal.step-requires-clause-room
step-requires-clause-room c = has_room c.args.cluster.now [] c.requires.some.0 c.requires.some.1.agrees c.requires.few _

pub step-requires-clause-stands : goal.step-requires-clause-stands
step-requires-clause-stands c = ([], c.requires.some.0, c.requires.some.1)
