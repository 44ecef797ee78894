use Rattle.std.proofs.Common.{[], arith}
use Rattle.cluster_tests.proofs.InRounds.{one_more, room, standing}
use Rattle.cluster_tests.proofs.gates.round.Goals as goal

pub round_threads-requires-clause-stands : goal.round_threads-requires-clause-stands
round_threads-requires-clause-stands g c κs within = standing c.args.cluster.now c.requires

pub round_threads-requires-clause-room : goal.round_threads-requires-clause-room
round_threads-requires-clause-room g c κs within = room c.args.cluster.now c.requires (omega (arith, c.turns.ensures.value, c.if-turns-ge1000.false))

pub returns : goal.returns
returns g c = one_more c.args.cluster.now c.round_threads.new.self c.requires (c.in_ok-round_threads.ensures.round [] c.requires.kept c.requires.stands)
