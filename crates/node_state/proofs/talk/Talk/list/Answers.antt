use Rattle.std.proofs.Common.{ap, ◌∙◌}
use Rattle.run_trace.specs.Talks.{Talk, is_wanting}
use Rattle.node_state.proofs.InTurn.{listed}
use Rattle.node_state.proofs.talk.Talk.list.Goals as goal

pub want-requires-clause-other : goal.want-requires-clause-other
want-requires-clause-other c =
    listed c.args.node c.self.inside.arbiter ∙ ap (λ (k : Talk). is_wanting c.args.node k.wanting) c.self.view_is ∙ c.requires.other
