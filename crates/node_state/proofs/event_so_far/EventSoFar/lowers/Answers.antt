use Rattle.node_state.proofs.Waiting.{lowered_later}
use Rattle.node_state.proofs.event_so_far.EventSoFar.lowers.Goals as goal

pub returns-in-Later : goal.returns-in-Later
returns-in-Later c =
    lowered_later c.args.here.now.me c.args.t.now c.args.call c.args.id c.in_ok-got.got _ c.args.self.now c.asks_lower.new.self c.waits_here.new.self
    c.requires c.in-Later.is c.in_ok-got.ensures.got c.in_ok-got.ensures.after c.waits_here.ensures
