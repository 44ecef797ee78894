use Rattle.std.proofs.Common.{◌≡◌, IfOk, subst, ap, ◌∙◌}
use Rattle.run_trace.specs.Local.{EventSoFar}
use Rattle.run_trace.specs.Steps.{thread_in}
use Rattle.node_state.proofs.Born.{born}
use Rattle.node_state.proofs.event_so_far.EventSoFar.birth.Goals as goal

pub returns : goal.returns
returns c =
    subst (λ (d : EventSoFar). IfOk c.enter_for.result (λ _. c.enter_for.new.self ≡ d))
    (born c.args.here.now.me c.args.why c.args.entry c.args.a0 c.args.priority c.args.slot c.stack_end-sp.result c.next_name-t.result c.in_ok-thread.thread c.args.self.now
    c.say.new.self c.slot_out.new.self c.birth_in.new.self c.thread_in.new.self
    c.next_name-t.ensures c.stack_end-sp.ensures c.in_ok-say.ensures c.slot_out.ensures c.in_ok-birth_in.ensures c.in_ok-thread.ensures.thread
    (c.in_ok-thread_in.ensures ∙ ap (thread_in c.next_name-t.result c.in_ok-thread.thread) c.self.view_is))
    c.enter_for.ensures
