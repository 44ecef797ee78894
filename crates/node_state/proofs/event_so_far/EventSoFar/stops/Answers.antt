use Rattle.std.proofs.Common.{◌≡◌, Some, subst, sym, ap, ◌∙◌}
use Rattle.std.specs.Prelude.{IfOk}
use Rattle.std.specs.Map.{lookup}
use Rattle.run_trace.specs.Names.{is_tid}
use Rattle.run_trace.specs.Local.{Local, EventSoFar}
use Rattle.run_trace.specs.Steps.{thread_at}
use Rattle.node_state.specs.Asking.{CanBeDone}
use Rattle.node_state.proofs.Told.{can_be_done, stop_is}
use Rattle.node_state.proofs.event_so_far.EventSoFar.stops.Goals as goal

pub calls-requires : goal.calls-requires
calls-requires c =
    let here : thread_at c.args.t.now c.args.self.now ≡ Some c.in-Some.thread.now =
    ap (λ (d : EventSoFar). thread_at c.args.t.now d) (sym c.self.view_is) ∙ ap (λ (s : Local). lookup (is_tid c.args.t.now) s.threads) (sym c.node.view_is) ∙ sym c.in-Some.ensures.value in
    subst (λ o. CanBeDone c.call-call.result o c.in_ok-checked-in-Call.checked) (sym here)
    (can_be_done c.args.here.now.program.now c.args.t.now c.in-Some.thread.now c.call-call.result c.in_ok-checked-in-Call.checked c.in_ok-checked-in-Call.ensures)

pub returns-in_ok-checked-in-Call : goal.returns-in_ok-checked-in-Call
returns-in_ok-checked-in-Call c =
    let here : thread_at c.args.t.now c.args.self.now ≡ Some c.in-Some.thread.now =
    ap (λ (d : EventSoFar). thread_at c.args.t.now d) (sym c.self.view_is) ∙ ap (λ (s : Local). lookup (is_tid c.args.t.now) s.threads) (sym c.node.view_is) ∙ sym c.in-Some.ensures.value in
    subst (λ (d : EventSoFar). IfOk c.calls.result (λ _. c.calls.new.self ≡ d))
    (stop_is c.args.here.now.program.now c.args.here.now.me c.args.t.now c.args.stop c.in-Some.thread.now c.call-call.result
    c.in_ok-checked-in-Call.checked c.args.self.now c.in-Call.is here c.call-call.ensures c.in_ok-checked-in-Call.ensures)
    c.calls.ensures
