use Rattle.std.proofs.Common.{rules, ◌≡◌, Some, None, subst, sym, ap, ◌∙◌, IfOk}
use Rattle.iso_blocks.specs.Heap.{emptied}
use Rattle.run_trace.specs.Guests.{heap_of}
use Rattle.run_trace.specs.Local.{EventSoFar}
use Rattle.run_trace.specs.Steps.{thread_at, judge, tell}
use Rattle.node_state.specs.Asking.{HasBlock}
use Rattle.node_state.specs.Heaps.{gives_back}
use Rattle.node_state.proofs.Heaps.{gave_there, freed}
use Rattle.node_state.proofs.event_so_far.EventSoFar.frees.Goals as goal

pub drop_block-requires : goal.drop_block-requires
drop_block-requires c = subst (HasBlock c.args.address) (sym (ap (thread_at c.args.t.now) c.in_ok-gives_back.ensures ∙ gave_there c.args.t.now c.args.t.now c.in-Some-empties.slots c.args.self.now)) c.requires

pub returns : goal.returns
unfolding judge
returns c =
    let here : thread_at c.args.t.now c.args.self.now ≡ Some c.in-Some.thread.now = search rules in
    let given : c.in-Some-empties.slots ≡ emptied (heap_of c.in-Some.thread.now.guest.solo) c.args.address = c.in-Some-empties.ensures.slots.1 in
    subst (λ (d : EventSoFar). IfOk c.tell.result (λ _. c.tell.new.self ≡ d))
    (freed c.args.t.now c.args.address c.in-Some.thread.now c.args.self.now c.gives_back.new.self c.drop_block.new.self (tell c.args.t.now 0 None c.judge.new.self)
    here (c.in_ok-gives_back.ensures ∙ ap (λ xs. gives_back c.args.t.now xs c.args.self.now) given) c.drop_block.ensures
    (ap (tell c.args.t.now 0 None) c.in_ok-judge.ensures))
    c.tell.ensures
