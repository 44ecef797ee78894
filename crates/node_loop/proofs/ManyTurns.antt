-- Turns of a node, one after another, are a history of it.
use Rattle.std.proofs.Common.{◌≡◌, suc, max, List, [], ◌∷◌, ◌++◌, reverse, Some, sym, ap, ◌∙◌, subst, arith, append_assoc, append-nil}
use Rattle.std.proofs.lemmas.List.{reverse-append}
use Rattle.run_trace.specs.declared.entry.Act.{Act}
use Rattle.run_trace.specs.Cluster.{after_or, taken_of}
use Rattle.run_trace.specs.Histories as histories
use Rattle.run_trace.specs.Histories.{Turn, IsTurn, clock, seen, taken_from, turn_state}
use Rattle.run_trace.specs.Links.{packets_to}
use Rattle.run_trace.specs.Local.{Local}
use Rattle.run_trace.specs.Machine.{turn_event}
use Rattle.run_trace.specs.Program.{Program}
use Rattle.run_trace.specs.Trace.{entry_of}
use Rattle.wires.specs.Ends.{sent_to, received_from}
use Rattle.node_loop.specs.View.{NodeView}
use Rattle.node_loop.specs.Turns.{Does, turn_of}
use Rattle.node_loop.specs.Histories.{HasHistory, TakesTurn, TakesTurns, entries_of_turns, events_of_turns}
use Rattle.node_loop.proofs.Locally.{is_turn}

more_at_end : {A : Type 0} (now mid old xs ys : List A) → now ≡ mid ++ ys → mid ≡ old ++ xs → now ≡ old ++ (xs ++ ys)
more_at_end now mid old xs ys e h = e ∙ ap (λ zs. zs ++ ys) h ∙ append_assoc old xs ys

module _ (v mid new : NodeView) (before : List Turn) (i : HasHistory v before mid) (act : Act) (after : NodeView) (d : Does mid act after) where
  abbrev s : Local
  s = turn_state v.program v.me v.state before

  abbrev t : Turn
  t = turn_of mid act d.took d.done

  event : turn_event v.program v.me s act d.took ≡ Some d.done
  event = subst (λ l. turn_event v.program v.me l act d.took ≡ Some d.done) (sym i.state)
      (subst (λ m. turn_event v.program m mid.state act d.took ≡ Some d.done) i.me
      (subst (λ (q : Program). turn_event q mid.me mid.state act d.took ≡ Some d.done) i.program d.is))

  here : IsTurn mid.program mid.me (clock v.clock before) mid.state t → IsTurn v.program v.me (clock v.clock before) s t
  here h = subst (λ l. IsTurn v.program v.me (clock v.clock before) l t) (sym i.state)
      (subst (λ m. IsTurn v.program m (clock v.clock before) mid.state t) i.me
      (subst (λ (q : Program). IsTurn q mid.me (clock v.clock before) mid.state t) i.program h))

pub one_more : (v mid new : NodeView) (before : List Turn) (t : Turn) → HasHistory v before mid → TakesTurn mid t new → HasHistory v (t ∷ before) new
one_more v mid new before t i h = subst (λ z. HasHistory v (z ∷ before) new) (sym h.is) (record {
  program = h.waits.program ∙ ap (λ (z : NodeView). z.program) h.does.after ∙ i.program;
  me = h.waits.me ∙ ap (λ (z : NodeView). z.me) h.does.after ∙ i.me;
  history = (i.history, here v mid new before i h.act h.after h.does (is_turn mid h.after h.act (clock v.clock before) h.does h.range i.clock));
  state = ap (λ o. after_or o (turn_state v.program v.me v.state before)) (event v mid new before i h.act h.after h.does)
      ∙ sym (ap (λ (z : NodeView). z.state) h.does.after) ∙ sym h.waits.state;
  clock = omega (arith, ap (λ (z : NodeView). z.clock) h.does.after, h.waits.clock);
  entries = more_at_end new.entries mid.entries v.entries (reverse (entries_of_turns before)) (entry_of (turn_of mid h.act h.does.took h.does.done).event ∷ [])
      (h.waits.entries ∙ ap (λ (z : NodeView). z.entries) h.does.after) i.entries
      ∙ ap (λ xs. v.entries ++ xs) (sym (reverse-append (entry_of (turn_of mid h.act h.does.took h.does.done).event ∷ []) (entries_of_turns before)));
  wide = h.waits.wide ∙ h.does.links.wide ∙ i.wide;
  received = λ k. more_at_end (received_from new.ends k) (received_from mid.ends k) (received_from v.ends k) (taken_from k (events_of_turns before)) (taken_of k h.act h.does.took)
      (h.waits.received k ∙ h.does.links.received k) (i.received k);
  sent = λ k l. more_at_end (sent_to new.ends k) (sent_to mid.ends k) (sent_to v.ends k) (histories.sent_to k (events_of_turns before))
      (packets_to k (suc (max mid.clock (seen h.does.took))) h.does.done.sends)
      (h.waits.sent k ∙ h.does.links.sent k (omega (arith, l, i.wide))) (i.sent k l);
})

pub turns_history : (v : NodeView) (turns : List Turn) (new : NodeView) → TakesTurns v turns new → HasHistory v turns new
turns_history v [] new w = record {
  program = w.program;
  me = w.me;
  history = tt;
  state = sym w.state;
  clock = w.clock;
  entries = w.entries ∙ sym (append-nil v.entries);
  wide = w.wide;
  received = λ k. w.received k ∙ sym (append-nil (received_from v.ends k));
  sent = λ k l. w.sent k ∙ sym (append-nil (sent_to v.ends k));
}
turns_history v (t ∷ before) new h = one_more v h.0 new before t (turns_history v before h.0 h.1) h.2
