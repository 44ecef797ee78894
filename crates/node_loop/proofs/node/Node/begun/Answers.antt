use Rattle.std.proofs.Common.{ap, ◌∙◌}
use Rattle.run_trace.specs.declared.entry.Setup.{Setup}
use Rattle.node_state.specs.Events.{fresh_in}
use Rattle.node_loop.proofs.Stepping.{begins_somehow, has_begun, begun_booted}
use Rattle.node_loop.proofs.node.Node.begun.Goals as goal

pub unreachable-requires : goal.unreachable-requires
unreachable-requires c = begins_somehow c.args.program c.args.me c.requires.me c.fresh-state.result c.event.new.self c.in_ok-done.field-0 (c.fresh-state.ensures ∙ ap (λ (s : Setup). fresh_in s c.args.me) c.setup.ensures) c.in_ok-done.ensures c.in_default.is

pub returns-clause-booted : goal.returns-clause-booted
returns-clause-booted c = has_begun c.args.program c.args.me c.args.ends c.fresh-state.result c.event.new.self c.in_ok-done.field-0 c.in-Some.done _ c.record.new.self
    (c.fresh-state.ensures ∙ ap (λ (s : Setup). fresh_in s c.args.me) c.setup.ensures) c.in_ok-done.ensures c.in-Some.is c.without_entries-node.ensures c.in_ok-record.ensures.ok

pub returns-clause-begun : goal.returns-clause-begun
returns-clause-begun c = begun_booted c.args.program c.args.me c.args.ends c.record.new.self (returns-clause-booted c)
