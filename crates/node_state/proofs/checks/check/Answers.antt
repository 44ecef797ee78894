use Rattle.node_state.proofs.checks.check.Goals as goal

pub returns-in_default : goal.returns-in_default
returns-in_default c = c.check_numbers.ensures c.args.thread.now.guest.solo
