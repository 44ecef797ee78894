use Rattle.node_state.proofs.Choices.{took, moved}
use Rattle.node_state.proofs.event_so_far.EventSoFar.chooses_once.Goals as goal

pub returns-in_ok-run_chosen-in-Takes : goal.returns-in_ok-run_chosen-in-Takes
returns-in_ok-run_chosen-in-Takes c =
    took c.args.here.now.program.now c.args.here.now.me c.args.vp c.args.quantum c.args.left c.in-Takes.t c.in_ok-choose.field-0 c.args.self.now c.choose.new.self c.run_chosen.new.self
    c.requires c.in_ok-choose.ensures.what c.in-Takes.is c.in_ok-choose.ensures.after c.in_ok-run_chosen-in-Takes.ensures

pub returns-in_ok-say-in-Shifts : goal.returns-in_ok-say-in-Shifts
returns-in_ok-say-in-Shifts c =
    moved c.args.here.now.program.now c.args.here.now.me c.args.vp c.args.quantum c.args.left c.in-Shifts.shift c.shift_label.result c.in_ok-choose.field-0 c.args.self.now c.choose.new.self
    c.say.new.self c.requires c.in_ok-choose.ensures.what c.in-Shifts.is c.shift_label.ensures c.in_ok-choose.ensures.after c.in_ok-say-in-Shifts.ensures
