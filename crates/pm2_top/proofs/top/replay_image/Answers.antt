use Rattle.std.proofs.Common.{◌≤◌, List, length, refl, sym, subst, inr}
use Rattle.node_state.specs.Events.{program}
use Rattle.run_texts.specs.declared.schedule.Scheduled.{Scheduled}
use Rattle.settings.specs.Seen.{chosen}
use Rattle.simulation.specs.Schedules.{AreInRange, Follows}
use Rattle.pm2_top.specs.Outcome.{HasReplayed}
use Rattle.pm2_top.proofs.top.replay_image.Goals as goal

pub replay-requires-clause-few : goal.replay-requires-clause-few
replay-requires-clause-few g c = subst (λ (acts : List Scheduled). length acts ≤ 1000000) (sym c.as_slice.ensures) (c.in-Ok.ensures.fine c.args.image).0

pub replay-requires-clause-range : goal.replay-requires-clause-range
replay-requires-clause-range g c = subst (λ (acts : List Scheduled). AreInRange (program c.args.asked.now.setup c.args.image) acts) (sym c.as_slice.ensures) (c.in-Ok.ensures.fine c.args.image).1

pub returns-clause-replayed : goal.returns-clause-replayed
returns-clause-replayed g c =
    subst (λ r. HasReplayed (chosen c.args.asked.now) r c.args.image c.args.wires (g.K.Sink.written c.args.out.now) (g.K.Sink.written c.replay.new.out) c.of_run.result) (sym c.in-Ok.ensures.reads)
    (inr (record {
      setup = c.args.asked.now.setup;
      cluster = record { nodes = refl; slots = refl; tree = refl; quantum = refl };
      run = c.replay.result;
      ran = subst (λ (acts : List Scheduled). Follows (program c.args.asked.now.setup c.args.image) acts c.replay.result) c.as_slice.ensures c.replay.ensures.replayed;
      shows = c.replay.ensures.shown;
      carries = c.replay.ensures.carried;
      reported = c.of_run.ensures;
    }))
