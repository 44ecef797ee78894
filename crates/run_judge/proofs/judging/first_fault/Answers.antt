use Rattle.std.proofs.Common.{ℕ, List, take, reverse, subst, sym, ap, ◌∙◌}
use Rattle.run_trace.specs.declared.entry.Entry.{Entry}
use Rattle.run_trace.specs.Program.{Program}
use Rattle.run_trace.specs.Cluster.{fresh_net, Net}
use Rattle.run_trace.specs.Trace.{net_after_trace, Fits}
use Rattle.run_judge.specs.Judged.{Follows, BeginsAt}
use Rattle.run_judge.specs.Nets.{net_in}
use Rattle.run_judge.proofs.SoundLemmas.{Comes, more_at, newest_more, net_more}
use Rattle.run_judge.proofs.judging.first_fault.Goals as goal

pub loop-number-preserved : goal.loop-number-preserved
loop-number-preserved c =
    let p : Program = c.args.program.now in
    let entries : List Entry = c.args.entries.now in
    let k : ℕ = c.loop-number.number in
    let x : Entry = c.index-entries-number.result in
    let trace : List Entry = reverse (take k entries) in
    let s : Follows x trace × BeginsAt p k x = c.stands.ensures.0 c.if-not-stands.false in
    let comes : Comes p entries k x = record { within = c.loop-number-test.true; is = c.index-entries-number.is; sound = c.loop-number.invariant.sound } in
    record {
      sound = more_at c.judged.ensures p entries k x comes s.0 s.1
          (subst (λ (net : Net). Fits p net x) c.loop-number.invariant.net (c.in_ok-does.ensures.fits.0 c.if-not-branch.false));
      net = net_more p (net_in p c.loop-number.cluster.nodes.items c.loop-number.cluster.flights.all.items) (net_in p c.does.new.self.nodes.items c.does.new.self.flights.all.items) x trace
          c.loop-number.invariant.net (c.in_ok-does.ensures.after c.if-not-branch.false)
          ∙ ap (net_after_trace p (fresh_net p)) (sym (newest_more entries k x comes.within comes.is));
      count = c.in_ok-does.ensures.count c.if-not-branch.false ∙ c.loop-number.invariant.count;
    }
