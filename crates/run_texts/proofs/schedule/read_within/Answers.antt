use Rattle.std.proofs.Common.{◌≡◌, ◌+◌, length, arith}
use Rattle.std.proofs.lemmas.Bool.Decides.{nat_tests}
use Rattle.run_texts.specs.Parts.{lines_of}
use Rattle.run_texts.specs.Schedules.{acts_from, schedule_of}
use Rattle.run_texts.proofs.Readings.{all_read, refused}
use Rattle.run_texts.proofs.schedule.read_within.Goals as goal

pub returns : goal.returns
returns c =
    let none : length c.loop-rest.rest.now ≡ 0 = grind (arith, nat_tests, c.loop-rest-test.ensures) in
    let now = schedule_of c.args.nodes c.args.processors c.args.text.now in
    let all = all_read c.args.nodes c.args.processors (c.loop-rest.line + 1) (length c.loop-rest.acts.items) c.loop-rest.acts.items c.loop-rest.rest.now now none c.loop-rest.invariant.0 in
    rw c.new.ensures all

pub returns-in-Err : goal.returns-in-Err
returns-in-Err c =
    refused c.in-Err.error (c.loop-rest.line + 1) (length c.loop-rest.acts.items) c.said_in.result c.loop-rest.acts.items (λ n. acts_from c.args.nodes c.args.processors (c.loop-rest.line + 1 + 1) n (lines_of c.first_part.result.1.now))
    (schedule_of c.args.nodes c.args.processors c.args.text.now) c.in-Err.ensures.bad (rw c.said_in.ensures (rw c.first_part.ensures.first at c.loop-rest.invariant.0))
