use Rattle.std.proofs.Common.{◌≡◌, map, arith, rules}
use Rattle.asm_text.specs.Slots.{seen}
use Rattle.asm_text.specs.Lines.{line_seen}
use Rattle.asm_targets.specs.Labels.{mark_in, service_in}
use Rattle.rv_asm.specs.Images.{services_below}
use Rattle.rv_asm.proofs.Imaged.{too_long, is_image, bytes_fit, services_placed, services_ascend, services_short}
use Rattle.rv_asm.proofs.assembling.image_from.Goals as goal

pub returns-then-end_of-gt-LIMIT-clause-exact : goal.returns-then-end_of-gt-LIMIT-clause-exact
returns-then-end_of-gt-LIMIT-clause-exact c =
    too_long (mark_in c.args.labels.now) (service_in c.args.services.now) (map (seen line_seen) c.args.readings.now) c.requires.faultless
    c.args.main c.end_of.result c.end_of.ensures.value (omega arith)

pub returns-clause-exact : goal.returns-clause-exact
returns-clause-exact c =
    is_image (mark_in c.args.labels.now) (service_in c.args.services.now) (map (seen line_seen) c.args.readings.now) c.requires.faultless
    c.args.main c.end_of.result c.end_of.ensures.value (omega arith) c.new.result c.new-2.result (search rules) (search rules)

pub returns-clause-well_formed : goal.returns-clause-well_formed
returns-clause-well_formed c =
    let labels = mark_in c.args.labels.now in
    let services = service_in c.args.services.now in
    let lines = map (seen line_seen) c.args.readings.now in
    let fit = bytes_fit labels services lines c.requires.faultless c.end_of.result c.end_of.ensures.value (omega arith) c.new.result (search rules) in
    let table : c.new-2.result ≡ services_below 256 labels services = search rules in (
      fit,
      c.requires.start,
      services_placed labels services lines c.requires.faultless c.requires.given c.new-2.result table,
      services_ascend labels services lines c.requires.faultless c.new-2.result table,
    )

pub returns-clause-short : goal.returns-clause-short
returns-clause-short c =
    let labels = mark_in c.args.labels.now in
    let services = service_in c.args.services.now in
    let lines = map (seen line_seen) c.args.readings.now in
    let table : c.new-2.result ≡ services_below 256 labels services = search rules in
    (omega (arith, c.requires.start_in, c.end_of.ensures.value), services_short labels services lines c.requires.faultless c.end_of.result c.end_of.ensures.value (omega arith) c.requires.placed c.new-2.result table)
