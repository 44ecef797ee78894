use Rattle.std.proofs.Common.{◌≡◌, ◌∙◌, ◌+◌, sym, ap, drop, Some, None}
use Rattle.std.specs.Option.{option_or}
use Rattle.run_texts.specs.Summaries.{labels_of, main_end}
use Rattle.run_texts.proofs.Ends.{next_entry}
use Rattle.run_texts.proofs.summaries.end_of_main.Goals as goal

pub returns-in-Some : goal.returns-in-Some
returns-in-Some c =
    let i = c.loop-entry.entry-index in
    let here : main_end c.entry-item.result.labels ≡ Some c.in-Some.end = sym (c.main_end.ensures ∙ ap main_end c.as_slice.ensures) ∙ c.in-Some.is in
    let rest = main_end (labels_of (drop (i + 1) c.args.trace.now)) in
    sym (sym c.loop-entry.invariant ∙ next_entry c.args.trace.now i c.entry-item.result c.loop-entry-test.true c.entry-item.is ∙ ap (λ o. option_or o rest) here)

pub loop-entry-preserved : goal.loop-entry-preserved
loop-entry-preserved c =
    let i = c.loop-entry.entry-index in
    let here : main_end c.entry-item.result.labels ≡ None = sym (c.main_end.ensures ∙ ap main_end c.as_slice.ensures) ∙ c.in-None.is in
    let rest = main_end (labels_of (drop (i + 1) c.args.trace.now)) in
    sym (next_entry c.args.trace.now i c.entry-item.result c.loop-entry-test.true c.entry-item.is ∙ ap (λ o. option_or o rest) here) ∙ c.loop-entry.invariant
