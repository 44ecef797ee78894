use Rattle.std.proofs.Common.{◌≡◌, ◌∙◌, sym, subst, map, Option, Some, IfOk}
use Rattle.std.specs.String.{string_bytes}
use Rattle.words.specs.Seen.{grammar_seen, values_given}
use Rattle.settings.specs.Settings.{Chosen}
use Rattle.settings.specs.Seen.{chosen}
use Rattle.settings.proofs.Giving.{settings_by-given}
use Rattle.settings.proofs.command_line.settings_by.Goals as goal

pub returns-clause-usage : goal.returns-clause-usage
returns-clause-usage c = λ usage.
    settings_by-given c.args.verb (map string_bytes c.args.words.now) (grammar_seen c.grammar.result) c.grammar.ensures (values_given c.in_ok-given.given) c.in_ok-given.ensures.ok
    ∙ c.chosen_by.ensures.usage usage

pub returns-clause-ok : goal.returns-clause-ok
returns-clause-ok c =
    let same = settings_by-given c.args.verb (map string_bytes c.args.words.now) (grammar_seen c.grammar.result) c.grammar.ensures (values_given c.in_ok-given.given) c.in_ok-given.ensures.ok in
    let P : Option Chosen → Type 0 = λ o. IfOk c.chosen_by.result (λ s. o ≡ Some (chosen s)) in
    subst P (sym same) c.chosen_by.ensures.ok
